-- What is read of an action in one look-up.
use Rattle.std.proofs.Common.{List, None, Option, Some, ap, is_some, option_map, sym, ◌∙◌, ◌≡◌}
use Rattle.std.specs.Prelude.{nat_lt}
use Rattle.action_names.specs.Names.{Name}
use Rattle.run_model.specs.Actions.{home_of, is_begun}
use Rattle.run_model.specs.LocalHistories.{RegistryEvent, events_there}
use Rattle.run_model.specs.Openings.{Opening}
use Rattle.step_answers.specs.Actors.{IsActorOf, IsReadAs, has_ended, is_closed}
use Rattle.step_answers.specs.declared.actor.Status.TheVariants.{Active}
use Rattle.action_forest.proofs.Readings.{busy_counted, closed_by_status, ended_by_status}
use Rattle.action_forest.proofs.Said.{there_if_begun}
use Rattle.action_forest.specs.Acting.{actor_of}
use Rattle.action_forest.specs.Events.{status_there, unended_there}
use Rattle.action_forest.specs.Forests.{IsForest}
use Rattle.action_forest.specs.Trees.{Action, Trees, action_of, said}

pub actor_read : (opening : Opening) (registry : List RegistryEvent) (forest : Trees)
    → IsForest opening registry forest → (a : Name)
    → IsReadAs (is_begun a (events_there registry)) (IsActorOf a (events_there registry)) (option_map actor_of (action_of forest a))
actor_read opening registry forest h a =
    of (action_of forest a) (there_if_begun registry forest h.tree a) (h.tree.home a) (h.status a) (h.unended a)
  where
    of : (o : Option Action) → is_some o ≡ is_begun a (events_there registry)
        → said (λ action. action.home) 0 o ≡ home_of a (events_there registry)
        → said (λ action. action.status) Active o ≡ status_there a (events_there registry)
        → said (λ action. action.unended) 0 o ≡ unended_there a (events_there registry)
        → IsReadAs (is_begun a (events_there registry)) (IsActorOf a (events_there registry)) (option_map actor_of o)
    of None there home status unended = sym there
    of (Some x) there home status unended = (
      sym there,
      record {
        home = home;
        ended = ap has_ended status ∙ ended_by_status a (events_there registry);
        closed = λ lasts. ap is_closed status ∙ closed_by_status a (events_there registry) lasts;
        busy = ap (nat_lt 0) unended ∙ busy_counted a (events_there registry);
      },
    )
