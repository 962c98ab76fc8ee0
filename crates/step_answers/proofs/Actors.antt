-- What is read of an action says what the action may do by itself.
use Rattle.std.proofs.Common.{Bool, List, None, Option, Some, ap, false, option_map, refl, true, ◌≡◌, ◌||◌}
use Rattle.std.specs.Prelude.{IsFalse}
use Rattle.action_names.specs.Names.{Name}
use Rattle.run_model.specs.Actions.{home_of, is_begun, is_busy, is_done}
use Rattle.run_model.specs.declared.history.Event.{Event}
use Rattle.step_answers.specs.Actors.{IsActorOf, IsReadAs, IsWorker, has_ended, is_closed, worker_of}
use Rattle.step_answers.specs.declared.actor.Actor.{Actor}
use Rattle.step_answers.specs.declared.actor.Status.{Status}

done_by_status : (status : Status) (ended closed : Bool) → has_ended status ≡ ended → (IsFalse ended → is_closed status ≡ closed)
    → (has_ended status || is_closed status) ≡ (ended || closed)
done_by_status status true closed over shut = ap (λ b. b || is_closed status) over
done_by_status status false closed over shut = λ i. over i || shut refl i

pub worker_read : (a : Name) (past : List Event) (o : Option Actor) → IsReadAs (is_begun a past) (IsActorOf a past) o
    → IsReadAs (is_begun a past) (IsWorker (home_of a past) (is_done a past) (is_busy a past)) (option_map worker_of o)
worker_read a past None is = is
worker_read a past (Some x) is = (
  is.0,
  record { home = is.1.home; done = done_by_status x.status _ _ is.1.ended is.1.closed; busy = is.1.busy },
)
