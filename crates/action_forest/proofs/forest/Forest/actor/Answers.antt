use Rattle.std.proofs.Common.{Some, ap, option_map, subst, sym, ◌∙◌}
use Rattle.run_model.specs.Actions.{is_begun}
use Rattle.run_model.specs.LocalHistories.{events_there}
use Rattle.step_answers.specs.Actors.{IsActorOf, IsReadAs}
use Rattle.action_forest.proofs.Acting.{actor_read}
use Rattle.action_forest.specs.Acting.{actor_of}
use Rattle.action_forest.specs.Trees.{trees}
use Rattle.action_forest.proofs.forest.Forest.actor.Goals as goal

pub returns-in_err-node : goal.returns-in_err-node
returns-in_err-node c = λ opening registry h.
    let a = c.args.path.now in
    let past = events_there registry in
    subst (IsReadAs (is_begun a past) (IsActorOf a past))
    (sym (c.from_residual.ensures ∙ ap (option_map actor_of) c.in_err-node.ensures)) (actor_read opening registry (trees c.args.self.now) h a)

pub returns : goal.returns
returns c = λ opening registry h.
    let a = c.args.path.now in
    let past = events_there registry in
    subst (IsReadAs (is_begun a past) (IsActorOf a past))
    (sym (ap Some c.actor.ensures ∙ ap (option_map actor_of) c.in_ok-node.ensures)) (actor_read opening registry (trees c.args.self.now) h a)
