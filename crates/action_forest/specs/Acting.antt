-- How a forest shows an action to whoever asks in one look-up.
use Rattle.std.specs.Prelude.{nat_lt}
use Rattle.step_answers.specs.declared.actor.Actor.{Actor}
use Rattle.action_forest.specs.Trees.{Action}

-- what refusals ask of an action
abbrev pub actor_of : Action → Actor
actor_of action =
    record { home = action.home; status = action.status; busy = nat_lt 0 action.unended }
