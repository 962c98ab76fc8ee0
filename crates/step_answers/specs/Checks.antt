-- Parts of the refusals of steps: those that many steps have in common.
use Rattle.std.specs.Prelude.{List, [], ◌∷◌}
use Rattle.action_names.specs.Names.{Name}
use Rattle.run_model.specs.Refusals.{Check, Facts, no_action, ended_or_closed, busy, gone, known_orphan}

-- why an action that was begun may do nothing more
abbrev pub worker_checks : Name → Facts → List Check
worker_checks a facts = ended_or_closed a facts ∷ busy a facts ∷ gone a facts ∷ []

-- why an action may take no step of its own, wherever it is
abbrev pub actor_checks : Name → Facts → List Check
actor_checks a facts = no_action a facts ∷ ended_or_closed a facts ∷ busy a facts ∷ gone a facts
    ∷ known_orphan a facts ∷ []
