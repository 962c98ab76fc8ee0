-- The step that aborts an action.
use Rattle.std.specs.Prelude.{[]}
use Rattle.action_names.specs.Names.{Name}
use Rattle.run_model.specs.declared.step.Step.{Step}
use Rattle.run_model.specs.declared.step.Step.TheVariants.{Abort}

-- the action whose abort the step is
abbrev pub aborted_by : Step → Name
aborted_by (Abort a) = a
aborted_by _ = []
