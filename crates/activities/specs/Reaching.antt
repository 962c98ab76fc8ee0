-- What a step that was asked for was answered.
use Rattle.std.specs.Prelude.{Bool, true, false}
use Rattle.run_model.specs.declared.answer.Answer.{Answer}
use Rattle.run_model.specs.declared.answer.Answer.TheVariants.{Done}

-- the step was done
abbrev pub is_made : Answer → Bool
is_made (Done n) = true
is_made _ = false
