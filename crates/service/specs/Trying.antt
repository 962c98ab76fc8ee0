-- What an answer says of a step that a call tried.
use Rattle.std.specs.Prelude.{Bool, true, false}
use Rattle.run_model.specs.declared.answer.Answer.{Answer}
use Rattle.run_model.specs.declared.step.Step.{Step}
use Rattle.run_model.specs.declared.step.Step.TheVariants.{Prepare}
use Rattle.service.specs.Calling.{IsDone, IsVote}

-- a step other than a vote is done if it happens
abbrev pub IsDoneIf : Bool → Answer → Type 0
IsDoneIf true answer = IsDone tt answer
IsDoneIf false answer = ⊥

-- a vote is done if it is yes
abbrev pub IsDoneBy : Step → Bool → Answer → Type 0
IsDoneBy (Prepare g t) = IsVote
IsDoneBy step = IsDoneIf
