use Rattle.std.proofs.Common.{length}
use Rattle.run_model.proofs.AnswerTexts.{ReadsNames}
use Rattle.run_model.proofs.answer_reading.names.Given as goal

abbrev pub invariant-loop-rest : goal.invariant-loop-rest
invariant-loop-rest l = ReadsNames l.text l.names l.rest

abbrev pub decreases-loop-rest : goal.decreases-loop-rest
decreases-loop-rest l = length l.rest
