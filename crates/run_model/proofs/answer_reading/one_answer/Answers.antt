use Rattle.run_model.proofs.OneAnswer.{one_answer}
use Rattle.run_model.proofs.answer_reading.one_answer.Goals as goal

pub returns : goal.returns
returns c = one_answer
