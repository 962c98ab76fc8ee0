use Rattle.run_model.proofs.AnswerTexts.{refusal_read}
use Rattle.run_model.proofs.answer_reading.refusal.Goals as goal

pub returns : goal.returns
returns c = refusal_read c.args.text.now c.in_ok-component.field-0 c.from_number.result c.in_ok-component.ensures.0 c.in_ok-component.ensures.1 c.from_number.ensures
