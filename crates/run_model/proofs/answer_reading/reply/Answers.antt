use Rattle.std.proofs.Common.{arith}
use Rattle.std.proofs.lemmas.Grind.{common_steps}
use Rattle.run_model.proofs.AnswerTexts.{no_signals}
use Rattle.run_model.proofs.answer_reading.reply.Goals as goal

pub returns-in-Some : goal.returns-in-Some
returns-in-Some c =
    let none = no_signals c.args.text.now c.in-Some.word.now in
    let is = c.in-Some.ensures in
    grind (arith, common_steps, no_signals)
