use Rattle.std.proofs.Common.{sym, ◌∙◌}
use Rattle.std.proofs.lemmas.Result.{IfOk-weaker}
use Rattle.volatile_state.proofs.Readings.{answer_is, may_answer}
use Rattle.volatile_state.proofs.Sound.{inside}
use Rattle.volatile_state.proofs.memory.Memory.operated.Goals as goal

pub answer-requires : goal.answer-requires
answer-requires c =
    may_answer (inside c.self.view_is c.requires.asked.1) c.args.object c.args.operation.now c.requires.asked.2

pub returns : goal.returns
returns c = λ s at.
    let own = c.requires.asked.2.own ∙ sym (inside c.self.view_is c.requires.asked.1).own in
    IfOk-weaker c.answer.result _ _
    (λ answer says. answer_is (inside c.self.view_is at) c.args.object c.args.action.now c.args.operation.now answer own says) c.answer.ensures
