use Rattle.std.proofs.Common.{◌∙◌}
use Rattle.std.proofs.lemmas.Result.{IfOk-weaker}
use Rattle.run_model.specs.LocalReadings.{unsent_aborts}
use Rattle.volatile_state.proofs.Sound.{inside}
use Rattle.volatile_state.proofs.memory.Memory.unsent_aborts.Goals as goal

pub returns : goal.returns
returns c = λ s t at to.
    let here = inside c.self.view_is at in
    let there = inside c.to.view_is to in
    IfOk-weaker c.unsent_aborts.result _ _
    (λ x says. says s.past t.past here.knowledge there.knowledge ∙ (λ i. unsent_aborts (here.knower i) (there.knower i) s.past t.past))
    c.unsent_aborts.ensures
