use Rattle.std.proofs.Common.{ap₂, refl, ◌∙◌}
use Rattle.std.proofs.lemmas.Result.{IfOk-weaker}
use Rattle.clap.specs.Words.{with_rule}
use Rattle.command_line.proofs.parsing.with_picture.Goals as goal

pub returns : goal.returns
returns c =
    let with_file = c.in_ok-arg.ensures.shape c.optional.ensures.local ∙ ap₂ with_rule refl c.optional.ensures.rule in
    let with_first = c.in_ok-arg-2.ensures.shape c.counted.ensures.local ∙ ap₂ with_rule with_file c.counted.ensures.rule in
    IfOk-weaker c.arg-3.result _ _ (λ new h. h.shape c.counted-2.ensures.local ∙ ap₂ with_rule with_first c.counted-2.ensures.rule) c.arg-3.ensures
