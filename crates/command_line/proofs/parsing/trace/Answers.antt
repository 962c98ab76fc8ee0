use Rattle.std.proofs.Common.{codes, ap, ap₂, ◌≡◌, ◌∙◌}
use Rattle.std.proofs.lemmas.Result.{IfOk-weaker}
use Rattle.clap.specs.Words.{app_of, new_app, with_rule}
use Rattle.clap.specs.Simple.{app_of_fields}
use Rattle.command_line.specs.Words.{with_picture}
use Rattle.command_line.proofs.parsing.trace.Goals as goal

pub returns : goal.returns
returns c =
    let named : app_of c.after_help.result ≡ new_app (codes "trace") = ap app_of_fields c.after_help.ensures ∙ ap app_of_fields c.about.ensures ∙ c.new.ensures.app in
    let with_file = c.in_ok-arg.ensures.shape c.needed.ensures.local ∙ ap₂ with_rule named c.needed.ensures.rule in
    let with_action = c.in_ok-trace.ensures.shape c.optional.ensures.local ∙ ap₂ with_rule with_file c.optional.ensures.rule in
    IfOk-weaker c.with_picture.result _ _ (λ new h. h ∙ ap with_picture with_action) c.with_picture.ensures
