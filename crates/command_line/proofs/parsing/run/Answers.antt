use Rattle.std.proofs.Common.{codes, ap, ap₂, ◌≡◌, ◌∙◌}
use Rattle.std.proofs.lemmas.Result.{IfOk-weaker}
use Rattle.clap.specs.Words.{app_of, new_app, with_rule}
use Rattle.clap.specs.Simple.{app_of_fields}
use Rattle.command_line.proofs.parsing.run.Goals as goal

pub returns : goal.returns
returns c =
    let named : app_of c.after_help.result ≡ new_app (codes "run") = ap app_of_fields c.after_help.ensures ∙ ap app_of_fields c.about.ensures ∙ c.new.ensures.app in
    let with_script = c.in_ok-arg.ensures.shape c.needed.ensures.local ∙ ap₂ with_rule named c.needed.ensures.rule in
    let with_serial = c.in_ok-arg-2.ensures.shape c.flag.ensures.local ∙ ap₂ with_rule with_script c.flag.ensures.rule in
    let with_store = c.in_ok-arg-3.ensures.shape c.optional.ensures.local ∙ ap₂ with_rule with_serial c.optional.ensures.rule in
    let with_trace = c.in_ok-arg-4.ensures.shape c.optional-2.ensures.local ∙ ap₂ with_rule with_store c.optional-2.ensures.rule in
    IfOk-weaker c.arg-5.result _ _ (λ new h. h.shape c.optional-3.ensures.local ∙ ap₂ with_rule with_trace c.optional-3.ensures.rule) c.arg-5.ensures
