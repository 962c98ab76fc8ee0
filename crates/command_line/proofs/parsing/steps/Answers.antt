use Rattle.std.proofs.Common.{codes, ap, ap₂, ◌≡◌, ◌∙◌}
use Rattle.std.proofs.lemmas.Result.{IfOk-weaker}
use Rattle.clap.specs.Words.{app_of, new_app, with_rule}
use Rattle.clap.specs.Simple.{app_of_fields}
use Rattle.command_line.specs.Words.{with_picture}
use Rattle.command_line.proofs.parsing.steps.Goals as goal

pub returns : goal.returns
returns c =
    let named : app_of c.after_help.result ≡ new_app (codes "steps") = ap app_of_fields c.after_help.ensures ∙ ap app_of_fields c.about.ensures ∙ c.new.ensures.app in
    let first = c.in_ok-arg.ensures.shape c.needed.ensures.local ∙ ap₂ with_rule named c.needed.ensures.rule in
    let second = c.in_ok-arg-2.ensures.shape c.needed-2.ensures.local ∙ ap₂ with_rule first c.needed-2.ensures.rule in
    let third = c.in_ok-arg-3.ensures.shape c.optional.ensures.local ∙ ap₂ with_rule second c.optional.ensures.rule in
    let fourth = c.in_ok-arg-4.ensures.shape c.optional-2.ensures.local ∙ ap₂ with_rule third c.optional-2.ensures.rule in
    let fifth = c.in_ok-steps.ensures.shape c.flag.ensures.local ∙ ap₂ with_rule fourth c.flag.ensures.rule in
    IfOk-weaker c.with_picture.result _ _ (λ new h. h ∙ ap with_picture fifth) c.with_picture.ensures
