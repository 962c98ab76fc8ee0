use Rattle.std.proofs.Common.{Bool, codes, not, refl, true, false, ap, ap₂, ◌≡◌, ◌∙◌}
use Rattle.std.proofs.lemmas.Result.{IfOk-weaker}
use Rattle.std.proofs.lemmas.Bool.{and_parts}
use Rattle.clap.specs.Words.{App, app_of, new_app, with_subcommand}
use Rattle.clap.specs.Simple.{Shape, app_of_fields, on_top}
use Rattle.clap.specs.declared.builder.command.Command.{Command}
use Rattle.clap.specs.declared.builder.command.Command.TheViews.{out-Command}
use Rattle.command_line.proofs.parsing.definition.Goals as goal

untrue : (b : Bool) → not b ≡ true → b ≡ false
untrue true h = absurd cc
untrue false h = refl

-- a plain command has no global argument
is_local : (sub : Command) (app : App) → app_of sub ≡ app → app.top.is_plain ≡ true → (out-Command sub).has_globals ≡ false
is_local sub app is plain =
    let shown = ap (λ (a : App). a.top.is_plain) is ∙ plain in
    untrue _ (and_parts _ _ (and_parts _ _ (and_parts _ _ shown).1).1).0

pub returns : goal.returns
returns c =
    let named : app_of c.in_ok-bin_name.field-0 ≡ new_app (codes "argus") = ap app_of_fields c.in_ok-bin_name.ensures.0 ∙ c.new.ensures.app in
    let versioned = ap app_of_fields c.version.ensures ∙ ap (on_top (λ (s : Shape). record s { has_version = true })) named in
    let shown = ap app_of_fields c.about.ensures ∙ versioned in
    let bare = ap app_of_fields c.no_binary_name.ensures ∙ ap (on_top (λ (s : Shape). record s { no_binary_name = true })) shown in
    let helped = ap app_of_fields c.arg_required_else_help.ensures ∙ ap (on_top (λ (s : Shape). record s { arg_required_else_help = true })) bare in
    let top = ap app_of_fields c.subcommand_required-argus.ensures ∙ ap (on_top (λ (s : Shape). record s { subcommand_required = true })) helped in
    let steps = c.in_ok-steps.ensures in
    let check = c.in_ok-check.ensures in
    let run = c.in_ok-run.ensures in
    let trace = c.in_ok-trace.ensures in
    let with_steps = c.in_ok-subcommand.ensures.shape (is_local _ _ steps refl) ∙ ap₂ with_subcommand top (ap (λ (a : App). a.top) steps) in
    let with_check = c.in_ok-subcommand-2.ensures.shape (is_local _ _ check refl) ∙ ap₂ with_subcommand with_steps (ap (λ (a : App). a.top) check) in
    let with_run = c.in_ok-subcommand-3.ensures.shape (is_local _ _ run refl) ∙ ap₂ with_subcommand with_check (ap (λ (a : App). a.top) run) in
    IfOk-weaker c.subcommand-4.result _ _
    (λ new h. h.shape (is_local _ _ trace refl) ∙ ap₂ with_subcommand with_run (ap (λ (a : App). a.top) trace)) c.subcommand-4.ensures
