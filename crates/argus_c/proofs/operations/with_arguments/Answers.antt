use Rattle.std.proofs.Common.{◌≡◌, subst, sym}
use Rattle.atomic_types.specs.declared.operation.Form.{Form}
use Rattle.run_model.specs.Reading.{AreOfForm}
use Rattle.run_model.specs.Texts.{arguments_text}
use Rattle.argus_c.proofs.ReadApart.{full_text}
use Rattle.argus_c.proofs.operations.with_arguments.Goals as goal

pub returns : goal.returns
returns c =
    let rest = c.args.rest.now in
    let a = c.in_ok-arguments.arguments in
    full_text c.args.word.now rest c.in_ok-name.name a c.of.result (sym c.in_ok-name.ensures)
    (subst (λ (f : Form). AreOfForm f a × (rest ≡ arguments_text a)) c.form.ensures c.in_ok-arguments.ensures) c.of.ensures
