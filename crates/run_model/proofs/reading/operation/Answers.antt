use Rattle.std.proofs.Common.{ℕ, ℤ, List, Option, Some, sym, subst, ◌∙◌}
use Rattle.values.specs.declared.value.Value.{Value}
use Rattle.atomic_types.specs.declared.operation.Form.{Form}
use Rattle.atomic_types.specs.declared.operation.Arguments.{Arguments}
use Rattle.run_model.specs.Texts.{arguments_text}
use Rattle.run_model.specs.Reading.{AreOfForm, Reads}
use Rattle.run_model.proofs.Words.{full_found}
use Rattle.run_model.proofs.reading.operation.Goals as goal

pub returns-in-Some-2 : goal.returns-in-Some-2
returns-in-Some-2 c =
    let rest = c.args.rest.now in
    let found = subst (λ (o : Option (Arguments (List ℕ) ℤ Value)). Reads (AreOfForm c.form.result) arguments_text rest o) c.in-Some-2.is c.in_ok-arguments.ensures in
    let read = subst (λ (f : Form). Reads (AreOfForm f) arguments_text rest (Some c.in-Some-2.arguments)) c.form.ensures found in
    full_found c.args.word.now rest c.in-Some.name c.in-Some-2.arguments c.of.result (sym c.named.ensures ∙ c.in-Some.is) read c.of.ensures
