use Rattle.std.proofs.Common.{refl, sym, ◌∙◌}
use Rattle.traces.proofs.Lines.{guardian_found, le_cases, longer_than_guardian, no_guardian}
use Rattle.traces.proofs.line.guardian.Goals as goal

pub returns-in_err-number : goal.returns-in_err-number
returns-in_err-number c = rw c.from_residual.ensures (no_guardian c.args.text.now c.in_err-number.ensures)

pub returns-then-not-is_empty : goal.returns-then-not-is_empty
returns-then-not-is_empty c =
    longer_than_guardian c.args.text.now c.in_ok-number.rest.now c.in_ok-number.number c.in_ok-number.ensures (sym c.is_empty.ensures ∙ c.if-not-is_empty.true)

pub returns : goal.returns
returns c =
    rw c.then_some.ensures
    (guardian_found c.args.text.now c.in_ok-number.rest.now c.in_ok-number.number _ c.in_ok-number.ensures (sym c.is_empty.ensures ∙ c.if-not-is_empty.false) (le_cases c.in_ok-number.number 1024 _ refl))
