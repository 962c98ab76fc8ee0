use Rattle.std.proofs.Common.{◌≡◌, ◌<◌, ℕ, Contains, Some, refl, sym, ap, ◌∙◌, subst, arith}
use Rattle.std.proofs.lemmas.Option.{slice_get_read}
use Rattle.std.specs.List.{slice_get}
use Rattle.script_model.specs.Reaching.{Reaches}
use Rattle.script.specs.Marks.{rows_of}
use Rattle.script.proofs.Asking.{none_reaches, tells}
use Rattle.script.proofs.Beginning.{square_rows}
use Rattle.script.proofs.recursion.ask_endings.Goals as goal

pub reaches_itself-requires-clause-square : goal.reaches_itself-requires-clause-square
reaches_itself-requires-clause-square c =
    square_rows c.as_slice-handlers.result.now c.deref.result.now (ap rows_of c.deref.ensures.value ∙ c.in_ok-table.ensures)

pub fault_at-requires : goal.fault_at-requires
fault_at-requires c =
    let hs = c.as_slice-handlers.result.now in
    let h = c.index-handlers-number.result in
    let held : Contains hs h = (c.loop-number.number, omega arith, sym c.index-handlers-number.is) in
    c.requires h (subst (λ gs. Contains gs h) c.as_slice-handlers.ensures held)

pub returns-then-branch : goal.returns-then-branch
returns-then-branch c =
    let hs = c.as_slice-handlers.result.now in
    let n = c.loop-number.number in
    let h = c.index-handlers-number.result in
    let same = c.as_slice-handlers.ensures in
    let at = slice_get_read hs _ n h refl (omega arith) c.index-handlers-number.is in
    let reached = (c.in_ok-reaches_itself.ensures hs (ap rows_of c.deref.ensures.value ∙ c.in_ok-table.ensures)).0 c.if-branch.true in
    tells c.args.script.now c.fault_at.result n h c.fault_at.ensures (subst (λ gs. slice_get gs n ≡ Some h) same at) (subst (λ gs. Reaches gs n n) same reached)
    (subst (λ gs. (m : ℕ) → m < n → Reaches gs m m → ⊥) same c.loop-number.invariant)

pub returns : goal.returns
returns c =
    subst (λ hs. (n : ℕ) → Reaches hs n n → ⊥) c.as_slice-handlers.ensures (none_reaches c.as_slice-handlers.result.now (λ m less. c.loop-number.invariant m (omega arith)))
