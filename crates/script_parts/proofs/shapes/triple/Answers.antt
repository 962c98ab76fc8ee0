use Rattle.std.proofs.Common.{◌≡◌, length, arith}
use Rattle.script_parts.proofs.Items.{triple_fault}
use Rattle.script_parts.proofs.shapes.triple.Goals.{in_default-via-then-branch-lt3, in_default-via-else-branch-lt3+else-this-lt4}
use Rattle.script_parts.proofs.shapes.triple.Goals as goal

pub returns-in_default : goal.returns-in_default
returns-in_default c = λ h.
    let vs = c.in_ok-array.field-0.now in
    let other : length vs ≡ 3 → ⊥ = λ three. elim c.in_default.branch [
      | in_default-via-then-branch-lt3 w ↦ absurd (grind (arith, w.if-branch-lt3-1.true))
      | in_default-via-else-branch-lt3+else-this-lt4 w ↦ absurd (grind (arith, w.if-this-lt4-1.false))
    ] in
    triple_fault _ _ vs _ c.in_ok-array.ensures other (c.fault.ensures h)
