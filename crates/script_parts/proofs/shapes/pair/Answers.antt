use Rattle.std.proofs.Common.{◌≡◌, length, arith}
use Rattle.script_parts.proofs.Items.{pair_fault}
use Rattle.script_parts.proofs.shapes.pair.Goals.{in_default-via-then-branch-lt2, in_default-via-else-branch-lt2+else-this-lt3}
use Rattle.script_parts.proofs.shapes.pair.Goals as goal

pub returns-in_default : goal.returns-in_default
returns-in_default c = λ h.
    let vs = c.in_ok-array.field-0.now in
    let other : length vs ≡ 2 → ⊥ = λ two. elim c.in_default.branch [
      | in_default-via-then-branch-lt2 w ↦ absurd (grind (arith, w.if-branch-lt2-1.true))
      | in_default-via-else-branch-lt2+else-this-lt3 w ↦ absurd (grind (arith, w.if-this-lt3-1.false))
    ] in
    pair_fault _ _ vs _ c.in_ok-array.ensures other (c.fault.ensures h)
