use Rattle.std.proofs.Common.{◌≤◌, [], ◌∷◌, ◌++◌, length, sym, ap, ◌∙◌, append_assoc, arith}
use Rattle.script_parts.proofs.scope.Scope.forget_to.Goals as goal

pub loop-self-preserved : goal.loop-self-preserved
loop-self-preserved c =
    let before = c.loop-self.invariant.0 in
    let last = c.forget_last.ensures in
    let fewer = ap length last.1 in
    let enough : c.args.len ≤ length c.forget_last.new.self = omega (arith, fewer, c.loop-self-test.true, c.len.ensures) in
    ((before.0 ++ last.0 ∷ [], before.1 ∙ ap (λ s. before.0 ++ s) last.1 ∙ sym (append_assoc before.0 (last.0 ∷ []) c.forget_last.new.self)), enough)
