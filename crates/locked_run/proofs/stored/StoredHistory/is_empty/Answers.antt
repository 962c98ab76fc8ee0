use Rattle.std.proofs.Common.{ap, arith, length, vec_len, ◌∙◌, ◌==◌, ◌≡◌}
use Rattle.locked_run.proofs.stored.StoredHistory.is_empty.Goals as goal
use Rattle.locked_run.proofs.Stamps.{length_kept}

pub returns : goal.returns
returns c =
    let same = length_kept c.self.inside.stamps.items c.self.inside.events c.self.invariant c.self.view_is in
    let counted : vec_len c.self.inside.stamps ≡ length c.args.self.now = omega (arith, same, c.self.inside.stamps.ok) in
    c.is_empty.ensures ∙ ap (λ n. n == 0) counted
