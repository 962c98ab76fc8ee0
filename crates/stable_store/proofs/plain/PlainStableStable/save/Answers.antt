use Rattle.std.proofs.Common.{ap, nat_cmp}
use Rattle.std.specs.FinSet as set
use Rattle.stable_store.specs.Held.{held}
use Rattle.stable_store.proofs.Made.{made}
use Rattle.stable_store.proofs.plain.PlainStableStable.save.Goals as goal

pub returns-clause-makes : goal.returns-clause-makes
returns-clause-makes c =
    let decided = ap (set.from_list {R = nat_cmp}) c.clear.ensures.empty in
    made tt _ _ _ _ _ (λ i. record (held c.args.self.now.kept) { base = c.in_ok-lay_values.ensures.ok i; decided = decided i })
