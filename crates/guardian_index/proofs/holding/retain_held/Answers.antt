use Rattle.std.proofs.Common.{rules}
use Rattle.std.proofs.lemmas.Fn.{filter_same}
use Rattle.guardian_index.proofs.holding.retain_held.Goals as goal

pub returns-clause-objects : goal.returns-clause-objects
returns-clause-objects g c = filter_same _ (g.H.Holding.holds c.args.holding.now c.args.holder.now) _ (λ x b f h. search rules) _ _ c.retain.ensures.filtered
