use Rattle.std.proofs.Common.{◌+◌, ◌-◌, ◌≡◌, arith, subst}
use Rattle.one_run.specs.Rules.{Counts}
use Rattle.one_run.proofs.run.Run.count.Goals as goal

pub load_so-word-requires-clause-told : goal.load_so-word-requires-clause-told
load_so-word-requires-clause-told g c = λ v w n counts.
    let same : n ≡ n + 1 - 1 = omega arith in
    (omega arith, subst (λ m. Counts (g.D.Events.is_run c.args.self.now.table.shared.key) g.D.Events.touches v m w) same counts)
