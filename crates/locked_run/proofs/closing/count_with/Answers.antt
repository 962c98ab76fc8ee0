use Rattle.std.proofs.Common.{subst}
use Rattle.one_run.specs.Rules.{Counts}
use Rattle.run_model.specs.Runs.{IsRun}
use Rattle.shared_run.specs.Places.{touches}
use Rattle.locked_run.specs.Closing.{AreCounted}
use Rattle.locked_run.proofs.Joined.{counted_with}
use Rattle.locked_run.proofs.closing.count_with.Goals as goal

pub returns : goal.returns
returns g c =
    let o = g.K.OfRun.opening in
    let rs = c.into_part.result.token.me.0 in
    subst (λ runs. AreCounted o c.args.part.token.me.0 runs) c.into_part.ensures.runs
    (counted_with o c.args.part.token.me.0 c.count.new.part.token.me.0 rs c.join.new.part.token.me.0 c.count.result c.join.ensures.both c.into_part.ensures.tell.each
    (subst (λ p. Counts (IsRun p) touches c.join.new.part.token.me.0 c.count.result c.count.new.part.token.me.0) c.args.shared.now.opening c.count.ensures.counted))
