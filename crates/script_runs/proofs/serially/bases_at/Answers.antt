use Rattle.script_runs.proofs.Bases.{one_more_base}
use Rattle.script_runs.proofs.serially.bases_at.Goals as goal

pub loop-index-preserved : goal.loop-index-preserved
loop-index-preserved g c =
    one_more_base c.args.world.now.run c.args.guardian c.loop-index.index _ _ c.in_ok-base.base c.loop-index.invariant c.in_ok-insert.ensures.entries
    c.in_ok-base.ensures
