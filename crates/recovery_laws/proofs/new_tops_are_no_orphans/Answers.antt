use Rattle.recovery_laws.proofs.NewTops.{new_tops_are_no_orphans}
use Rattle.recovery_laws.proofs.new_tops_are_no_orphans.Goals as goal

pub returns : goal.returns
returns c = new_tops_are_no_orphans
