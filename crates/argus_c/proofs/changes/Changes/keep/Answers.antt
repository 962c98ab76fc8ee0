use Rattle.argus_c.proofs.Marks.{unmarked}
use Rattle.argus_c.proofs.changes.Changes.keep.Goals as goal

pub returns : goal.returns
returns c = unmarked c.args.self.now.changed c.remove.new.self c.args.guardian c.remove.ensures.updates.0
