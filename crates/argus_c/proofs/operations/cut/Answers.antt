use Rattle.argus_c.proofs.ReadApart.{cut_parts}
use Rattle.argus_c.proofs.operations.cut.Goals as goal

pub returns : goal.returns
returns c = cut_parts c.args.text.now c.split_once.result c.split_once.ensures.cases
