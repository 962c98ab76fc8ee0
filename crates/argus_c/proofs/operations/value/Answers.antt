use Rattle.argus_c.proofs.ReadApart.{value_read}
use Rattle.argus_c.proofs.operations.value.Goals as goal

pub returns : goal.returns
returns c = rw c.ok.ensures.value (value_read c.args.text.now c.from_spelling.result c.from_spelling.ensures.found)
