use Rattle.argus_c.proofs.ReadApart.{word_read}
use Rattle.argus_c.proofs.operations.word.Goals as goal

pub returns : goal.returns
returns c = rw c.ok.ensures.value (word_read c.args.text.now c.parse.result c.parse.ensures.found c.parse.ensures.fits)
