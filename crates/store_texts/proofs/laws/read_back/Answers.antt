use Rattle.store_texts.proofs.ReadBack.{array_read}
use Rattle.store_texts.proofs.laws.read_back.Goals as goal

pub returns : goal.returns
returns c = λ texts contents h. array_read texts contents h
