use Rattle.store_tables.proofs.PartTexts.{part_from_text}
use Rattle.store_tables.proofs.text.one_part_spelling.Goals as goal

pub returns : goal.returns
returns c = part_from_text
