use Rattle.store_tables.proofs.Same.{one_content}
use Rattle.store_tables.proofs.answers.one_content_is_held.Goals as goal

pub returns : goal.returns
returns c first tables x y h k = one_content c.one_part_spelling.ensures first tables x y h k
