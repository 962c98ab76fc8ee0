use Rattle.picture.proofs.Safe.{all_safe}
use Rattle.picture.proofs.escape.escaped_text_is_safe.Goals as goal

pub returns : goal.returns
returns c = all_safe
