use Rattle.script_parts.proofs.Asked.{view-String}
use Rattle.script_parts.proofs.contents.value_in.Goals as goal

pub returns-in-String : goal.returns-in-String
returns-in-String c = rw (c.in-String.is, view-String c.in-String.text, ← c.as_str.ensures.value) c.text_in.ensures
