use Rattle.script_parts.proofs.Asked.{asks}
use Rattle.script_parts.proofs.contents.ask_names.Goals as goal

pub returns : goal.returns
returns c =
    rw (← c.are_named.ensures, ← c.is_count.ensures)
    (asks c.are_named.result c.is_count.result _ _ _ _ c.in_ok-ask.ensures c.ask-2.ensures)
