use Rattle.std.proofs.Common.{◌≡◌, length, sym, ◌∙◌, rules}
use Rattle.serde_json.proofs.Views.{items_len-items_view}
use Rattle.script_parts.proofs.Items.{array_some}
use Rattle.script_parts.proofs.contents.items_of.Goals as goal

pub returns-in-Some : goal.returns-in-Some
returns-in-Some c =
    let count : c.len.result ≡ length c.in-Some.items.now.items = search rules in
    rw (array_some _ _ c.in-Some.ensures) (count ∙ sym (items_len-items_view c.in-Some.items.now.items))
