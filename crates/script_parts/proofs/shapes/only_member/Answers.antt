use Rattle.std.proofs.Common.{◌≡◌, [], ◌∷◌, Some, sym, ap, ◌∙◌}
use Rattle.serde_json.specs.View.{view}
use Rattle.serde_json.proofs.Views.{Entry}
use Rattle.values.proofs.Members.{one_entry}
use Rattle.script_parts.proofs.Members.{object_some, not_one}
use Rattle.script_parts.proofs.shapes.only_member.Goals as goal

pub returns-then-len-ne1 : goal.returns-then-len-ne1
returns-then-len-ne1 c =
    let entries = c.in_ok-members.members.now.entries in
    rw (object_some _ _ c.in_ok-members.ensures) (not_one entries (λ one. c.if-len-ne1.true (c.len.ensures.len ∙ one)))

pub returns : goal.returns
returns c =
    let entries = c.in_ok-members.members.now.entries in
    let e : Entry = (c.in_ok-name.name.now, c.in_ok-name.document.now) in
    let one : entries ≡ e ∷ [] = one_entry entries e (sym c.len.ensures.len ∙ c.if-len-ne1.false) c.in_ok-name.ensures.first in
    rw (object_some _ _ c.in_ok-members.ensures, one) (ap (λ k. Some (k, view e.1)) (sym c.as_str.ensures.value))
