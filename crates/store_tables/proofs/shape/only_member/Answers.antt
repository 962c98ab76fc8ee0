use Rattle.std.proofs.Common.{◌≡◌, [], ◌∷◌, sym, ap, ◌∙◌}
use Rattle.serde_json.specs.Events.{members_len}
use Rattle.serde_json.specs.Data.{object, member, no_members}
use Rattle.serde_json.specs.View.{view, members_view}
use Rattle.serde_json.proofs.Views.{Entry, members_len-members_view}
use Rattle.values.proofs.Members.{one_entry, object_from_members}
use Rattle.store_tables.proofs.shape.only_member.Goals as goal

pub returns-then-len-ne1 : goal.returns-then-len-ne1
returns-then-len-ne1 c = λ name d is.
    let entries = c.in_ok-members.members.now.entries in
    let object_is = object_from_members (view c.args.json.now) (members_view entries) c.in_ok-members.ensures in
    let same : members_view entries ≡ member name d no_members = cc in
    c.if-len-ne1.true (c.len.ensures.len ∙ sym (members_len-members_view entries) ∙ ap members_len same)

pub returns : goal.returns
returns c =
    let entries = c.in_ok-members.members.now.entries in
    let e : Entry = (c.in_ok-name.name.now, c.in_ok-name.document.now) in
    let one : entries ≡ e ∷ [] = one_entry entries e (sym c.len.ensures.len ∙ c.if-len-ne1.false) c.in_ok-name.ensures.first in
    object_from_members (view c.args.json.now) (members_view entries) c.in_ok-members.ensures
    ∙ ap (λ es. object (members_view es)) one ∙ ap (λ k. object (member k (view e.1) no_members)) (sym c.as_str.ensures.value)
