use Rattle.std.proofs.Common.{length, ap}
use Rattle.std.specs.BTreeMap.{BTreeMap}
use Rattle.guardian_index.specs.Held.{has_number}
use Rattle.guardian_index.proofs.Rows.{rising_found, orderly_set}
use Rattle.guardian_index.proofs.Changes.{room_all, none_more, more_held, same_room, more_counted}
use Rattle.guardian_index.proofs.trees.TreeRows.insert_all.Goals as goal

pub insert_all-requires-clause-rising : goal.insert_all-requires-clause-rising
insert_all-requires-clause-rising c = rising_found c.args.holder.now c.self.inside.rows.entries c.in-Some.row.now c.self.invariant.objects c.in-Some.ensures.value

pub insert_all-requires-clause-room : goal.insert_all-requires-clause-room
insert_all-requires-clause-room c = room_all _ c.self.inside.rows.entries c.args.holder.now c.in-Some.row.now _ c.self.view_is c.in-Some.ensures.value c.requires

pub returns-in_default-clause-held : goal.returns-in_default-clause-held
returns-in_default-clause-held c = λ b n.
    none_more _ c.self.inside.rows.entries _ c.args.holder.now c.args.objects.now c.self.view_is
    (ap (λ (m : BTreeMap _ _). m.entries) c.get_mut.follows.holds-at-none) c.in_default.ensures.value c.requires b n

pub invariant_of-self-2 : goal.invariant_of-self-2
invariant_of-self-2 c =
    orderly_set c.self.inside.rows.entries _ c.args.holder.now c.insert_all.new.objects c.self.invariant (c.get_mut.follows.holds c.insert_all.new.objects).0 c.insert_all.ensures.rising

pub returns-clause-held : goal.returns-clause-held
returns-clause-held c = λ b n.
    more_held _ c.self.inside.rows.entries _ c.args.holder.now c.in-Some.row.now c.insert_all.new.objects (has_number c.args.objects.now) c.self.view_is c.in-Some.ensures.value
    (c.get_mut.follows.holds c.insert_all.new.objects).0 c.insert_all.ensures.numbers b n

pub returns-clause-room : goal.returns-clause-room
returns-clause-room c = λ b.
    same_room _ c.self.inside.rows.entries _ c.args.holder.now c.in-Some.row.now c.insert_all.new.objects c.self.view_is c.in-Some.ensures.value
    (c.get_mut.follows.holds c.insert_all.new.objects).0 c.insert_all.ensures.capacity b

pub returns-clause-below : goal.returns-clause-below
returns-clause-below c = λ b.
    more_counted _ c.self.inside.rows.entries _ c.args.holder.now c.in-Some.row.now c.insert_all.new.objects (length c.args.objects.now) c.self.view_is c.in-Some.ensures.value
    (c.get_mut.follows.holds c.insert_all.new.objects).0 c.insert_all.ensures.len b
