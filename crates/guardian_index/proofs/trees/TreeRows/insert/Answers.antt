use Rattle.std.proofs.Common.{◌==◌}
use Rattle.guardian_index.proofs.Rows.{rising_found, orderly_set}
use Rattle.guardian_index.proofs.Changes.{room_here, no_room, more_held, same_room}
use Rattle.guardian_index.proofs.trees.TreeRows.insert.Goals as goal

pub insert-requires-clause-rising : goal.insert-requires-clause-rising
insert-requires-clause-rising c = rising_found c.args.holder.now c.self.inside.rows.entries c.in-Some.objects.now c.self.invariant.objects c.in-Some.ensures.value

pub insert-requires-clause-room : goal.insert-requires-clause-room
insert-requires-clause-room c = room_here _ c.self.inside.rows.entries c.args.holder.now c.in-Some.objects.now c.args.object c.self.view_is c.in-Some.ensures.value c.requires

pub returns-in_default-clause-held : goal.returns-in_default-clause-held
returns-in_default-clause-held c = absurd (no_room _ c.self.inside.rows.entries c.args.holder.now c.args.object c.self.view_is c.in_default.ensures.value c.requires)

pub invariant_of-self-2 : goal.invariant_of-self-2
invariant_of-self-2 c = orderly_set c.self.inside.rows.entries _ c.args.holder.now c.insert.new.objects c.self.invariant (c.get_mut.follows.holds c.insert.new.objects).0 c.insert.ensures.rising

pub returns-clause-held : goal.returns-clause-held
returns-clause-held c = λ b n.
    more_held _ c.self.inside.rows.entries _ c.args.holder.now c.in-Some.objects.now c.insert.new.objects (λ m. c.args.object == m) c.self.view_is c.in-Some.ensures.value
    (c.get_mut.follows.holds c.insert.new.objects).0 c.insert.ensures.numbers b n

pub returns-clause-room : goal.returns-clause-room
returns-clause-room c = λ b.
    same_room _ c.self.inside.rows.entries _ c.args.holder.now c.in-Some.objects.now c.insert.new.objects c.self.view_is c.in-Some.ensures.value
    (c.get_mut.follows.holds c.insert.new.objects).0 c.insert.ensures.capacity b
