use Rattle.std.proofs.Common.{◌==◌, sym}
use Rattle.holders.proofs.Places.{lookup_gap, lookup_row, set_row}
use Rattle.guardian_index.proofs.Rows.{orderly_set}
use Rattle.guardian_index.proofs.Changes.{room_here, no_room, more_held, same_room}
use Rattle.guardian_index.proofs.few.FewRows.insert.Goals as goal

pub insert-requires-clause-room : goal.insert-requires-clause-room
insert-requires-clause-room c =
    let es = c.self.inside.rows.items in
    let a = c.args.holder.now in
    let row = c.index_mut.result.now in
    let here = rw c.deref.ensures.value at c.in-Ok.ensures.found in
    room_here _ es a row.1 c.args.object c.self.view_is (sym (lookup_row es a c.in-Ok.at row here c.index_mut.ensures.value)) c.requires

pub returns-in_default-clause-held : goal.returns-in_default-clause-held
returns-in_default-clause-held c =
    let es = c.self.inside.rows.items in
    let a = c.args.holder.now in
    let gap = rw c.deref.ensures.value at c.in_default.ensures.absent in
    absurd (no_room _ es a c.args.object c.self.view_is (lookup_gap es a _ c.self.invariant.names gap) c.requires)

pub invariant_of-self : goal.invariant_of-self
invariant_of-self c =
    let es = c.self.inside.rows.items in
    let a = c.args.holder.now in
    let row = c.index_mut.result.now in
    let here = rw c.deref.ensures.value at c.in-Ok.ensures.found in
    orderly_set es _ a c.insert.new.objects c.self.invariant (set_row es a c.in-Ok.at row c.insert.new.objects here c.index_mut.ensures.value) c.insert.ensures.rising

pub returns-in-Ok-clause-held : goal.returns-in-Ok-clause-held
returns-in-Ok-clause-held c = λ b n.
    let es = c.self.inside.rows.items in
    let a = c.args.holder.now in
    let row = c.index_mut.result.now in
    let here = rw c.deref.ensures.value at c.in-Ok.ensures.found in
    more_held _ es _ a row.1 c.insert.new.objects (λ m. c.args.object == m) c.self.view_is (sym (lookup_row es a c.in-Ok.at row here c.index_mut.ensures.value))
    (set_row es a c.in-Ok.at row c.insert.new.objects here c.index_mut.ensures.value) c.insert.ensures.numbers b n

pub returns-in-Ok-clause-room : goal.returns-in-Ok-clause-room
returns-in-Ok-clause-room c = λ b.
    let es = c.self.inside.rows.items in
    let a = c.args.holder.now in
    let row = c.index_mut.result.now in
    let here = rw c.deref.ensures.value at c.in-Ok.ensures.found in
    same_room _ es _ a row.1 c.insert.new.objects c.self.view_is (sym (lookup_row es a c.in-Ok.at row here c.index_mut.ensures.value))
    (set_row es a c.in-Ok.at row c.insert.new.objects here c.index_mut.ensures.value) c.insert.ensures.capacity b
