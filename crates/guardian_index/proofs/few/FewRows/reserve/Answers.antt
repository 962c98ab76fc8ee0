use Rattle.std.proofs.Common.{◌≡◌, ◌+◌, ◌≤◌, refl, subst, sym}
use Rattle.std.specs.Prelude.{vec_len, vec_capacity}
use Rattle.std.proofs.lemmas.Result.{on_ok_weaker, on_err_weaker}
use Rattle.holders.proofs.Places.{lookup_gap, lookup_row, set_row}
use Rattle.guardian_index.specs.Held.{IsRising}
use Rattle.guardian_index.proofs.Rows.{rising_found, orderly_set}
use Rattle.guardian_index.proofs.Changes.{widened, reserved, not_reserved, added, added_reserved}
use Rattle.guardian_index.proofs.FewRows.{orderly_more, put_at}
use Rattle.guardian_index.proofs.few.FewRows.reserve.Goals as goal

pub invariant_of-self : goal.invariant_of-self
invariant_of-self c =
    let es = c.self.inside.rows.items in
    let a = c.args.holder.now in
    let row = c.index_mut.result.now in
    let here = rw c.deref.ensures.value at c.in-Ok.ensures.found in
    let there = sym (lookup_row es a c.in-Ok.at row here c.index_mut.ensures.value) in
    let rises = rising_found a es row.1 c.self.invariant.objects there in
    orderly_set es _ a c.reserve.new.self c.self.invariant (set_row es a c.in-Ok.at row c.reserve.new.self here c.index_mut.ensures.value) (subst IsRising (sym c.reserve.ensures.items) rises)

pub returns-in-Ok-clause-held : goal.returns-in-Ok-clause-held
returns-in-Ok-clause-held c = λ b.
    let es = c.self.inside.rows.items in
    let a = c.args.holder.now in
    let row = c.index_mut.result.now in
    let here = rw c.deref.ensures.value at c.in-Ok.ensures.found in
    let there = sym (lookup_row es a c.in-Ok.at row here c.index_mut.ensures.value) in
    (widened _ es _ a row.1 c.reserve.new.self c.self.view_is there (set_row es a c.in-Ok.at row c.reserve.new.self here c.index_mut.ensures.value) c.reserve.ensures.items
    c.reserve.ensures.capacity).held b

pub returns-in-Ok-clause-room : goal.returns-in-Ok-clause-room
returns-in-Ok-clause-room c =
    let es = c.self.inside.rows.items in
    let a = c.args.holder.now in
    let row = c.index_mut.result.now in
    let here = rw c.deref.ensures.value at c.in-Ok.ensures.found in
    let there = sym (lookup_row es a c.in-Ok.at row here c.index_mut.ensures.value) in
    on_ok_weaker c.reserve.result (λ (room : vec_len c.reserve.new.self + c.args.additional ≤ vec_capacity c.reserve.new.self).
    reserved _ es _ a row.1 c.reserve.new.self c.args.additional c.self.view_is there (set_row es a c.in-Ok.at row c.reserve.new.self here c.index_mut.ensures.value)
    c.reserve.ensures.len room) c.reserve.ensures.ok

pub returns-in-Ok-clause-others : goal.returns-in-Ok-clause-others
returns-in-Ok-clause-others c = λ b.
    let es = c.self.inside.rows.items in
    let a = c.args.holder.now in
    let row = c.index_mut.result.now in
    let here = rw c.deref.ensures.value at c.in-Ok.ensures.found in
    let there = sym (lookup_row es a c.in-Ok.at row here c.index_mut.ensures.value) in
    (widened _ es _ a row.1 c.reserve.new.self c.self.view_is there (set_row es a c.in-Ok.at row c.reserve.new.self here c.index_mut.ensures.value) c.reserve.ensures.items
    c.reserve.ensures.capacity).room b

pub returns-in-Ok-clause-below : goal.returns-in-Ok-clause-below
returns-in-Ok-clause-below c = λ b.
    let es = c.self.inside.rows.items in
    let a = c.args.holder.now in
    let row = c.index_mut.result.now in
    let here = rw c.deref.ensures.value at c.in-Ok.ensures.found in
    let there = sym (lookup_row es a c.in-Ok.at row here c.index_mut.ensures.value) in
    (widened _ es _ a row.1 c.reserve.new.self c.self.view_is there (set_row es a c.in-Ok.at row c.reserve.new.self here c.index_mut.ensures.value) c.reserve.ensures.items
    c.reserve.ensures.capacity).below b

pub returns-in-Ok-clause-err : goal.returns-in-Ok-clause-err
returns-in-Ok-clause-err c =
    let es = c.self.inside.rows.items in
    let a = c.args.holder.now in
    let row = c.index_mut.result.now in
    let here = rw c.deref.ensures.value at c.in-Ok.ensures.found in
    let there = sym (lookup_row es a c.in-Ok.at row here c.index_mut.ensures.value) in
    on_err_weaker c.reserve.result (λ (same : vec_capacity c.reserve.new.self ≡ vec_capacity row.1).
    not_reserved _ es _ a row.1 c.reserve.new.self c.self.view_is there (set_row es a c.in-Ok.at row c.reserve.new.self here c.index_mut.ensures.value) c.reserve.ensures.items same)
    c.reserve.ensures.err

pub invariant_of-self-in-Err : goal.invariant_of-self-in-Err
invariant_of-self-in-Err c =
    let es = c.self.inside.rows.items in
    let a = c.args.holder.now in
    let w = c.in_ok-objects-in-Err.objects in
    let gap = rw c.deref.ensures.value at c.in-Err.ensures.absent in
    let put = put_at es _ a c.in_ok-own-in-Err.own c.in-Err.at w gap c.in_ok-own-in-Err.ensures.ok.1 c.in_ok-insert-in-Err.ensures.items in
    orderly_more es _ a w c.self.invariant put c.in_ok-objects-in-Err.ensures.items

pub returns-in_ok-insert-in-Err-clause-held : goal.returns-in_ok-insert-in-Err-clause-held
returns-in_ok-insert-in-Err-clause-held c = λ b.
    let es = c.self.inside.rows.items in
    let a = c.args.holder.now in
    let w = c.in_ok-objects-in-Err.objects in
    let gap = rw c.deref.ensures.value at c.in-Err.ensures.absent in
    let put = put_at es _ a c.in_ok-own-in-Err.own c.in-Err.at w gap c.in_ok-own-in-Err.ensures.ok.1 c.in_ok-insert-in-Err.ensures.items in
    (added _ es _ a w c.self.view_is (lookup_gap es a _ c.self.invariant.names gap) put c.in_ok-objects-in-Err.ensures.items).held b

pub returns-in_ok-insert-in-Err-clause-room : goal.returns-in_ok-insert-in-Err-clause-room
returns-in_ok-insert-in-Err-clause-room c =
    let es = c.self.inside.rows.items in
    let a = c.args.holder.now in
    let w = c.in_ok-objects-in-Err.objects in
    let gap = rw c.deref.ensures.value at c.in-Err.ensures.absent in
    let put = put_at es _ a c.in_ok-own-in-Err.own c.in-Err.at w gap c.in_ok-own-in-Err.ensures.ok.1 c.in_ok-insert-in-Err.ensures.items in
    added_reserved _ es _ a a w c.args.additional c.self.view_is (lookup_gap es a _ c.self.invariant.names gap) put refl c.in_ok-objects-in-Err.ensures.room

pub returns-in_ok-insert-in-Err-clause-others : goal.returns-in_ok-insert-in-Err-clause-others
returns-in_ok-insert-in-Err-clause-others c = λ b.
    let es = c.self.inside.rows.items in
    let a = c.args.holder.now in
    let w = c.in_ok-objects-in-Err.objects in
    let gap = rw c.deref.ensures.value at c.in-Err.ensures.absent in
    let put = put_at es _ a c.in_ok-own-in-Err.own c.in-Err.at w gap c.in_ok-own-in-Err.ensures.ok.1 c.in_ok-insert-in-Err.ensures.items in
    (added _ es _ a w c.self.view_is (lookup_gap es a _ c.self.invariant.names gap) put c.in_ok-objects-in-Err.ensures.items).room b

pub returns-in_ok-insert-in-Err-clause-below : goal.returns-in_ok-insert-in-Err-clause-below
returns-in_ok-insert-in-Err-clause-below c = λ b.
    let es = c.self.inside.rows.items in
    let a = c.args.holder.now in
    let w = c.in_ok-objects-in-Err.objects in
    let gap = rw c.deref.ensures.value at c.in-Err.ensures.absent in
    let put = put_at es _ a c.in_ok-own-in-Err.own c.in-Err.at w gap c.in_ok-own-in-Err.ensures.ok.1 c.in_ok-insert-in-Err.ensures.items in
    (added _ es _ a w c.self.view_is (lookup_gap es a _ c.self.invariant.names gap) put c.in_ok-objects-in-Err.ensures.items).below b
