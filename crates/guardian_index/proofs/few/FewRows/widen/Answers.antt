use Rattle.std.proofs.Common.{◌≡◌, ◌+◌, ◌≤◌, ◌∙◌, ap, subst, sym}
use Rattle.std.specs.Prelude.{vec_len, vec_capacity}
use Rattle.std.proofs.lemmas.Result.{on_ok_weaker, on_err_weaker}
use Rattle.std.proofs.lemmas.Bool.{true≢false}
use Rattle.std.specs.Map.{keys_of}
use Rattle.action_names.specs.Names.{has_name}
use Rattle.holders.proofs.Places.{lookup_row, no_name_at_gap, set_row}
use Rattle.guardian_index.specs.Held.{IsRising, Rows}
use Rattle.guardian_index.proofs.Rows.{rising_found, orderly_set}
use Rattle.guardian_index.proofs.Changes.{widened, reserved, not_reserved}
use Rattle.guardian_index.proofs.FewRows.{keys_shown}
use Rattle.guardian_index.proofs.few.FewRows.widen.Goals as goal

pub invariant_of-self : goal.invariant_of-self
invariant_of-self c =
    let es = c.self.inside.rows.items in
    let a = c.args.holder.now in
    let row = c.index_mut.result.now in
    let here = rw c.deref.ensures.value at c.in-Ok.ensures.found in
    let there = sym (lookup_row es a c.in-Ok.at row here c.index_mut.ensures.value) in
    let rises = rising_found a es row.1 c.self.invariant.objects there in
    orderly_set es _ a c.reserve.new.self c.self.invariant (set_row es a c.in-Ok.at row c.reserve.new.self here c.index_mut.ensures.value) (subst IsRising (sym c.reserve.ensures.items) rises)

pub returns-in-Ok-clause-held : goal.returns-in-Ok-clause-held
returns-in-Ok-clause-held c = λ b.
    let es = c.self.inside.rows.items in
    let a = c.args.holder.now in
    let row = c.index_mut.result.now in
    let here = rw c.deref.ensures.value at c.in-Ok.ensures.found in
    let there = sym (lookup_row es a c.in-Ok.at row here c.index_mut.ensures.value) in
    (widened _ es _ a row.1 c.reserve.new.self c.self.view_is there (set_row es a c.in-Ok.at row c.reserve.new.self here c.index_mut.ensures.value) c.reserve.ensures.items
    c.reserve.ensures.capacity).held b

pub returns-in-Ok-clause-room : goal.returns-in-Ok-clause-room
returns-in-Ok-clause-room c =
    let es = c.self.inside.rows.items in
    let a = c.args.holder.now in
    let row = c.index_mut.result.now in
    let here = rw c.deref.ensures.value at c.in-Ok.ensures.found in
    let there = sym (lookup_row es a c.in-Ok.at row here c.index_mut.ensures.value) in
    on_ok_weaker c.reserve.result (λ (room : vec_len c.reserve.new.self + c.args.additional ≤ vec_capacity c.reserve.new.self) has.
    reserved _ es _ a row.1 c.reserve.new.self c.args.additional c.self.view_is there (set_row es a c.in-Ok.at row c.reserve.new.self here c.index_mut.ensures.value)
    c.reserve.ensures.len room) c.reserve.ensures.ok

pub returns-in-Ok-clause-others : goal.returns-in-Ok-clause-others
returns-in-Ok-clause-others c = λ b.
    let es = c.self.inside.rows.items in
    let a = c.args.holder.now in
    let row = c.index_mut.result.now in
    let here = rw c.deref.ensures.value at c.in-Ok.ensures.found in
    let there = sym (lookup_row es a c.in-Ok.at row here c.index_mut.ensures.value) in
    (widened _ es _ a row.1 c.reserve.new.self c.self.view_is there (set_row es a c.in-Ok.at row c.reserve.new.self here c.index_mut.ensures.value) c.reserve.ensures.items
    c.reserve.ensures.capacity).room b

pub returns-in-Ok-clause-below : goal.returns-in-Ok-clause-below
returns-in-Ok-clause-below c = λ b.
    let es = c.self.inside.rows.items in
    let a = c.args.holder.now in
    let row = c.index_mut.result.now in
    let here = rw c.deref.ensures.value at c.in-Ok.ensures.found in
    let there = sym (lookup_row es a c.in-Ok.at row here c.index_mut.ensures.value) in
    (widened _ es _ a row.1 c.reserve.new.self c.self.view_is there (set_row es a c.in-Ok.at row c.reserve.new.self here c.index_mut.ensures.value) c.reserve.ensures.items
    c.reserve.ensures.capacity).below b

pub returns-in-Ok-clause-err : goal.returns-in-Ok-clause-err
returns-in-Ok-clause-err c =
    let es = c.self.inside.rows.items in
    let a = c.args.holder.now in
    let row = c.index_mut.result.now in
    let here = rw c.deref.ensures.value at c.in-Ok.ensures.found in
    let there = sym (lookup_row es a c.in-Ok.at row here c.index_mut.ensures.value) in
    on_err_weaker c.reserve.result (λ (same : vec_capacity c.reserve.new.self ≡ vec_capacity row.1).
    not_reserved _ es _ a row.1 c.reserve.new.self c.self.view_is there (set_row es a c.in-Ok.at row c.reserve.new.self here c.index_mut.ensures.value) c.reserve.ensures.items same)
    c.reserve.ensures.err

pub returns-in-Err-clause-room : goal.returns-in-Err-clause-room
returns-in-Err-clause-room c = λ has.
    let es = c.self.inside.rows.items in
    let a = c.args.holder.now in
    let gap = rw c.deref.ensures.value at c.in-Err.ensures.absent in
    absurd (true≢false (sym has ∙ ap (λ (rs : Rows). has_name (keys_of rs) a) (sym c.self.view_is) ∙ ap (λ ns. has_name ns a) (keys_shown es)
    ∙ no_name_at_gap es a _ c.self.invariant.names gap))
