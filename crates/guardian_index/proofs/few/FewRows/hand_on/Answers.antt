use Rattle.std.proofs.Common.{◌≡◌, ℕ, ◌≤◌, true, ◌&&◌, ◌||◌, not, ◌∙◌, refl, sym, ap, subst, arith, length}
use Rattle.std.specs.Prelude.{IfSome, IsTrue}
use Rattle.std.specs.List.Sorted.{IsStrictlySortedBy}
use Rattle.std.specs.Map.{keys_of}
use Rattle.action_names.specs.Names.{has_name, same_name, name_cmp, is_proper_ancestor}
use Rattle.holders.proofs.Places.{lookup_gap, lookup_row, remove_row, set_row}
use Rattle.guardian_index.specs.Held.{Row, HasRoomFrom, has_number, has_object, is_name_of, rows_in}
use Rattle.guardian_index.proofs.FewRows.{had_row, orderly_given, orderly_less, put_at}
use Rattle.guardian_index.proofs.Rows.{orderly_set, rising_found}
use Rattle.guardian_index.proofs.Changes.{rowless, row_is, out_rows, out_counted, nothing_handed, given_up, handed, fits, others_room, room_after}
use Rattle.guardian_index.proofs.Changes.{more_counted, more_held, put_counted, put_held, put_room, room_all, same_room}
use Rattle.guardian_index.proofs.few.FewRows.hand_on.Goals as goal

pub returns-in_default-clause-held : goal.returns-in_default-clause-held
returns-in_default-clause-held c = λ b n.
    let es = c.self.inside.rows.items in
    let a = c.args.action.now in
    let gap = rw c.deref.ensures.value at c.in_default.ensures.absent in
    nothing_handed c.args.self.now a c.args.to (rowless c.args.self.now es a c.self.view_is (lookup_gap es a _ c.self.invariant.names gap)) b n

pub invariant_of-self : goal.invariant_of-self
invariant_of-self c =
    let es = c.self.inside.rows.items in
    let mid = c.remove-objects.new.self.items in
    let a = c.args.action.now in
    let here = rw c.deref.ensures.value at c.in-Ok.ensures.found in
    let out = c.remove-objects.ensures.items ∙ remove_row es a c.in-Ok.at here in
    orderly_less es mid a c.self.invariant out

pub returns-in_default-to-clause-held : goal.returns-in_default-to-clause-held
returns-in_default-to-clause-held c = λ b n.
    let es = c.self.inside.rows.items in
    let mid = c.remove-objects.new.self.items in
    let a = c.args.action.now in
    let s = c.args.self.now in
    let here = rw c.deref.ensures.value at c.in-Ok.ensures.found in
    let out = c.remove-objects.ensures.items ∙ remove_row es a c.in-Ok.at here in
    let rows = out_rows s es mid a c.self.view_is c.self.invariant.names out in
    given_up s (rows_in mid) a rows b n
    ∙ ap (λ o. not (same_name a b) && (has_object s b n || (is_name_of o b && has_object s a n))) (sym c.in_default-to.is)

pub returns-in_default-to-clause-room : goal.returns-in_default-to-clause-room
returns-in_default-to-clause-room c = λ b other room.
    let es = c.self.inside.rows.items in
    let mid = c.remove-objects.new.self.items in
    let a = c.args.action.now in
    let s = c.args.self.now in
    let here = rw c.deref.ensures.value at c.in-Ok.ensures.found in
    let out = c.remove-objects.ensures.items ∙ remove_row es a c.in-Ok.at here in
    let rows = out_rows s es mid a c.self.view_is c.self.invariant.names out in
    others_room s (rows_in mid) a rows (out_counted s es mid a c.self.view_is out) b other room

pub place-requires-2 : goal.place-requires-2
place-requires-2 c =
    let es = c.self.inside.rows.items in
    let mid = c.remove-objects.new.self.items in
    let a = c.args.action.now in
    let here = rw c.deref.ensures.value at c.in-Ok.ensures.found in
    let out = c.remove-objects.ensures.items ∙ remove_row es a c.in-Ok.at here in
    subst (λ rs. IsStrictlySortedBy name_cmp (keys_of rs)) (sym c.deref-2.ensures.value) (orderly_less es mid a c.self.invariant out).names

pub insert_all-requires-clause-rising : goal.insert_all-requires-clause-rising
insert_all-requires-clause-rising c =
    let es = c.self.inside.rows.items in
    let mid = c.remove-objects.new.self.items in
    let a = c.args.action.now in
    let here = rw c.deref.ensures.value at c.in-Ok.ensures.found in
    let out = c.remove-objects.ensures.items ∙ remove_row es a c.in-Ok.at here in
    let h = c.in-Some.to in
    let row = c.index_mut.result.now in
    let above = rw c.deref-2.ensures.value at c.in-Ok-place.ensures.found in
    let has = sym (lookup_row mid h c.in-Ok-place.above row above c.index_mut.ensures.value) in
    rising_found h mid row.1 (orderly_less es mid a c.self.invariant out).objects has

pub insert_all-requires-clause-room : goal.insert_all-requires-clause-room
insert_all-requires-clause-room c =
    let es = c.self.inside.rows.items in
    let mid = c.remove-objects.new.self.items in
    let a = c.args.action.now in
    let s = c.args.self.now in
    let here = rw c.deref.ensures.value at c.in-Ok.ensures.found in
    let out = c.remove-objects.ensures.items ∙ remove_row es a c.in-Ok.at here in
    let rows = out_rows s es mid a c.self.view_is c.self.invariant.names out in
    let h = c.in-Some.to in
    let up : is_proper_ancestor h a ≡ true = subst (λ o. IfSome o (λ h. IsTrue (is_proper_ancestor h a))) c.in-Some.is c.requires.above in
    let there = sym (lookup_row es a c.in-Ok.at c.remove-objects.result here c.remove-objects.ensures.value) in
    let own = ap (λ (r : Row). r.objects) (row_is s es a c.remove-objects.result.1 c.self.view_is there) in
    let row = c.index_mut.result.now in
    let above = rw c.deref-2.ensures.value at c.in-Ok-place.ensures.found in
    let has = sym (lookup_row mid h c.in-Ok-place.above row above c.index_mut.ensures.value) in
    let objects = c.deref-in-Ok-place.result.now in
    let held : has_name (keys_of s) h ≡ true = had_row s es mid a h row.1 c.self.view_is c.self.invariant out has in
    let room : HasRoomFrom s h a =
    subst (λ o. IfSome o (λ h. IsTrue (has_name (keys_of s) h) → HasRoomFrom s h a)) c.in-Some.is c.requires.room held in
    room_all (rows_in mid) mid h row.1 (length objects) refl has
    (fits s (rows_in mid) a h objects up (c.deref-in-Ok-place.ensures.value ∙ own) room rows)

pub invariant_of-self-in-Ok-place-2 : goal.invariant_of-self-in-Ok-place-2
invariant_of-self-in-Ok-place-2 c =
    let es = c.self.inside.rows.items in
    let mid = c.remove-objects.new.self.items in
    let a = c.args.action.now in
    let here = rw c.deref.ensures.value at c.in-Ok.ensures.found in
    let out = c.remove-objects.ensures.items ∙ remove_row es a c.in-Ok.at here in
    let h = c.in-Some.to in
    let row = c.index_mut.result.now in
    let above = rw c.deref-2.ensures.value at c.in-Ok-place.ensures.found in
    let put = set_row mid h c.in-Ok-place.above row c.insert_all.new.objects above c.index_mut.ensures.value in
    orderly_set mid _ h c.insert_all.new.objects (orderly_less es mid a c.self.invariant out) put c.insert_all.ensures.rising

pub returns-in-Ok-place-clause-held : goal.returns-in-Ok-place-clause-held
returns-in-Ok-place-clause-held c = λ b n.
    let es = c.self.inside.rows.items in
    let mid = c.remove-objects.new.self.items in
    let a = c.args.action.now in
    let s = c.args.self.now in
    let here = rw c.deref.ensures.value at c.in-Ok.ensures.found in
    let out = c.remove-objects.ensures.items ∙ remove_row es a c.in-Ok.at here in
    let rows = out_rows s es mid a c.self.view_is c.self.invariant.names out in
    let h = c.in-Some.to in
    let up : is_proper_ancestor h a ≡ true = subst (λ o. IfSome o (λ h. IsTrue (is_proper_ancestor h a))) c.in-Some.is c.requires.above in
    let there = sym (lookup_row es a c.in-Ok.at c.remove-objects.result here c.remove-objects.ensures.value) in
    let own = ap (λ (r : Row). r.objects) (row_is s es a c.remove-objects.result.1 c.self.view_is there) in
    let row = c.index_mut.result.now in
    let above = rw c.deref-2.ensures.value at c.in-Ok-place.ensures.found in
    let has = sym (lookup_row mid h c.in-Ok-place.above row above c.index_mut.ensures.value) in
    let objects = c.deref-in-Ok-place.result.now in
    let put = set_row mid h c.in-Ok-place.above row c.insert_all.new.objects above c.index_mut.ensures.value in
    handed s (rows_in mid) _ a h objects up (c.deref-in-Ok-place.ensures.value ∙ own) rows
    (more_held (rows_in mid) mid _ h row.1 c.insert_all.new.objects (has_number objects) refl has put c.insert_all.ensures.numbers) b n
    ∙ ap (λ o. not (same_name a b) && (has_object s b n || (is_name_of o b && has_object s a n))) (sym c.in-Some.is)

pub returns-in-Ok-place-clause-room : goal.returns-in-Ok-place-clause-room
returns-in-Ok-place-clause-room c = λ b other room.
    let es = c.self.inside.rows.items in
    let mid = c.remove-objects.new.self.items in
    let a = c.args.action.now in
    let s = c.args.self.now in
    let here = rw c.deref.ensures.value at c.in-Ok.ensures.found in
    let out = c.remove-objects.ensures.items ∙ remove_row es a c.in-Ok.at here in
    let rows = out_rows s es mid a c.self.view_is c.self.invariant.names out in
    let h = c.in-Some.to in
    let up : is_proper_ancestor h a ≡ true = subst (λ o. IfSome o (λ h. IsTrue (is_proper_ancestor h a))) c.in-Some.is c.requires.above in
    let there = sym (lookup_row es a c.in-Ok.at c.remove-objects.result here c.remove-objects.ensures.value) in
    let own = ap (λ (r : Row). r.objects) (row_is s es a c.remove-objects.result.1 c.self.view_is there) in
    let row = c.index_mut.result.now in
    let above = rw c.deref-2.ensures.value at c.in-Ok-place.ensures.found in
    let has = sym (lookup_row mid h c.in-Ok-place.above row above c.index_mut.ensures.value) in
    let objects = c.deref-in-Ok-place.result.now in
    let put = set_row mid h c.in-Ok-place.above row c.insert_all.new.objects above c.index_mut.ensures.value in
    let w = c.insert_all.new.objects in
    room_after s (rows_in mid) _ a h objects up (c.deref-in-Ok-place.ensures.value ∙ own) rows (out_counted s es mid a c.self.view_is out)
    (λ x. no_less _ _ (same_room (rows_in mid) mid _ h row.1 w refl has put c.insert_all.ensures.capacity x))
    (more_counted (rows_in mid) mid _ h row.1 w (length objects) refl has put c.insert_all.ensures.len) b other room
  where
    no_less : (m n : ℕ) → m ≡ n → n ≤ m
    no_less m n e = omega arith

pub unwrap-requires : goal.unwrap-requires
unwrap-requires c =
    c.insert.ensures.succeeds (omega (arith, c.remove-objects.ensures.len, c.remove-objects.ensures.capacity, c.self.inside.rows.ok.1))

pub invariant_of-self-in-Err : goal.invariant_of-self-in-Err
invariant_of-self-in-Err c =
    let es = c.self.inside.rows.items in
    let mid = c.remove-objects.new.self.items in
    let a = c.args.action.now in
    let here = rw c.deref.ensures.value at c.in-Ok.ensures.found in
    let out = c.remove-objects.ensures.items ∙ remove_row es a c.in-Ok.at here in
    let h = c.in-Some.to in
    let there = sym (lookup_row es a c.in-Ok.at c.remove-objects.result here c.remove-objects.ensures.value) in
    let w = c.remove-objects.result.1 in
    let gap = rw c.deref-2.ensures.value at c.in-Err.ensures.absent in
    let put = put_at mid _ h h c.in-Err.gap w gap refl (rw c.unwrap.ensures at c.insert.ensures.items) in
    orderly_given mid _ h w (orderly_less es mid a c.self.invariant out) put (rising_found a es w c.self.invariant.objects there)

pub returns-in-Err-clause-held : goal.returns-in-Err-clause-held
returns-in-Err-clause-held c = λ b n.
    let es = c.self.inside.rows.items in
    let mid = c.remove-objects.new.self.items in
    let a = c.args.action.now in
    let s = c.args.self.now in
    let here = rw c.deref.ensures.value at c.in-Ok.ensures.found in
    let out = c.remove-objects.ensures.items ∙ remove_row es a c.in-Ok.at here in
    let rows = out_rows s es mid a c.self.view_is c.self.invariant.names out in
    let h = c.in-Some.to in
    let up : is_proper_ancestor h a ≡ true = subst (λ o. IfSome o (λ h. IsTrue (is_proper_ancestor h a))) c.in-Some.is c.requires.above in
    let there = sym (lookup_row es a c.in-Ok.at c.remove-objects.result here c.remove-objects.ensures.value) in
    let own = ap (λ (r : Row). r.objects) (row_is s es a c.remove-objects.result.1 c.self.view_is there) in
    let w = c.remove-objects.result.1 in
    let gap = rw c.deref-2.ensures.value at c.in-Err.ensures.absent in
    let none = lookup_gap mid h c.in-Err.gap (orderly_less es mid a c.self.invariant out).names gap in
    let put = put_at mid _ h h c.in-Err.gap w gap refl (rw c.unwrap.ensures at c.insert.ensures.items) in
    handed s (rows_in mid) _ a h w.items up own rows (put_held (rows_in mid) mid _ h w refl none put) b n
    ∙ ap (λ o. not (same_name a b) && (has_object s b n || (is_name_of o b && has_object s a n))) (sym c.in-Some.is)

pub returns-in-Err-clause-room : goal.returns-in-Err-clause-room
returns-in-Err-clause-room c = λ b other room.
    let es = c.self.inside.rows.items in
    let mid = c.remove-objects.new.self.items in
    let a = c.args.action.now in
    let s = c.args.self.now in
    let here = rw c.deref.ensures.value at c.in-Ok.ensures.found in
    let out = c.remove-objects.ensures.items ∙ remove_row es a c.in-Ok.at here in
    let rows = out_rows s es mid a c.self.view_is c.self.invariant.names out in
    let h = c.in-Some.to in
    let up : is_proper_ancestor h a ≡ true = subst (λ o. IfSome o (λ h. IsTrue (is_proper_ancestor h a))) c.in-Some.is c.requires.above in
    let there = sym (lookup_row es a c.in-Ok.at c.remove-objects.result here c.remove-objects.ensures.value) in
    let own = ap (λ (r : Row). r.objects) (row_is s es a c.remove-objects.result.1 c.self.view_is there) in
    let w = c.remove-objects.result.1 in
    let gap = rw c.deref-2.ensures.value at c.in-Err.ensures.absent in
    let none = lookup_gap mid h c.in-Err.gap (orderly_less es mid a c.self.invariant out).names gap in
    let put = put_at mid _ h h c.in-Err.gap w gap refl (rw c.unwrap.ensures at c.insert.ensures.items) in
    room_after s (rows_in mid) _ a h w.items up own rows (out_counted s es mid a c.self.view_is out)
    (put_room (rows_in mid) mid _ h w refl none put) (put_counted (rows_in mid) mid _ h w refl none put) b other room
