use Rattle.std.proofs.Common.{◌≡◌, ◌≤◌, true, ◌&&◌, ◌||◌, not, ◌∙◌, sym, ap, subst, arith}
use Rattle.std.specs.Prelude.{IfSome, IsTrue}
use Rattle.std.specs.Option.{option_copied as name_of}
use Rattle.action_names.specs.Names.{same_name, is_proper_ancestor}
use Rattle.guardian_index.specs.Held.{Row, Rows, HasRoomFrom, has_object, is_name_of, room_at, rows_in}
use Rattle.guardian_index.proofs.Rows.{orderly_out}
use Rattle.guardian_index.proofs.Changes.{rowless, row_is, out_rows, out_counted, nothing_handed, given_up, handed, fits, others_room, room_after}
use Rattle.guardian_index.proofs.trees.TreeRows.hand_on.Goals as goal

pub returns-in_default-clause-held : goal.returns-in_default-clause-held
returns-in_default-clause-held c = λ b n.
    let es = c.self.inside.rows.entries in
    let a = c.args.action.now in
    ap (λ fs. has_object (rows_in fs) b n) c.in_default.ensures.unchanged ∙ ap (λ (rs : Rows). has_object rs b n) c.self.view_is
    ∙ nothing_handed c.args.self.now a (name_of c.args.to) (rowless c.args.self.now es a c.self.view_is c.in_default.ensures.value) b n

pub invariant_of-self-in_default-to : goal.invariant_of-self-in_default-to
invariant_of-self-in_default-to c = orderly_out c.self.inside.rows.entries _ c.args.action.now c.self.invariant c.remove.ensures.entries c.remove.ensures.ordered

pub returns-in_default-to-clause-held : goal.returns-in_default-to-clause-held
returns-in_default-to-clause-held c = λ b n.
    let a = c.args.action.now in
    let s = c.args.self.now in
    given_up s (rows_in c.remove.new.self.entries) a (out_rows s c.self.inside.rows.entries c.remove.new.self.entries a c.self.view_is c.self.invariant.names c.remove.ensures.entries) b n
    ∙ ap (λ o. not (same_name a b) && (has_object s b n || (is_name_of (name_of o) b && has_object s a n))) (sym c.in_default-to.is)

pub returns-in_default-to-clause-room : goal.returns-in_default-to-clause-room
returns-in_default-to-clause-room c = λ b other room.
    let es = c.self.inside.rows.entries in
    let a = c.args.action.now in
    let s = c.args.self.now in
    others_room s (rows_in c.remove.new.self.entries) a (out_rows s es c.remove.new.self.entries a c.self.view_is c.self.invariant.names c.remove.ensures.entries)
    (out_counted s es c.remove.new.self.entries a c.self.view_is c.remove.ensures.entries) b other room

pub invariant_of-self-2 : goal.invariant_of-self-2
invariant_of-self-2 c = orderly_out c.self.inside.rows.entries _ c.args.action.now c.self.invariant c.remove.ensures.entries c.remove.ensures.ordered

pub insert_all-requires : goal.insert_all-requires
insert_all-requires c =
    let es = c.self.inside.rows.entries in
    let new = c.remove.new.self.entries in
    let a = c.args.action.now in
    let s = c.args.self.now in
    let h = c.in-Some-to.to.now in
    let up : is_proper_ancestor h a ≡ true = subst (λ o. IfSome (name_of o) (λ h. IsTrue (is_proper_ancestor h a))) c.in-Some-to.is c.requires.above in
    let room : HasRoomFrom s h a = subst (λ o. IfSome (name_of o) (λ h. HasRoomFrom s h a)) c.in-Some-to.is c.requires.room in
    fits s (rows_in new) a h c.deref.result.now up (c.deref.ensures.value ∙ ap (λ (r : Row). r.objects) (row_is s es a c.in-Some.objects c.self.view_is c.in-Some.ensures.value)) room
    (out_rows s es new a c.self.view_is c.self.invariant.names c.remove.ensures.entries)

pub returns-clause-held : goal.returns-clause-held
returns-clause-held c = λ b n.
    let es = c.self.inside.rows.entries in
    let new = c.remove.new.self.entries in
    let a = c.args.action.now in
    let s = c.args.self.now in
    let h = c.in-Some-to.to.now in
    let up : is_proper_ancestor h a ≡ true = subst (λ o. IfSome (name_of o) (λ h. IsTrue (is_proper_ancestor h a))) c.in-Some-to.is c.requires.above in
    handed s (rows_in new) c.insert_all.new.self a h c.deref.result.now up
    (c.deref.ensures.value ∙ ap (λ (r : Row). r.objects) (row_is s es a c.in-Some.objects c.self.view_is c.in-Some.ensures.value))
    (out_rows s es new a c.self.view_is c.self.invariant.names c.remove.ensures.entries) c.insert_all.ensures.held b n
    ∙ ap (λ o. not (same_name a b) && (has_object s b n || (is_name_of (name_of o) b && has_object s a n))) (sym c.in-Some-to.is)

pub returns-clause-room : goal.returns-clause-room
returns-clause-room c = λ b other room.
    let es = c.self.inside.rows.entries in
    let new = c.remove.new.self.entries in
    let a = c.args.action.now in
    let s = c.args.self.now in
    let h = c.in-Some-to.to.now in
    let up : is_proper_ancestor h a ≡ true = subst (λ o. IfSome (name_of o) (λ h. IsTrue (is_proper_ancestor h a))) c.in-Some-to.is c.requires.above in
    room_after s (rows_in new) c.insert_all.new.self a h c.deref.result.now up
    (c.deref.ensures.value ∙ ap (λ (r : Row). r.objects) (row_is s es a c.in-Some.objects c.self.view_is c.in-Some.ensures.value))
    (out_rows s es new a c.self.view_is c.self.invariant.names c.remove.ensures.entries)
    (out_counted s es new a c.self.view_is c.remove.ensures.entries) (λ d. subst (λ n. room_at (rows_in new) d ≤ n) (sym (c.insert_all.ensures.room d)) (omega arith)) c.insert_all.ensures.below b other room
