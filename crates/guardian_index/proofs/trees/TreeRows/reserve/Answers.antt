use Rattle.std.proofs.Common.{◌≡◌, ◌∙◌, ◌+◌, ◌≤◌, ap, subst, sym}
use Rattle.std.specs.Prelude.{vec_len, vec_capacity}
use Rattle.std.proofs.lemmas.Result.{on_ok_weaker, on_err_weaker}
use Rattle.std.specs.BTreeMap.{BTreeMap, insert_entry}
use Rattle.action_names.specs.Names.{name_cmp}
use Rattle.guardian_index.specs.Held.{IsRising}
use Rattle.guardian_index.proofs.Numbers.{no_numbers}
use Rattle.guardian_index.proofs.Rows.{rising_found, orderly_set, orderly_put}
use Rattle.guardian_index.proofs.Changes.{widened, reserved, not_reserved, added, added_reserved}
use Rattle.guardian_index.proofs.trees.TreeRows.reserve.Goals as goal

pub invariant_of-self : goal.invariant_of-self
invariant_of-self c =
    let es = c.self.inside.rows.entries in
    let rises = rising_found c.args.holder.now es c.in-Some.objects.now c.self.invariant.objects c.in-Some.ensures.value in
    orderly_set es _ c.args.holder.now c.reserve.new.self c.self.invariant (c.get_mut.follows.holds c.reserve.new.self).0 (subst IsRising (sym c.reserve.ensures.items) rises)

pub returns-in-Some-clause-held : goal.returns-in-Some-clause-held
returns-in-Some-clause-held c = λ b.
    (widened _ c.self.inside.rows.entries _ c.args.holder.now c.in-Some.objects.now c.reserve.new.self c.self.view_is c.in-Some.ensures.value
    (c.get_mut.follows.holds c.reserve.new.self).0 c.reserve.ensures.items c.reserve.ensures.capacity).held b

pub returns-in-Some-clause-room : goal.returns-in-Some-clause-room
returns-in-Some-clause-room c =
    on_ok_weaker c.reserve.result (λ (room : vec_len c.reserve.new.self + c.args.additional ≤ vec_capacity c.reserve.new.self).
    reserved _ c.self.inside.rows.entries _ c.args.holder.now c.in-Some.objects.now c.reserve.new.self c.args.additional c.self.view_is c.in-Some.ensures.value
    (c.get_mut.follows.holds c.reserve.new.self).0 c.reserve.ensures.len room) c.reserve.ensures.ok

pub returns-in-Some-clause-others : goal.returns-in-Some-clause-others
returns-in-Some-clause-others c = λ b.
    (widened _ c.self.inside.rows.entries _ c.args.holder.now c.in-Some.objects.now c.reserve.new.self c.self.view_is c.in-Some.ensures.value
    (c.get_mut.follows.holds c.reserve.new.self).0 c.reserve.ensures.items c.reserve.ensures.capacity).room b

pub returns-in-Some-clause-below : goal.returns-in-Some-clause-below
returns-in-Some-clause-below c = λ b.
    (widened _ c.self.inside.rows.entries _ c.args.holder.now c.in-Some.objects.now c.reserve.new.self c.self.view_is c.in-Some.ensures.value
    (c.get_mut.follows.holds c.reserve.new.self).0 c.reserve.ensures.items c.reserve.ensures.capacity).below b

pub returns-in-Some-clause-err : goal.returns-in-Some-clause-err
returns-in-Some-clause-err c =
    on_err_weaker c.reserve.result (λ (same : vec_capacity c.reserve.new.self ≡ vec_capacity c.in-Some.objects.now).
    not_reserved _ c.self.inside.rows.entries _ c.args.holder.now c.in-Some.objects.now c.reserve.new.self c.self.view_is c.in-Some.ensures.value
    (c.get_mut.follows.holds c.reserve.new.self).0 c.reserve.ensures.items same) c.reserve.ensures.err

pub invariant_of-self-2 : goal.invariant_of-self-2
invariant_of-self-2 c =
    orderly_put c.self.inside.rows.entries _ c.in_ok-copy.field-0 c.in_ok-objects.objects c.self.invariant
    (c.in_ok-insert.ensures.entries ∙ ap (λ (m : BTreeMap _ _). insert_entry name_cmp m.entries c.in_ok-copy.field-0 c.in_ok-objects.objects) c.get_mut.follows.holds-at-none)
    c.in_ok-insert.ensures.ordered (subst IsRising (sym c.in_ok-objects.ensures.items) no_numbers)

pub returns-clause-held : goal.returns-clause-held
returns-clause-held c = λ b.
    (added _ c.self.inside.rows.entries _ c.args.holder.now c.in_ok-objects.objects c.self.view_is c.in_default.ensures.value
    (c.in_ok-insert.ensures.entries ∙ ap (λ (m : BTreeMap _ _). insert_entry name_cmp m.entries c.in_ok-copy.field-0 c.in_ok-objects.objects) c.get_mut.follows.holds-at-none
    ∙ ap (λ n. insert_entry name_cmp c.self.inside.rows.entries n c.in_ok-objects.objects) c.in_ok-copy.ensures.ok.1) c.in_ok-objects.ensures.items).held b

pub returns-clause-room : goal.returns-clause-room
returns-clause-room c =
    added_reserved _ c.self.inside.rows.entries _ c.args.holder.now c.in_ok-copy.field-0 c.in_ok-objects.objects c.args.additional c.self.view_is c.in_default.ensures.value
    (c.in_ok-insert.ensures.entries ∙ ap (λ (m : BTreeMap _ _). insert_entry name_cmp m.entries c.in_ok-copy.field-0 c.in_ok-objects.objects) c.get_mut.follows.holds-at-none)
    c.in_ok-copy.ensures.ok.1 c.in_ok-objects.ensures.room

pub returns-clause-others : goal.returns-clause-others
returns-clause-others c = λ b.
    (added _ c.self.inside.rows.entries _ c.args.holder.now c.in_ok-objects.objects c.self.view_is c.in_default.ensures.value
    (c.in_ok-insert.ensures.entries ∙ ap (λ (m : BTreeMap _ _). insert_entry name_cmp m.entries c.in_ok-copy.field-0 c.in_ok-objects.objects) c.get_mut.follows.holds-at-none
    ∙ ap (λ n. insert_entry name_cmp c.self.inside.rows.entries n c.in_ok-objects.objects) c.in_ok-copy.ensures.ok.1) c.in_ok-objects.ensures.items).room b

pub returns-clause-below : goal.returns-clause-below
returns-clause-below c = λ b.
    (added _ c.self.inside.rows.entries _ c.args.holder.now c.in_ok-objects.objects c.self.view_is c.in_default.ensures.value
    (c.in_ok-insert.ensures.entries ∙ ap (λ (m : BTreeMap _ _). insert_entry name_cmp m.entries c.in_ok-copy.field-0 c.in_ok-objects.objects) c.get_mut.follows.holds-at-none
    ∙ ap (λ n. insert_entry name_cmp c.self.inside.rows.entries n c.in_ok-objects.objects) c.in_ok-copy.ensures.ok.1) c.in_ok-objects.ensures.items).below b
