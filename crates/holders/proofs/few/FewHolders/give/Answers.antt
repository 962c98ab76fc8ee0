use Rattle.std.proofs.Common.{Some, refl, subst, sym, ◌∙◌}
use Rattle.std.specs.List.Sorted.{IsStrictlySortedBy}
use Rattle.std.specs.Map.{keys_of}
use Rattle.action_names.specs.Names.{name_cmp}
use Rattle.holders.specs.Held.{names_of}
use Rattle.holders.proofs.Giving.{flat_is, held_given, room_given}
use Rattle.holders.proofs.Places.{sorted_in}
use Rattle.holders.proofs.Rows.{found_at, held_sorted}
use Rattle.holders.proofs.few.FewHolders.give.Goals as goal

pub invariant_of-self-2 : goal.invariant_of-self-2
invariant_of-self-2 g c =
    subst (λ rs. IsStrictlySortedBy name_cmp (keys_of rs)) (sym c.in_ok-before.ensures.ok)
    (sorted_in c.args.holder.now (Some c.args.value) c.self.inside.rows.items c.self.invariant)

pub returns-clause-before : goal.returns-clause-before
returns-clause-before g c =
    c.flatten.ensures ∙ flat_is c.in_ok-before.before
    ∙ found_at _ c.self.inside.rows.items _ c.self.view_is c.self.invariant c.in_ok-before.before c.in_ok-before.ensures.before

pub returns-clause-held : goal.returns-clause-held
returns-clause-held g c =
    held_given _ c.self.inside.rows.items _ c.args.holder.now _ c.args.value c.self.view_is refl c.in_ok-before.ensures.ok c.self.invariant

pub returns-clause-room : goal.returns-clause-room
returns-clause-room g c = room_given _ c.self.inside.rows.items _ c.args.holder.now _ c.args.value c.self.view_is refl c.in_ok-before.ensures.ok

pub returns-clause-rose : goal.returns-clause-rose
returns-clause-rose g c = subst (λ s. IsStrictlySortedBy name_cmp (names_of s.held)) c.self.view_is (held_sorted c.self.inside.rows.items c.self.invariant)
