use Rattle.std.proofs.Common.{ap, subst, ◌∙◌}
use Rattle.std.specs.List.Sorted.{IsStrictlySortedBy}
use Rattle.action_names.specs.Names.{name_cmp}
use Rattle.holders.specs.Held.{names_of, value_at}
use Rattle.holders.proofs.Giving.{flat_is, held_given, room_given}
use Rattle.holders.proofs.Rows.{found_at, held_sorted}
use Rattle.holders.proofs.trees.TreeHolders.give.Goals as goal

pub returns-clause-before : goal.returns-clause-before
returns-clause-before g c =
    c.flatten.ensures ∙ flat_is c.in_ok-before.before
    ∙ found_at _ c.self.inside.rows.entries c.in_ok-copy.field-0 c.self.view_is c.self.invariant c.in_ok-before.before c.in_ok-before.ensures.old
    ∙ ap (λ n. value_at c.args.self.now.held n) c.in_ok-copy.ensures.ok.1

pub returns-clause-held : goal.returns-clause-held
returns-clause-held g c =
    held_given _ c.self.inside.rows.entries _ c.args.holder.now _ c.args.value c.self.view_is c.in_ok-copy.ensures.ok.1 c.in_ok-before.ensures.entries c.self.invariant

pub returns-clause-room : goal.returns-clause-room
returns-clause-room g c =
    room_given _ c.self.inside.rows.entries _ c.args.holder.now _ c.args.value c.self.view_is c.in_ok-copy.ensures.ok.1 c.in_ok-before.ensures.entries

pub returns-clause-rose : goal.returns-clause-rose
returns-clause-rose g c = subst (λ s. IsStrictlySortedBy name_cmp (names_of s.held)) c.self.view_is (held_sorted c.self.inside.rows.entries c.self.invariant)
