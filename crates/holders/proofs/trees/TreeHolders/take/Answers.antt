use Rattle.std.proofs.Common.{◌∙◌, sym, ap, rules, subst}
use Rattle.std.specs.List.Sorted.{IsStrictlySortedBy}
use Rattle.action_names.specs.Names.{name_cmp}
use Rattle.holders.specs.Held.{names_of}
use Rattle.holders.proofs.Rows.{flat, held_sorted, out_held, out_room, found_at}
use Rattle.holders.proofs.trees.TreeHolders.take.Goals as goal

pub returns-in_err-remove-clause-taken : goal.returns-in_err-remove-clause-taken
returns-in_err-remove-clause-taken g c =
    c.from_residual.ensures ∙ ap flat (sym c.in_err-remove.was) ∙ found_at _ c.self.inside.rows.entries _ c.self.view_is c.self.invariant _ c.remove.ensures.value

pub returns-clause-taken : goal.returns-clause-taken
returns-clause-taken g c =
    ap flat (sym c.in_ok-remove.was) ∙ found_at _ c.self.inside.rows.entries _ c.self.view_is c.self.invariant _ c.remove.ensures.value

pub returns-in_err-remove-clause-held : goal.returns-in_err-remove-clause-held
returns-in_err-remove-clause-held g c = out_held _ c.self.inside.rows.entries _ _ c.self.view_is c.self.invariant c.remove.ensures.entries

pub returns-in_err-remove-clause-room : goal.returns-in_err-remove-clause-room
returns-in_err-remove-clause-room g c = λ b. out_room _ c.self.inside.rows.entries _ _ b c.self.view_is c.self.invariant c.remove.ensures.entries

pub returns-clause-held : goal.returns-clause-held
returns-clause-held g c = out_held _ c.self.inside.rows.entries _ _ c.self.view_is c.self.invariant c.remove.ensures.entries

pub returns-clause-room : goal.returns-clause-room
returns-clause-room g c = λ b. out_room _ c.self.inside.rows.entries _ _ b c.self.view_is c.self.invariant c.remove.ensures.entries

pub returns-in_err-remove-clause-rising : goal.returns-in_err-remove-clause-rising
returns-in_err-remove-clause-rising g c = held_sorted c.remove.new.self.entries (search rules)

pub returns-clause-rising : goal.returns-clause-rising
returns-clause-rising g c = held_sorted c.remove.new.self.entries (search rules)

pub returns-in_err-remove-clause-rose : goal.returns-in_err-remove-clause-rose
returns-in_err-remove-clause-rose g c = subst (λ s. IsStrictlySortedBy name_cmp (names_of s.held)) c.self.view_is (held_sorted c.self.inside.rows.entries c.self.invariant)

pub returns-clause-rose : goal.returns-clause-rose
returns-clause-rose g c = subst (λ s. IsStrictlySortedBy name_cmp (names_of s.held)) c.self.view_is (held_sorted c.self.inside.rows.entries c.self.invariant)
