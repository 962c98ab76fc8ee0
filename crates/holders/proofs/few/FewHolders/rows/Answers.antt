use Rattle.std.proofs.Common.{◌∙◌, ap, subst}
use Rattle.std.specs.List.Sorted.{IsStrictlySortedBy}
use Rattle.action_names.specs.Names.{name_cmp}
use Rattle.holders.specs.Held.{Rows, names_of, held_in}
use Rattle.holders.proofs.Rows.{held_sorted}
use Rattle.holders.proofs.few.FewHolders.rows.Goals as goal

pub returns-clause-held : goal.returns-clause-held
returns-clause-held g c = ap (λ rs. held_in rs) c.deref.ensures.value ∙ ap (λ (s : Rows _). s.held) c.self.view_is

pub returns-clause-rising : goal.returns-clause-rising
returns-clause-rising g c = subst (λ s. IsStrictlySortedBy name_cmp (names_of s.held)) c.self.view_is (held_sorted c.self.inside.rows.items c.self.invariant)
