use Rattle.std.proofs.Common.{subst}
use Rattle.std.specs.List.Sorted.{IsStrictlySortedBy}
use Rattle.action_names.specs.Names.{name_cmp}
use Rattle.holders.specs.Held.{names_of}
use Rattle.holders.proofs.Rows.{held_sorted}
use Rattle.holders.proofs.trees.TreeHolders.rows.Goals as goal

pub returns-clause-rising : goal.returns-clause-rising
returns-clause-rising g c = subst (λ s. IsStrictlySortedBy name_cmp (names_of s.held)) c.self.view_is (held_sorted c.self.inside.rows.entries c.self.invariant)
