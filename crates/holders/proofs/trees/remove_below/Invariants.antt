use Rattle.std.proofs.Common.{◌≡◌, not, filter, length}
use Rattle.action_names.specs.Names.{is_ancestor}
use Rattle.holders.proofs.trees.remove_below.Given as goal

-- no row but those of descendants is gone
abbrev pub invariant-loop-first : goal.invariant-loop-first
invariant-loop-first g l = filter (λ r. not (is_ancestor l.action r.0)) l.rows.entries ≡ filter (λ r. not (is_ancestor l.action r.0)) l.fn.rows.entries

abbrev pub decreases-loop-first : goal.decreases-loop-first
decreases-loop-first g l = length l.rows.entries
