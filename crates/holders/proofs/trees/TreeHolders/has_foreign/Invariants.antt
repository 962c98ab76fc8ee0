use Rattle.std.proofs.Common.{◌≡◌, ◌&&◌, not, false, map}
use Rattle.std.specs.Prelude.{is_some}
use Rattle.std.specs.List.{list_any}
use Rattle.std.specs.Map.Iter.{deref_pair}
use Rattle.action_names.specs.Names.{is_ancestor}
use Rattle.holders.proofs.trees.TreeHolders.has_foreign.Given as goal

-- none so far is foreign
abbrev pub invariant-loop-holder : goal.invariant-loop-holder
invariant-loop-holder g l = list_any (λ r. is_some r.1 && not (is_ancestor r.0 l.action)) (map deref_pair l.yielded) ≡ false
