use Rattle.std.proofs.Common.{◌≡◌, is_some, map}
use Rattle.std.specs.BTreeMap.{get}
use Rattle.std.specs.BTreeSet.{contains}
use Rattle.std.specs.Map.Iter.{deref}
use Rattle.action_names.specs.Names.{Name, name_cmp}
use Rattle.picture.proofs.Stranded.{settled_among}
use Rattle.picture.proofs.losses.Losses.stranded.Given as goal

-- the actions so far have settled at these
abbrev pub invariant-loop-name : goal.invariant-loop-name
invariant-loop-name l = (q : Name) → contains name_cmp l.stranded q ≡ settled_among (λ c. is_some (get name_cmp l.bars.committed c)) (map deref l.yielded) q
