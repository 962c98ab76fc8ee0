use Rattle.std.proofs.Common.{◌≡◌, length, is_some}
use Rattle.std.specs.BTreeMap.{get}
use Rattle.action_names.specs.Names.{IsName, name_cmp}
use Rattle.picture.specs.Losses.{settled}
use Rattle.picture.proofs.losses.settled.Given as goal

-- the name has settled where the action has
abbrev pub invariant-loop-name : goal.invariant-loop-name
invariant-loop-name l = record {
  named : IsName l.name;
  same : settled (λ c. is_some (get name_cmp l.bars.committed c)) l.name ≡ settled (λ c. is_some (get name_cmp l.bars.committed c)) l.action;
}

abbrev pub decreases-loop-name : goal.decreases-loop-name
decreases-loop-name l = length l.name
