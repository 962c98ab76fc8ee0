use Rattle.std.proofs.Common.{◌≡◌, length}
use Rattle.std.specs.List.{list_any}
use Rattle.action_names.specs.Names.{IsName, ancestors}
use Rattle.picture.specs.Losses.{is_doomed}
use Rattle.picture.proofs.layout.Layout.is_orphan.Given as goal

-- whether an ancestor of the name is doomed decides
abbrev pub invariant-loop-name : goal.invariant-loop-name
invariant-loop-name l = record {
  named : IsName l.name;
  same : list_any (is_doomed l.self.bars l.self.stranded) (ancestors l.name) ≡ list_any (is_doomed l.self.bars l.self.stranded) (ancestors l.action);
}

abbrev pub decreases-loop-name : goal.decreases-loop-name
decreases-loop-name l = length l.name
