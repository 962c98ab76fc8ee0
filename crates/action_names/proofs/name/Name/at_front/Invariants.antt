use Rattle.std.proofs.Common.{◌≡◌, length, take}
use Rattle.std.specs.List.{AllByRecursion}
use Rattle.action_names.specs.Names.{IsComponent}
use Rattle.action_names.specs.Fronts.{dotted}
use Rattle.action_names.proofs.name.Name.at_front.Given as goal

-- the bytes so far are the numbers so far, with a dot behind each
abbrev pub invariant-loop-at : goal.invariant-loop-at
invariant-loop-at l = record {
  so_far : l.bytes ≡ dotted (take l.at l.few) l.left;
  components : AllByRecursion IsComponent (take l.at l.few);
  full : length l.few ≡ 8;
}
