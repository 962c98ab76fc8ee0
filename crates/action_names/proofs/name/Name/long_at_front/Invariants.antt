use Rattle.std.proofs.Common.{◌≡◌, ◌≤◌, length}
use Rattle.std.specs.List.{AllByRecursion}
use Rattle.action_names.specs.Names.{IsComponent, max_depth}
use Rattle.action_names.specs.Fronts.{dotted}
use Rattle.action_names.proofs.name.Name.long_at_front.Given as goal

-- the bytes so far are the numbers so far, with a dot behind each
abbrev pub invariant-loop-number : goal.invariant-loop-number
invariant-loop-number l = record {
  so_far : l.fn._bytes ≡ dotted l.numbers.items l.left;
  components : AllByRecursion IsComponent l.numbers.items;
  room : length l.numbers.items ≤ max_depth;
}

abbrev pub decreases-loop-number : goal.decreases-loop-number
decreases-loop-number l = length l.left
