use Rattle.std.proofs.Common.{◌≡◌, ◌++◌, ◌+◌, take}
use Rattle.std.specs.List.{AllByRecursion}
use Rattle.std.specs.Vec.{vec_len, vec_capacity}
use Rattle.values.specs.Values.{IsValue}
use Rattle.values.proofs.chunks.copy_behind.Given as goal

-- copies of the values so far stand behind the items
abbrev pub invariant-loop-value : goal.invariant-loop-value
invariant-loop-value l = record {
  same : l.items.items ≡ l.fn.items.items ++ take l.value-index l.values;
  fit : AllByRecursion IsValue (take l.value-index l.values);
  many : vec_len l.items ≡ vec_len l.fn.items + l.value-index;
  room : vec_capacity l.items ≡ vec_capacity l.fn.items;
}
