use Rattle.std.proofs.Common.{◌≡◌, ◌++◌, take}
use Rattle.picture.proofs.losses.add_names.Given as goal

abbrev pub invariant-loop-name : goal.invariant-loop-name
invariant-loop-name l = l.list.items ≡ l.fn.list.items ++ take l.name-index l.names
