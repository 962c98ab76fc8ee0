use Rattle.std.proofs.Common.{◌≡◌, map, take}
use Rattle.packed_history.specs.Answers.{begun_name}
use Rattle.packed_history.proofs.answers.Answers.began.Given as goal

abbrev pub invariant-loop-begun : goal.invariant-loop-begun
invariant-loop-begun l = l.names.items ≡ map (begun_name l.action) (take l.begun-index l.all)
