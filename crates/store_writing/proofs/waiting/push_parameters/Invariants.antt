use Rattle.std.proofs.Common.{◌≡◌, ◌++◌, drop}
use Rattle.sqlite.specs.Values.{bound}
use Rattle.store_writing.specs.Waiting.{parameters_of}
use Rattle.store_writing.proofs.waiting.push_parameters.Given as goal

abbrev pub invariant-loop-part : goal.invariant-loop-part
invariant-loop-part l = bound l.all.items ++ parameters_of (drop l.part-index l.parts) ≡ bound l.fn.all.items ++ parameters_of l.parts
