use Rattle.std.proofs.Common.{◌≡◌, length, map, take, replicate, false}
use Rattle.script_model.specs.Reaching.{called}
use Rattle.script.specs.Marks.{marked_all, rows_of}
use Rattle.script.proofs.recursion.call_table.Given as goal

abbrev pub invariant-loop-handler : goal.invariant-loop-handler
invariant-loop-handler l = rows_of l.table.items ≡ map (λ h. marked_all (called h.body) (replicate (length l.handlers) false)) (take l.handler-index l.handlers)
