use Rattle.std.proofs.Common.{take, ◌≡◌}
use Rattle.script_model.proofs.copying.+copying.Given as goal

abbrev pub invariant-body_copy-loop-statement : goal.invariant-body_copy-loop-statement
invariant-body_copy-loop-statement l = l.copy ≡ take l.statement-index l.body

abbrev pub invariant-arms_copy-loop-arm : goal.invariant-arms_copy-loop-arm
invariant-arms_copy-loop-arm l = l.copy ≡ take l.arm-index l.arms
