use Rattle.std.proofs.Common.{◌≡◌, drop}
use Rattle.script_model.specs.Reaching.{called}
use Rattle.script.specs.Marks.{marked_all, called_in_arms}
use Rattle.script.proofs.recursion.+mark.Given as goal

-- what is left to be marked leads to the same marks
abbrev pub invariant-mark_calls-loop-statement : goal.invariant-mark_calls-loop-statement
invariant-mark_calls-loop-statement l = marked_all (called (drop l.statement-index l.statements)) l.marks ≡ marked_all (called l.statements) l.initial.marks

abbrev pub invariant-mark_arms-loop-arm : goal.invariant-mark_arms-loop-arm
invariant-mark_arms-loop-arm l = marked_all (called_in_arms (drop l.arm-index l.arms)) l.marks ≡ marked_all (called_in_arms l.arms) l.initial.marks
