use Rattle.std.proofs.Common.{◌<◌, ℕ}
use Rattle.script_model.specs.Reaching.{Reaches}
use Rattle.script.proofs.recursion.ask_endings.Given as goal

-- none of the handlers before can reach itself
abbrev pub invariant-loop-number : goal.invariant-loop-number
invariant-loop-number l = (m : ℕ) → m < l.number → Reaches l.handlers m m → ⊥
