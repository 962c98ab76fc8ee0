use Rattle.std.proofs.Common.{◌≡◌, ◌≤◌, List, ◌++◌, length}
use Rattle.script_model.specs.Scopes.{Bound}
use Rattle.script_parts.proofs.scope.Scope.forget_to.Given as goal

-- the newest are gone, and there are enough left
abbrev pub invariant-loop-self : goal.invariant-loop-self
invariant-loop-self l = ((bs : List Bound) × (l.initial.self ≡ bs ++ l.self)) × (l.fn.len ≤ length l.self)

abbrev pub decreases-loop-self : goal.decreases-loop-self
decreases-loop-self l = length l.self
