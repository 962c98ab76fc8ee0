use Rattle.std.proofs.Common.{◌≡◌, ◌++◌, List, ℕ}
use Rattle.atomic_types.specs.declared.part.Part.{Part}
use Rattle.script_engine.proofs.Opening.{AllWithin}
use Rattle.script_engine.proofs.storing.is_within.Given as goal

-- all entries so far are within, and the others are left
abbrev pub invariant-loop-object : goal.invariant-loop-object
invariant-loop-object l = (front : List (ℕ × Part)) × (front ++ l.object-iterator ≡ l.base.entries) × AllWithin l.last front
