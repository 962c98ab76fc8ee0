-- Faults and their numbers.
use Rattle.std.specs.Prelude.{ℕ, List, [], ◌∷◌, codes}
use Rattle.script_model.specs.declared.fault.FaultKind.{FaultKind}
use Rattle.script_model.specs.declared.fault.FaultKind.TheVariants.{Shape, Guardian, Object, Handler, Operation, Arguments, Kind, Unbound, Rebound, Limit, Flow, Recursion}

abbrev pub fault_number : FaultKind → ℕ
fault_number Shape = 1
fault_number Guardian = 2
fault_number Object = 3
fault_number Handler = 4
fault_number Operation = 5
fault_number Arguments = 6
fault_number Kind = 7
fault_number Unbound = 8
fault_number Rebound = 9
fault_number Limit = 10
fault_number Flow = 11
fault_number Recursion = 12

-- how a place is printed
abbrev pub printed : List ℕ → List ℕ
printed [] = codes "/"
printed (c ∷ cs) = c ∷ cs
