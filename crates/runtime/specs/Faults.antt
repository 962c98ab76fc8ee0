-- Faults of steps over a runtime, and of worlds.
use Rattle.layer_contracts.specs.declared.guardian.Fault.{Fault}
use Rattle.layer_contracts.specs.declared.guardian.Fault.TheVariants as given
use Rattle.runtime.specs.declared.fault.StepFault.{StepFault}
use Rattle.runtime.specs.declared.fault.StepFault.TheVariants.{Memory, Stable, UsedUp}

-- a guardian's fault, as one of the runtime
abbrev pub fault_for : Fault → StepFault
fault_for given.Memory = Memory
fault_for given.Stable = Stable

-- what a caller is told of it who knows the faults of guardians alone: drawn stamps are no lack of memory
abbrev pub fault_told : StepFault → Fault
fault_told Memory = given.Memory
fault_told Stable = given.Stable
fault_told UsedUp = given.Stable
