-- What a fault of a store makes of an opening.
use Rattle.stable_store.specs.declared.fault.StoreFault.{StoreFault}
use Rattle.stable_store.specs.declared.fault.StoreFault.TheVariants as call
use Rattle.store_recovery.specs.declared.refused.Refused.{Refused}
use Rattle.store_recovery.specs.declared.refused.Refused.TheVariants.{Memory, Stable, NotOurs}

-- why a system is not opened where a store answers this fault
abbrev pub refused_by : StoreFault → Refused
refused_by call.Memory = Memory
refused_by call.Failed = Stable
refused_by call.NotOurs = NotOurs
