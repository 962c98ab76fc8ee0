-- What an event asks of a store, and what the store holds then.
use Rattle.std.specs.Prelude.{Bool, true, false, if◌then◌else◌, Option, Some, None}
use Rattle.action_names.specs.Names.{Name, last_of}
use Rattle.stable_store.specs.Held.{held}
use Rattle.stable_store.specs.Stored.{Stored, after_bump, after_decide, after_discard, after_install, after_prepare}
use Rattle.stable_store.specs.declared.fault.StoreFault.{StoreFault}
use Rattle.stable_store.specs.declared.fault.StoreFault.TheVariants as call
use Rattle.stable_store.specs.declared.kept.Kept.{Kept}
use Rattle.guardian_laws.specs.Stored.{has_record}
use Rattle.layer_contracts.specs.declared.guardian.Fault.{Fault}
use Rattle.layer_contracts.specs.declared.guardian.Fault.TheVariants.{Memory, Stable}
use Rattle.guardian.specs.declared.writes.Write.{Write}
use Rattle.guardian.specs.declared.writes.Write.TheVariants.{Nothing, Prepare, Install, Discard, Decide, Recover}

-- the store is not called
abbrev pub is_nothing : Write → Bool
is_nothing Nothing = true
is_nothing _ = false

-- the store is read, and counts a recovery
abbrev pub is_recovery : Write → Bool
is_recovery Recover = true
is_recovery _ = false

-- what the store holds once it is made
abbrev pub written : Write → Stored → Stored
written Nothing s = s
written (Prepare top home parts) s = after_prepare top home parts.entries s
written (Install top) s = after_install top s
written (Discard top) s = after_discard top s
written (Decide top) s = after_decide top s
written Recover s = after_bump s

-- of a top action with a record, whose outcome is told
abbrev pub told_stored : Name → Bool → Stored → Stored
told_stored a committed s =
    if has_record s a
    then (if committed then after_install (last_of a) s else after_discard (last_of a) s) else s

-- the top action has a record in what is kept, if anything is
abbrev pub is_recorded : Option Kept → Name → Bool
is_recorded None a = false
is_recorded (Some kept) a = has_record (held kept) a

-- what the guardian answers where the store's call was refused so
abbrev pub fault_by : StoreFault → Fault
fault_by call.Memory = Memory
fault_by call.Failed = Stable
fault_by call.NotOurs = Stable
