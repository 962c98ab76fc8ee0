-- What the results of transactions say.
use Rattle.std.specs.Prelude.{Bool, true, false, Result, Ok, Err}
use Rattle.run_model.specs.declared.answer.Refusal.{Refusal}
use Rattle.run_model.specs.declared.answer.Refusal.TheVariants as why
use Rattle.service.specs.declared.fault.CallFault.{CallFault}
use Rattle.service.specs.declared.fault.CallFault.TheVariants.{Refused, Waits, Failed}
use Rattle.service.specs.declared.outcome.Outcome.{Outcome}
use Rattle.service.specs.declared.outcome.Outcome.TheVariants.{Committed, Aborted}

-- whether a top action was decided
abbrev pub is_decided : Result Bool CallFault → Bool
is_decided (Ok committed) = committed
is_decided (Err fault) = false

-- whether it says that the top action has committed
abbrev pub has_committed : {T E : Type 0} → Outcome T E → Bool
has_committed (Committed x) = true
has_committed (Aborted why) = false

-- what passes without the caller's help: an orphan's call is made anew by another action, and guardians recover
abbrev pub refusal_passes : Refusal → Bool
refusal_passes why.Orphan = true
refusal_passes why.Gone = true
refusal_passes why.Down = true
refusal_passes why.Unready = true
refusal_passes _ = false

abbrev pub fault_passes : CallFault → Bool
fault_passes (Refused reason) = refusal_passes reason
fault_passes (Waits names) = true
fault_passes (Failed fault) = true
