use Rattle.store_writing.proofs.OtherErrors.{other_refusal}
use Rattle.store_writing.proofs.faults.fault_of_refusal.Goals as goal

pub returns-in_default-clause-fault : goal.returns-in_default-clause-fault
returns-in_default-clause-fault c = other_refusal c.args.refusal c.in_default.not-OutOfMemory
