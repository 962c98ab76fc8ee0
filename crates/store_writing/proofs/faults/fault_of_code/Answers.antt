use Rattle.store_writing.proofs.OtherErrors.{other_code}
use Rattle.store_writing.proofs.faults.fault_of_code.Goals as goal

pub returns-in_default-clause-fault : goal.returns-in_default-clause-fault
returns-in_default-clause-fault c = other_code c.args.code c.in_default.not-OutOfMemory
