use Rattle.store_writing.proofs.OtherErrors.{other_error}
use Rattle.store_writing.proofs.faults.fault_of.Goals as goal

pub returns-in_default-clause-fault : goal.returns-in_default-clause-fault
returns-in_default-clause-fault c = other_error c.args.error (λ k. c.in_default.not-SqliteFailure k) (λ r. c.in_default.not-SqlInputError r)
