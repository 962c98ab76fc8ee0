-- The faults that errors of the database are to a caller: memory ran out, or the database failed.
use Rattle.sqlite.specs.declared.error.Error.{Error}
use Rattle.sqlite.specs.declared.error.Error.TheVariants.{SqliteFailure, SqlInputError}
use Rattle.sqlite.specs.declared.error.ErrorCode.{ErrorCode}
use Rattle.sqlite.specs.declared.error.ErrorCode.TheVariants as code
use Rattle.sqlite_resolve.specs.declared.error.CompileError.{CompileError}
use Rattle.sqlite_resolve.specs.declared.error.CompileError.TheVariants as refusal
use Rattle.stable_store.specs.declared.fault.StoreFault.{StoreFault}
use Rattle.stable_store.specs.declared.fault.StoreFault.TheVariants.{Memory, Failed}

abbrev pub fault_of_code : ErrorCode → StoreFault
fault_of_code code.OutOfMemory = Memory
fault_of_code _ = Failed

-- of a statement that was not understood
abbrev pub fault_of_refusal : CompileError → StoreFault
fault_of_refusal refusal.OutOfMemory = Memory
fault_of_refusal _ = Failed

abbrev pub fault_of : Error → StoreFault
fault_of (SqliteFailure c) = fault_of_code c
fault_of (SqlInputError r) = fault_of_refusal r
fault_of _ = Failed
