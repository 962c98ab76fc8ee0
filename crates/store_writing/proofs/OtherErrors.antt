-- Errors that do not say that memory ran out.
use Rattle.std.proofs.Common.{◌≡◌, refl}
use Rattle.sqlite.specs.declared.error.Error.{Error}
use Rattle.sqlite.specs.declared.error.Error.TheVariants.{SqliteFailure, SqlInputError}
use Rattle.sqlite.specs.declared.error.ErrorCode.{ErrorCode}
use Rattle.sqlite.specs.declared.error.ErrorCode.TheVariants as code
use Rattle.sqlite_resolve.specs.declared.error.CompileError.{CompileError}
use Rattle.sqlite_resolve.specs.declared.error.CompileError.TheVariants as refusal
use Rattle.stable_store.specs.declared.fault.StoreFault.TheVariants.{Failed}
use Rattle.store_writing.specs.Faults.{fault_of, fault_of_code, fault_of_refusal}

pub other_code : (c : ErrorCode) → (c ≡ code.OutOfMemory → ⊥) → Failed ≡ fault_of_code c
other_code code.OutOfMemory other = absurd (other refl)
other_code _ other = refl

pub other_refusal : (r : CompileError) → (r ≡ refusal.OutOfMemory → ⊥) → Failed ≡ fault_of_refusal r
other_refusal refusal.OutOfMemory other = absurd (other refl)
other_refusal _ other = refl

pub other_error : (e : Error) → ((c : ErrorCode) → e ≡ SqliteFailure c → ⊥) → ((r : CompileError) → e ≡ SqlInputError r → ⊥)
    → Failed ≡ fault_of e
other_error (SqliteFailure c) failed refused = absurd (failed c refl)
other_error (SqlInputError r) failed refused = absurd (refused r refl)
other_error _ failed refused = refl
