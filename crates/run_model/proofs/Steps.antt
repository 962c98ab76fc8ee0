-- The arguments of an operation's step, which are read one after the other.
use Rattle.std.proofs.Common.{◌≢◌, ℕ, List, ◌∷◌, ◌++◌, get_or, None, ap, codes, arith}
use Rattle.action_names.specs.Names.{Name, IsName, name_text}
use Rattle.atomic_types.specs.Operations as op
use Rattle.atomic_types.specs.Operations.{IsOp}
use Rattle.run_model.specs.declared.step.ObjectId.{ObjectId}
use Rattle.run_model.specs.declared.step.Step.TheVariants.{Top, NestedTop, Call, Arms, Op, Commit, Close, Prepare, Decide, Abort, Tell, Crash, Recover}
use Rattle.run_model.specs.Texts.{object_text, op_text}
use Rattle.run_model.specs.Reading.{Reads, Lacks, Cuts, IsObject, IsStepNamed, step_arguments}
use Rattle.run_model.specs.Spaces.{name_lacks_space, object_lacks_space}

-- a step that begins with that word is an operation
no_op : (text : List ℕ) → ((a : Name) (x : ObjectId) (wanted : op.Op) → IsName a → IsObject x → IsOp wanted → text ≢ name_text a ++ 32 ∷ (object_text x ++ 32 ∷ op_text wanted))
    → Reads (IsStepNamed (codes "op")) step_arguments text None
no_op text none (Op a x wanted) fits e = none a x wanted fits.0.0 (fits.0.1, fits.0.2) fits.0.3 e
no_op text none (Top g) fits e = absurd (omega (arith, ap (λ t. get_or t 0 0) fits.1))
no_op text none (NestedTop a) fits e = absurd (omega (arith, ap (λ t. get_or t 0 0) fits.1))
no_op text none (Call a g) fits e = absurd (omega (arith, ap (λ t. get_or t 0 0) fits.1))
no_op text none (Arms a kinds) fits e = absurd (omega (arith, ap (λ t. get_or t 0 0) fits.1))
no_op text none (Commit a) fits e = absurd (omega (arith, ap (λ t. get_or t 0 0) fits.1))
no_op text none (Close t) fits e = absurd (omega (arith, ap (λ t. get_or t 0 0) fits.1))
no_op text none (Prepare g t) fits e = absurd (omega (arith, ap (λ t. get_or t 0 0) fits.1))
no_op text none (Decide t) fits e = absurd (omega (arith, ap (λ t. get_or t 0 0) fits.1))
no_op text none (Abort a) fits e = absurd (omega (arith, ap (λ t. get_or t 0 0) fits.1))
no_op text none (Tell g a) fits e = absurd (omega (arith, ap (λ t. get_or t 0 0) fits.1))
no_op text none (Crash g) fits e = absurd (omega (arith, ap (λ t. get_or t 0 0) fits.1))
no_op text none (Recover g) fits e = absurd (omega (arith, ap (λ t. get_or t 0 0) fits.1))

-- no space, no name, no space after the name, no object, no operation
pub op_uncut : (text : List ℕ) → ((a b : List ℕ) → Lacks 32 a → text ≢ a ++ 32 ∷ b) → Reads (IsStepNamed (codes "op")) step_arguments text None
op_uncut text uncut = no_op text (λ a x wanted f g h e. uncut (name_text a) (object_text x ++ 32 ∷ op_text wanted) (name_lacks_space a f) e)

pub op_unnamed : (text front rest : List ℕ) → Cuts 32 text front rest → Reads IsName name_text front None → Reads (IsStepNamed (codes "op")) step_arguments text None
op_unnamed text front rest cut none =
    no_op text (λ a x wanted f g h e. none a f (cut.only (name_text a) (object_text x ++ 32 ∷ op_text wanted) (name_lacks_space a f) e).0)

-- what follows the name
op_behind : (text front rest : List ℕ) → Cuts 32 text front rest → ((x : ObjectId) (wanted : op.Op) → IsObject x → IsOp wanted → rest ≢ object_text x ++ 32 ∷ op_text wanted)
    → Reads (IsStepNamed (codes "op")) step_arguments text None
op_behind text front rest cut none =
    no_op text (λ a x wanted f g h e. none x wanted g h (cut.only (name_text a) (object_text x ++ 32 ∷ op_text wanted) (name_lacks_space a f) e).1)

pub op_short : (text front rest : List ℕ) → Cuts 32 text front rest → ((a b : List ℕ) → Lacks 32 a → rest ≢ a ++ 32 ∷ b) → Reads (IsStepNamed (codes "op")) step_arguments text None
op_short text front rest cut uncut = op_behind text front rest cut (λ x wanted g h e. uncut (object_text x) (op_text wanted) (object_lacks_space x g) e)

pub op_nowhere : (text front rest object asked : List ℕ) → Cuts 32 text front rest → Cuts 32 rest object asked → Reads IsObject object_text object None
    → Reads (IsStepNamed (codes "op")) step_arguments text None
op_nowhere text front rest object asked cut again none =
    op_behind text front rest cut (λ x wanted g h e. none x g (again.only (object_text x) (op_text wanted) (object_lacks_space x g) e).0)

pub op_unknown : (text front rest object asked : List ℕ) → Cuts 32 text front rest → Cuts 32 rest object asked → Reads IsOp op_text asked None
    → Reads (IsStepNamed (codes "op")) step_arguments text None
op_unknown text front rest object asked cut again none =
    op_behind text front rest cut (λ x wanted g h e. none wanted h (again.only (object_text x) (op_text wanted) (object_lacks_space x g) e).1)
