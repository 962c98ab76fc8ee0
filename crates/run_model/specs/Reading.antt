-- Reading a text against its spelling, and the words that steps and operations begin with.
use Rattle.std.specs.Prelude.{ℕ, ℤ, FitsSigned, ◌≡◌, ◌≢◌, ◌⊎◌, ◌<◌, List, [], ◌∷◌, ◌++◌, length, slice_index, codes, decimal, Option, Some, None, Bool, true, false}
use Rattle.std.specs.Int.{w64}
use Rattle.action_names.specs.Names.{Name, IsName, IsComponent, name_text}
use Rattle.values.specs.declared.value.Value.{Value}
use Rattle.atomic_types.specs.Operations as op
use Rattle.atomic_types.specs.declared.operation.Form.{Form}
use Rattle.atomic_types.specs.declared.operation.Arguments.{Arguments}
use Rattle.atomic_types.specs.declared.operation.Arguments.TheVariants as with
use Rattle.atomic_types.specs.Operations.{AreArguments, IsOp, arguments_of, form_with, op_name}
use Rattle.run_model.specs.declared.step.ArmKind.{ArmKind}
use Rattle.run_model.specs.declared.step.ArmKind.TheVariants as arm
use Rattle.run_model.specs.declared.step.ObjectId.{ObjectId}
use Rattle.run_model.specs.declared.step.Step.{Step}
use Rattle.run_model.specs.declared.step.Step.TheVariants.{Top, NestedTop, Call, Arms, Op, Commit, Close, Prepare, Decide, Abort, Tell, Crash, Recover}
use Rattle.run_model.specs.Texts.{arguments_text, object_text, op_text, kinds_text, HasStepParts}

-- what a text is read as: a value that fits and is spelled so, and nothing where no value that fits is
abbrev pub Reads : {X : Type 0} → (X → Type 0) → (X → List ℕ) → List ℕ → Option X → Type 0
Reads {X} fits spelling text None = (x : X) → fits x → text ≢ spelling x
Reads {X} fits spelling text (Some x) = fits x × (text ≡ spelling x)

-- the bytes have no such byte
abbrev pub Lacks : ℕ → List ℕ → Type 0
Lacks mark bytes = (i : ℕ) → i < length bytes → slice_index bytes i ≢ mark

-- these are the bytes before the first mark, and those after it
pub record Cuts (mark : ℕ) (text front rest : List ℕ) : Type 0 where
  pub parts : text ≡ front ++ mark ∷ rest
  pub only : (a b : List ℕ) → Lacks mark a → text ≡ a ++ mark ∷ b → (front ≡ a) × (rest ≡ b)

abbrev pub IsIndex : ℤ → Type 0
IsIndex z = FitsSigned w64 z

abbrev pub IsObject : ObjectId → Type 0
IsObject x = IsComponent x.guardian × IsComponent x.number

-- what a text is read as that is two texts with a mark between them
abbrev pub ReadsBoth : {A B : Type 0} → ℕ → (A → Type 0) → (B → Type 0) → (A → List ℕ)
    → (B → List ℕ) → List ℕ → Option (A × B) → Type 0
ReadsBoth {A} {B} mark p q s t text None = (a : A) (b : B) → p a → q b → text ≢ s a ++ mark ∷ t b
ReadsBoth {A} {B} mark p q s t text (Some x) = p x.0 × q x.1 × (text ≡ s x.0 ++ mark ∷ t x.1)

-- what a text is read as that is a name, and the kinds of arms after it
abbrev pub ReadsArms : List ℕ → Option (Name × List ArmKind) → Type 0
ReadsArms text None = (a : Name) (kinds : List ArmKind) → IsName a
    → text ≢ name_text a ++ kinds_text kinds
ReadsArms text (Some x) = IsName x.0 × (text ≡ name_text x.0 ++ kinds_text x.1)

-- the front is the text up to its first space, or all of it
pub record IsFirstWord (text front : List ℕ) : Type 0 where
  pub is_front : (rest : List ℕ) × (text ≡ front ++ rest)
  pub only : (a b : List ℕ) → Lacks 32 a → text ≡ a ++ b
      → (b ≡ []) ⊎ (slice_index b 0 ≡ 32) → front ≡ a

-- the letter of a kind of arm
abbrev pub kind_letter : ArmKind → ℕ
kind_letter arm.Sub = 115
kind_letter arm.Top = 116

abbrev pub any_kinds : List ArmKind → Type 0
any_kinds kinds = Unit {0}

-- a text that is its own spelling
abbrev pub itself : List ℕ → List ℕ
itself text = text

-- the arguments of an operation, a space between two
abbrev pub op_arguments : op.Op → List ℕ
op_arguments o = arguments_text (arguments_of o)

-- whether there is no argument
abbrev pub is_nothing : Arguments (List ℕ) ℤ Value → Bool
is_nothing with.Nothing = true
is_nothing _ = false

-- arguments of this form, at least one
abbrev pub AreOfForm : Form → Arguments (List ℕ) ℤ Value → Type 0
AreOfForm form a = AreArguments a × (is_nothing a ≡ false) × (form_with a ≡ form)

-- whether an operation has no argument
abbrev pub is_bare : op.Op → Bool
is_bare o = is_nothing (arguments_of o)

abbrev pub IsBare : op.Op → Type 0
IsBare o = is_bare o ≡ true

-- an operation of this name with arguments
abbrev pub IsOpNamed : List ℕ → op.Op → Type 0
IsOpNamed word o = IsOp o × (is_bare o ≡ false) × (word ≡ op_name o)

-- the word that a step begins with
abbrev pub step_word : Step → List ℕ
step_word (Top g) = codes "top"
step_word (NestedTop a) = codes "nest"
step_word (Call a g) = codes "call"
step_word (Arms a kinds) = codes "arms"
step_word (Op a x wanted) = codes "op"
step_word (Commit a) = codes "commit"
step_word (Close t) = codes "close"
step_word (Prepare g t) = codes "prepare"
step_word (Decide t) = codes "decide"
step_word (Abort a) = codes "abort"
step_word (Tell g a) = codes "tell"
step_word (Crash g) = codes "crash"
step_word (Recover g) = codes "recover"

-- what follows that word and a space
abbrev pub step_arguments : Step → List ℕ
step_arguments (Top g) = decimal g
step_arguments (NestedTop a) = name_text a
step_arguments (Call a g) = name_text a ++ 32 ∷ decimal g
step_arguments (Arms a kinds) = name_text a ++ kinds_text kinds
step_arguments (Op a x wanted) = name_text a ++ 32 ∷ (object_text x ++ 32 ∷ op_text wanted)
step_arguments (Commit a) = name_text a
step_arguments (Close t) = name_text t
step_arguments (Prepare g t) = decimal g ++ 32 ∷ name_text t
step_arguments (Decide t) = name_text t
step_arguments (Abort a) = name_text a
step_arguments (Tell g a) = decimal g ++ 32 ∷ name_text a
step_arguments (Crash g) = decimal g
step_arguments (Recover g) = decimal g

-- a step that begins with this word
abbrev pub IsStepNamed : List ℕ → Step → Type 0
IsStepNamed word s = HasStepParts s × (word ≡ step_word s)
