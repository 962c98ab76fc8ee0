-- The table of operations: names are told apart by their texts, and an operation is put together again from its name and its arguments.
use Rattle.std.proofs.Common.{◌≡◌, ℕ, Bool, true, false, List, [], ◌∷◌, Some, None, refl, sym, ap, subst, ◌∙◌}
use Rattle.std.specs.Prelude.{find}
use Rattle.std.proofs.lemmas.Slice.Eq.{slice_eq-Decides}
use Rattle.std.proofs.lemmas.Bool.Decides.{Decides-eqb}
use Rattle.values.specs.Words.{same_bytes}
use Rattle.atomic_types.specs.declared.operation.Operation.{Operation}
use Rattle.atomic_types.specs.declared.operation.Operation.TheVariants.{Get, Set, Low, High, Size, Fetch, Store, AddHigh, AddLow, RemoveHigh, RemoveLow, Is, ValueOf, Change, Total, Put, Add}
use Rattle.atomic_types.specs.declared.operation.OpName.{OpName}
use Rattle.atomic_types.specs.declared.operation.OpName.TheVariants as name
use Rattle.atomic_types.specs.declared.operation.Arguments.{Arguments}
use Rattle.atomic_types.specs.declared.operation.Arguments.TheVariants as with
use Rattle.atomic_types.specs.declared.operation.Form.TheVariants as form
use Rattle.atomic_types.specs.Operations.{all_names, arguments_of, form_of, form_with, name_of, word_of, named, operation_of}

-- an operation takes the arguments of its name
pub forms_agree : {I V : Type 0} (o : Operation I V) → form_with (arguments_of o) ≡ form_of (name_of o)
forms_agree (Get field) = refl
forms_agree _ = refl

pub put_together : {I V : Type 0} (o : Operation I V) → operation_of (name_of o) (arguments_of o) ≡ Some o
put_together (Get field) = refl
put_together _ = refl

the_same : {I V : Type 0} (x o : Operation I V) → Some x ≡ Some o → (name_of o ≡ name_of x) × (arguments_of o ≡ arguments_of x)
the_same x o e = let same : o ≡ x = cc in (ap name_of same, ap arguments_of same)

pub taken_apart : {I V : Type 0} (n : OpName) (a : Arguments (List ℕ) I V) (o : Operation I V) → operation_of n a ≡ Some o → (name_of o ≡ n) × (arguments_of o ≡ a)
taken_apart name.Low with.Nothing o e = the_same Low o e
taken_apart name.High with.Nothing o e = the_same High o e
taken_apart name.Size with.Nothing o e = the_same Size o e
taken_apart name.RemoveHigh with.Nothing o e = the_same RemoveHigh o e
taken_apart name.RemoveLow with.Nothing o e = the_same RemoveLow o e
taken_apart name.Total with.Nothing o e = the_same Total o e
taken_apart name.Get (with.Word field) o e = the_same (Get field) o e
taken_apart name.Is (with.Word tag) o e = the_same (Is tag) o e
taken_apart name.ValueOf (with.Word tag) o e = the_same (ValueOf tag) o e
taken_apart name.Set (with.WordValue field v) o e = the_same (Set field v) o e
taken_apart name.Change (with.WordValue tag v) o e = the_same (Change tag v) o e
taken_apart name.Fetch (with.Index index) o e = the_same (Fetch index) o e
taken_apart name.Store (with.IndexValue index v) o e = the_same (Store index v) o e
taken_apart name.AddHigh (with.Value v) o e = the_same (AddHigh v) o e
taken_apart name.AddLow (with.Value v) o e = the_same (AddLow v) o e
taken_apart name.Put (with.Value v) o e = the_same (Put v) o e
taken_apart name.Add (with.Value v) o e = the_same (Add v) o e
taken_apart _ _ o e = absurd cc

-- a name takes all arguments of its form
pub takes_form : {I V : Type 0} (a : Arguments (List ℕ) I V) (n : OpName) → form_with a ≡ form_of n → operation_of n a ≡ None → ⊥
takes_form with.Nothing name.Low f e = cc
takes_form with.Nothing _ f e = cc
takes_form (with.Word w) name.Get f e = cc
takes_form (with.Word w) _ f e = cc
takes_form (with.WordValue w v) name.Set f e = cc
takes_form (with.WordValue w v) _ f e = cc
takes_form (with.Index i) name.Fetch f e = cc
takes_form (with.Index i) _ f e = cc
takes_form (with.IndexValue i v) name.Store f e = cc
takes_form (with.IndexValue i v) _ f e = cc
takes_form (with.Value v) name.Add f e = cc
takes_form (with.Value v) _ f e = cc

-- and no arguments of another form
pub unfit : {I V : Type 0} (n : OpName) (a : Arguments (List ℕ) I V) → (form_with a ≡ form_of n → ⊥) → None ≡ operation_of n a
unfit name.Low with.Nothing other = absurd (other refl)
unfit name.High with.Nothing other = absurd (other refl)
unfit name.Size with.Nothing other = absurd (other refl)
unfit name.RemoveHigh with.Nothing other = absurd (other refl)
unfit name.RemoveLow with.Nothing other = absurd (other refl)
unfit name.Total with.Nothing other = absurd (other refl)
unfit name.Get (with.Word field) other = absurd (other refl)
unfit name.Is (with.Word tag) other = absurd (other refl)
unfit name.ValueOf (with.Word tag) other = absurd (other refl)
unfit name.Set (with.WordValue field v) other = absurd (other refl)
unfit name.Change (with.WordValue tag v) other = absurd (other refl)
unfit name.Fetch (with.Index index) other = absurd (other refl)
unfit name.Store (with.IndexValue index v) other = absurd (other refl)
unfit name.AddHigh (with.Value v) other = absurd (other refl)
unfit name.AddLow (with.Value v) other = absurd (other refl)
unfit name.Put (with.Value v) other = absurd (other refl)
unfit name.Add (with.Value v) other = absurd (other refl)
unfit _ _ other = refl

-- arguments that are no such have another form
pub not_nothing : {I V : Type 0} (a : Arguments (List ℕ) I V) → (a ≡ with.Nothing → ⊥) → form_with a ≡ form.Nothing → ⊥
not_nothing with.Nothing other e = other refl
not_nothing _ other e = cc

pub not_word : {I V : Type 0} (a : Arguments (List ℕ) I V) → ((w : List ℕ) → a ≡ with.Word w → ⊥) → form_with a ≡ form.Word → ⊥
not_word (with.Word w) other e = other w refl
not_word _ other e = cc

pub not_word_value : {I V : Type 0} (a : Arguments (List ℕ) I V) → ((w : List ℕ) (v : V) → a ≡ with.WordValue w v → ⊥) → form_with a ≡ form.WordValue → ⊥
not_word_value (with.WordValue w v) other e = other w v refl
not_word_value _ other e = cc

pub not_index : {I V : Type 0} (a : Arguments (List ℕ) I V) → ((i : I) → a ≡ with.Index i → ⊥) → form_with a ≡ form.Index → ⊥
not_index (with.Index i) other e = other i refl
not_index _ other e = cc

pub not_index_value : {I V : Type 0} (a : Arguments (List ℕ) I V) → ((i : I) (v : V) → a ≡ with.IndexValue i v → ⊥) → form_with a ≡ form.IndexValue → ⊥
not_index_value (with.IndexValue i v) other e = other i v refl
not_index_value _ other e = cc

pub not_value : {I V : Type 0} (a : Arguments (List ℕ) I V) → ((v : V) → a ≡ with.Value v → ⊥) → form_with a ≡ form.Value → ⊥
not_value (with.Value v) other e = other v refl
not_value _ other e = cc

-- each name is read back from its word
pub named_word : (n : OpName) → named (word_of n) ≡ Some n
named_word name.Get = refl
named_word _ = refl

-- a name has one word
pub same_names : (n m : OpName) → word_of n ≡ word_of m → n ≡ m
same_names n m e = let found : Some n ≡ Some m = sym (named_word n) ∙ ap named e ∙ named_word m in cc

found_passes : (passes : OpName → Bool) (names : List OpName) (n : OpName) → find passes names ≡ Some n → passes n ≡ true
found_passes passes [] n e = absurd cc
found_passes passes (m ∷ names) n e = go (passes m) refl (found_passes passes names n)
  where
    go : (b : Bool) → passes m ≡ b → (find passes names ≡ Some n → passes n ≡ true) → passes n ≡ true
    go true is others = let found : Some m ≡ Some n = sym (simp (is)) ∙ e in let same : m ≡ n = cc in subst (λ k. passes k ≡ true) same is
    go false is others = others (sym (simp (is)) ∙ e)

pub word_of_named : (text : List ℕ) (n : OpName) → named text ≡ Some n → text ≡ word_of n
word_of_named text n e =
    sym ((slice_eq-Decides Decides-eqb (word_of n) text (same_bytes (word_of n) text) refl).0 (found_passes (λ m. same_bytes (word_of m) text) all_names n e))
