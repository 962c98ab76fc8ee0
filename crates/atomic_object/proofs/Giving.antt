-- An object that was given one part more.
use Rattle.std.proofs.Common.{◌≡◌, ℤ, Bool, true, false, List, [], ◌∷◌, Option, Some, None, inl, inr, refl, sym, ap, ap₂, subst, ◌∙◌, arith}
use Rattle.std.specs.Prelude.{Result, Ok, Err, OnOk, is_some, pos, ◌||◌, if◌then◌else◌}
use Rattle.action_names.specs.Names.{Name, has_name, same_name}
use Rattle.values.specs.declared.content.Content.{Content}
use Rattle.atomic_types.specs.declared.op.Class.TheVariants.{Write}
use Rattle.atomic_types.specs.declared.op.Class.TheVariants as class
use Rattle.atomic_types.specs.declared.part.Part.{Part}
use Rattle.atomic_types.specs.declared.part.Part.TheVariants.{Value, Delta}
use Rattle.atomic_types.specs.Counters.{sum_of}
use Rattle.local_laws.specs.Reopened.{MayStand}
use Rattle.object_model.specs.Stacks.{RisesByAncestry, Stack, version_at}
use Rattle.object_model.specs.Deltas.{HasDelta, delta_at, more_at, with_more}
use Rattle.object_model.specs.Locks.{Locks, granted}
use Rattle.object_model.specs.Objects.{IsRestored, NamesRise, Seen, delta_in}
use Rattle.object_laws.proofs.Names.{has_insert}

-- whoever is the one or has something already
or_some : {X : Type 0} (t : Bool) (o : Option X) (x : X) → (t || is_some o) ≡ is_some (if t then Some x else o)
or_some true o x = refl
or_some false o x = refl

-- a value stands alone
alone : (a : Name) (v : Content) (parts : List (Name × Part)) → MayStand ((a, Value v) ∷ parts) → parts ≡ []
alone a v [] h = refl
alone a v (r ∷ parts) (inl few) = absurd (omega arith)
alone a v (r ∷ parts) (inr all) = absurd all.0

-- a value was given to an object of which nothing was given before
value_first : (c : Content) (a : Name) (v : Content) (old new : Seen) → IsRestored c [] old
    → new.stack ≡ record { base = old.stack.base; versions = (a, v) ∷ [] } → new.deltas ≡ old.deltas → new.locks ≡ granted old.locks a Write
    → IsRestored c ((a, Value v) ∷ []) new
value_first c a v old new is stack deltas locks = record {
  base = ap (λ (s : Stack Content). s.base) stack ∙ is.base;
  versions = λ b. ap (λ (s : Stack Content). version_at s.versions b) stack;
  chain = subst (λ (s : Stack Content). RisesByAncestry s.versions) (sym stack) tt;
  deltas = λ b. ap (λ ds. delta_at ds b) deltas ∙ is.deltas b;
  rising = subst (λ ds. NamesRise ds) (sym deltas) is.rising;
  readers = ap (λ (l : Locks). l.readers) locks ∙ is.readers;
  writers = λ b.
      ap (λ (l : Locks). has_name l.writers b) locks ∙ has_insert a b old.locks.writers ∙ ap (λ t. same_name a b || t) (is.writers b) ∙ or_some (same_name a b) None v;
  adders = λ b. ap (λ (l : Locks). has_name l.adders b) locks ∙ is.adders b;
}

pub value_given : (c : Content) (parts : List (Name × Part)) (a : Name) (v : Content) (old new : Seen) → MayStand ((a, Value v) ∷ parts) → IsRestored c parts old
    → new.stack ≡ record { base = old.stack.base; versions = (a, v) ∷ [] } → new.deltas ≡ old.deltas → new.locks ≡ granted old.locks a Write
    → IsRestored c ((a, Value v) ∷ parts) new
value_given c parts a v old new stand is stack deltas locks =
    let none = alone a v parts stand in
    subst (λ ps. IsRestored c ((a, Value v) ∷ ps) new) (sym none) (value_first c a v old new (subst (λ ps. IsRestored c ps old) none is) stack deltas locks)

pub delta_given : (c : Content) (parts : List (Name × Part)) (a : Name) (z : ℤ) (old new : Seen) → IsRestored c parts old → delta_at old.deltas a ≡ None
    → new.stack ≡ old.stack → HasDelta old.deltas new.deltas a (more_at old.deltas a z) → NamesRise new.deltas → new.locks ≡ granted old.locks a class.Add
    → IsRestored c ((a, Delta z) ∷ parts) new
delta_given c parts a z old new is none stack deltas rising locks = record {
  base = ap (λ (s : Stack Content). s.base) stack ∙ is.base;
  versions = λ b. ap (λ (s : Stack Content). version_at s.versions b) stack ∙ is.versions b;
  chain = subst (λ (s : Stack Content). RisesByAncestry s.versions) (sym stack) is.chain;
  deltas = λ b. deltas b ∙ ap₂ (λ o d. if same_name a b then with_more o (Some z) else d) none (is.deltas b);
  rising = rising;
  readers = ap (λ (l : Locks). l.readers) locks ∙ is.readers;
  writers = λ b. ap (λ (l : Locks). has_name l.writers b) locks ∙ is.writers b;
  adders = λ b.
      ap (λ (l : Locks). has_name l.adders b) locks ∙ has_insert a b old.locks.adders ∙ ap (λ t. same_name a b || t) (is.adders b)
      ∙ or_some (same_name a b) (delta_in parts b) (sum_of (pos 0) z);
}

-- what holds after success
pub on_ok : {X Y P Q : Type 0} (r : Result X Y) → OnOk r P → (P → Q) → OnOk r Q
on_ok (Ok x) h f = f h
on_ok (Err y) h f = h

pub both_ok : {X Y : Type 0} (P Q : Type 0) (r : Result X Y) → OnOk r P → OnOk r Q → OnOk r (P × Q)
both_ok P Q (Ok x) h k = (h, k)
both_ok P Q (Err y) h k = h
