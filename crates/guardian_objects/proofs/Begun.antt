-- Objects of which nobody holds anything yet.
use Rattle.std.proofs.Common.{Bool, List, None, Option, Some, [], ap, false, inl, inr, length, refl, subst, suc, sym, true, zero, ℕ, ◌++◌, ◌∙◌, ◌∷◌, ◌≡◌, ◌≤◌, ◌⊎◌}
use Rattle.std.specs.Prelude.{slice_get}
use Rattle.std.proofs.lemmas.Option.{none-some, same_Some}
use Rattle.action_names.specs.Names.{Name}
use Rattle.run_model.specs.Openings.{Opening, first_content, objects_at}
use Rattle.object_laws.specs.Changes.{given}
use Rattle.object_laws.specs.Shown.{Shows}
use Rattle.object_model.specs.Objects.{untouched}
use Rattle.atomic_object.specs.Kept.{Kept, seen}
use Rattle.guardian_objects.specs.Objects.{AreObjects, holds_at, holds_of, object_at}
use Rattle.guardian_objects.proofs.Holding.{held_shown}

-- each shows that nothing is kept
abbrev pub HaveBegun : Opening → ℕ → List Kept → Type 0
HaveBegun opening g os = (n : ℕ) (k : Kept) → object_at os n ≡ Some k → Shows (first_content opening (record { guardian = g; number = n })) (given (λ b. false) []) (seen k)

-- each is as nobody touched it
abbrev pub AreUntouched : Opening → ℕ → List Kept → Type 0
AreUntouched opening g os = (n : ℕ) (k : Kept) → object_at os n ≡ Some k → seen k ≡ untouched (first_content opening (record { guardian = g; number = n }))

pub none_there : (P : ℕ → Kept → Type 0) (n : ℕ) (k : Kept) → object_at [] n ≡ Some k → P n k
none_there P zero k e = absurd (none-some k e)
none_there P (suc n) k e = absurd (none-some k e)

last_or_before : (os : List Kept) (k : Kept) (i : ℕ) (x : Kept) → slice_get (os ++ k ∷ []) i ≡ Some x → (slice_get os i ≡ Some x) ⊎ ((i ≡ length os) × (k ≡ x))
last_or_before [] k zero x e = inr (refl, same_Some k x e)
last_or_before [] k (suc i) x e = absurd (none-some x e)
last_or_before (y ∷ os) k zero x e = inl e
last_or_before (y ∷ os) k (suc i) x e = elim (last_or_before os k i x e) [
  | inl q ↦ inl q
  | inr q ↦ inr (ap suc q.0, q.1)
]

-- one object more, of the next number
pub one_more : (P : ℕ → Kept → Type 0) (os more : List Kept) (k : Kept) (n : ℕ) → more ≡ os ++ k ∷ [] → n ≡ suc (length os) → P n k
    → ((i : ℕ) (x : Kept) → object_at os i ≡ Some x → P i x) → (i : ℕ) (x : Kept) → object_at more i ≡ Some x → P i x
one_more P os more k n pushed number is have i x e = all i (sym (ap (λ l. object_at l i) pushed) ∙ e)
  where
    all : (j : ℕ) → object_at (os ++ k ∷ []) j ≡ Some x → P j x
    all zero at = absurd (none-some x at)
    all (suc j) at = elim (last_or_before os k j x at) [
      | inl q ↦ have (suc j) x q
      | inr q ↦ subst (λ y. P (suc j) y) q.1 (subst (λ m. P m k) (number ∙ ap suc (sym q.0)) is)
    ]

-- so they are those of a history in which nothing happened
pub begun_stands : {renames : Bool} → (opening : Opening) (g : ℕ) (os : List Kept) → 1 ≤ g → length os ≡ length (objects_at opening.setup g) → HaveBegun opening g os
    → AreObjects opening [] (record { guardian = g; objects = os; held = []; renames = renames })
begun_stands opening g os low count have = record {
  guardian = low;
  count = count;
  shown = λ n k e. have n k e;
  index = λ a n. of a n (object_at os n) refl;
}
  where
    of : (a : Name) (n : ℕ) (o : Option Kept) → object_at os n ≡ o → false ≡ holds_at os a n
    of a n None e = sym (ap (λ x. holds_of true x a) e)
    of a n (Some k) e =
        sym (ap (λ x. holds_of true x a) e
        ∙ held_shown (first_content opening (record { guardian = g; number = n })) (given (λ b. false) []) (seen k) a (have n k e))
