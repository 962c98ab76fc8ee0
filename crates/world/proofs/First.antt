-- What stands before the first step.
use Rattle.std.proofs.Common.{List, None, Some, [], ap, ap₂, arith, get_or, inl, inr, length, map, refl, slice_get, subst, suc, sym, zero, ℕ, ◌+◌, ◌<◌, ◌∙◌, ◌∷◌, ◌≡◌, ◌++◌, ◌⊎◌}
use Rattle.std.specs.FinMap.{get-empty}
use Rattle.std.specs.FinSet.{contains-empty}
use Rattle.std.specs.List.{zip}
use Rattle.std.proofs.lemmas.List.{map-append}
use Rattle.std.specs.Ordering.{nat_cmp}
use Rattle.run_model.specs.Openings.{Opening, Setup, fresh}
use Rattle.stable_store.specs.Calls.{View}
use Rattle.stable_store.specs.Plain.{plain_view}
use Rattle.stable_store.specs.Stored.{empty}
use Rattle.stable_store.specs.declared.plain.PlainStable.{PlainStable}
use Rattle.volatile_state.specs.Memories.{InMemory}
use Rattle.guardian.specs.Guardians.{InParts, IsSettled, IsWhole}
use Rattle.registry.specs.Registries.{InRegistry, StandsIn}
use Rattle.world_steps.specs.Standings.{IsWorld}
use Rattle.world_steps.proofs.Places.{some_eq}
use Rattle.world.specs.Worlds.{AreEmpty, AreFirst, AreOpened, seen_of, store_in}

at_end : {X : Type 0} (xs : List X) (x : X) (i : ℕ) (y : X) → slice_get (xs ++ x ∷ []) i ≡ Some y → (slice_get xs i ≡ Some y) ⊎ ((i ≡ length xs) × (x ≡ y))
at_end [] x zero y h = inr (refl, some_eq x y h)
at_end [] x (suc i) y h = absurd (none y h)
  where
    none : {X : Type 0} (y : X) → None ≡ Some y → ⊥
    none y h = cc
at_end (z ∷ xs) x zero y h = inl h
at_end (z ∷ xs) x (suc i) y h = elim (at_end xs x i y h) [
  | inl p ↦ inl p
  | inr p ↦ inr (ap suc p.0, p.1)
]

-- one element more
pub each_more : {X : Type 0} (P : ℕ → X → Type 0) (xs xs' : List X) (x : X) → xs' ≡ xs ++ x ∷ [] → ((i : ℕ) (y : X) → slice_get xs i ≡ Some y → P i y) → P (length xs) x
    → (i : ℕ) (y : X) → slice_get xs' i ≡ Some y → P i y
each_more P xs xs' x e each new i y h = elim (at_end xs x i y (sym (ap (λ l. slice_get l i) e) ∙ h)) [
  | inl p ↦ each i y p
  | inr p ↦ subst (λ u. P i u) p.1 (subst (λ n. P n x) (sym p.0) new)
]

pub nothing_settled : (setup : Setup) (g : ℕ) → IsSettled (fresh setup) g empty
nothing_settled setup g = record { base = λ n. get-empty nat_cmp n; prepared = refl; decided = λ n. contains-empty nat_cmp n; count = refl; next_top = refl }

-- stores in memory that are empty
pub opened_empty : (setup : Setup) (stores : List PlainStable) → AreEmpty stores → AreOpened plain_view (fresh setup) stores
opened_empty setup stores h = record {
  found = λ i s p. refl;
  rests = λ i s p trusted up left leaves. leaves;
  settled = λ i s p. subst (λ content. IsSettled (fresh setup) (i + 1) content) (sym (h i s p)) (nothing_settled setup (i + 1));
}

module _ {S : Type 0} where
  -- the memory and the store that come in one turn
  pub pair_at : (ms : List InMemory) (ss : List S) (i : ℕ) (p : InMemory × S) → i < length (zip ms ss) → p ≡ get_or (zip ms ss) i p
      → (slice_get ms i ≡ Some p.0) × (slice_get ss i ≡ Some p.1)
  pair_at [] ss i p lt h = absurd (omega arith)
  pair_at (m ∷ ms) [] i p lt h = absurd (omega arith)
  pair_at (m ∷ ms) (s ∷ ss) zero p lt h = (ap (λ q. Some q.0) (sym h), ap (λ q. Some q.1) (sym h))
  pair_at (m ∷ ms) (s ∷ ss) (suc i) p lt h = pair_at ms ss i p (omega arith) h

  stores_of : (ms : List InMemory) (ss : List S) → length ss ≡ length ms → map (λ (p : InMemory × S). p.1) (zip ms ss) ≡ ss
  stores_of [] [] e = refl
  stores_of [] (s ∷ ss) e = absurd (omega arith)
  stores_of (m ∷ ms) [] e = absurd (omega arith)
  stores_of (m ∷ ms) (s ∷ ss) e = ap (λ l. s ∷ l) (stores_of ms ss (omega arith))

  store_of_pairs : (ps : List (InMemory × S)) → map (λ (p : InMemory × S). p.1) ps ≡ map (λ (p : InMemory × S). p.1) (map (λ (p : InMemory × S). (p.0, p.1)) ps)
  store_of_pairs [] = refl
  store_of_pairs (p ∷ ps) = ap (λ l. p.1 ∷ l) (store_of_pairs ps)

  -- those that came are all stores
  pub all_stores : (ms : List InMemory) (ss : List S) (ps : List (InMemory × S)) → length ss ≡ length ms → map (λ (p : InMemory × S). (p.0, p.1)) ps ≡ zip ms ss
      → map (λ (p : InMemory × S). p.1) ps ≡ ss
  all_stores ms ss ps e h = store_of_pairs ps ∙ ap (λ qs. map (λ (p : InMemory × S). p.1) qs) h ∙ stores_of ms ss e

  -- one guardian more
  pub stores_more : (gs gs' : List (InParts S)) (g : InParts S) (ps : List (InMemory × S)) (p : InMemory × S) → gs' ≡ gs ++ g ∷ []
      → map store_in gs ≡ map (λ (q : InMemory × S). q.1) ps → g.store ≡ p.1 → map store_in gs' ≡ map (λ (q : InMemory × S). q.1) (ps ++ p ∷ [])
  stores_more gs gs' g ps p e h s =
      ap (λ l. map store_in l) e ∙ map-append store_in gs (g ∷ []) ∙ ap₂ (λ l x. l ++ x ∷ []) h s ∙ sym (map-append (λ (q : InMemory × S). q.1) ps (p ∷ []))

  pub stands_first : (seen : S → View) (opening : Opening) (registry : InRegistry) (gs : List (InParts S))
      → StandsIn registry (record { opening = opening; registry = [] }) → AreFirst seen opening gs
      → IsWorld (λ g s. IsWhole seen g s) (λ g. seen_of seen g) (λ f. StandsIn registry f) opening [] gs
  stands_first seen opening registry gs r f =
      record { is_run = tt; forest = r; count = f.count; each = f.each; stores = λ i g at. (f.each i g at).store }
