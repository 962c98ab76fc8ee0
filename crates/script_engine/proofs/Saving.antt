-- Bases saved one after another.
use Rattle.std.proofs.Common.{Err, IsErrAnd, List, Ok, Result, [], ap, arith, get_or, inl, inr, length, map, refl, set, suc, sym, take, zero, ℕ, ◌+◌, ◌<◌, ◌∙◌, ◌∷◌, ◌≡◌}
use Rattle.std.specs.Prelude.{IsErrOf, ◌⊎◌}
use Rattle.std.proofs.lemmas.List.{get_or-map, map-set, set-get_or}
use Rattle.values.specs.declared.content.Content.{Content}
use Rattle.stable_store.specs.Stored.{Stored, after_save}
use Rattle.stable_store.specs.Calls.{IsExcused}
use Rattle.stable_store.specs.declared.fault.StoreFault.{StoreFault}
use Rattle.stable_store.specs.declared.fault.StoreFault.TheVariants as store
use Rattle.argus_engine.specs.declared.engine.Fault.{Fault}
use Rattle.argus_engine.specs.declared.engine.Fault.TheVariants.{Store}
use Rattle.argus_engine.specs.Serving.{fault_of}
use Rattle.script_engine.specs.Storing.{saved}

abbrev Bases : Type 0
Bases = List (ℕ × Content)

-- the store that comes next is saved
saved_next : (i : ℕ) (bases : List Bases) (stores : List Stored) (b : Bases) (s : Stored) → i < length bases → i < length stores
    → set (saved (take i bases) stores) i (after_save (get_or bases i b) (get_or (saved (take i bases) stores) i s))
    ≡ saved (take (suc i) bases) stores
saved_next i [] stores b s lt lt' = absurd (none lt)
  where
    none : {n : ℕ} → n < 0 → ⊥
    none lt = omega (arith, lt)
saved_next i (x ∷ bases) [] b s lt lt' = absurd (none lt')
  where
    none : {n : ℕ} → n < 0 → ⊥
    none lt = omega (arith, lt)
saved_next zero (x ∷ bases) (y ∷ stores) b s lt lt' = refl
saved_next (suc i) (x ∷ bases) (y ∷ stores) b s lt lt' =
    ap (λ l. after_save x y ∷ l) (saved_next i bases stores b s (omega (arith, lt)) (omega (arith, lt')))

pub one_more_saved : (i : ℕ) (bases : List Bases) (old before : List Stored) (base : Bases) (store : Stored)
    → i < length bases → i < length old → base ≡ get_or bases i base → before ≡ saved (take i bases) old
    → set before i (after_save base (get_or before i store)) ≡ saved (take (i + 1) bases) old
one_more_saved i bases old before base store lt lt' item so_far =
    let next : suc i ≡ i + 1 = omega arith in
    ap (λ l. set l i (after_save base (get_or l i store))) so_far
    ∙ ap (λ b. set (saved (take i bases) old) i (after_save b (get_or (saved (take i bases) old) i store))) item
    ∙ saved_next i bases old base store lt lt' ∙ ap (λ n. saved (take n bases) old) next

-- nothing is saved at first
pub none_saved : (bases : List Bases) (stores : List Stored) → stores ≡ saved (take 0 bases) stores
none_saved [] stores = refl
none_saved (b ∷ bases) stores = refl

-- ---- seen as what they contain

-- of a store that is seen as it was
module _ {S T : Type 0} (view : S → T) (stores : List S) (i : ℕ) (d after : S) where
  pub none_changed : i < length stores → view after ≡ view (get_or stores i d) → map view (set stores i after) ≡ map view stores
  none_changed lt same =
      map-set view stores i after
      ∙ ap (set (map view stores) i) (same ∙ sym (get_or-map view stores i d (view d) lt))
      ∙ set-get_or (map view stores) i (view d)

module _ {S : Type 0} (view : S → Stored) (stores : List S) (i : ℕ) (d after : S) where
  -- a store that was saved
  pub one_saved : (bases : List Bases) (old : List Stored) (base : Bases) → i < length stores → i < length bases → i < length old
      → base ≡ get_or bases i base → view after ≡ after_save base (view (get_or stores i d))
      → map view stores ≡ saved (take i bases) old → map view (set stores i after) ≡ saved (take (i + 1) bases) old
  one_saved bases old base lt lt' lt'' base_is is so_far =
      map-set view stores i after
      ∙ ap (set (map view stores) i) (is ∙ ap (after_save base) (sym (get_or-map view stores i d (view d) lt)))
      ∙ one_more_saved i bases old (map view stores) base (view d) lt' lt'' base_is so_far

-- ---- how many failures were counted

-- a call that a store refused is a fault of the store, or none was counted
pub refused_or_calm : {A So : Type 0} (excuse : Type 0) {before now : ℕ} (why : StoreFault) (result : Result A Fault) → IsErrAnd result (λ fault. fault ≡ fault_of why)
    → IsExcused excuse before now why → (now ≡ before → So) → IsErrOf result Store ⊎ So
refused_or_calm excuse why (Ok a) is counts so = absurd is
refused_or_calm excuse store.Memory (Err fault) is counts so = inr (so counts)
refused_or_calm excuse store.Failed (Err fault) is counts so = inl (ap (λ e. Err e) is)
refused_or_calm excuse store.NotOurs (Err fault) is counts so = inl (ap (λ e. Err e) is)
