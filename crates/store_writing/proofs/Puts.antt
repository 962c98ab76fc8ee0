-- What statements that write parts make of a store, within a transaction.
use Rattle.std.proofs.Common.{◌≡◌, ℕ, ◌<◌, pos, List, ◌∷◌, ◌++◌, length, true, false, Err, Result, IsTrue, refl, ap, subst, ◌∙◌, nat_cmp}
use Rattle.std.specs.List.{AllByRecursion}
use Rattle.std.specs.FinMap as map
use Rattle.sqlite.specs.declared.types.Value.TheVariants.{Int}
use Rattle.sqlite.specs.declared.error.Error.{Error}
use Rattle.sqlite.specs.declared.error.Error.TheVariants.{SqliteFailure}
use Rattle.sqlite.specs.declared.error.ErrorCode.TheVariants.{TransactionState}
use Rattle.sqlite.specs.Order.{Row}
use Rattle.sqlite.specs.Held.{Held, state}
use Rattle.sqlite.specs.Listing.{understood}
use Rattle.sqlite.specs.State.{HasCleanDisk, ExecutesInside}
use Rattle.sqlite.proofs.Callers.{IsPlain, command_of}
use Rattle.sqlite_trees.specs.declared.store.Store.{Ghosts}
use Rattle.atomic_types.specs.declared.part.Part.{Part}
use Rattle.stable_store.specs.Stored.{Stored}
use Rattle.stable_store.specs.Numbers.{has_zero}
use Rattle.store_tables.specs.Tables.{stable_schema}
use Rattle.store_tables.proofs.Texts.{base_command, value_command}
use Rattle.store_tables.specs.Changes.{with_base, all_put, with_record}
use Rattle.store_tables.specs.Shown.{IsValue}
use Rattle.store_tables.proofs.Tables.{InRange}
use Rattle.store_writing.specs.declared.waiting.PartText.{PartText}
use Rattle.store_writing.specs.Steps.{While, Sees, Steps}
use Rattle.store_writing.specs.Waiting.{AreTextsOf, parameters_of}
use Rattle.store_writing.proofs.Inside.{steps}
use Rattle.store_writing.proofs.Runs.{base_means, value_means}
use Rattle.store_writing.proofs.Waits.{texts_length, parameters_are, fit_the_base, fit_a_record}

module _ {S : Type 0} (g : Ghosts S) (s t : Held S) (clean : HasCleanDisk (state g t) → HasCleanDisk (state g s)) (r : Result ℕ Error)
    (ended : (state g s).in_transaction ≡ false → (r ≡ Err (SqliteFailure TransactionState)) × (t ≡ s)) (text : List ℕ) (count : ℕ) (ws : List PartText) (many : length ws ≡ count) (params : Row)
    (plain : IsPlain (understood stable_schema text))
    (runs : HasCleanDisk (state g t) → IsTrue (state g s).in_transaction → ExecutesInside 0 text params (state g s) (state g t) r)
    (es : List (ℕ × Part)) (texts : AreTextsOf ws es) (c : Stored) where
  ran_on : (others : Row) → params ≡ others
      → HasCleanDisk (state g t) → IsTrue (state g s).in_transaction → ExecutesInside 0 text others (state g s) (state g t) r
  ran_on others same =
      subst (λ p. HasCleanDisk (state g t) → IsTrue (state g s).in_transaction → ExecutesInside 0 text p (state g s) (state g t) r) same runs

  -- values more of a record
  pub writes_values : (top home : ℕ) (before : List (ℕ × Part)) → command_of (understood stable_schema text) ≡ value_command count → 0 < count → InRange top
      → AllByRecursion (λ e. IsValue e.1) es → has_zero es ≡ false → map.is_sorted nat_cmp (before ++ es) ≡ true
      → Sees (state g s) (with_record top home before c) → params ≡ Int (pos top) ∷ parameters_of ws
      → Steps (state g s) (state g t) (with_record top home (before ++ es) c) r
  writes_values top home before is some fits kinds none sorted sees same =
      let means =
      value_means text count top home before es c is plain (texts_length ws es texts ∙ many) some fits (fit_a_record ws es texts kinds none) sorted in
      steps g text (value_command count) _ (λ _. with_record top home (before ++ es) c) _ means s t (with_record top home before c) (λ _ _. refl) sees clean r ended
      (ran_on _ (same ∙ ap (λ cells. Int (pos top) ∷ cells) (parameters_are ws es texts)))

  -- parts of the base
  pub writes_parts : command_of (understood stable_schema text) ≡ base_command count → While (state g s) (has_zero es ≡ false) → Sees (state g s) c
      → params ≡ parameters_of ws
      → Steps (state g s) (state g t) (with_base (all_put es c.base) c) r
  writes_parts is none sees same =
      steps g text (base_command count) _ (λ k. with_base (all_put es k.base) k) _ (base_means text count es is plain (texts_length ws es texts ∙ many)) s t c
      (λ h up. fit_the_base ws es texts (none h up)) sees clean r ended (ran_on _ (same ∙ parameters_are ws es texts))
