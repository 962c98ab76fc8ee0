-- What is said of a run over stores is determined by the script and by what the stores held.
use Rattle.std.proofs.Common.{List, None, Option, Some, [], arith, get_or, length, refl, subst, suc, sym, zero, ℕ, ◌<◌, ◌∙◌, ◌∷◌, ◌≡◌}
use Rattle.std.proofs.lemmas.List.{same_lists}
use Rattle.stable_store.specs.Stored.{Stored}
use Rattle.values.specs.declared.content.Content.{Content}
use Rattle.run_model.specs.Openings.{Setup, fresh}
use Rattle.traces.specs.Traces.{trace_text}
use Rattle.tracer.specs.Leaving.{histories_of}
use Rattle.argus_engine.specs.declared.engine.Ended.TheVariants.{Done, Stopped}
use Rattle.script_engine.specs.Running.{Comes, IsDetermined, run_text}
use Rattle.script_engine.specs.Storing.{AreOpenedBy, OneStoredRun, Opens}

-- within a list the default does not matter
within : {X : Type 0} (xs : List X) (k : ℕ) (d e : X) → k < length xs → get_or xs k d ≡ get_or xs k e
within [] k d e l = absurd (none l)
  where
    none : k < 0 → ⊥
    none l = omega (arith, l)
within (x ∷ xs) zero d e l = refl
within (x ∷ xs) (suc k) d e l = within xs k d e (omega (arith, l))

-- what a store opens is one setup
one_opened : (found : Option Stored) (own a b : List Content) → Opens found own a → Opens found own b → a ≡ b
one_opened None own a b x y = absurd x
one_opened (Some stored) own a b x y = x.1 ∙ sym y.1

one_setup : (found : List (Option Stored)) (own : List (List Content)) (a b : Setup) → AreOpenedBy found own a → AreOpenedBy found own b → a ≡ b
one_setup found own a b x y =
    same_lists a b (x.count ∙ sym y.count)
    (λ k d l. within a k d [] l
    ∙ one_opened (get_or found k None) (get_or own k []) (get_or a k []) (get_or b k []) (x.each k (omega (arith, l, x.count))) (y.each k (omega (arith, l, x.count)))
    ∙ within b k [] d (omega (arith, l, x.count, y.count)))

module _ (comes : Comes) (one : IsDetermined comes) where
  pub one_stored_run : OneStoredRun comes
  one_stored_run script found Done Done bases more trace traced text said told again =
      let same = one_setup found script.guardians told.0 again.0 told.3 again.3 in
      let came =
      one script again.0 told.1 again.1 bases more told.2 again.2 (subst (λ s. comes script s told.1 bases told.2) same told.4) again.4 in (
        refl,
        came.1,
        told.5.text ∙ (λ k. trace_text (same k) (histories_of (fresh (same k)) (came.2 k))) ∙ sym again.5.text,
        told.6 ∙ (λ k. run_text (came.0 k) (came.1 k)) ∙ sym again.6,
      )
  one_stored_run script found Done Stopped bases more trace traced text said told again = absurd (again.0 told.0 told.3)
  one_stored_run script found Stopped Done bases more trace traced text said told again = absurd (told.0 again.0 again.3)
  one_stored_run script found Stopped Stopped bases more trace traced text said told again =
      (refl, told.2 ∙ sym again.2, told.3 ∙ sym again.3, told.1 ∙ sym again.1)
