-- What a run leaves in a store by the whole history: records and installed parts that suit the guardian's objects.
use Rattle.std.proofs.Common.{Bool, List, None, Option, Some, [], ap, arith, filter_map, inl, inr, is_some, length, option_map, refl, subst, suc, sym, true, zero, ℕ, ◌&&◌, ◌<◌, ◌==◌, ◌∷◌, ◌≡◌, ◌≤◌, cond, false}
use Rattle.std.specs.List.{cons_option}
use Rattle.std.proofs.lemmas.Bool.{and_from, and_parts, cases_eq, le-leb}
use Rattle.action_names.specs.Names.{Name}
use Rattle.values.specs.declared.content.Content.{Content}
use Rattle.atomic_types.specs.declared.part.Part.{Part}
use Rattle.run_model.specs.declared.history.Event.{Event}
use Rattle.run_model.specs.declared.step.ObjectId.{ObjectId}
use Rattle.run_model.specs.declared.step.Step.{Step}
use Rattle.run_model.specs.declared.step.Step.TheVariants.{Tell}
use Rattle.run_model.specs.Actions.{home_of, is_committed}
use Rattle.run_model.specs.Keeping.{standing_of}
use Rattle.run_model.specs.Lists.{down_from, up_to}
use Rattle.run_model.specs.Openings.{Opening, first_content, objects_at, part_at}
use Rattle.run_model.specs.Runs.{IsRun}
use Rattle.run_model.specs.StableContent.{Prepared, installed_by, part_in, stable_base, stable_prepared}
use Rattle.run_model.specs.Versions.{part_held}
use Rattle.run_laws.proofs.Each.{Each, each_map, each_reverse}
use Rattle.run_laws.proofs.Ended.{closed_begun}
use Rattle.run_laws.proofs.Kept.{prepared_closed}
use Rattle.local_laws.proofs.Laid.{records_are_held}
use Rattle.local_laws.proofs.Numbered.{part_behind, part_here}
use Rattle.guardian_laws.specs.Stored.{record_of}
use Rattle.recovery_laws.specs.Numbers.{IsGuardian}
use Rattle.recovery_laws.proofs.Guardians.{home_there}
use Rattle.recovery_laws.proofs.Records.{recorded_prepared}
use Rattle.store_recovery.specs.Belonging.{all_suit, object_at, record_belongs, suits}
use Rattle.restart_laws.specs.Openings.{OpensInType}
use Rattle.restart_laws.proofs.Objects.{opens_suiting, run_suits}
use Rattle.restart_laws.proofs.Parts.{SuitsWhere, installed_suits}

-- ---- parts by their numbers

-- the numbers up to n are from 1 to n
numbers_down : (n k : ℕ) → n ≤ k → Each (λ m. (0 < m) × (m ≤ k)) (down_from n)
numbers_down zero k h = tt
numbers_down (suc n) k h = (((omega arith), h), numbers_down n k (omega arith))

numbers_up : (n : ℕ) → Each (λ m. (0 < m) × (m ≤ n)) (up_to n)
numbers_up n = each_reverse _ (down_from n) (numbers_down n n (omega arith))

module _ (objects : List Content) where
  collected_suit : (f : ℕ → Option Part) (ns : List ℕ) → Each (λ n. SuitsWhere (object_at objects n) (f n)) ns
      → all_suit objects (filter_map (λ n. option_map (λ p. (n, p)) (f n)) ns) ≡ true
  collected_suit f [] h = refl
  collected_suit f (n ∷ ns) h = of (f n) h.0 (collected_suit f ns h.1)
    where
      rest : List (ℕ × Part)
      rest = filter_map (λ m. option_map (λ p. (m, p)) (f m)) ns

      of : (o : Option Part) → SuitsWhere (object_at objects n) o → all_suit objects rest ≡ true
          → all_suit objects (cons_option (option_map (λ p. (n, p)) o) rest) ≡ true
      of None k ih = ih
      of (Some part) k ih = and_from _ _ k ih

  part_there_suits : (parts : List (ℕ × Part)) (n : ℕ) → all_suit objects parts ≡ true → SuitsWhere (object_at objects n) (part_at parts n)
  part_there_suits [] n h = tt
  part_there_suits (p ∷ parts) n h =
      let both = and_parts _ _ h in
      elim (cases_eq p.0 n) [
        | inl e ↦
            subst (λ o. SuitsWhere (object_at objects n) o) (sym (part_here p parts n e))
            (subst (λ m. suits (object_at objects m) p.1 ≡ true) e both.0)
        | inr e ↦
            subst (λ o. SuitsWhere (object_at objects n) o) (sym (part_behind p parts n e)) (part_there_suits parts n both.1)
      ]

-- ---- one guardian

module _ (opening : Opening) (t : OpensInType opening) (g : ℕ) (there : IsGuardian opening g) where
  abbrev objects : List Content
  objects = objects_at opening.setup g

  abbrev at : ℕ → ObjectId
  at n = record { guardian = g; number = n }

  home_inside : (past : List Event) (a : Name) → IsRun opening past → is_some (stable_prepared opening g a past) ≡ true
      → IsGuardian opening (home_of a past)
  home_inside past a r has =
      home_there opening past a r
      (closed_begun opening past a r (prepared_closed opening past g a r (recorded_prepared opening past g a has)))

  -- a record belongs
  pub record_inside : (past : List Event) (a : Name) (p : Prepared) → IsRun opening past → stable_prepared opening g a past ≡ Some p
      → record_belongs opening.setup objects (record_of p) ≡ true
  record_inside past a p r e =
      let home = home_inside past a r (ap (λ o. is_some o) e) in
      subst (λ (q : Prepared). record_belongs opening.setup objects (record_of q) ≡ true)
      (sym (records_are_held opening past g a p r e))
      (and_from _ _ (le-leb 1 (home_of a past) (omega (arith, home.0)))
      (and_from _ _ (le-leb (home_of a past) (length opening.setup) home.1)
      (collected_suit objects (λ n. part_held (first_content opening (at n)) (standing_of (at n) past) a) (up_to (length objects))
      (each_map _ _ (up_to (length objects)) (λ n w. run_suits opening t past r (at n) a there w.0 w.1) (numbers_up (length objects))))))

  recorded_suits : (past : List Event) (a : Name) (n : ℕ) → IsRun opening past
      → SuitsWhere (object_at objects n) (part_in (stable_prepared opening g a past) n)
  recorded_suits past a n r = of (stable_prepared opening g a past) refl
    where
      of : (o : Option Prepared) → stable_prepared opening g a past ≡ o → SuitsWhere (object_at objects n) (part_in o n)
      of None e = tt
      of (Some p) e = part_there_suits objects p.parts n (and_parts _ _ (and_parts _ _ (record_inside past a p r e)).1).1

  -- what is installed suits its object
  pub base_suits : (past : List Event) (n : ℕ) → IsRun opening past → SuitsWhere (object_at objects n) (stable_base opening g n past)
  base_suits [] n r = opens_suiting opening t g n there
  base_suits (e ∷ past) n r =
      installed_suits (object_at objects n) (installed e.step) (stable_base opening g n past) (of e.step) (base_suits past n r.2)
    where
      installed : Step → Option Part
      installed step = installed_by step g n (λ a. stable_prepared opening g a past) (λ a. is_committed a past)

      by : (a : Name) (b : Bool) → SuitsWhere (object_at objects n) (cond b (part_in (stable_prepared opening g a past) n) None)
      by a true = recorded_suits past a n r.2
      by a false = tt

      of : (step : Step) → SuitsWhere (object_at objects n) (installed step)
      of (Tell h a) = by a ((h == g) && is_committed a past)
      of _ = tt
