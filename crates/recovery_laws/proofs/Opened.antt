-- A run that goes on from what was settled: its contents, its numbers, and its replies after those of the run before.
use Rattle.std.proofs.Common.{List, [], ap, arith, length, refl, subst, sym, ℕ, ◌<◌, ◌∙◌, ◌≡◌, ◌≤◌}
use Rattle.std.proofs.lemmas.Bool.{false_from_ne_true}
use Rattle.atomic_types.specs.Parts.{laid_where}
use Rattle.run_model.specs.declared.history.Event.{Event}
use Rattle.run_model.specs.Lists.{guardians_of}
use Rattle.run_model.specs.Openings.{Opening, set_up}
use Rattle.run_model.specs.StableContent.{stable_next_top}
use Rattle.recovery_laws.specs.Numbers.{IsGuardian, next_top_of_all}
use Rattle.recovery_laws.specs.Opened.{GoesOnFrom, OpenedAgainGoesOn, OpensWithWhatWasSeen, PreparedNeverAgain, SettlesOnce, StaysNumbered}
use Rattle.recovery_laws.proofs.Numbers.{alike, decided_stay_older, each_there, prepared_are_older}
use Rattle.recovery_laws.proofs.Records.{begins_late, prepared_top}
use Rattle.recovery_laws.proofs.Seen.{settled_is_seen_by_place}

-- ---- contents and numbers

-- the law
pub opened_again_goes_on : OpenedAgainGoesOn
opened_again_goes_on opening past = record {
  setup = refl;
  contents = λ x there. refl;
  decided = λ g n there h. h;
  next_top = λ g there. refl;
  first_top = refl;
}

-- the law
pub settles_once : SettlesOnce
settles_once next g n = refl

-- the law
pub opens_with_what_was_seen : OpensWithWhatWasSeen
opens_with_what_was_seen opening next past x t numbered r from there top new =
    ap (λ setup. laid_where ((next.stores x.guardian).base x.number) (set_up setup x)) from.setup
    ∙ from.contents x there ∙ settled_is_seen_by_place opening past x t numbered.decided r top new

-- the next run has the same guardians
pub in_opening : {opening next : Opening} {past : List Event} → GoesOnFrom opening past next → (g : ℕ) → IsGuardian next g → IsGuardian opening g
in_opening from g there = subst (λ setup. (0 < g) × (g ≤ length setup)) from.setup there

-- the law
pub stays_numbered : StaysNumbered
stays_numbered opening next past numbered r from = record {
  decided = λ g n there h.
      let here = in_opening from g there in
      subst (λ m. n < m) (sym from.first_top) (decided_stay_older opening past g n numbered r here (from.decided g n here h));
  first = subst (λ m. next.first_top ≤ m) (from.first_top ∙ sym known) (same next.first_top);
}
  where
    same : (n : ℕ) → n ≤ n
    same n = omega arith

    known : next_top_of_all next [] ≡ next_top_of_all opening past
    known =
        ap (λ setup. next_top_of_all (record next { setup = setup }) []) from.setup
        ∙ alike (λ g. (next.stores g).next_top) (λ g. stable_next_top opening g past) 1 (guardians_of opening)
        (each_there (λ g. (next.stores g).next_top ≡ stable_next_top opening g past) (length opening.setup) (λ g a b. from.next_top g (a, b)))

-- the law
pub prepared_never_again : PreparedNeverAgain
prepared_never_again opening next past later g t r s from h = false_from_ne_true _ (λ k.
    late (prepared_are_older opening past g t r h) (begins_late next later t s k (prepared_top opening past g t r h)) from.first_top)
  where
    late : {n m l : ℕ} → n < m → l ≤ n → l ≡ m → ⊥
    late a b e = omega arith
