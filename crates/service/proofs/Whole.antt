-- A whole transaction: its top action begins, is worked in and ends.
use Rattle.std.proofs.Common.{Bool, None, Some, [], ap, false, inl, inr, refl, subst, sym, true, ℕ, ◌||◌, ◌∙◌, ◌∷◌, ◌≡◌, ◌⊎◌}
use Rattle.std.proofs.lemmas.Bool.{false_from_ne_true, or_cases, or_left, or_right}
use Rattle.std.specs.List.{list_any}
use Rattle.action_names.specs.Names.{Name, has_name, is_prefix, same_name}
use Rattle.run_model.specs.declared.answer.Answer.TheVariants as answers
use Rattle.run_model.specs.declared.history.Event.{Event}
use Rattle.run_model.specs.declared.step.Step.{Step}
use Rattle.run_model.specs.declared.step.Step.TheVariants as steps
use Rattle.run_model.specs.Actions.{is_aborted, is_begun, is_committed, is_ended, step_aborts, step_commits}
use Rattle.run_model.specs.Telling.{told_since_crash}
use Rattle.run_model.specs.Votes.{has_voted, step_votes}
use Rattle.run_laws.proofs.Growth.{Follows, here, later}
use Rattle.run_laws.proofs.Names.{clash, same_name_self, same_name_true}
use Rattle.stepping.specs.Beside.{OwnRun, Sees}
use Rattle.service.specs.Outcomes.{has_committed}
use Rattle.service.specs.declared.fault.CallFault.{CallFault}
use Rattle.service.specs.declared.outcome.Transacted.{Transacted}
use Rattle.service.specs.declared.place.Place.{Place}
use Rattle.service.specs.Transacting.{AllSettled, AllVotersTold, Began, Begins, FallsShort, Goes, IsSettled, IsTransacted, RunsTop, Works, began_at, belongs_to, ends_top, has_number, works_in, works_with}
use Rattle.service.proofs.Concluded.{told_at}
use Rattle.service.proofs.Going.{all_within, began_new, began_stays, began_within, begun_only, end_crashes_not, goes_grows, goes_one, goes_then, goes_wider, kept, settled_stays, short_after, short_in, short_then, short_wider, step_kept, voters_then, with_each, with_tops, with_work, work_commits_not}
use Rattle.service.proofs.Parts.{begun_is_uncommitted}
use Rattle.service.proofs.Others.{commits_no_other, end_votes_other, ends_no_other, single_prefix}

or_none : (c : Bool) → c || false ≡ c
or_none true = refl
or_none false = refl

-- a step that begins a top action does nothing else
pub record BeginsOnly (first : Step) : Type 0 where
  pub votes : (t : Name) (g : ℕ) → step_votes first g t ≡ false
  pub commits : (b : Name) → step_commits first b ≡ false
  pub aborts : (b : Name) → step_aborts first b ≡ false

pub top_begins_only : (home : ℕ) → BeginsOnly (steps.Top home)
top_begins_only home = record { votes = λ t g. refl; commits = λ b. refl; aborts = λ b. refl }

pub nested_begins_only : (a : Name) → BeginsOnly (steps.NestedTop a)
nested_begins_only a = record { votes = λ t g. refl; commits = λ b. refl; aborts = λ b. refl }

-- ---- a transaction

module _ {T E : Type 0} {sees : Sees} (first : Step) (only : BeginsOnly first) (home number : ℕ) (at : Place) (w x z : OwnRun) (ended : Transacted T E)
    (begins : Begins sees first at.action w x) (named : at.action ≡ number ∷ []) (home_there : began_at home at.action x.past ≡ true)
    (reached : has_number at.reached.items home ≡ true) (runs : RunsTop sees at x z ended) where
  abbrev top : Name
  top = at.action

  abbrev y : OwnRun
  y = runs.worked

  abbrev event : Event
  event = record { step = first; answer = answers.Began (top ∷ []) }

  there : x ≡ record w { past = event ∷ w.past }
  there = begins.after

  follows_first : Follows w.past x.past
  follows_first = subst (λ (v : OwnRun). Follows w.past v.past) (sym there) (later event here)

  abbrev mine : Step → Bool
  mine = belongs_to (top ∷ runs.works.tops)

  work_belongs : (step : Step) → works_with runs.works.tops top step ≡ true → mine step ≡ true
  work_belongs step h = elim (or_cases (works_in top step) (belongs_to runs.works.tops step) h) [
    | inl k ↦ or_left (works_in top step || ends_top top step) (belongs_to runs.works.tops step) (or_left (works_in top step) (ends_top top step) k)
    | inr k ↦ or_right (works_in top step || ends_top top step) (belongs_to runs.works.tops step) k
  ]

  end_belongs : (step : Step) → ends_top top step ≡ true → mine step ≡ true
  end_belongs step h =
      or_left (works_in top step || ends_top top step) (belongs_to runs.works.tops step) (or_right (works_in top step) (ends_top top step) h)

  work_goes : Goes sees mine x y
  work_goes = goes_wider (works_with runs.works.tops top) mine x y work_belongs runs.works.goes

  end_goes : Goes sees mine y z
  end_goes = goes_wider (ends_top top) mine y z end_belongs runs.ends.concludes.goes

  goes : Goes sees mine x z
  goes = goes_then mine x y z work_goes end_goes

  -- ---- the top actions that began in it are others

  begun_top : is_begun top x.past ≡ true
  begun_top = ap (λ (v : OwnRun). is_begun top v.past) there ∙ or_left (same_name top top) _ (same_name_self top)

  apart : (t : Name) → has_name runs.works.tops t ≡ true → is_prefix t top ≡ false
  apart t i =
      let b = runs.works.began t i in
      let unbegun : is_begun t x.past ≡ false = began_new (works_with runs.works.tops top) x y t runs.works.goes b in
      false_from_ne_true _ (λ h.
      clash begun_top (subst (λ c. is_begun c x.past ≡ false) (single_prefix t top b.number number b.named named h) unbegun))

  commits_not : (step : Step) → works_with runs.works.tops top step ≡ true → step_commits step top ≡ false
  commits_not step own =
      with_each (λ s. step_commits s top ≡ false) runs.works.tops top step (work_commits_not top step)
      (λ t i k. commits_no_other t top (apart t i) step k) own

  says : is_committed top z.past ≡ has_committed ended.outcome
  says =
      runs.ends.concludes.says
      ∙ ap (λ b. has_committed ended.outcome || b)
      (kept (λ step. step_commits step top) (works_with runs.works.tops top) x y commits_not runs.works.goes
      ∙ step_kept (λ step. step_commits step top) first (answers.Began (top ∷ [])) w x (only.commits top) begins.after
      ∙ begun_is_uncommitted w first (answers.Began (top ∷ [])) begins.answer refl top (or_left _ _ (same_name_self top)))
      ∙ or_none (has_committed ended.outcome)

  -- ---- what is settled

  top_settled : ended.left ≡ None → IsSettled top z
  top_settled h = record {
    ended = (runs.ends.settled h).1;
    home = home;
    there = began_stays home top (goes_grows mine x z goes) home_there;
    told = told_at top runs.guardians z home (runs.ends.settled h).2 (runs.reached home reached);
  }

  all_settled : ended.left ≡ None → AllSettled w z
  all_settled h b new old = of (is_begun b x.past) refl
    where
      of : (t : Bool) → is_begun b x.past ≡ t → IsSettled b z
      of true e = subst (λ c. IsSettled c z) (begun_only first top w x there b e old) (top_settled h)
      of false e =
          settled_stays (ends_top top) y z b (end_crashes_not top) runs.ends.concludes.goes
          ((runs.works.settled (runs.ends.settled h).0).1 b (sym (runs.ends.concludes.none b) ∙ new) e)

  -- who votes in the end was reached
  end_voters : ended.left ≡ None → AllVotersTold y z
  end_voters h t g new old = of (same_name top t) refl
    where
      number_of : (b : Bool) → has_number runs.guardians g ≡ b → same_name top t ≡ true → b ≡ true
      number_of true e same = refl
      number_of false e same =
          let is : top ≡ t = same_name_true top t same in
          absurd
          (clash new (subst (λ u. has_voted g u z.past ≡ has_voted g u y.past) is (runs.ends.concludes.voted g e) ∙ old))

      of : (b : Bool) → same_name top t ≡ b → told_since_crash g t z.past ≡ true
      of true e =
          subst (λ u. told_since_crash g u z.past ≡ true) (same_name_true top t e)
          (told_at top runs.guardians z g (runs.ends.settled h).2 (number_of (has_number runs.guardians g) refl e))
      of false e =
          absurd
          (clash new (kept (λ step. step_votes step g t) (ends_top top) y z (end_votes_other top t g e) runs.ends.concludes.goes ∙ old))

  all_voters : ended.left ≡ None → AllVotersTold w z
  all_voters h t g new old =
      voters_then (ends_top top) x y z (end_crashes_not top) (runs.works.settled (runs.ends.settled h).0).2 (end_voters h)
      runs.ends.concludes.goes t g new
      (step_kept (λ step. step_votes step g t) first (answers.Began (top ∷ [])) w x (only.votes t g) begins.after ∙ old)

  settled : ended.left ≡ None → (at.left ≡ None) × AllSettled w z × AllVotersTold w z
  settled h = ((runs.works.settled (runs.ends.settled h).0).0, all_settled h, all_voters h)

  falls_short : (fault : CallFault) → ended.left ≡ Some fault → (at.left ≡ Some fault) ⊎ FallsShort sees mine x z fault
  falls_short =
      short_then mine x y z at.left runs.mid ended.left work_goes end_goes
      (λ f e. short_in (works_with runs.works.tops top) mine x y at.left f work_belongs (runs.works.short f e))
      (λ f e. short_in (ends_top top) mine y z runs.mid f end_belongs (runs.ends.short f e))

  no_other : (b : Name) → list_any (λ t. is_prefix t b) (top ∷ runs.works.tops) ≡ false → is_ended b z.past ≡ is_ended b w.past
  no_other b out =
      ends_no_other (top ∷ runs.works.tops) b x z out goes
      ∙ ap (λ c. c || is_aborted b x.past)
      (step_kept (λ step. step_commits step b) first (answers.Began (top ∷ [])) w x (only.commits b) begins.after)
      ∙ ap (λ c. is_committed b w.past || c)
      (step_kept (λ step. step_aborts step b) first (answers.Began (top ∷ [])) w x (only.aborts b) begins.after)

  pub is_transacted : IsTransacted sees first w z ended.outcome at.left ended.left
  is_transacted = record {
    top = top;
    begun = x;
    begins = begins;
    tops = runs.works.tops;
    began = all_within runs.works.tops x x y z here runs.works.began (goes_grows mine y z end_goes);
    goes = goes;
    says = says;
    vote = runs.vote;
    step = λ fault h. short_after mine x y z fault work_goes (short_wider (ends_top top) mine y z fault end_belongs (runs.step fault h));
    settled = settled;
    short = falls_short;
    others = no_other;
  }

  -- ---- as work of the action that began it

  began_top : Began top w x
  began_top = record {
    number = number;
    named = named;
    recent = event ∷ [];
    parts = ap (λ (v : OwnRun). v.past) there;
    begun = or_left (same_name top top) _ (same_name_self top);
  }

  module _ (a : Name) (own : works_in a first ≡ true) where
    abbrev working : Step → Bool
    working = works_with (top ∷ runs.works.tops) a

    first_goes : Goes sees working w x
    first_goes = goes_one working first (answers.Began (top ∷ [])) w x (with_work (top ∷ runs.works.tops) a first own) begins.answer begins.after

    rest_goes : Goes sees working x z
    rest_goes = goes_wider mine working x z (with_tops (top ∷ runs.works.tops) a) goes

    began : (t : Name) → has_name (top ∷ runs.works.tops) t ≡ true → Began t w z
    began t i = by (or_cases (same_name top t) (has_name runs.works.tops t) i)
      where
        by : (same_name top t ≡ true) ⊎ (has_name runs.works.tops t ≡ true) → Began t w z
        by (inl k) =
            subst (λ u. Began u w z) (same_name_true top t k) (began_within top w w x z here began_top (goes_grows mine x z goes))
        by (inr k) = began_within t w x y z follows_first (runs.works.began t k) (goes_grows mine y z end_goes)

    short_there : (fault : CallFault) → (at.left ≡ Some fault) ⊎ FallsShort sees mine x z fault → (at.left ≡ Some fault) ⊎ FallsShort sees working w z fault
    short_there fault (inl h) = inl h
    short_there fault (inr s) =
        inr (short_after working w x z fault first_goes (short_wider mine working x z fault (with_tops (top ∷ runs.works.tops) a) s))

    pub nested_works : Works sees a w z at.left ended.left
    nested_works = record {
      tops = top ∷ runs.works.tops;
      began = began;
      goes = goes_then working w x z first_goes rest_goes;
      settled = settled;
      short = λ fault h. short_there fault (falls_short fault h);
    }
