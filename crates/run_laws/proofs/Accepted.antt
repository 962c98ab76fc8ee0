-- What an accepted step says of the history before it: no refusal applied, and its answer is the outcome.
use Rattle.std.proofs.Common.{Bool, List, None, Option, Some, [], ap, cond, false, inl, inr, refl, subst, sym, true, ◌==◌, ◌∙◌, ◌∷◌, ◌≡◌, ◌⊎◌}
use Rattle.std.proofs.lemmas.Bool.{false≢true, not-false}
use Rattle.action_names.specs.Names.{Name, is_top}
use Rattle.run_model.specs.declared.answer.Answer.{Answer}
use Rattle.run_model.specs.declared.answer.Refusal.{Refusal}
use Rattle.run_model.specs.declared.history.Event.{Event}
use Rattle.run_model.specs.declared.step.Step.{Step}
use Rattle.run_model.specs.declared.step.Step.TheVariants.{Abort, Arms, Call, Close, Commit, Decide, NestedTop}
use Rattle.run_model.specs.Actions.{is_begun, is_busy, is_closed, is_done, is_ended, step_aborts, step_closes, step_commits, step_makes}
use Rattle.run_model.specs.Answers.{answer_of, outcome, refused_or}
use Rattle.run_model.specs.Refusals.{Check, checks, first_refusal}
use Rattle.run_model.specs.Openings.{Opening}
use Rattle.run_model.specs.Runs.{IsRun, is_accepted}
use Rattle.run_model.specs.Texts.{refusal_number}
use Rattle.run_model.specs.Votes.{all_prepared}
use Rattle.run_model.specs.declared.answer.Refusal.TheVariants as why
use Rattle.run_laws.proofs.Names.{same_name_true}

-- whether the refusal of this name applies, as the first of the name in the list says
abbrev pub asked : Refusal → List Check → Bool
asked why [] = false
asked why (c ∷ cs) = cond (refusal_number c.0 == refusal_number why) c.1 (asked why cs)

-- no refusal of the list applies, whichever is looked up by its name
abbrev pub NoneApplies : List Check → Type 0
NoneApplies cs = (why : Refusal) → asked why cs ≡ false

-- where none is the first, none applies
chosen_none : (t : Bool) (n : Refusal) (o : Option Refusal) → cond t (Some n) o ≡ None → (t ≡ false) × (o ≡ None)
chosen_none true n o h = cc
chosen_none false n o h = (refl, h)

-- for the whole list
pub none_applies : (cs : List Check) → first_refusal cs ≡ None → NoneApplies cs
none_applies [] h why = refl
none_applies (c ∷ cs) h why =
    let p = chosen_none c.1 c.0 (first_refusal cs) h in
    both_false (refusal_number c.0 == refusal_number why) p.0 (none_applies cs p.1 why)
  where
    both_false : {x y : Bool} (t : Bool) → x ≡ false → y ≡ false → cond t x y ≡ false
    both_false true h k = h
    both_false false h k = k

-- where one applies, some refusal is the first
some_first : (why : Refusal) (cs : List Check) → asked why cs ≡ true → (n : Refusal) × (first_refusal cs ≡ Some n)
some_first why cs h = of (first_refusal cs) refl
  where
    of : (o : Option Refusal) → first_refusal cs ≡ o → (n : Refusal) × (first_refusal cs ≡ Some n)
    of (Some n) q = (n, q)
    of None q = absurd (false≢true (sym (none_applies cs q why) ∙ h))

-- so the answer is that refusal, whatever the outcome would be
pub refused_anyway : (why : Refusal) (cs : List Check) (x y : Answer) → asked why cs ≡ true
    → refused_or (first_refusal cs) x ≡ refused_or (first_refusal cs) y
refused_anyway why cs x y h =
    let p = some_first why cs h in
    ap (λ o. refused_or o x) p.1 ∙ sym (ap (λ o. refused_or o y) p.1)

-- an answer that is accepted is no refusal
none_if_accepted : (o : Option Refusal) (x : Answer) → is_accepted (refused_or o x) ≡ true → o ≡ None
none_if_accepted None x h = refl
none_if_accepted (Some n) x h = absurd (false≢true h)

-- so no refusal applied to an event of a run
refusal_of : (opening : Opening) (e : Event) (past : List Event) → IsRun opening (e ∷ past) → first_refusal (checks opening e.step past) ≡ None
unfolding answer_of
refusal_of opening e past r =
    none_if_accepted (first_refusal (checks opening e.step past)) (outcome opening e.step past) (sym (ap is_accepted r.0) ∙ r.1)

-- no check applied
pub checked : (opening : Opening) (e : Event) (past : List Event) → IsRun opening (e ∷ past) → NoneApplies (checks opening e.step past)
checked opening e past r = none_applies (checks opening e.step past) (refusal_of opening e past r)

-- the answer is the outcome
pub answered : (opening : Opening) (e : Event) (past : List Event) → IsRun opening (e ∷ past) → e.answer ≡ outcome opening e.step past
unfolding answer_of
answered opening e past r = r.0 ∙ ap (λ o. refused_or o (outcome opening e.step past)) (refusal_of opening e past r)

-- an action that may close
pub record IsClosable (a : Name) (past : List Event) : Type 0 where
  pub was_begun : is_begun a past ≡ true
  pub undone : is_done a past ≡ false
  pub idle : is_busy a past ≡ false

-- what closes was begun, undone and idle
pub closes_facts : (opening : Opening) (e : Event) (past : List Event) (a : Name) → IsRun opening (e ∷ past) → step_closes e.step a ≡ true
    → IsClosable a past
closes_facts opening e past a r h = of e.step (checked opening e past r) h
  where
    of : (step : Step) → NoneApplies (checks opening step past) → step_closes step a ≡ true → IsClosable a past
    of (Commit b) f h =
        subst (λ c. IsClosable c past) (same_name_true b a h) (record { was_begun = not-false _ (f why.NoAction); undone = f why.Ended; idle = f why.Busy })
    of (Close b) f h =
        subst (λ c. IsClosable c past) (same_name_true b a h) (record { was_begun = not-false _ (f why.NoAction); undone = f why.Ended; idle = f why.Busy })
    of _ f h = absurd (false≢true h)

-- what closes is a commit, or the close of a top action
pub closes_commits : (opening : Opening) (e : Event) (past : List Event) (a : Name) → IsRun opening (e ∷ past) → step_closes e.step a ≡ true
    → (step_commits e.step a ≡ true) ⊎ (is_top a ≡ true)
closes_commits opening e past a r h = of e.step (checked opening e past r) h
  where
    of : (step : Step) → NoneApplies (checks opening step past) → step_closes step a ≡ true → (step_commits step a ≡ true) ⊎ (is_top a ≡ true)
    of (Commit b) f h = inl h
    of (Close b) f h = inr (ap is_top (sym (same_name_true b a h)) ∙ not-false _ (f why.NotTop))
    of _ f h = absurd (false≢true h)

-- an action that may be decided
pub record IsDecidable (opening : Opening) (a : Name) (past : List Event) : Type 0 where
  pub was_begun : is_begun a past ≡ true
  pub unended : is_ended a past ≡ false
  pub top : is_top a ≡ true
  pub closed : is_closed a past ≡ true
  pub ready : all_prepared opening a past ≡ true

-- what commits is the closing step of a subaction, or the decision of a top action
pub commits_facts : (opening : Opening) (e : Event) (past : List Event) (a : Name) → IsRun opening (e ∷ past) → step_commits e.step a ≡ true
    → ((step_closes e.step a ≡ true) × (is_top a ≡ false)) ⊎ IsDecidable opening a past
commits_facts opening e past a r h = of e.step (checked opening e past r) h
  where
    of : (step : Step) → NoneApplies (checks opening step past) → step_commits step a ≡ true
        → ((step_closes step a ≡ true) × (is_top a ≡ false)) ⊎ IsDecidable opening a past
    of (Commit b) f h = inl (h, ap is_top (sym (same_name_true b a h)) ∙ f why.NotSub)
    of (Decide b) f h = inr (subst (λ c. IsDecidable opening c past) (same_name_true b a h) (record {
      was_begun = not-false _ (f why.NoAction);
      unended = f why.Ended;
      top = not-false _ (f why.NotTop);
      closed = not-false _ (f why.NotClosed);
      ready = not-false _ (f why.Unready);
    }))
    of _ f h = absurd (false≢true h)

-- what aborts had not ended
pub aborts_unended : (opening : Opening) (e : Event) (past : List Event) (a : Name) → IsRun opening (e ∷ past) → step_aborts e.step a ≡ true
    → is_ended a past ≡ false
aborts_unended opening e past a r h = of e.step (checked opening e past r) h
  where
    of : (step : Step) → NoneApplies (checks opening step past) → step_aborts step a ≡ true → is_ended a past ≡ false
    of (Abort b) f h = ap (λ c. is_ended c past) (sym (same_name_true b a h)) ∙ f why.Ended
    of _ f h = absurd (false≢true h)

-- one step does not both commit and abort
pub commits_or_aborts : (step : Step) (a b : Name) → step_commits step a ≡ true → step_aborts step b ≡ false
commits_or_aborts (Commit c) a b h = refl
commits_or_aborts (Decide c) a b h = refl
commits_or_aborts _ a b h = absurd (false≢true h)

-- who makes something was begun and is not done
pub makes_facts : (opening : Opening) (e : Event) (past : List Event) (a : Name) → IsRun opening (e ∷ past) → step_makes e.step a ≡ true
    → (is_begun a past ≡ true) × (is_done a past ≡ false)
makes_facts opening e past a r h = of e.step (checked opening e past r) h
  where
    P : Name → Type 0
    P c = (is_begun c past ≡ true) × (is_done c past ≡ false)

    of : (step : Step) → NoneApplies (checks opening step past) → step_makes step a ≡ true → P a
    of (NestedTop b) f h = subst P (same_name_true b a h) (not-false _ (f why.NoAction), f why.Ended)
    of (Call b g) f h = subst P (same_name_true b a h) (not-false _ (f why.NoAction), f why.Ended)
    of (Arms b kinds) f h = subst P (same_name_true b a h) (not-false _ (f why.NoAction), f why.Ended)
    of _ f h = absurd (false≢true h)

-- and its step ends nothing
pub makes_ends_nothing : (step : Step) (a b : Name) → step_makes step a ≡ true
    → (step_commits step b ≡ false) × (step_aborts step b ≡ false) × (step_closes step b ≡ false)
makes_ends_nothing (NestedTop c) a b h = (refl, refl, refl)
makes_ends_nothing (Call c g) a b h = (refl, refl, refl)
makes_ends_nothing (Arms c kinds) a b h = (refl, refl, refl)
makes_ends_nothing _ a b h = absurd (false≢true h)
