-- The histories of the guardians of a run owe nothing.
use Rattle.std.proofs.Common.{Bool, List, None, Some, [], ap, cond, eqb-true, false, nat_lt, length, refl, subst, sym, true, ℕ, ◌==◌, ◌∙◌, ◌∷◌, ◌≡◌, ◌||◌}
use Rattle.std.proofs.lemmas.Bool.{and_from, not-false}
use Rattle.action_names.specs.Names.{Name}
use Rattle.run_model.specs.declared.answer.Answer.TheVariants.{Done, VoteNo, VoteYes}
use Rattle.run_model.specs.declared.history.Event.{Event}
use Rattle.run_model.specs.declared.step.Step.{Step}
use Rattle.run_model.specs.declared.step.Step.TheVariants.{Abort, Arms, Call, Close, Commit, Crash, Decide, NestedTop, Op, Prepare, Recover, Tell, Top}
use Rattle.run_model.specs.Actions.{home_of, is_begun, is_committed}
use Rattle.run_model.specs.Answers.{answer_of, outcome}
use Rattle.run_model.specs.LocalHistories.{Stamped, dependencies_carried, events_of, local_history, names_guardian, outcomes_carried}
use Rattle.run_model.specs.LocalReadings.{LocalEvent, count_here, outcome_in, says_committed, vote_here}
use Rattle.run_model.specs.Refusals.{checks}
use Rattle.run_model.specs.Openings.{Opening}
use Rattle.run_model.specs.Runs.{IsRun}
use Rattle.run_laws.proofs.Accepted.{NoneApplies, answered, checked}
use Rattle.run_laws.proofs.Names.{eqb_self, same_name_self}
use Rattle.local_laws.specs.Owed.{IsLocalRun, IsOwed, LocalRuns, begins, goes_on}
use Rattle.local_laws.proofs.Lent.{in_setup}
use Rattle.local_laws.proofs.Operations.{operations_same, tellings_same, votes_same}
use Rattle.local_laws.proofs.Outcomes.{history_named, history_unnamed, local_event}
use Rattle.local_laws.proofs.Roster.{there_own}
use Rattle.run_model.specs.declared.answer.Refusal.TheVariants as why
use Rattle.atomic_types.specs.Operations as op

-- what one event owes
owed : (opening : Opening) (s : Stamped) (run : List Stamped) (g : ℕ) → IsRun opening (events_of (s ∷ run)) → names_guardian s.1.step (events_of run) g ≡ true
    → IsOwed opening g (local_event opening s run g) (local_history opening run g) s.1.step
owed opening s run g r n = of s.1.step refl n (checked opening s.1 (events_of run) r)
  where
    past : List Event
    past = events_of run

    here : List LocalEvent
    here = local_history opening run g

    -- the outcome that a telling brings
    told : (h : ℕ) (a : Name) → (h == g) ≡ true → says_committed (outcome_in (outcomes_carried (Tell h a) g past here) a) ≡ is_committed a past
    told h a q =
        ap (λ t. says_committed (outcome_in (cond t ((a, is_committed a past) ∷ []) []) a)) q
        ∙ ap (λ t. says_committed (cond t (Some (is_committed a past)) None)) (same_name_self a)

    of : (step : Step) → step ≡ s.1.step → names_guardian step past g ≡ true → NoneApplies (checks opening step past)
        → IsOwed opening g (local_event opening s run g) here step
    of (Op a x wanted) q n f =
        let b : is_begun a past ≡ true = not-false _ (f why.NoAction) in
        let home = eqb-true (home_of a past) g n in
        let there = there_own opening run g a r.2 b home in
        (and_from _ _ there.begun (ap (λ k. k == g) there.home ∙ eqb_self g), r.0 ∙ ap (λ st. answer_of opening st past) (sym q) ∙ sym (operations_same opening run g a x wanted r.2 b home))
    of (Prepare h t) q n f = λ k.
        let same = eqb-true h g k in
        let event : record { step = Prepare g t; answer = s.1.answer } ≡ s.1 = λ i. record { step = ((ap (λ m. Prepare m t) (sym same)) ∙ q) i; answer = s.1.answer } in
        let member = in_setup opening g (ap (λ m. (m == 0) || nat_lt (length opening.setup) m) (sym same) ∙ f why.NoGuardian) in
        answered opening s.1 past r ∙ ap (λ st. outcome opening st past) (sym q ∙ ap (λ m. Prepare m t) same)
        ∙ ap (λ v. cond v VoteYes VoteNo) (sym (votes_same opening run g t s.1.answer r.2 member) ∙ ap (λ e. vote_here g t (dependencies_carried opening e g past) here) event)
    of (Tell h a) q n f =
        answered opening s.1 past r ∙ ap (λ st. outcome opening st past) (sym q ∙ ap (λ m. Tell m a) (eqb-true h g n))
        ∙ ap (λ k. Done k) (sym (ap (λ c. count_here opening g a c here) (ap (λ st. says_committed (outcome_in (outcomes_carried st g past here) a)) (sym q) ∙ told h a n) ∙ tellings_same opening run g a r.2))
    of (Top h) q n f = tt
    of (NestedTop a) q n f = tt
    of (Call a h) q n f = tt
    of (Arms a kinds) q n f = tt
    of (Commit a) q n f = tt
    of (Close t) q n f = tt
    of (Decide t) q n f = tt
    of (Abort a) q n f = tt
    of (Crash h) q n f = tt
    of (Recover h) q n f = tt

pub local_runs : LocalRuns
local_runs opening [] g r = begins
local_runs opening (s ∷ run) g r = of (names_guardian s.1.step (events_of run) g) refl (local_runs opening run g r.2)
  where
    P : List LocalEvent → Type 0
    P l = IsLocalRun opening g [] l

    of : (t : Bool) → names_guardian s.1.step (events_of run) g ≡ t → IsLocalRun opening g [] (local_history opening run g)
        → IsLocalRun opening g [] (local_history opening (s ∷ run) g)
    of true n ih = subst P (sym (history_named opening s run g n)) (goes_on (local_event opening s run g) (owed opening s run g r n) refl ih)
    of false n ih = subst P (sym (history_unnamed opening s run g n)) ih

-- the newest event of a local history has what it should
pub newest_owed : (opening : Opening) (g : ℕ) (c : LocalEvent) (here : List LocalEvent) → IsLocalRun opening g [] (c ∷ here)
    → IsOwed opening g c here c.event.step
newest_owed opening g _ _ (goes_on c owed none r) = owed
