-- The answer of a step asks of no guardian but of those that it names.
use Rattle.std.proofs.Common.{Bool, List, [], ap, cond, eqb-true, false, not, refl, sym, true, ℕ, ◌==◌, ◌∙◌, ◌∷◌, ◌≡◌}
use Rattle.std.proofs.lemmas.Bool.{or_left, or_right}
use Rattle.action_names.specs.Names.{child_of}
use Rattle.run_model.specs.declared.answer.Answer.{Answer}
use Rattle.run_model.specs.declared.answer.Answer.TheVariants.{Began, Done, VoteNo, VoteYes}
use Rattle.run_model.specs.declared.answer.Refusal.TheVariants as why
use Rattle.run_model.specs.declared.history.Event.{Event}
use Rattle.run_model.specs.declared.step.Step.{Step}
use Rattle.run_model.specs.declared.step.Step.TheVariants.{Abort, Arms, Call, Close, Commit, Crash, Decide, NestedTop, Op, Prepare, Recover, Tell, Top}
use Rattle.run_model.specs.Actions.{crashes, home_of, is_committed, is_down, is_gone}
use Rattle.run_model.specs.Answers.{operated_by, refused_or}
use Rattle.run_model.specs.LocalHistories.{answer_lent, dependency_there, events_there, facts_lent, names_guardian}
use Rattle.run_model.specs.LocalReadings.{LocalEvent, count_here, events_here, is_orphan_here, standing_here, told_here}
use Rattle.run_model.specs.Refusals.{Check, Facts, arm_names, checks_by, first_refusal}
use Rattle.run_model.specs.Openings.{first_content}
use Rattle.run_model.specs.Votes.{is_number}
use Rattle.run_laws.proofs.Names.{eqb_self}
use Rattle.local_laws.specs.Registries.{AsksNamed}
use Rattle.run_laws.proofs.Accepted.{refused_anyway}

pub asks_named : AsksNamed
asks_named opening registry histories others step h = of step h
  where
    there : List Event
    there = events_there registry

    f : Facts
    f = facts_lent opening registry histories

    -- the facts where the action's home has one history, and the guardian that the step names another
    by : List LocalEvent → List LocalEvent → Facts
    by home named = record f {
      gone = λ b. is_gone b (events_here home);
      orphan = λ b. is_orphan_here opening (home_of b there) home b;
      down = λ g. is_down g (events_here named);
      told = λ g b. told_here g b named;
    }

    -- the answer by these facts
    told_by : Step → Answer → List LocalEvent → List LocalEvent → Answer
    told_by step outcome home named = refused_or (first_refusal (checks_by opening (by home named) step)) outcome

    of : (step : Step) → ((g : ℕ) → names_guardian step there g ≡ true → histories g ≡ others g)
        → answer_lent opening registry histories step ≡ answer_lent opening registry others step
    of (Top g) h = let p = h g (eqb_self g) in λ i. told_by (Top g) (Began ((f.next [] ∷ []) ∷ [])) (p i) (p i)
    of (NestedTop a) h =
        let p = h (home_of a there) (eqb_self (home_of a there)) in λ i.
        told_by (NestedTop a) (Began ((f.next [] ∷ []) ∷ [])) (p i) (p i)
    of (Call a g) h =
        let p = h (home_of a there) (or_left _ _ (eqb_self (home_of a there))) in
        let q = h g (or_right _ _ (eqb_self g)) in λ i.
        told_by (Call a g) (Began (child_of a (f.next a) ∷ [])) (p i) (q i)
    of (Arms a kinds) h =
        let p = h (home_of a there) (eqb_self (home_of a there)) in λ i.
        told_by (Arms a kinds) (Began (arm_names a (f.next a) (f.next []) kinds)) (p i) (p i)
    of (Op a x wanted) h = (λ i. told_by (Op a x wanted) mine (p i) (p i)) ∙ decide (x.guardian == home_of a there) refl
      where
        p : histories (home_of a there) ≡ others (home_of a there)
        p = h (home_of a there) (eqb_self (home_of a there))

        cs : List Check
        cs = checks_by opening (facts_lent opening registry others) (Op a x wanted)

        mine : Answer
        mine = operated_by (first_content opening x) (standing_here (histories x.guardian) x) a wanted

        theirs : Answer
        theirs = operated_by (first_content opening x) (standing_here (others x.guardian) x) a wanted

        decide : (t : Bool) → (x.guardian == home_of a there) ≡ t → refused_or (first_refusal cs) mine ≡ refused_or (first_refusal cs) theirs
        decide true q =
            let same = ap (λ g. histories g) (eqb-true x.guardian (home_of a there) q) ∙ p ∙ sym (ap (λ g. others g) (eqb-true x.guardian (home_of a there) q)) in
            ap (λ l. refused_or (first_refusal cs) (operated_by (first_content opening x) (standing_here l x) a wanted)) same
        decide false q = refused_anyway why.Elsewhere cs mine theirs (ap not q)
    of (Commit a) h =
        let p = h (home_of a there) (or_left _ _ (eqb_self (home_of a there))) in λ i. told_by (Commit a) (Done 0) (p i) (p i)
    of (Close a) h = let p = h (home_of a there) (eqb_self (home_of a there)) in λ i. told_by (Close a) (Done 0) (p i) (p i)
    of (Prepare g t) h =
        let p = h (home_of t there) (or_left _ _ (eqb_self (home_of t there))) in
        let q = h g (or_right _ _ (eqb_self g)) in λ i.
        told_by (Prepare g t) (cond (is_number (dependency_there t g registry) (crashes g (events_here (q i)))) VoteYes VoteNo) (p i) (q i)
    of (Decide t) h = let p = h (home_of t there) (eqb_self (home_of t there)) in λ i. told_by (Decide t) (Done 0) (p i) (p i)
    of (Abort a) h = refl
    of (Tell g a) h =
        let p = h g (eqb_self g) in λ i.
        told_by (Tell g a) (Done (count_here opening g a (is_committed a there) (p i))) (p i) (p i)
    of (Crash g) h = let p = h g (eqb_self g) in λ i. told_by (Crash g) (Done 0) (p i) (p i)
    of (Recover g) h = let p = h g (eqb_self g) in λ i. told_by (Recover g) (Done 0) (p i) (p i)
