-- A guardian's store contains by its own history what it should.
use Rattle.std.proofs.Common.{Bool, List, None, Option, Some, [], ap, ap₂, cond, false, refl, sym, true, ℕ, ◌&&◌, ◌==◌, ◌∙◌, ◌∷◌, ◌≡◌, ◌||◌, inl, inr}
use Rattle.std.proofs.lemmas.Bool.{and_left, and_parts, false≢true, or_cases}
use Rattle.action_names.specs.Names.{Name, same_name}
use Rattle.run_model.specs.declared.answer.Answer.{Answer}
use Rattle.run_model.specs.declared.answer.Answer.TheVariants.{VoteYes}
use Rattle.run_model.specs.declared.history.Event.{Event}
use Rattle.run_model.specs.declared.step.Step.{Step}
use Rattle.run_model.specs.declared.step.Step.TheVariants.{Prepare, Tell, Decide}
use Rattle.run_model.specs.Actions.{home_of, is_committed, is_begun, step_commits}
use Rattle.run_model.specs.Lists.{carried_from}
use Rattle.run_model.specs.LocalHistories.{Stamped, events_of, local_history, names_guardian, outcomes_carried}
use Rattle.run_model.specs.LocalReadings.{LocalEvent, or_zero, outcome_in, prepared_here, says_committed, stable_base_here, standing_here}
use Rattle.run_model.specs.StableContent.{Prepared, installed_by, installed_over, stable_base, stable_prepared, step_told, part_in, parts_by, parts_held, step_decides}
use Rattle.run_model.specs.Visibility.{votes_yes}
use Rattle.run_model.specs.Openings.{Opening}
use Rattle.run_model.specs.Runs.{IsRun}
use Rattle.run_laws.proofs.Names.{same_name_self, same_name_true}
use Rattle.local_laws.specs.Answering.{BasesSame, PreparedSame, DecidedSame}
use Rattle.local_laws.proofs.Bare.{parts_same}
use Rattle.local_laws.proofs.Outcomes.{history_named, history_unnamed, local_event, unnamed_votes}
use Rattle.std.specs.List.{list_any}
use Rattle.run_laws.proofs.Ended.{commits_begun}
use Rattle.run_laws.proofs.Begun.{begun_more}
use Rattle.run_laws.proofs.Homes.{home_more}

-- who asks for a vote tells whose home it is
vote_sender : (step : Step) (answer : Answer) (past : List Event) (g : ℕ) (t : Name) → votes_yes step answer g t ≡ true
    → or_zero (carried_from step g past) ≡ home_of t past
vote_sender (Prepare h b) VoteYes past g t k =
    let p = and_parts (h == g) (same_name b t) k in
    ap (λ u. or_zero (cond u (Some (home_of b past)) None)) p.0 ∙ ap (λ c. home_of c past) (same_name_true b t p.1)
vote_sender _ _ past g t k = absurd (false≢true k)

unnamed_told : (step : Step) (past : List Event) (g : ℕ) (t : Name) → names_guardian step past g ≡ false → step_told step g t ≡ false
unnamed_told (Tell h a) past g t n = and_left (h == g) (same_name a t) n
unnamed_told _ past g t n = refl

pub prepared_same : PreparedSame
prepared_same opening [] g t r = refl
prepared_same opening (s ∷ run) g t r = of (names_guardian s.1.step (events_of run) g) refl (prepared_same opening run g t r.2)
  where
    past : List Event
    past = events_of run

    here : List LocalEvent
    here = local_history opening run g

    own : Option Prepared
    own = Some (record { home = or_zero (carried_from s.1.step g past); parts = parts_by opening g (λ x. standing_here (local_event opening s run g ∷ here) x) t })

    flat : Option Prepared
    flat = Some (record { home = home_of t past; parts = parts_held opening g t (s.1 ∷ past) })

    of : (u : Bool) → names_guardian s.1.step past g ≡ u → prepared_here opening g t here ≡ stable_prepared opening g t past
        → prepared_here opening g t (local_history opening (s ∷ run) g) ≡ stable_prepared opening g t (s.1 ∷ past)
    of true n ih =
        ap (λ l. prepared_here opening g t l) (history_named opening s run g n)
        ∙ ap (λ o. cond (votes_yes s.1.step s.1.answer g t) own (cond (step_told s.1.step g t) None o)) ih
        ∙ voted (votes_yes s.1.step s.1.answer g t) refl
      where
        voted : (v : Bool) → votes_yes s.1.step s.1.answer g t ≡ v
            → cond v own (cond (step_told s.1.step g t) None (stable_prepared opening g t past))
            ≡ cond v flat (cond (step_told s.1.step g t) None (stable_prepared opening g t past))
        voted true v =
            let home = vote_sender s.1.step s.1.answer past g t v in
            let parts = ap (λ l. parts_by opening g (λ x. standing_here l x) t) (sym (history_named opening s run g n)) ∙ parts_same opening (s ∷ run) g t r in
            λ i. Some (record { home = home i; parts = parts i })
        voted false v = refl
    of false n ih =
        ap (λ l. prepared_here opening g t l) (history_unnamed opening s run g n) ∙ ih
        ∙ sym (ap₂ (λ v u. cond v flat (cond u None (stable_prepared opening g t past))) (unnamed_votes s.1.step s.1.answer past g t n) (unnamed_told s.1.step past g t n))

pub bases_same : BasesSame
bases_same opening [] g n r = refl
bases_same opening (s ∷ run) g n r = of (names_guardian s.1.step (events_of run) g) refl (bases_same opening run g n r.2)
  where
    past : List Event
    past = events_of run

    here : List LocalEvent
    here = local_history opening run g

    -- what is installed
    installed : (step : Step)
        → installed_by step g n (λ t. prepared_here opening g t here) (λ t. says_committed (outcome_in (outcomes_carried step g past here) t))
        ≡ installed_by step g n (λ t. stable_prepared opening g t past) (λ t. is_committed t past)
    installed (Tell h t) = told (h == g)
      where
        told : (u : Bool) → cond (u && says_committed (outcome_in (cond u ((t, is_committed t past) ∷ []) []) t)) (part_in (prepared_here opening g t here) n) None
            ≡ cond (u && is_committed t past) (part_in (stable_prepared opening g t past) n) None
        told true = ap₂ (λ c p. cond (says_committed (cond c (Some (is_committed t past)) None)) (part_in p n) None) (same_name_self t) (prepared_same opening run g t r.2)
        told false = refl
    installed _ = refl

    quiet : (step : Step) → names_guardian step past g ≡ false
        → installed_by step g n (λ t. stable_prepared opening g t past) (λ t. is_committed t past) ≡ None
    quiet (Tell h t) q = ap (λ u. cond u (part_in (stable_prepared opening g t past) n) None) (and_left (h == g) (is_committed t past) q)
    quiet _ q = refl

    of : (u : Bool) → names_guardian s.1.step past g ≡ u → stable_base_here opening g n here ≡ stable_base opening g n past
        → stable_base_here opening g n (local_history opening (s ∷ run) g) ≡ stable_base opening g n (s.1 ∷ past)
    of true q ih =
        ap (λ l. stable_base_here opening g n l) (history_named opening s run g q) ∙ ap₂ installed_over (installed s.1.step) ih
    of false q ih =
        ap (λ l. stable_base_here opening g n l) (history_unnamed opening s run g q) ∙ ih
        ∙ sym (ap (λ o. installed_over o (stable_base opening g n past)) (quiet s.1.step q))

-- a decision commits
decides_commits : (step : Step) (t : Name) → step_decides step t ≡ true → step_commits step t ≡ true
decides_commits (Decide b) t k = k
decides_commits _ t k = absurd (false≢true k)

-- it names the home of the top action, and no other guardian
decides_names : (step : Step) (past : List Event) (g : ℕ) (t : Name) → step_decides step t ≡ true
    → names_guardian step past g ≡ (home_of t past == g)
decides_names (Decide b) past g t k = ap (λ c. home_of c past == g) (same_name_true b t k)
decides_names _ past g t k = absurd (false≢true k)

-- what was decided was begun
decided_begun : (opening : Opening) (past : List Event) (t : Name) → IsRun opening past → list_any (λ e. step_decides e.step t) past ≡ true
    → is_begun t past ≡ true
decided_begun opening [] t r h = absurd (false≢true h)
decided_begun opening (e ∷ past) t r h =
    begun_more e past t
    (elim (or_cases _ _ h) [
      | inl k ↦ commits_begun opening e past t r (decides_commits e.step t k)
      | inr k ↦ decided_begun opening past t r.2 k
    ])

and_none : (x : Bool) → (x && false) ≡ false
and_none true = refl
and_none false = refl

-- some event decides t: by the guardian's own events, and by all where t is at home there
abbrev decides_here : Name → List LocalEvent → Bool
decides_here t here = list_any (λ c. step_decides c.event.step t) here

abbrev decides_at : ℕ → Name → List Event → Bool
decides_at g t past = list_any (λ e. step_decides e.step t) past && (home_of t past == g)

decides_same : (opening : Opening) (run : List Stamped) (g : ℕ) (t : Name) → IsRun opening (events_of run)
    → decides_here t (local_history opening run g) ≡ decides_at g t (events_of run)
decides_same opening [] g t r = refl
decides_same opening (s ∷ run) g t r = by (step_decides s.1.step t) refl (decides_same opening run g t r.2)
  where
    past : List Event
    past = events_of run

    here : List LocalEvent
    here = local_history opening run g

    ever : Bool
    ever = list_any (λ e. step_decides e.step t) past

    Goal : Type 0
    Goal = decides_here t (local_history opening (s ∷ run) g) ≡ decides_at g t (s.1 ∷ past)

    by : (d : Bool) → step_decides s.1.step t ≡ d → decides_here t here ≡ decides_at g t past → Goal
    by true k ih = decided (names_guardian s.1.step past g) refl
      where
        home : (home_of t (s.1 ∷ past) == g) ≡ names_guardian s.1.step past g
        home =
            ap (λ h. h == g) (home_more opening s.1 past t r (commits_begun opening s.1 past t r (decides_commits s.1.step t k)))
            ∙ sym (decides_names s.1.step past g t k)

        decided : (u : Bool) → names_guardian s.1.step past g ≡ u → Goal
        decided true n =
            ap (λ l. decides_here t l) (history_named opening s run g n) ∙ ap (λ x. x || decides_here t here) k
            ∙ sym (ap₂ (λ x y. (x || ever) && y) k (home ∙ n))
        decided false n =
            ap (λ l. decides_here t l) (history_unnamed opening s run g n) ∙ ih
            ∙ ap (λ y. ever && y) (sym (decides_names s.1.step past g t k) ∙ n) ∙ and_none ever
            ∙ sym (ap₂ (λ x y. (x || ever) && y) k (home ∙ n))
    by false k ih = other (names_guardian s.1.step past g) refl ∙ same ever refl
      where
        other : (u : Bool) → names_guardian s.1.step past g ≡ u
            → decides_here t (local_history opening (s ∷ run) g) ≡ decides_at g t past
        other true n = ap (λ l. decides_here t l) (history_named opening s run g n) ∙ ap (λ x. x || decides_here t here) k ∙ ih
        other false n = ap (λ l. decides_here t l) (history_unnamed opening s run g n) ∙ ih

        same : (v : Bool) → ever ≡ v → decides_at g t past ≡ decides_at g t (s.1 ∷ past)
        same true q =
            ap₂ (λ x h. x && (h == g)) (sym (ap (λ x. x || ever) k))
            (sym (home_more opening s.1 past t r (decided_begun opening past t r.2 q)))
        same false q =
            ap (λ x. x && (home_of t past == g)) q
            ∙ sym (ap₂ (λ x y. (x || y) && (home_of t (s.1 ∷ past) == g)) k q)

pub decided_same : DecidedSame
decided_same opening run g t r = ap (λ d. (opening.stores g).decided t || d) (decides_same opening run g t r)
