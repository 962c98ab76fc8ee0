-- What was begun before clients ran is left alone by them.
use Rattle.std.proofs.Common.{inl, inr, Bool, IsTrue, List, [], ap, ap₂, false, refl, subst, ℕ, ◌++◌, ◌∙◌, ◌∷◌, ◌≡◌, ◌||◌, ◌&&◌, not}
use Rattle.std.proofs.lemmas.Bool.{false_from_ne_true, false≢true, or_left}
use Rattle.std.specs.List.{list_any}
use Rattle.action_names.specs.Names.{Name, has_name, same_name}
use Rattle.run_model.specs.declared.history.Event.{Event}
use Rattle.run_model.specs.declared.step.Step.{Step}
use Rattle.run_model.specs.declared.step.Step.TheVariants.{Abort, Close, Commit, Crash, Decide, Recover}
use Rattle.run_model.specs.Actions.{is_aborted, is_begun, is_closed, is_committed, is_down, step_aborts, step_closes, step_commits, step_crashes, step_recovers}
use Rattle.run_model.specs.Openings.{Opening, opening_in}
use Rattle.run_model.specs.Runs.{IsRun}
use Rattle.run_laws.proofs.Names.{clash, same_name_self, same_name_true}
use Rattle.activities.specs.Making.{AreOfClients, EarlierIsLeftAlone, IsKnown, IsOfClient}
use Rattle.activities.proofs.Alone.{once}

-- an action that was begun before is none that later events of the run began
module _ (opening : Opening) (before past : List Event) (run : IsRun opening (before ++ past)) (a : Name) (begun : IsTrue (is_begun a past)) where
  other : (b : Name) → IsKnown [] before b → same_name b a ≡ false
  other b h = false_from_ne_true _ (λ s. elim h [
    | inl t ↦ absurd (false≢true t)
    | inr n ↦ clash begun (once opening a before past run (subst (λ c. IsTrue (is_begun c before)) (same_name_true b a s) n))
  ])

  itself : (b : Name) → IsTrue (has_name (b ∷ []) b)
  itself b = or_left _ _ (same_name_self b)

  not_committed : (step : Step) → IsOfClient before step → step_commits step a ≡ false
  not_committed (Commit b) h = elim h [ inl t ↦ absurd t | inr k ↦ other b (k.1 b (itself b)) ]
  not_committed (Decide b) h = elim h [ inl t ↦ absurd t | inr k ↦ other b (k.1 b (itself b)) ]
  not_committed _ h = refl

  not_aborted : (step : Step) → IsOfClient before step → step_aborts step a ≡ false
  not_aborted (Abort b) h = elim h [ inl t ↦ absurd t | inr k ↦ other b (k.1 b (itself b)) ]
  not_aborted _ h = refl

  not_closed : (step : Step) → IsOfClient before step → step_closes step a ≡ false
  not_closed (Commit b) h = elim h [ inl t ↦ absurd t | inr k ↦ other b (k.1 b (itself b)) ]
  not_closed (Close b) h = elim h [ inl t ↦ absurd t | inr k ↦ other b (k.1 b (itself b)) ]
  not_closed _ h = refl

no_crash : (before : List Event) (g : ℕ) (step : Step) → IsOfClient before step → step_crashes step g ≡ false
no_crash before g (Crash h) own = elim own [ inl t ↦ absurd t | inr k ↦ absurd k.0 ]
no_crash before g _ own = refl

no_recovery : (before : List Event) (g : ℕ) (step : Step) → IsOfClient before step → step_recovers step g ≡ false
no_recovery before g (Recover h) own = elim own [ inl t ↦ absurd t | inr k ↦ absurd k.0 ]
no_recovery before g _ own = refl

-- where no step is such, the steps before decide
none_such : (says : Step → Bool) (opening : Opening) (past : List Event)
    → ((before : List Event) → IsRun opening (before ++ past) → (step : Step) → IsOfClient before step → says step ≡ false) → (later : List Event)
    → IsRun opening (later ++ past) → AreOfClients later → list_any (λ e. says e.step) (later ++ past) ≡ list_any (λ e. says e.step) past
none_such says opening past f [] run each = refl
none_such says opening past f (e ∷ before) run each =
    ap₂ (λ x y. x || y) (f before run.2 e.step each.0) (none_such says opening past f before run.2 each.1)

still_down : (g : ℕ) (past later : List Event) → AreOfClients later → is_down g (later ++ past) ≡ is_down g past
still_down g past [] each = refl
still_down g past (e ∷ before) each =
    ap₂ (λ x y. x || (not y && is_down g (before ++ past))) (no_crash before g e.step each.0) (no_recovery before g e.step each.0)
    ∙ still_down g past before each.1

pub earlier_is_left_alone : EarlierIsLeftAlone
earlier_is_left_alone tops old new run k = record {
  committed = λ a b. ap (is_committed a) k.past ∙ none_such (λ step. step_commits step a) at old.past (λ l r. not_committed at l old.past r a b) k.later there k.own;
  aborted = λ a b. ap (is_aborted a) k.past ∙ none_such (λ step. step_aborts step a) at old.past (λ l r. not_aborted at l old.past r a b) k.later there k.own;
  closed = λ a b. ap (is_closed a) k.past ∙ none_such (λ step. step_closes step a) at old.past (λ l r. not_closed at l old.past r a b) k.later there k.own;
  down = λ g. ap (is_down g) k.past ∙ still_down g old.past k.later k.own;
}
  where
    at : Opening
    at = opening_in new.lists

    there : IsRun at (k.later ++ old.past)
    there = subst (λ l. IsRun at l) k.past run
