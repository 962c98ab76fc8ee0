-- The steps of one activity in a world that nobody else steps.
use Rattle.std.proofs.Common.{inl, inr, Bool, IsTrue, List, [], ap, false, refl, subst, sym, true, ◌++◌, ◌∙◌, ◌∷◌, ◌≡◌}
use Rattle.std.proofs.lemmas.Bool.{false_from_ne_true, false≢true, or_cases}
use Rattle.action_names.specs.Names.{Name, has_name}
use Rattle.run_model.specs.declared.answer.Answer.{Answer}
use Rattle.run_model.specs.declared.history.Event.{Event}
use Rattle.run_model.specs.declared.step.Step.{Step}
use Rattle.run_model.specs.Actions.{begun, is_begun, is_committed, names_begun}
use Rattle.run_model.specs.Openings.{Opening, opening_in}
use Rattle.run_model.specs.Runs.{IsRun, World, world_after}
use Rattle.run_laws.proofs.Begun.{begun_once}
use Rattle.run_laws.proofs.Names.{clash, has_name_append}
use Rattle.activities.specs.Making.{Makes}
use Rattle.activities.specs.Serial.{after, asked}
use Rattle.activities.proofs.Making.{begun_older, committed_older, committed_parts}

-- what later events of a run began had not been begun
pub once : (opening : Opening) (a : Name) (later past : List Event) → IsRun opening (later ++ past) → IsTrue (is_begun a later) → is_begun a past ≡ false
once opening a [] past r h = absurd (false≢true h)
once opening a (e ∷ later) past r h = elim (or_cases (has_name (names_begun e.answer) a) (has_name (begun later) a) (sym (has_name_append (names_begun e.answer) (begun later) a) ∙ h)) [
  | inl n ↦ false_from_ne_true _ (λ b. clash n (begun_once opening e (later ++ past) a r (begun_older a later past b)))
  | inr b ↦ once opening a later past r.2 b
]

-- an action that began before has committed exactly where it had, unless the events may commit it
pub kept_commit : (actors committing : List Name) (old new : World) → Makes actors committing old new → IsRun (opening_in new.lists) new.past
    → (a : Name) → IsTrue (is_begun a old.past) → has_name committing a ≡ false → is_committed a new.past ≡ is_committed a old.past
kept_commit actors committing old new m r a b n = ap (is_committed a) m.past ∙ same (is_committed a old.past) refl
  where
    run : IsRun (opening_in new.lists) (m.later ++ old.past)
    run = subst (λ l. IsRun (opening_in new.lists) l) m.past r

    none : IsTrue (is_committed a m.later) → ⊥
    none c = elim (m.commits a c) [ inl t ↦ clash t n | inr t ↦ clash b (once (opening_in new.lists) a m.later old.past run t) ]

    same : (t : Bool) → is_committed a old.past ≡ t → is_committed a (m.later ++ old.past) ≡ is_committed a old.past
    same true e = committed_older a m.later old.past e ∙ sym e
    same false e =
        false_from_ne_true _ (λ c. elim (committed_parts a m.later old.past c) [ inl k ↦ none k | inr k ↦ clash k e ]) ∙ sym e

-- ---- answers

-- who is alone leaves the world that the step leaves
pub alone_after : (step : Step) (answer : Answer) (old new : World) → new ≡ world_after old step answer → answer ≡ asked step old → new ≡ after step old
alone_after step answer old new w a = w ∙ ap (λ b. world_after old step b) a
