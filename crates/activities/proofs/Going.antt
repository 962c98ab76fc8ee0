-- Worlds that go on, step by step.
use Rattle.std.proofs.Common.{inl, inr, Bool, IsTrue, List, [], false, ap, append-nil, append_assoc, refl, subst, sym, true, ◌++◌, ◌∙◌, ◌∷◌, ◌≡◌}
use Rattle.std.proofs.lemmas.Bool.{or_cases, or_left, or_right, false≢true}
use Rattle.action_names.specs.Names.{Name, has_name, same_name}
use Rattle.run_model.specs.declared.history.Event.{Event}
use Rattle.run_model.specs.Actions.{is_begun, is_ended}
use Rattle.run_model.specs.Runs.{World}
use Rattle.run_laws.proofs.Growth.{aborted_stays, begun_stays, committed_stays, followed}
use Rattle.run_laws.proofs.Names.{clash, same_name_true}
use Rattle.activities.specs.Continuing.{EndsAll, tops_begun, tops_by}
use Rattle.activities.specs.Making.{Makes}

-- an action among one
pub alone : (a c : Name) → IsTrue (has_name (a ∷ []) c) → a ≡ c
alone a c h = elim (or_cases (same_name a c) false h) [ inl k ↦ same_name_true a c k | inr k ↦ absurd (false≢true k) ]

-- one list of events after another
pub tops_append : (later before : List Event) → tops_begun (later ++ before) ≡ tops_begun before ++ tops_begun later
tops_append [] before = sym (append-nil (tops_begun before))
tops_append (e ∷ later) before =
    ap (λ l. l ++ tops_by e.step e.answer) (tops_append later before)
    ∙ append_assoc (tops_begun before) (tops_begun later) (tops_by e.step e.answer)

-- what was begun stays so, and what has ended
pub begun_on : (a : Name) (later past : List Event) → IsTrue (is_begun a past) → IsTrue (is_begun a (later ++ past))
begun_on a later past h = begun_stays a (followed later past) h

pub ended_on : (a : Name) (later past : List Event) → IsTrue (is_ended a past) → IsTrue (is_ended a (later ++ past))
ended_on a later past h =
    let f = followed later past in elim (or_cases _ _ h) [
      | inl c ↦ or_left _ _ (committed_stays a f c)
      | inr k ↦ or_right _ _ (aborted_stays a f k)
    ]

module _ {actors committing : List Name} (x y : World) (a : Name) (m : Makes actors committing x y) where
  pub still_begun : IsTrue (is_begun a x.past) → IsTrue (is_begun a y.past)
  still_begun h = subst (λ l. IsTrue (is_begun a l)) (sym m.past) (begun_on a m.later x.past h)

  pub still_ended : IsTrue (is_ended a x.past) → IsTrue (is_ended a y.past)
  still_ended h = subst (λ l. IsTrue (is_ended a l)) (sym m.past) (ended_on a m.later x.past h)

-- ---- each action that began has ended

pub ends_nowhere : (w : World) → EndsAll w w
ends_nowhere w a h k = absurd (clash h k)

pub ends_through : (x y z : World) → ((a : Name) → IsTrue (is_ended a y.past) → IsTrue (is_ended a z.past)) → EndsAll x y → EndsAll y z → EndsAll x z
ends_through x y z g e f a h k = go (is_begun a y.past) refl
  where
    go : (t : Bool) → is_begun a y.past ≡ t → IsTrue (is_ended a z.past)
    go true b = g a (e a b k)
    go false b = f a h b
