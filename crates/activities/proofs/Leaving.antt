-- What the steps of some actions leave of a world, by their definition, and how that is composed.
use Rattle.std.proofs.Common.{Bool, IsTrue, List, None, [], false, inl, inr, refl, subst, true, ◌∙◌, ◌∷◌, ◌≡◌}
use Rattle.std.proofs.lemmas.Bool.{false≢true, or_cases, or_left, or_right}
use Rattle.action_names.specs.Names.{Name, has_name, same_name}
use Rattle.run_model.specs.declared.step.Step.{Step}
use Rattle.run_model.specs.Actions.{is_begun, is_ended, maker_in, names_begun}
use Rattle.run_model.specs.Openings.{opening_in}
use Rattle.run_model.specs.Runs.{IsRun, World}
use Rattle.run_laws.proofs.Runs.{run_more}
use Rattle.activities.specs.Continuing.{EndsAll}
use Rattle.activities.specs.Making.{Begins, Makes, commits_of}
use Rattle.activities.specs.OwnSteps.{IsOfAction, about}
use Rattle.activities.specs.Serial.{after, asked}
use Rattle.activities.proofs.Alone.{kept_commit}
use Rattle.activities.proofs.Going.{alone, ends_nowhere, ends_through, still_begun, still_ended}
use Rattle.activities.proofs.Making.{fresh_makes, makes_more, makes_nowhere, makes_quietly, makes_through, step_begins, step_makes}
use Rattle.activities.proofs.Steps.{HaveBegun, IsOpen, begins_names, ends_nothing}

-- the history of the world is a run
abbrev pub IsRunning : World → Type 0
IsRunning w = IsRun (opening_in w.lists) w.past

-- the names are among these
abbrev pub AreOf : List Name → List Name → Type 0
AreOf names more = (a : Name) → IsTrue (has_name names a) → IsTrue (has_name more a)

-- the world went on by steps of these actions, and of what they began, which has ended; and of what was begun before, at
-- most some have committed
pub record WentOn (actors committing : List Name) (old new : World) : Type 0 where
  pub makes : Makes actors committing old new
  pub is_run : IsRunning new
  pub ends : EndsAll old new

pub went_nowhere : (actors committing : List Name) (w : World) → IsRunning w → WentOn actors committing w w
went_nowhere actors committing w r = record { makes = makes_nowhere actors committing w; is_run = r; ends = ends_nowhere w }

pub went_through : (actors committing : List Name) (x y z : World) → WentOn actors committing x y → WentOn actors committing y z → WentOn actors committing x z
went_through actors committing x y z v w = record {
  makes = makes_through actors committing x y z v.makes w.makes;
  is_run = w.is_run;
  ends = ends_through x y z (λ a. still_ended y z a w.makes) v.ends w.ends;
}

pub went_more : (actors actors' committing more : List Name) (x y : World) → AreOf actors actors' → AreOf committing more → WentOn actors committing x y
    → WentOn actors' more x y
went_more actors actors' committing more x y f g w = record {
  makes = makes_more actors actors' committing more x y f g w.makes;
  is_run = w.is_run;
  ends = w.ends;
}

-- what commits nothing is no less than what may commit some
pub went_quietly : (actors committing : List Name) (x y : World) → WentOn actors [] x y → WentOn actors committing x y
went_quietly actors committing x y w = record { makes = makes_quietly actors committing x y w.makes; is_run = w.is_run; ends = w.ends }

-- an action that none of the commits was of may still go on
pub open_among : (names committing : List Name) (x y : World) (a : Name) → IsOpen a x → WentOn names committing x y → has_name committing a ≡ false
    → IsOpen a y
open_among names committing x y a o w k = record {
  begun = still_begun x y a w.makes o.begun;
  uncommitted = kept_commit names committing x y w.makes w.is_run a o.begun k ∙ o.uncommitted;
}

-- an action made a step, by which these have begun
pub record Made (a : Name) (names : List Name) (old new : World) : Type 0 where
  pub makes : Begins (a ∷ []) [] names old new
  pub is_run : IsRunning new
  pub began : HaveBegun names old new

-- ---- one step

module _ (a : Name) (w : World) (run : IsRunning w) (step : Step) (of : IsOfAction step) (subject : about step ≡ a ∷ []) where
  runs : IsRunning (after step w)
  runs = run_more (opening_in w.lists) step w.past run

  -- one that commits nothing
  pub made : commits_of step ≡ [] → Made a (names_begun (asked step w)) w (after step w)
  made none = record {
    makes =
        subst (λ c. Begins (a ∷ []) c (names_begun (asked step w)) w (after step w)) none
        (subst (λ names. Begins names (commits_of step) (names_begun (asked step w)) w (after step w)) subject (step_begins w step (asked step w) of));
    is_run = runs;
    began = begins_names w step (asked step w) run refl;
  }

  -- one that begins nothing
  pub went_by : (committing : List Name) → commits_of step ≡ committing → maker_in step ≡ None → WentOn (a ∷ []) committing w (after step w)
  went_by committing c m = record {
    makes =
        subst (λ cs. Makes (a ∷ []) cs w (after step w)) c
        (subst (λ names. Makes names (commits_of step) w (after step w)) subject (step_makes w step (asked step w) of));
    is_run = runs;
    ends = ends_nothing w step of m;
  }

-- where none has begun
pub made_nothing : (a : Name) (old new : World) → Made a [] old new → WentOn (a ∷ []) [] old new
made_nothing a old new m = record {
  makes = m.makes.makes;
  is_run = m.is_run;
  ends = λ b h k. absurd (false≢true (m.began.only b h k));
}

-- ---- actions that have run

-- each of the actions has ended, and none but these has committed
pub record CameToEnd (names : List Name) (old new : World) : Type 0 where
  pub went : WentOn names names old new
  pub ended : (a : Name) → IsTrue (has_name names a) → IsTrue (is_ended a new.past)

pub one_came : (a : Name) (old new : World) → WentOn (a ∷ []) (a ∷ []) old new → IsTrue (is_ended a new.past) → CameToEnd (a ∷ []) old new
one_came a old new w e = record { went = w; ended = λ c h. subst (λ n. IsTrue (is_ended n new.past)) (alone a c h) e }

-- what has just begun has ended, and so has all that began since
pub fresh_ends : (names : List Name) (x y z : World) → HaveBegun names x y → EndsAll y z
    → ((a : Name) → IsTrue (has_name names a) → IsTrue (is_ended a z.past)) → EndsAll x z
fresh_ends names x y z b f n a h k = go (is_begun a y.past) refl
  where
    go : (t : Bool) → is_begun a y.past ≡ t → IsTrue (is_ended a z.past)
    go true e = n a (b.only a e k)
    go false e = f a h e

-- those that a step began
pub fresh_came : (a : Name) (names : List Name) (x y z : World) → Made a names x y → CameToEnd names y z → WentOn (a ∷ []) [] x z
fresh_came a names x y z m c = record {
  makes = fresh_makes names (a ∷ []) x y z m.makes c.went.makes;
  is_run = c.went.is_run;
  ends = fresh_ends names x y z m.began c.went.ends c.ended;
}

-- one, and then others
pub one_then : (a : Name) (names : List Name) (x y z : World) → CameToEnd (a ∷ []) x y → CameToEnd names y z → CameToEnd (a ∷ names) x z
one_then a names x y z c d = record {
  went =
      went_through (a ∷ names) (a ∷ names) x y z (went_more (a ∷ []) (a ∷ names) (a ∷ []) (a ∷ names) x y first first c.went)
      (went_more names (a ∷ names) names (a ∷ names) y z rest rest d.went);
  ended = λ b h. elim (or_cases (same_name a b) (has_name names b) h) [
    | inl s ↦ still_ended y z b d.went.makes (c.ended b (or_left (same_name a b) false s))
    | inr n ↦ d.ended b n
  ];
}
  where
    first : AreOf (a ∷ []) (a ∷ names)
    first b h = elim (or_cases (same_name a b) false h) [ inl s ↦ or_left (same_name a b) (has_name names b) s | inr n ↦ absurd (false≢true n) ]

    rest : AreOf names (a ∷ names)
    rest b h = or_right (same_name a b) (has_name names b) h
