-- What the outcomes that an event brings make of the way in which an object stands.
use Rattle.std.specs.Prelude.{◌≡◌, Bool, true, false, not, ◌||◌, List, [], ◌∷◌, filter, None}
use Rattle.std.specs.List.{list_any}
use Rattle.action_names.specs.Names.{Name, ancestors, same_name}
use Rattle.run_model.specs.Keeping.{Standing}
use Rattle.run_model.specs.LocalReadings.{outcome_in, says_aborted, says_committed}
use Rattle.object_laws.specs.Changes.{told_too, undone}

-- all of them at once: who committed was told so, and what aborted actions and their descendants did is undone
abbrev pub heard : List (Name × Bool) → Standing → Standing
heard outcomes s = record {
  told = λ b. says_committed (outcome_in outcomes b) || s.told b;
  kept =
      filter (λ o. not (list_any (λ b. says_aborted (outcome_in outcomes b)) (ancestors o.action)))
      s.kept;
  restored =
      filter (λ r. not (list_any (λ b. says_aborted (outcome_in outcomes b)) (ancestors r.0)))
      s.restored;
}

-- one of them
abbrev pub heard_one : Name → Bool → Standing → Standing
heard_one a true s = told_too (λ b. same_name b a) s
heard_one a false s = undone (λ b. same_name b a) s

-- one after another, the last of them first
abbrev pub heard_in_turn : List (Name × Bool) → Standing → Standing
heard_in_turn [] s = s
heard_in_turn (x ∷ outcomes) s = heard_one x.0 x.1 (heard_in_turn outcomes s)

-- each is of an action of its own
abbrev pub AreOfTheirOwn : List (Name × Bool) → Type 0
AreOfTheirOwn [] = Unit {0}
AreOfTheirOwn (x ∷ outcomes) = (outcome_in outcomes x.0 ≡ None) × AreOfTheirOwn outcomes
