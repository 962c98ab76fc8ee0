-- What a guardian's stable store contains.
use Rattle.std.specs.Prelude.{ℕ, suc, max, Bool, false, ◌&&◌, ◌||◌, ◌==◌, ◌+◌, List, [], ◌∷◌, length, filter_map, option_map, if◌then◌else◌, Option, Some, None, filter}
use Rattle.std.specs.List.{list_any}
use Rattle.action_names.specs.Names.{Name, same_name, last_of}
use Rattle.run_model.specs.declared.step.Step.{Step}
use Rattle.run_model.specs.declared.step.Step.TheVariants.{Decide, Prepare, Tell}
use Rattle.run_model.specs.declared.answer.Answer.{Answer}
use Rattle.run_model.specs.declared.answer.Answer.TheVariants.{VoteYes}
use Rattle.run_model.specs.declared.history.Event.{Event}
use Rattle.run_model.specs.Actions.{home_of, is_committed, step_recovers}
use Rattle.run_model.specs.Visibility.{votes_yes}
use Rattle.run_model.specs.Keeping.{Standing, standing_of}
use Rattle.run_model.specs.Openings.{Opening, first_content, objects_at, part_at}
use Rattle.atomic_types.specs.declared.part.Part.{Part}
use Rattle.atomic_types.specs.Parts.{over}
use Rattle.run_model.specs.declared.step.ObjectId.{ObjectId}
use Rattle.run_model.specs.Lists.{up_to}
use Rattle.run_model.specs.Versions.{part_held}

-- the count: how often g has recovered
abbrev pub stable_count : Opening → ℕ → List Event → ℕ
stable_count opening g past =
    (opening.stores g).count + length (filter (λ e. step_recovers e.step g) past)

abbrev pub step_decides : Step → Name → Bool
step_decides (Decide t) a = same_name t a
step_decides _ a = false

-- t is among the decided top actions: it was decided, and g is its home
abbrev pub is_stably_decided : Opening → ℕ → Name → List Event → Bool
is_stably_decided opening g t past =
    (opening.stores g).decided t
    || (list_any (λ e. step_decides e.step t) past && (home_of t past == g))

-- the greater of the number and of that after t's, where the step is g's yes vote on t
abbrev pub raised_by : Step → Answer → ℕ → ℕ → ℕ
raised_by (Prepare h t) VoteYes g n = if h == g then max n (suc (last_of t)) else n
raised_by _ _ g n = n

-- the number after the greatest of the top actions on which g voted yes; 1 where there is none
abbrev pub stable_next_top : Opening → ℕ → List Event → ℕ
stable_next_top opening g [] = (opening.stores g).next_top
stable_next_top opening g (e ∷ past) = raised_by e.step e.answer g (stable_next_top opening g past)

-- the record of a prepared top action: its home, and for each object at which it holds a write or an add, its value
-- or its delta
pub record Prepared : Type 0 where
  pub home : ℕ
  pub parts : List (ℕ × Part)

-- the objects at g at which t holds a write or an add, rising, each with what t holds, where this is how each of them
-- stands
abbrev pub parts_by : Opening → ℕ → (ObjectId → Standing) → Name → List (ℕ × Part)
parts_by opening g standing t =
    filter_map (λ n. let x : ObjectId = record { guardian = g; number = n } in
    option_map (λ p. (n, p)) (part_held (first_content opening x) (standing x) t))
    (up_to (length (objects_at opening.setup g)))

abbrev pub parts_held : Opening → ℕ → Name → List Event → List (ℕ × Part)
parts_held opening g t past = parts_by opening g (λ x. standing_of x past) t

abbrev pub step_told : Step → ℕ → Name → Bool
step_told (Tell h a) g t = (h == g) && same_name a t
step_told _ g t = false

-- the record of t at g: from g's yes vote, with what t held just after it, until g is told t's outcome
abbrev pub stable_prepared : Opening → ℕ → Name → List Event → Option Prepared
stable_prepared opening g t [] = None
stable_prepared opening g t (e ∷ past) =
    if votes_yes e.step e.answer g t
    then Some (record { home = home_of t past; parts = parts_held opening g t (e ∷ past) })
    else (if step_told e.step g t then None else stable_prepared opening g t past)

abbrev pub part_in : Option Prepared → ℕ → Option Part
part_in None n = None
part_in (Some p) n = part_at p.parts n

-- what the telling of a step installs of object n at g: what a top action that has committed prepared of it
abbrev pub installed_by : Step → ℕ → ℕ → (Name → Option Prepared) → (Name → Bool) → Option Part
installed_by (Tell h t) g n prepared committed =
    if (h == g) && committed t then part_in (prepared t) n else None
installed_by _ g n prepared committed = None

-- what stands in the store once this is installed, if anything is
abbrev pub installed_over : Option Part → Option Part → Option Part
installed_over None old = old
installed_over (Some p) old = Some (over p old)

-- what is installed of object n at g; with nothing, or under a delta, the object has the setup's content
abbrev pub stable_base : Opening → ℕ → ℕ → List Event → Option Part
stable_base opening g n [] = (opening.stores g).base n
stable_base opening g n (e ∷ past) =
    installed_over
    (installed_by e.step g n (λ t. stable_prepared opening g t past) (λ t. is_committed t past))
    (stable_base opening g n past)
