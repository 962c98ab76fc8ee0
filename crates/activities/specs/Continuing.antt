-- What has begun and ended since a world.
use Rattle.std.specs.Prelude.{◌≡◌, false, IsTrue, List, [], ◌∷◌, ◌++◌}
use Rattle.action_names.specs.Names.{Name}
use Rattle.run_model.specs.declared.step.Step.{Step}
use Rattle.run_model.specs.declared.step.Step.TheVariants.{Top}
use Rattle.run_model.specs.declared.answer.Answer.{Answer}
use Rattle.run_model.specs.declared.history.Event.{Event}
use Rattle.run_model.specs.Actions.{names_begun, is_begun, is_ended}
use Rattle.run_model.specs.Answers.{answer_of}
use Rattle.run_model.specs.Openings.{opening_in}
use Rattle.run_model.specs.Runs.{World, world_after}

-- the actions that a `top` step begins
abbrev pub tops_by : Step → Answer → List Name
tops_by (Top g) answer = names_begun answer
tops_by _ answer = []

-- the actions that `top` steps began, the oldest first
abbrev pub tops_begun : List Event → List Name
tops_begun [] = []
tops_begun (e ∷ past) = tops_begun past ++ tops_by e.step e.answer

-- each action that was begun since then has ended
abbrev pub EndsAll : World → World → Type 0
EndsAll old new = (a : Name) → IsTrue (is_begun a new.past) → (is_begun a old.past ≡ false)
    → IsTrue (is_ended a new.past)

-- the world was left by one step
abbrev pub IsAfter : Step → World → World → Type 0
IsAfter step old new = new ≡ world_after old step (answer_of (opening_in old.lists) step old.past)
