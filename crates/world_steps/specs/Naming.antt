-- The guardians that a step names: two, or one twice.
use Rattle.std.specs.Prelude.{◌≡◌, ℕ, List, Option, None, Some}
use Rattle.action_names.specs.Names.{Name, parent_of}
use Rattle.run_model.specs.declared.history.Event.{Event}
use Rattle.run_model.specs.declared.step.Step.{Step}
use Rattle.run_model.specs.declared.step.Step.TheVariants.{Abort, Arms, Call, Close, Commit, Crash, Decide, NestedTop, Op, Prepare, Recover, Tell, Top}
use Rattle.run_model.specs.Actions.{home_of, maker_of}
use Rattle.run_model.specs.LocalHistories.{events_there}
use Rattle.layer_contracts.specs.Forests.{ForestState}
use Rattle.world_steps.specs.declared.names.NamedGuardians.{NamedGuardians}

-- the home of the action of which the step speaks, and of a step that speaks to a guardian alone that guardian
abbrev pub first_named : Step → List Event → ℕ
first_named (Top g) past = g
first_named (NestedTop a) past = home_of a past
first_named (Call a g) past = home_of a past
first_named (Arms a kinds) past = home_of a past
first_named (Op a x wanted) past = home_of a past
first_named (Commit a) past = home_of a past
first_named (Close t) past = home_of t past
first_named (Prepare g t) past = home_of t past
first_named (Decide t) past = home_of t past
first_named (Abort a) past = home_of a past
first_named (Tell g a) past = g
first_named (Crash g) past = g
first_named (Recover g) past = g

-- the home of who made an action, and of a top action its own
abbrev pub home_of_maker : Option Name → ℕ → List Event → ℕ
home_of_maker None own past = own
home_of_maker (Some m) own past = home_of m past

-- the guardian that is called or asked, the home of the parent to which an action commits, and of who made one that
-- aborts
abbrev pub second_named : Step → List Event → ℕ
second_named (Call a g) past = g
second_named (Commit a) past = home_of (parent_of a) past
second_named (Prepare g t) past = g
second_named (Abort a) past = home_of_maker (maker_of a past) (home_of a past) past
second_named step past = first_named step past

-- these are the guardians that the step names, wherever the forest stands
pub record AreNamed (stands : ForestState → Type 0) (step : Step)
    (named : NamedGuardians) : Type 0 where
  pub first : (f : ForestState) → stands f
      → named.first ≡ first_named step (events_there f.registry)
  pub second : (f : ForestState) → stands f
      → named.second ≡ second_named step (events_there f.registry)
