-- Arms that run at once, each by a maker of steps of its own.
use Rattle.std.specs.Prelude.{Bool, true, List, [], ◌∷◌}
use Rattle.run_model.specs.declared.history.Event.{Event}
use Rattle.run_model.specs.declared.step.Step.{Step}
use Rattle.stepping.specs.Beside.{OwnRun, Sees, started}
use Rattle.service.specs.Transacting.{Goes}

-- that an arm, at a run, ran, and how it and its run are then
abbrev pub ArmDoes : Type 0 → Type 1
ArmDoes A = A → OwnRun → A → OwnRun → Type 0

abbrev pub any_step : Step → Bool
any_step step = true

-- the third list has the events of the first and of the second, those of each in their order, and no others
pub data IsMerge : List Event → List Event → List Event → Type 0 where
  of_neither : IsMerge [] [] []
  of_one : (e : Event) {one other all : List Event} → IsMerge one other all
      → IsMerge (e ∷ one) other (e ∷ all)
  of_other : (e : Event) {one other all : List Event} → IsMerge one other all
      → IsMerge one (e ∷ other) (e ∷ all)

module _ (sees : Sees) where
  -- The runs of two arms went on from one run, each by its own steps. The caller's went on by the steps of both, each
  -- answered at its place.
  pub record AreJoined (begun : OwnRun) (since : List (List Event)) (one other new : OwnRun)
      : Type 0 where
    pub of_one : Goes sees any_step (started begun since) one
    pub of_other : Goes sees any_step (started begun since) other
    pub of_both : Goes sees any_step begun new
    pub merge : IsMerge of_one.later of_other.later of_both.later

  -- Both arms ran from one run on, and the caller's run went on by what they did.
  pub record HaveRun {A B : Type 0} (does_one : ArmDoes A) (does_other : ArmDoes B)
      (begun new : OwnRun) (one one_after : A) (other other_after : B) : Type 0 where
    pub since : List (List Event)
    pub one_run : OwnRun
    pub other_run : OwnRun
    pub one_ran : does_one one (started begun since) one_after one_run
    pub other_ran : does_other other (started begun since) other_after other_run
    pub joined : ∥ AreJoined begun since one_run other_run new ∥₁
