-- How a top action is ended by calls: by two phases.
use Rattle.std.specs.Prelude.{◌≡◌, ℕ, Bool, true, false, IsTrue, List, [], ◌∷◌, ◌++◌, map as each}
use Rattle.action_names.specs.Names.{Name}
use Rattle.run_model.specs.declared.answer.Answer.{Answer}
use Rattle.run_model.specs.declared.answer.Answer.TheVariants as answers
use Rattle.run_model.specs.declared.step.Step.{Step}
use Rattle.run_model.specs.declared.step.Step.TheVariants as steps
use Rattle.run_model.specs.Actions.{is_committed}
use Rattle.run_model.specs.Runs.{is_accepted}
use Rattle.stepping.specs.Beside.{IsMadeWith, OwnRun, Sees}
use Rattle.stepping.specs.Stepping.{Leaves}
use Rattle.service.specs.Calling.{ComesToNothing, LeavesStores}
use Rattle.service.specs.declared.fault.CallFault.{CallFault}

-- ---- several steps

module _ {M : Type 0} (run : M → OwnRun) (sees : Sees) (leaves : Leaves M) where
  -- the step was made, and happened
  pub record HasHappened (step : Step) (old new : M) : Type 0 where
    pub answer : Answer
    pub made : IsMadeWith run sees leaves step answer old new
    pub accepted : IsTrue (is_accepted answer)

  -- so did these, one after another
  abbrev pub HaveHappened : List Step → M → M → Type 0
  HaveHappened [] old new = new ≡ old
  HaveHappened (step ∷ more) old new = (next : M) × HasHappened step old next
      × HaveHappened more next new

  -- Of these steps the first ones happened. The next one did not, for this reason.
  pub record AreCutShort (all : List Step) (old new : M) (fault : CallFault) : Type 0 where
    pub done : List Step
    pub next : Step
    pub rest : List Step
    pub parts : all ≡ done ++ next ∷ rest
    pub before : M
    pub happened : HaveHappened done old before
    pub why : ComesToNothing sees (run before) next fault
    pub same : run new ≡ run before
    pub stores : LeavesStores leaves next before new fault

-- ---- two phases

-- these guardians vote on the top action
abbrev pub prepares : Name → List ℕ → List Step
prepares top guardians = each (λ g. steps.Prepare g top) guardians

-- these guardians are told how the action ended
abbrev pub tells : Name → List ℕ → List Step
tells action guardians = each (λ g. steps.Tell g action) guardians

-- it is decided, or aborted
abbrev pub verdict : Bool → Name → Step
verdict true top = steps.Decide top
verdict false top = steps.Abort top

-- the top action closes, these guardians vote, it is decided or aborted, and these are told
abbrev pub ending : Bool → Name → List ℕ → List ℕ → List Step
ending committed top polled told =
    steps.Close top ∷ prepares top polled ++ verdict committed top ∷ tells top told

module _ {M : Type 0} (run : M → OwnRun) (sees : Sees) (leaves : Leaves M) where
  -- Between these steps, which happened, this guardian voted no.
  pub record VotesNo (top : Name) (before : List Step) (g : ℕ) (after : List Step)
      (old new : M) : Type 0 where
    pub mid : M
    pub voted : M
    pub happened : HaveHappened run sees leaves before old mid
    pub no : IsMadeWith run sees leaves (steps.Prepare g top) answers.VoteNo mid voted
    pub rest : HaveHappened run sees leaves after voted new

  -- The guardians voted up to the first no, or all of them.
  pub record ArePolled (top : Name) (guardians : List ℕ) (yes : Bool) (old new : M) : Type 0 where
    pub polled : List ℕ
    pub rest : List ℕ
    pub parts : guardians ≡ polled ++ rest
    pub all : yes ≡ true → rest ≡ []
    pub happened : HaveHappened run sees leaves (prepares top polled) old new
    pub no : yes ≡ false → (front : List ℕ) × (g : ℕ) × (polled ≡ front ++ g ∷ [])
        × VotesNo top (prepares top front) g [] old new

  -- The top action was ended: decided if all voted yes, and else aborted. Each participant was told.
  pub record IsEnded (top : Name) (participants : List ℕ) (committed : Bool)
      (old new : M) : Type 0 where
    pub polled : List ℕ
    pub rest : List ℕ
    pub parts : participants ≡ polled ++ rest
    pub all : committed ≡ true → rest ≡ []
    pub happened : HaveHappened run sees leaves (ending committed top polled participants) old new
    pub no : committed ≡ false
        → (front : List ℕ) × (g : ℕ) × (polled ≡ front ++ g ∷ [])
        × VotesNo top (steps.Close top ∷ prepares top front) g
        (steps.Abort top ∷ tells top participants) old new
    pub says : is_committed top (run new).past ≡ committed

  -- The ending of the top action was cut short.
  pub record IsEndingCut (top : Name) (participants : List ℕ) (old new : M)
      (fault : CallFault) : Type 0 where
    pub committed : Bool
    pub polled : List ℕ
    pub rest : List ℕ
    pub parts : participants ≡ polled ++ rest
    pub cut : AreCutShort run sees leaves (ending committed top polled participants) old new fault
