-- Arms that run apart: what is known of one that has begun, who it is, and what its starter learns of it.
use Rattle.std.specs.Prelude.{◌≡◌, ℕ, Bool, true, false, List, [], ◌∷◌, Some, Result, Ok, Err, IfErr, IfOk, map, slice_get, if◌then◌else◌}
use Rattle.action_names.specs.Names.{Name}
use Rattle.run_model.specs.Runs.{World}
use Rattle.layer_contracts.specs.declared.guardian.Fault.{Fault}
use Rattle.layer_contracts.specs.declared.guardian.Fault.TheVariants.{Memory}
use Rattle.script_model.specs.declared.checked.Checked.{Checked}
use Rattle.activities.specs.declared.apart.BegunArm.{BegunArm}
use Rattle.activities.specs.declared.apart.EndedArm.{EndedArm}
use Rattle.activities.specs.declared.flow.Flow.{Flow}
use Rattle.activities.specs.declared.flow.Flow.TheVariants.{Aborted, Ended, Outwards, Returned}
use Rattle.activities.specs.declared.flow.Reach.TheVariants.{TopAction}
use Rattle.activities.specs.declared.open_action.OpenAction.{OpenAction}
use Rattle.activities.specs.Acting.{acting, doing}
use Rattle.activities.specs.Bodies.{IsBody, sizes}
use Rattle.activities.specs.Ends.{has_committed}
use Rattle.activities.specs.Serial.{Acting, body_done, budget, run, taken_in}

-- whatever the arm's body names is there
abbrev pub IsRunnable : Checked → BegunArm → Type 0
IsRunnable script arm = IsBody script (sizes arm.frames) arm.body

-- so of each arm
abbrev pub AllRunnable : Checked → List BegunArm → Type 0
AllRunnable script arms = (i : ℕ) (arm : BegunArm) → slice_get arms i ≡ Some arm
    → IsRunnable script arm

-- so of each arm, in one of these scripts
pub record AreRunnable (scripts : Checked → Type 0) (arms : List BegunArm) : Type 0 where
  pub script : Checked
  pub is_of : scripts script
  pub each : AllRunnable script arms

-- the arms' actions
abbrev pub begun_name : BegunArm → Name
begun_name arm = arm.action.name

abbrev pub ended_name : EndedArm → Name
ended_name arm = arm.action.name

abbrev pub begun_names : List BegunArm → List Name
begun_names arms = map begun_name arms

abbrev pub ended_names : List EndedArm → List Name
ended_names arms = map ended_name arms

abbrev pub are_subs : List BegunArm → List Bool
are_subs arms = map (λ arm. arm.is_sub) arms

-- ---- one arm that runs in a world that nobody else steps

-- the world that it leaves, what its action has to do with then, and how it ended
abbrev pub arm_ran : Checked → BegunArm → World → World × Acting × Flow
arm_ran script arm w =
    let r = run (body_done script.handlers budget) (acting arm.action) arm.frames arm.body
    (doing w budget arm.action arm.frames) in
    (r.doing.world, r.doing.acting, r.flow)

-- an arm that was run from one world left another one, and its action ended so
pub record ArmRan (script : Checked) (arm : BegunArm) (old new : World) (action : OpenAction)
    (end : Flow) : Type 0 where
  pub comes : (new, acting action, end) ≡ arm_ran script arm old

-- ---- how a `coenter` goes on

-- an arm that ends so leaves its `coenter`
abbrev pub leaves : Flow → Bool
leaves (Returned value) = true
leaves (Outwards TopAction) = true
leaves _ = false

abbrev pub has_left : {E : Type 0} → Result Flow E → Bool
has_left (Ok flow) = leaves flow
has_left (Err fault) = false

-- what follows a claim: where it was refused, the arm aborts; where it was granted, the last call says whether the arm
-- has left its `coenter`
abbrev pub Follows : {W E : Type 0} → (Bool → W → W → Type 0) → Bool → Result Flow E → W → Type 0
Follows settles false ended new = IfOk ended (λ end. end ≡ Aborted)
Follows {W} settles true ended new = (last : W) × settles (has_left ended) last new

-- what an arm asks that is to leave its `coenter`: it claims first
pub record IsLeaving {W E : Type 0} (claims settles : Bool → W → W → Type 0)
    (ended : Result Flow E) (old new : W) : Type 0 where
  pub granted : Bool
  pub next : W
  pub claimed : claims granted old next
  pub follows : Follows settles granted ended new

-- the first arm that leaves it says how it goes on
abbrev pub flow_beside : Flow → Flow → Flow
flow_beside Ended other = if leaves other then other else Ended
flow_beside flow other = flow

-- how arms go on after one more of them; of several faults the first counts
abbrev pub gone_beside : {E : Type 0} → Result Flow E → Result Flow E → Result Flow E
gone_beside (Err fault) arm = Err fault
gone_beside (Ok flow) (Err fault) = Err fault
gone_beside (Ok flow) (Ok other) = Ok (flow_beside flow other)

-- so of one arm after another
abbrev pub all_gone : {E : Type 0} → Result Flow E → List (Result Flow E) → Result Flow E
all_gone arms [] = arms
all_gone arms (one ∷ more) = all_gone (gone_beside arms one) more

-- what is said of an arm that ended so: that, or out of memory where it ended well
abbrev pub IsSaid : Result Flow Fault → Result Flow Fault → Type 0
IsSaid ended said = IfOk said (λ flow. ended ≡ Ok flow) × IfErr ended (λ fault. said ≡ Err fault)
    × IfOk ended (λ flow. IfErr said (λ fault. fault ≡ Memory))

-- arms that ended so are gone through in order, and then this is how they go on
abbrev pub GoOn : Result Flow Fault → List (Result Flow Fault) → Result Flow Fault → Type 0
GoOn arms [] last = last ≡ arms
GoOn arms (one ∷ more) last = (said : Result Flow Fault) × IsSaid one said
    × GoOn (gone_beside arms said) more last

-- ---- what a starter learns

-- a nested top action tells its starter nothing
abbrev pub arm_taken_in : Acting → EndedArm → Acting
arm_taken_in a arm =
    if arm.is_sub then taken_in a (acting arm.action) (has_committed arm.ended) else a

-- so of one arm after another
abbrev pub arms_taken_in : Acting → List EndedArm → Acting
arms_taken_in a [] = a
arms_taken_in a (arm ∷ arms) = arms_taken_in (arm_taken_in a arm) arms
