-- A body that the interpreter goes through, and the variables that it leaves bound.
use Rattle.std.specs.Prelude.{◌≡◌, ◌≤◌, Bool, true, false, ◌&&◌, IsTrue, List, map, Option, Some, None}
use Rattle.run_model.specs.declared.step.ArmKind.{ArmKind}
use Rattle.run_model.specs.declared.step.ArmKind.TheVariants as kind
use Rattle.script_model.specs.declared.statement.Arm.{Arm, out-Arm}
use Rattle.script_model.specs.declared.statement.Arm.TheOpen.{Arm-F}
use Rattle.script_model.specs.declared.statement.Binding.{Binding}
use Rattle.script_model.specs.declared.statement.HandlerCall.{HandlerCall}
use Rattle.script_model.specs.declared.statement.ObjectCall.{ObjectCall}
use Rattle.script_model.specs.declared.statement.Statement.{Statement}
use Rattle.script_model.specs.declared.statement.Statement.TheVariants.{Coenter}
use Rattle.script_model.specs.declared.checked.Checked.{Checked}
use Rattle.script_model.specs.Resolved as resolved
use Rattle.script_model.specs.Resolved.{IsResolved}
use Rattle.activities.specs.declared.operations.Outcome.{Outcome}
use Rattle.activities.specs.declared.operations.Outcome.TheVariants.{Granted}
use Rattle.activities.specs.declared.flow.Flow.{Flow}
use Rattle.activities.specs.declared.flow.Flow.TheVariants.{Ended}
pub use Rattle.frames.specs.Bound.{sizes}

-- where a body runs, in a script with these handlers, something is resolved
pub record Place (script : Checked) (holds : resolved.Surroundings → Bool) : Type 0 where
  pub at : resolved.Surroundings
  pub handlers : at.handlers ≡ script.handlers
  pub holds_there : IsTrue (holds at)

-- there is such a place
abbrev pub Somewhere : Checked → (resolved.Surroundings → Bool) → Type 0
Somewhere script holds = ∥ Place script holds ∥₁

-- a resolved script, one of these
pub record IsOf (scripts : Checked → Type 0) (script : Checked) : Type 0 where
  pub resolved : IsResolved script
  pub is_of : scripts script

-- whatever a body names is there, where so many variables are bound
abbrev pub IsBody : Checked → resolved.Frames → List Statement → Type 0
IsBody script frames body = Somewhere script (λ at. resolved.is_resolved_body at frames body)

abbrev pub IsStatement : Checked → resolved.Frames → Statement → Type 0
IsStatement script frames statement =
    Somewhere script (λ at. (resolved.asked statement).holds at frames)

abbrev pub IsCall : Checked → resolved.Frames → HandlerCall → Type 0
IsCall script frames call = Somewhere script (λ at. resolved.call_is_resolved at frames call)

abbrev pub IsOp : resolved.Frames → ObjectCall → Type 0
IsOp frames call = IsTrue (resolved.operation_is_bound frames call.operation
    && resolved.binding_is_bound frames call.binding)

-- the arms of a `coenter`
abbrev pub AreArms : Checked → resolved.Frames → List Arm → Type 0
AreArms script frames arms = IsStatement script frames (Coenter arms)

-- the arm's kind and its body
abbrev pub opened_kind : Arm-F Arm Statement → ArmKind
opened_kind (Arm-F.Sub body) = kind.Sub
opened_kind (Arm-F.Top body) = kind.Top

abbrev pub opened_body : Arm-F Arm Statement → List Statement
opened_body (Arm-F.Sub body) = body
opened_body (Arm-F.Top body) = body

abbrev pub opened_is_sub : Arm-F Arm Statement → Bool
opened_is_sub (Arm-F.Sub body) = true
opened_is_sub (Arm-F.Top body) = false

abbrev pub kind_of : Arm → ArmKind
kind_of arm = opened_kind (out-Arm arm)

-- whether it runs as a subaction, and else as a nested top action
abbrev pub is_sub : Arm → Bool
is_sub arm = opened_is_sub (out-Arm arm)

abbrev pub body_of : Arm → List Statement
body_of arm = opened_body (out-Arm arm)

abbrev pub kinds : List Arm → List ArmKind
kinds arms = map kind_of arms

abbrev pub SignalsHold : Checked → resolved.Frames → Option (List Statement) → Type 0
SignalsHold script frames None = Unit {0}
SignalsHold script frames (Some body) = IsBody script frames body

-- the same beside a binding, which binds nothing newly there: after a signal the variables are as they were
abbrev pub SignalsFollow : Checked → resolved.Frames → Binding → Option (List Statement) → Type 0
SignalsFollow script frames binding None = Unit {0}
SignalsFollow script frames binding (Some body) = IsBody script frames body
    × (resolved.frames_after frames binding ≡ frames)

-- what is so where a body ended well
abbrev pub WhereEnded : Flow → Type 0 → Type 0
WhereEnded Ended so = so
WhereEnded _ so = Unit {0}

-- at least as many variables are bound
pub record Within (old new : resolved.Frames) : Type 0 where
  pub ints : old.ints ≤ new.ints
  pub texts : old.texts ≤ new.texts
  pub truths : old.truths ≤ new.truths

-- a granted operation has bound its reply; else nothing was bound
abbrev pub IsOutcome : Outcome → Binding → resolved.Frames → resolved.Frames → Type 0
IsOutcome Granted binding old new = new ≡ resolved.frames_after old binding
IsOutcome _ binding old new = new ≡ old
