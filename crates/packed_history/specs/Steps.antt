-- Steps in their short forms.
use Rattle.std.specs.Prelude.{◌≡◌, ◌+◌, ◌≤◌, ◌<◌, List, [], Option, Some, None, length, slice_get, slice_range, take}
use Rattle.std.specs.Option.{option_map}
use Rattle.action_names.specs.Names.{Name}
use Rattle.atomic_types.specs.Operations as op
use Rattle.run_model.specs.declared.step.ArmKind.{ArmKind}
use Rattle.run_model.specs.declared.step.ObjectId.{ObjectId}
use Rattle.run_model.specs.declared.step.Step.{Step}
use Rattle.run_model.specs.declared.step.Step.TheVariants as steps
use Rattle.packed_history.specs.declared.steps.Request.{Request}
use Rattle.packed_history.specs.declared.steps.ShortStep.{ShortStep}
use Rattle.packed_history.specs.declared.steps.ShortStep.TheVariants.{Top, NestedTop, Call, Arms, Plain, Op, Commit, Close, Prepare, Decide, Abort, Tell, Crash, Recover}
use Rattle.packed_history.specs.Plain.{HasPlain, Plains, no_plain, plain_before, plain_operation}

-- what steps ask for, the oldest first
pub record Requests : Type 0 where
  pub kinds : List ArmKind
  pub plain : Plains
  pub requests : List Request

abbrev pub no_requests : Requests
no_requests = record { kinds = []; plain = no_plain; requests = [] }

-- what a step asks for is kept
abbrev pub HasStep : Requests → ShortStep → Type 0
HasStep r (Arms count start) = start + count ≤ length r.kinds
HasStep r (Plain place) = HasPlain r.plain place
HasStep r (Op place) = place < length r.requests
HasStep r _ = Unit {0}

-- the operation of a on an object; where there is none, the commit of a stands for it
abbrev pub operation_by : Name → Option (ObjectId × op.Op) → Step
operation_by a None = steps.Commit a
operation_by a (Some r) = steps.Op a r.0 r.1

-- what a request asks for
abbrev pub asked : Request → ObjectId × op.Op
asked r = (r.object, r.operation)

-- the step of a in this short form
abbrev pub step_in : Requests → Name → ShortStep → Step
step_in r a (Top g) = steps.Top g
step_in r a NestedTop = steps.NestedTop a
step_in r a (Call g) = steps.Call a g
step_in r a (Arms count start) = steps.Arms a (slice_range r.kinds start (start + count))
step_in r a (Plain place) =
    operation_by a (plain_operation r.plain.words (slice_get r.plain.plain place))
step_in r a (Op place) = operation_by a (option_map asked (slice_get r.requests place))
step_in r a Commit = steps.Commit a
step_in r a Close = steps.Close a
step_in r a (Prepare g) = steps.Prepare g a
step_in r a Decide = steps.Decide a
step_in r a Abort = steps.Abort a
step_in r a (Tell g) = steps.Tell g a
step_in r a (Crash g) = steps.Crash g
step_in r a (Recover g) = steps.Recover g

-- what was kept before the step
abbrev pub steps_before : Requests → ShortStep → Requests
steps_before r (Arms count start) =
    record { kinds = take start r.kinds; plain = r.plain; requests = r.requests }
steps_before r (Plain place) =
    record { kinds = r.kinds; plain = plain_before r.plain place; requests = r.requests }
steps_before r (Op place) =
    record { kinds = r.kinds; plain = r.plain; requests = take place r.requests }
steps_before r _ = r

-- the action that a step names, if it names one
abbrev pub action_in : Step → Name
action_in (steps.NestedTop a) = a
action_in (steps.Call a g) = a
action_in (steps.Arms a kinds) = a
action_in (steps.Op a x wanted) = a
action_in (steps.Commit a) = a
action_in (steps.Close a) = a
action_in (steps.Prepare g a) = a
action_in (steps.Decide a) = a
action_in (steps.Abort a) = a
action_in (steps.Tell g a) = a
action_in _ = []

-- the step is kept in this short form, behind what was kept before
pub record IsKeptStep (old new : Requests) (short : ShortStep) (step : Step) : Type 0 where
  pub has : HasStep new short
  pub reads : step_in new (action_in step) short ≡ step
  pub before : steps_before new short ≡ old
