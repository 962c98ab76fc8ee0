-- What the serial run of a script comes to: which steps are made, how each client ends, and the world that is left.
use Rattle.std.specs.Prelude.{ℕ, Bool, true, false, List, [], ◌∷◌, zero, suc, if◌then◌else◌, Option, Some, None, slice_get}
use Rattle.std.specs.Ordering.{nat_cmp}
use Rattle.std.specs.BTreeSet.{insert_key}
use Rattle.action_names.specs.Names.{Name, is_top}
use Rattle.values.specs.declared.value.Value.{Value}
use Rattle.atomic_types.specs.declared.op.Reply.{Reply}
use Rattle.atomic_types.specs.declared.op.Reply.TheVariants as reply
use Rattle.run_model.specs.declared.answer.Answer.{Answer}
use Rattle.run_model.specs.declared.answer.Answer.TheVariants as answer
use Rattle.run_model.specs.declared.answer.Refusal.TheVariants as refusal
use Rattle.run_model.specs.declared.step.ArmKind.{ArmKind}
use Rattle.run_model.specs.declared.step.ArmKind.TheVariants as kind
use Rattle.run_model.specs.declared.step.Step.{Step}
use Rattle.run_model.specs.declared.step.Step.TheVariants.{Abort, Arms, Call, Close, Commit, Decide, NestedTop, Prepare, Tell, Top}
use Rattle.run_model.specs.Answers.{answer_of}
use Rattle.run_model.specs.Openings.{opening_in}
use Rattle.run_model.specs.Runs.{World, world_after}
use Rattle.run_model.specs.Votes.{is_yes}
use Rattle.script_model.specs.declared.checked.Checked.{Checked}
use Rattle.script_model.specs.declared.checked.Client.{Client}
use Rattle.script_model.specs.declared.checked.Handler.{Handler}
use Rattle.script_model.specs.declared.expression.Expr.{Expr}
use Rattle.script_model.specs.declared.statement.Arm.{Arm}
use Rattle.script_model.specs.declared.statement.Arm.TheOpen.{Statement-F}
use Rattle.script_model.specs.declared.statement.Binding.{Binding}
use Rattle.script_model.specs.declared.statement.HandlerCall.{HandlerCall}
use Rattle.script_model.specs.declared.statement.ObjectCall.{ObjectCall}
use Rattle.script_model.specs.declared.statement.Statement.{Statement, out-Statement}
use Rattle.frames.specs.Bound.{Bound, cut_back, nothing_bound, sizes}
use Rattle.frames.specs.Binding.{bound_after}
use Rattle.frames.specs.Evaluating.{truth_of, value_of}
use Rattle.frames.specs.Operating.{given}
use Rattle.activities.specs.declared.client.ClientEnd.{ClientEnd}
use Rattle.activities.specs.declared.client.ClientEnd.TheVariants as client
use Rattle.activities.specs.declared.flow.Flow.{Flow}
use Rattle.activities.specs.declared.flow.Flow.TheVariants.{Aborted, Ended, Outwards, Returned}
use Rattle.activities.specs.declared.flow.Reach.TheVariants as reach
use Rattle.activities.specs.declared.open_action.Called.{Called}
use Rattle.activities.specs.declared.open_action.Called.TheVariants as called
use Rattle.activities.specs.declared.operations.Outcome.{Outcome}
use Rattle.activities.specs.declared.operations.Outcome.TheVariants as outcome
use Rattle.activities.specs.Bodies.{body_of, kind_of, kinds}
use Rattle.activities.specs.Ends.{commits, end_of}
use Rattle.activities.specs.Performing.{outcome_of, step_for}
use Rattle.activities.specs.Reaching.{is_made}

-- ---- steps

-- what a step is answered
abbrev pub asked : Step → World → Answer
asked step w = answer_of (opening_in w.lists) step w.past

-- the world that it leaves
abbrev pub after : Step → World → World
after step w = world_after w step (asked step w)

-- a world in which something was tried, and whether that succeeded
pub record Tried : Type 0 where
  pub world : World
  pub done : Bool

-- a step that is to be done
abbrev pub tried : Step → World → Tried
tried step w = record { world = after step w; done = is_made (asked step w) }

-- the second only where the first succeeds
abbrev pub and_then : Tried → (World → Tried) → Tried
and_then t next = if t.done then next t.world else t

-- ---- an action that runs

-- an action that was begun; the guardians that are home to it or to a descendant of it, and those that take part in
-- its vote, rising
pub record Acting : Type 0 where
  pub name : Name
  pub home : ℕ
  pub homes : List ℕ
  pub participants : List ℕ

-- as it begins
abbrev pub begun_at : ℕ → Name → Acting
begun_at g a = record { name = a; home = g; homes = g ∷ []; participants = g ∷ [] }

-- guardians and more of them
abbrev pub joined : List ℕ → List ℕ → List ℕ
joined gs [] = gs
joined gs (g ∷ more) = joined (insert_key nat_cmp gs g) more

-- a subaction of it has ended: it takes part in the vote only where it committed
abbrev pub taken_in : Acting → Acting → Bool → Acting
taken_in a child committed = record a {
  homes = joined a.homes child.homes;
  participants = if committed then joined a.participants child.participants else a.participants;
}

-- ---- how an action ends

-- the guardians were told what became of it, one after another
abbrev pub once_told : Name → List ℕ → World → World
once_told a [] w = w
once_told a (g ∷ gs) w = once_told a gs (after (Tell g a) w)

abbrev pub aborted : Acting → World → World
aborted a w = once_told a.name a.homes (after (Abort a.name) w)

-- the guardians were asked for their votes, up to the first that is not yes
abbrev pub voted : Name → List ℕ → World → Tried
voted a [] w = record { world = w; done = true }
voted a (g ∷ gs) w =
    and_then (record { world = after (Prepare g a) w; done = is_yes (asked (Prepare g a) w) })
    (voted a gs)

-- a top action commits by two phases, and another action by one step
abbrev pub two_phases : Acting → World → Tried
two_phases a w = and_then (and_then (tried (Close a.name) w) (voted a.name a.participants))
    (tried (Decide a.name))

abbrev pub commit_tried : Acting → World → Tried
commit_tried a w = if is_top a.name then two_phases a w else tried (Commit a.name) w

-- and then tells so
abbrev pub committed : Acting → World → Tried
committed a w = and_then (commit_tried a w)
    (λ next. record { world = once_told a.name a.homes next; done = true })

-- where aborts go on from an action that has aborted
abbrev pub outwards : Bool → Flow → Flow
outwards top (Outwards reach.TopAction) = if top then Aborted else Outwards reach.TopAction
outwards top (Outwards reach.Client) = Outwards reach.Client
outwards top flow = Aborted

-- a world, and how a body or an action came to its end there
pub record Left : Type 0 where
  pub world : World
  pub flow : Flow

-- an action that is to commit, and aborts where it cannot
abbrev pub or_aborted : Acting → Tried → Tried
or_aborted a t = if t.done then t else record { world = aborted a t.world; done = false }

abbrev pub end_tried : Acting → Bool → World → Tried
end_tried a wanted w =
    if wanted then or_aborted a (committed a w) else record { world = aborted a w; done = false }

-- it ends as its body ended
abbrev pub by_try : Acting → Flow → Tried → Left
by_try a flow t =
    record { world = t.world; flow = if t.done then flow else outwards (is_top a.name) flow }

abbrev pub ended : Acting → Flow → World → Left
ended a flow w = by_try a flow (end_tried a (commits flow) w)

-- ---- bodies

-- an activity under way: its world, how many statements and turns it may still begin, the action in which it is, and
-- its variables
pub record Doing : Type 0 where
  pub world : World
  pub left : ℕ
  pub acting : Acting
  pub bound : Bound

-- and how what it did came to its end
pub record Done : Type 0 where
  pub doing : Doing
  pub flow : Flow

-- how the bodies of statements and handlers are gone through
abbrev pub Through : Type 0
Through = List Statement → Doing → Done

abbrev pub with_world : Doing → World → Doing
with_world d w = record d { world = w }

-- what it began within it is done: its world, and what is left to it, are what that left
abbrev pub beside : Doing → Doing → Doing
beside d inside = record d { world = inside.world; left = inside.left }

-- a body within another: what it binds newly is forgotten
abbrev pub inner : Through → List Statement → Doing → Done
inner go body d = let r = go body d in
    record r { doing = record r.doing { bound = cut_back (sizes d.bound) r.doing.bound } }

-- the body of an action, and its end
abbrev pub run : Through → Acting → Bound → List Statement → Doing → Done
run go a b body d =
    let r = go body (record d { acting = a; bound = b }) in
    let l = ended r.doing.acting r.flow r.doing.world in
    record { doing = with_world r.doing l.world; flow = l.flow }

-- what is done where something signals; without a body for that, the innermost action aborts
abbrev pub on_signal : Through → Option (List Statement) → Doing → Done
on_signal go None d = record { doing = d; flow = Aborted }
on_signal go (Some body) d = inner go body d

-- ---- statements

-- an operation
abbrev pub by_outcome : Through → Option (List Statement) → Doing → Outcome → Done
by_outcome go signals d outcome.Granted = record { doing = d; flow = Ended }
by_outcome go signals d outcome.Signalled = on_signal go signals d
by_outcome go signals d outcome.Refused = record { doing = d; flow = Aborted }
by_outcome go signals d outcome.Waits = record { doing = d; flow = Outwards reach.TopAction }

abbrev pub after_any : Option Step → World → World
after_any None w = w
after_any (Some step) w = after step w

abbrev pub op_done : Through → ObjectCall → Option (List Statement) → Doing → Done
op_done go call signals d =
    let step = step_for d.acting.name d.acting.home d.bound call in
    let came = outcome_of d.world d.bound call.binding step in
    by_outcome go signals (record d { world = after_any step d.world; bound = came.1 }) came.0

-- a handler call: the handler's body as a subaction. What it gave back is bound; where it does not fit, the innermost
-- action aborts
abbrev pub reply_of : Option Value → Reply
reply_of None = reply.Done
reply_of (Some v) = reply.Gives v

abbrev pub by_fitting : Bound → Option Bound → Flow × Bound
by_fitting before None = (Aborted, before)
by_fitting before (Some after) = (Ended, after)

abbrev pub given_back : Bound → Binding → Option Value → Flow × Bound
given_back before binding value = by_fitting before (bound_after before binding (reply_of value))

abbrev pub by_value_back : Doing → Flow × Bound → Done
by_value_back d came = record { doing = record d { bound = came.1 }; flow = came.0 }

abbrev pub by_end : Through → Binding → Option (List Statement) → Doing → Flow → Done
by_end go binding signals d Ended = by_value_back d (given_back d.bound binding None)
by_end go binding signals d (Returned value) = by_value_back d (given_back d.bound binding value)
by_end go binding signals d Aborted = on_signal go signals d
by_end go binding signals d (Outwards r) = record { doing = d; flow = Outwards r }

abbrev pub taking_in : Doing → Done → Doing
taking_in d r =
    record (beside d r.doing) { acting = taken_in d.acting r.doing.acting (commits r.flow) }

-- what came of a call: where its guardian is down, or it would be nested too deeply, it signals
abbrev pub called_by : Answer → Called
called_by (answer.Began (a ∷ names)) = called.Began a
called_by (answer.Refused refusal.Down) = called.Signalled
called_by (answer.Refused refusal.TooDeep) = called.Signalled
called_by _ = called.Refused

abbrev pub by_called : Through → Handler → Bound → Binding → Option (List Statement)
    → Doing → Called → Done
by_called go h inside binding signals d (called.Began a) =
    let r = run go (begun_at h.guardian a) inside h.body d in
    by_end go binding signals (taking_in d r) r.flow
by_called go h inside binding signals d called.Signalled = on_signal go signals d
by_called go h inside binding signals d called.Refused = record { doing = d; flow = Aborted }

abbrev pub call_done : Through → Option Handler → HandlerCall → Option (List Statement)
    → Option Bound → Doing → Done
call_done go (Some h) call signals (Some inside) d =
    let step = Call d.acting.name h.guardian in
    by_called go h inside call.binding signals (with_world d (after step d.world))
    (called_by (asked step d.world))
call_done go _ call signals _ d = record { doing = d; flow = Aborted }

-- a nested top action, over a copy of the variables
abbrev pub by_nested_end : Through → List Statement → Doing → Flow → Done
by_nested_end go signals d Aborted = inner go signals d
by_nested_end go signals d flow = record { doing = d; flow = flow }

-- the one action that an answer began
abbrev pub begun_by : Answer → Option Name
begun_by (answer.Began (a ∷ names)) = Some a
begun_by _ = None

abbrev pub by_nested : Through → List Statement → List Statement → Doing → Option Name → Done
by_nested go body signals d None = record { doing = d; flow = Aborted }
by_nested go body signals d (Some a) =
    let r = run go (begun_at d.acting.home a) d.bound body d in
    by_nested_end go signals (beside d r.doing) r.flow

abbrev pub nested_done : Through → List Statement → List Statement → Doing → Done
nested_done go body signals d =
    let step = NestedTop d.acting.name in
    by_nested go body signals (with_world d (after step d.world)) (begun_by (asked step d.world))

-- arms are run in order, each over a copy of the variables, to the first that returns or is left; what is done, and
-- which have not run
abbrev pub is_past : Flow → Bool
is_past Ended = true
is_past Aborted = true
is_past _ = false

-- a nested top action tells its starter nothing
abbrev pub past_arm : ArmKind → Doing → Done → Doing
past_arm kind.Sub d r = taking_in d r
past_arm kind.Top d r = beside d r.doing

abbrev pub arms_run : Through → List Arm → List Name → Doing → Done × List Name
arms_run go [] names d = (record { doing = d; flow = Ended }, names)
arms_run go (arm ∷ arms) [] d = (record { doing = d; flow = Ended }, [])
arms_run go (arm ∷ arms) (a ∷ names) d =
    let r = run go (begun_at d.acting.home a) d.bound (body_of arm) d in
    if is_past r.flow then arms_run go arms names (past_arm (kind_of arm) d r)
    else (record { doing = past_arm (kind_of arm) d r; flow = r.flow }, names)

-- those are aborted, which their home is told
abbrev pub arms_aborted : ℕ → List Name → World → World
arms_aborted home [] w = w
arms_aborted home (a ∷ names) w = arms_aborted home names (after (Tell home a) (after (Abort a) w))

-- the arms that an answer began
abbrev pub waiting_by : Answer → Option (List Name)
waiting_by (answer.Began names) = Some names
waiting_by _ = None

abbrev pub by_arms : Through → List Arm → Doing → Option (List Name) → Done
by_arms go arms d None = record { doing = d; flow = Aborted }
by_arms go arms d (Some names) =
    let r = arms_run go arms names d in
    record { doing = with_world r.0.doing (arms_aborted d.acting.home r.1 r.0.doing.world); flow = r.0.flow }

abbrev pub coenter_done : Through → List Arm → Doing → Done
coenter_done go arms d =
    let step = Arms d.acting.name (kinds arms) in
    by_arms go arms (with_world d (after step d.world)) (waiting_by (asked step d.world))

-- a body where a condition holds, and else another
abbrev pub by_truth : Through → List Statement → List Statement → Doing → Option Bool → Done
by_truth go first second d (Some true) = inner go first d
by_truth go first second d (Some false) = inner go second d
by_truth go first second d None = record { doing = d; flow = Aborted }

-- what comes next where something ended well
abbrev pub by_flow : Done → (Doing → Done) → Flow → Done
by_flow r next Ended = next r.doing
by_flow r next _ = r

abbrev pub where_ended : Done → (Doing → Done) → Done
where_ended r next = by_flow r next r.flow

-- takes a statement or a turn from the budget; where nothing is left, the client is aborted
abbrev pub by_budget : Doing → (Doing → Done) → ℕ → Done
by_budget d next zero = record { doing = d; flow = Outwards reach.Client }
by_budget d next (suc left) = next (record d { left = left })

abbrev pub budgeted : Doing → (Doing → Done) → Done
budgeted d next = by_budget d next d.left

abbrev pub repeated : Through → ℕ → List Statement → Doing → Done
repeated go zero body d = record { doing = d; flow = Ended }
repeated go (suc turns) body d =
    budgeted d (λ next. where_ended (inner go body next) (repeated go turns body))

-- how a body ends that returns: with the value, if one is named
abbrev pub by_value : Option Value → Flow
by_value None = Aborted
by_value (Some v) = Returned (Some v)

abbrev pub returned : Bound → Option Expr → Flow
returned bound None = Returned None
returned bound (Some e) = by_value (value_of bound e)

abbrev pub opened_done : List Handler → Through → Statement-F Arm Statement → Doing → Done
opened_done handlers go (Statement-F.Op call signals) d = op_done go call signals d
opened_done handlers go (Statement-F.Call call signals) d =
    call_done go (slice_get handlers call.handler) call signals (given d.bound call) d
opened_done handlers go (Statement-F.Coenter arms) d = coenter_done go arms d
opened_done handlers go (Statement-F.TopAction body signals) d = nested_done go body signals d
opened_done handlers go (Statement-F.If test first second) d =
    by_truth go first second d (truth_of d.bound test)
opened_done handlers go (Statement-F.Repeat turns body) d = repeated go turns body d
opened_done handlers go Statement-F.Abort d = record { doing = d; flow = Aborted }
opened_done handlers go (Statement-F.Return e) d = record { doing = d; flow = returned d.bound e }

abbrev pub statement_done : List Handler → Through → Statement → Doing → Done
statement_done handlers go statement = opened_done handlers go (out-Statement statement)

-- a body that may begin so many statements, those within its own among them
abbrev pub body_done : List Handler → ℕ → List Statement → Doing → Done
body_done handlers most [] d = record { doing = d; flow = Ended }
body_done handlers zero (statement ∷ rest) d = record { doing = d; flow = Outwards reach.Client }
body_done handlers (suc most) (statement ∷ rest) d =
    budgeted d
    (λ next. where_ended (statement_done handlers (body_done handlers most) statement next)
    (body_done handlers most rest))

-- ---- clients

-- how many statements and turns of `repeat` a client may begin
abbrev pub budget : ℕ
budget = 100000

-- a world in which clients ran, and how they ended
pub record Ran : Type 0 where
  pub world : World
  pub ends : List ClientEnd

abbrev pub by_top : List Handler → Client → World → Option Name → World × ClientEnd
by_top handlers c w None = (w, client.Aborted None)
by_top handlers c w (Some a) =
    let start : Doing =
    record { world = w; left = budget; acting = begun_at c.home a; bound = nothing_bound } in
    let r = run (body_done handlers budget) (begun_at c.home a) nothing_bound c.body start in
    (r.doing.world, end_of a r.flow)

abbrev pub client_ran : List Handler → Client → World → World × ClientEnd
client_ran handlers c w = by_top handlers c (after (Top c.home) w) (begun_by (asked (Top c.home) w))

abbrev pub clients_ran : List Handler → List Client → World → Ran
clients_ran handlers [] w = record { world = w; ends = [] }
clients_ran handlers (c ∷ clients) w =
    let one = client_ran handlers c w in
    let others = clients_ran handlers clients one.0 in
    record { world = others.world; ends = one.1 ∷ others.ends }

-- the clients of a script, one after another
abbrev pub serial_run : Checked → World → Ran
serial_run script w = clients_ran script.handlers script.clients w
