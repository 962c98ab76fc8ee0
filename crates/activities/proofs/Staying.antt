-- Bodies and statements: by their definition, what they leave of a world.
use Rattle.std.proofs.Common.{Bool, IsTrue, List, if◌then◌else◌, None, Option, Some, [], false, option_map, refl, subst, slice_get, suc, sym, true, zero, ℕ, ◌∙◌, ◌∷◌, ◌≡◌}
use Rattle.std.proofs.lemmas.Bool.{false_from_ne_true, false≢true, or_left, or_right}
use Rattle.action_names.specs.Names.{Name, has_name, same_name}
use Rattle.atomic_types.specs.Operations as op
use Rattle.run_model.specs.declared.answer.Answer.{Answer}
use Rattle.run_model.specs.declared.answer.Answer.TheVariants as answer
use Rattle.run_model.specs.declared.step.ArmKind.{ArmKind}
use Rattle.run_model.specs.declared.step.ArmKind.TheVariants as kind
use Rattle.run_model.specs.declared.step.Step.{Step}
use Rattle.run_model.specs.declared.step.Step.TheVariants.{Arms, Call, NestedTop}
use Rattle.run_model.specs.Actions.{is_begun, names_begun}
use Rattle.run_model.specs.Openings.{opening_in}
use Rattle.run_model.specs.Runs.{World}
use Rattle.run_laws.proofs.Names.{clash, same_name_self}
use Rattle.script_model.specs.declared.checked.Handler.{Handler}
use Rattle.script_model.specs.declared.statement.Arm.{Arm}
use Rattle.script_model.specs.declared.statement.Arm.TheOpen.{Statement-F}
use Rattle.script_model.specs.declared.statement.Binding.{Binding}
use Rattle.script_model.specs.declared.statement.HandlerCall.{HandlerCall}
use Rattle.script_model.specs.declared.statement.ObjectCall.{ObjectCall}
use Rattle.script_model.specs.declared.statement.Statement.{Statement, out-Statement}
use Rattle.frames.specs.Bound.{Bound}
use Rattle.frames.specs.Evaluating.{truth_of}
use Rattle.frames.specs.Operating.{given, op_of}
use Rattle.activities.specs.declared.flow.Flow.{Flow}
use Rattle.activities.specs.declared.flow.Flow.TheVariants.{Aborted, Ended, Outwards, Returned}
use Rattle.activities.specs.declared.open_action.Called.{Called}
use Rattle.activities.specs.declared.open_action.Called.TheVariants as called
use Rattle.activities.specs.declared.operations.Outcome.{Outcome}
use Rattle.activities.specs.declared.operations.Outcome.TheVariants as outcome
use Rattle.activities.specs.Bodies.{body_of, kind_of, kinds}
use Rattle.activities.specs.Ends as ends
use Rattle.activities.specs.Performing.{op_step, outcome_of, step_for}
use Rattle.activities.specs.Serial.{Acting, aborted, Doing, Done, Left, Through, ended, after, after_any, arms_aborted, arms_run, asked, begun_at, begun_by, beside, body_done, budgeted, by_arms, by_budget, by_called, by_end, by_flow, by_nested, by_nested_end, by_outcome, by_truth, call_done, called_by, coenter_done, inner, is_past, nested_done, on_signal, op_done, opened_done, past_arm, repeated, run, statement_done, taking_in, waiting_by, where_ended, with_world}
use Rattle.activities.proofs.ArmNames.{Differ, begun_differ, one_more}
use Rattle.activities.proofs.Closing.{HasRun, aborted_came, ended_so, open_quietly}
use Rattle.activities.proofs.Going.{alone, still_begun}
use Rattle.activities.proofs.Leaving.{CameToEnd, IsRunning, Made, WentOn, fresh_came, made, made_nothing, one_then, open_among, went_by, went_nowhere, went_quietly, went_through}
use Rattle.activities.proofs.Waiting.{begun_names, called_names}
use Rattle.activities.proofs.Steps.{HaveBegun, IsOpen, call_begins_one, nested_begins_one}

-- the action went on, committed nothing that was begun before, and is the same
abbrev Stays : Doing → Doing → Type 0
Stays old new = WentOn (old.acting.name ∷ []) [] old.world new.world × (new.acting.name ≡ old.acting.name)

-- whichever body is gone through, the action stays
abbrev pub AllStay : Through → Type 0
AllStay go = (body : List Statement) (d : Doing) → IsRunning d.world → Stays d (go body d).doing

stays_here : (d : Doing) → IsRunning d.world → Stays d d
stays_here d r = (went_nowhere (d.acting.name ∷ []) [] d.world r, refl)

stays_through : (x y z : Doing) → Stays x y → Stays y z → Stays x z
stays_through x y z s t = (
  went_through (x.acting.name ∷ []) [] x.world y.world z.world s.0 (subst (λ a. WentOn (a ∷ []) [] y.world z.world) s.1 t.0),
  t.1 ∙ s.1,
)

-- where it stays, and then something else that stays is done
then_stays : (x y : Doing) (next : Doing → Done) → Stays x y → ((d : Doing) → IsRunning d.world → Stays d (next d).doing) → Stays x (next y).doing
then_stays x y next s f = stays_through x y (next y).doing s (f y s.0.is_run)

-- what comes next where something ended well
where_ended_stays : (d : Doing) (r : Done) (next : Doing → Done) → Stays d r.doing → ((e : Doing) → IsRunning e.world → Stays e (next e).doing)
    → Stays d (where_ended r next).doing
where_ended_stays d r next s f = go r.flow
  where
    go : (flow : Flow) → Stays d (by_flow r next flow).doing
    go Ended = then_stays d r.doing next s f
    go (Returned value) = s
    go Aborted = s
    go (Outwards reach) = s

budgeted_stays : (d : Doing) (next : Doing → Done) → IsRunning d.world → ((e : Doing) → IsRunning e.world → Stays e (next e).doing) → Stays d (budgeted d next).doing
budgeted_stays d next r f = go d.left
  where
    go : (left : ℕ) → Stays d (by_budget d next left).doing
    go zero = stays_here d r
    go (suc left) = f (record d { left = left }) r

-- an action that was begun alone
only_open : (a : Name) (x y : World) → HaveBegun (a ∷ []) x y → IsOpen a y
only_open a x y b = b.are_open a (or_left _ _ (same_name_self a))

-- ---- the body of an action

-- a body that stays, and then the end of its action
body_and_end : (a : Name) (x y z : World) (flow : Flow) → WentOn (a ∷ []) [] x y → HasRun a y z flow → HasRun a x z flow
body_and_end a x y z flow w h = record {
  came = record { went = went_through (a ∷ []) (a ∷ []) x y z (went_quietly (a ∷ []) (a ∷ []) x y w) h.came.went; ended = h.came.ended };
  told = h.told;
}

pub run_ends : (go : Through) → AllStay go → (a : Acting) (b : Bound) (body : List Statement) (d : Doing) → IsRunning d.world → IsOpen a.name d.world
    → HasRun a.name d.world (run go a b body d).doing.world (run go a b body d).flow
run_ends go all a b body d r o =
    body_and_end a.name d.world came.doing.world end.world end.flow stays.0
    (subst (λ n. HasRun n came.doing.world end.world end.flow) stays.1
    (ended_so came.doing.acting came.flow came.doing.world stays.0.is_run
    (subst (λ n. IsOpen n came.doing.world) (sym stays.1) (open_quietly a.name a.name d.world came.doing.world stays.0 o))))
  where
    came : Done
    came = go body (record d { acting = a; bound = b })

    stays : Stays (record d { acting = a; bound = b }) came.doing
    stays = all body (record d { acting = a; bound = b }) r

    end : Left
    end = ended came.doing.acting came.flow came.doing.world

module _ (go : Through) (all : AllStay go) where
  -- ---- what signals

  signal_stays : (signals : Option (List Statement)) (d : Doing) → IsRunning d.world → Stays d (on_signal go signals d).doing
  signal_stays None d r = stays_here d r
  signal_stays (Some body) d r = all body d r

  -- ---- operations

  outcome_stays : (signals : Option (List Statement)) (d : Doing) (came : Outcome) → IsRunning d.world → Stays d (by_outcome go signals d came).doing
  outcome_stays signals d outcome.Granted r = stays_here d r
  outcome_stays signals d outcome.Signalled r = signal_stays signals d r
  outcome_stays signals d outcome.Refused r = stays_here d r
  outcome_stays signals d outcome.Waits r = stays_here d r

  op_stays : (call : ObjectCall) (signals : Option (List Statement)) (d : Doing) → IsRunning d.world → Stays d (op_done go call signals d).doing
  op_stays call signals d r = stays_through d left (op_done go call signals d).doing made_it (outcome_stays signals left came.0 made_it.0.is_run)
    where
      step : Option Step
      step = step_for d.acting.name d.acting.home d.bound call

      came : Outcome × Bound
      came = outcome_of d.world d.bound call.binding step

      left : Doing
      left = record d { world = after_any step d.world; bound = came.1 }

      made_it : Stays d left
      made_it = (of (op_of d.bound call.operation), refl)
        where
          of : (wanted : Option op.Op)
              → WentOn (d.acting.name ∷ []) [] d.world (after_any (option_map (op_step d.acting.name d.acting.home call.object) wanted) d.world)
          of None = went_nowhere (d.acting.name ∷ []) [] d.world r
          of (Some wanted) =
              went_by d.acting.name d.world r (op_step d.acting.name d.acting.home call.object wanted) tt refl [] refl refl

  -- ---- calls

  -- once the handler's body has come to its end
  handler_end_stays : (d : Doing) (binding : Binding) (signals : Option (List Statement)) (flow : Flow) → IsRunning d.world
      → Stays d (by_end go binding signals d flow).doing
  handler_end_stays d binding signals Ended r = stays_here d r
  handler_end_stays d binding signals (Returned value) r = stays_here d r
  handler_end_stays d binding signals Aborted r = signal_stays signals d r
  handler_end_stays d binding signals (Outwards reach) r = stays_here d r

  called_stays : (h : Handler) (inside : Bound) (binding : Binding) (signals : Option (List Statement)) (d : Doing) (mid : World) (c : Called)
      → Made d.acting.name (ends.called c) d.world mid → Stays d (by_called go h inside binding signals (with_world d mid) c).doing
  called_stays h inside binding signals d mid called.Signalled m =
      then_stays d (with_world d mid) (on_signal go signals) (made_nothing d.acting.name d.world mid m, refl) (signal_stays signals)
  called_stays h inside binding signals d mid called.Refused m = (made_nothing d.acting.name d.world mid m, refl)
  called_stays h inside binding signals d mid (called.Began a) m =
      let r : Done = run go (begun_at h.guardian a) inside h.body (with_world d mid) in
      let ran = run_ends go all (begun_at h.guardian a) inside h.body (with_world d mid) m.is_run (only_open a d.world mid m.began) in
      let child : Stays d (taking_in (with_world d mid) r) = (fresh_came d.acting.name (a ∷ []) d.world mid r.doing.world m ran.came, refl) in
      stays_through d (taking_in (with_world d mid) r) (by_end go binding signals (taking_in (with_world d mid) r) r.flow).doing child
      (handler_end_stays (taking_in (with_world d mid) r) binding signals r.flow child.0.is_run)

  call_stays : (h : Option Handler) (call : HandlerCall) (signals : Option (List Statement)) (inside : Option Bound) (d : Doing) → IsRunning d.world
      → Stays d (call_done go h call signals inside d).doing
  call_stays None call signals inside d r = stays_here d r
  call_stays (Some h) call signals None d r = stays_here d r
  call_stays (Some h) call signals (Some inside) d r =
      let step : Step = Call d.acting.name h.guardian in
      called_stays h inside call.binding signals d (after step d.world) (called_by (asked step d.world))
      (subst (λ names. Made d.acting.name names d.world (after step d.world))
      (sym (called_names (asked step d.world) (λ names e. call_begins_one (opening_in d.world.lists) d.acting.name h.guardian d.world.past names (sym e))))
      (made d.acting.name d.world r step tt refl refl))

  -- ---- nested top actions

  nested_end_stays : (signals : List Statement) (d : Doing) (flow : Flow) → IsRunning d.world → Stays d (by_nested_end go signals d flow).doing
  nested_end_stays signals d Ended r = stays_here d r
  nested_end_stays signals d (Returned value) r = stays_here d r
  nested_end_stays signals d Aborted r = all signals d r
  nested_end_stays signals d (Outwards reach) r = stays_here d r

  begun_stays : (body signals : List Statement) (d : Doing) (mid : World) (found : Option Name)
      → Made d.acting.name (ends.named_by found) d.world mid → Stays d (by_nested go body signals (with_world d mid) found).doing
  begun_stays body signals d mid None m = (made_nothing d.acting.name d.world mid m, refl)
  begun_stays body signals d mid (Some a) m =
      let r : Done = run go (begun_at d.acting.home a) d.bound body (with_world d mid) in
      let ran = run_ends go all (begun_at d.acting.home a) d.bound body (with_world d mid) m.is_run (only_open a d.world mid m.began) in
      let child : Stays d (beside (with_world d mid) r.doing) = (fresh_came d.acting.name (a ∷ []) d.world mid r.doing.world m ran.came, refl) in
      stays_through d (beside (with_world d mid) r.doing) (by_nested_end go signals (beside (with_world d mid) r.doing) r.flow).doing child
      (nested_end_stays signals (beside (with_world d mid) r.doing) r.flow child.0.is_run)

  nested_stays : (body signals : List Statement) (d : Doing) → IsRunning d.world → Stays d (nested_done go body signals d).doing
  nested_stays body signals d r =
      let step : Step = NestedTop d.acting.name in
      begun_stays body signals d (after step d.world) (begun_by (asked step d.world))
      (subst (λ names. Made d.acting.name names d.world (after step d.world))
      (sym (begun_names (asked step d.world) (λ names e. nested_begins_one (opening_in d.world.lists) d.acting.name d.world.past names (sym e))))
      (made d.acting.name d.world r step tt refl refl))

  -- ---- arms

  -- arms that wait for their turn, no two of them one
  record Waiting (names : List Name) (w : World) : Type 0 where
    differ : Differ names
    are_open : (a : Name) → IsTrue (has_name names a) → IsOpen a w

  -- once one has run, the others wait still
  others_wait : (a : Name) (names : List Name) (x y : World) → Waiting (a ∷ names) x → CameToEnd (a ∷ []) x y → Waiting names y
  others_wait a names x y w c = record {
    differ = (parts w.differ).1;
    are_open = λ b h. open_among (a ∷ []) (a ∷ []) x y b (w.are_open b (or_right (same_name a b) _ h)) c.went (another b h);
  }
    where
      parts : Differ (a ∷ names) → (has_name names a ≡ false) × Differ names
      parts (one_more b more h d) = (h, d)

      another : (b : Name) → IsTrue (has_name names b) → has_name (a ∷ []) b ≡ false
      another b h = false_from_ne_true _ (λ k. clash (subst (λ n. IsTrue (has_name names n)) (sym (alone a b k)) h) (parts w.differ).0)

  abort_each : (home : ℕ) (names : List Name) (w : World) → IsRunning w → ((a : Name) → IsTrue (has_name names a) → IsTrue (is_begun a w.past))
      → CameToEnd names w (arms_aborted home names w)
  abort_each home [] w r b = record { went = went_nowhere [] [] w r; ended = λ a h. absurd (false≢true h) }
  abort_each home (a ∷ names) w r b =
      let first : CameToEnd (a ∷ []) w (aborted (begun_at home a) w) = aborted_came (begun_at home a) w r (b a (or_left _ _ (same_name_self a))) in
      one_then a names w (aborted (begun_at home a) w) (arms_aborted home (a ∷ names) w) first
      (abort_each home names (aborted (begun_at home a) w) first.went.is_run
      (λ c h. still_begun w (aborted (begun_at home a) w) c first.went.makes (b c (or_right (same_name a c) _ h))))

  -- the world once those that have not run are aborted
  abbrev finished : ℕ → Done × List Name → World
  finished home r = arms_aborted home r.1 r.0.doing.world

  -- what arms come to, whichever of them ran
  abbrev ArmsStay : List Name → Doing → ℕ → Done × List Name → Type 0
  ArmsStay names d home r = CameToEnd names d.world (finished home r) × (r.0.doing.acting.name ≡ d.acting.name)

  -- an arm, where the arms after it come to that
  arm_stays : (arm : Arm) (arms : List Arm) (a : Name) (names : List Name) (d : Doing) (home : ℕ)
      → ((e : Doing) → IsRunning e.world → Waiting names e.world → ArmsStay names e home (arms_run go arms names e)) → IsRunning d.world
      → Waiting (a ∷ names) d.world → ArmsStay (a ∷ names) d home (arms_run go (arm ∷ arms) (a ∷ names) d)
  arm_stays arm arms a names d home rest r w = turn (kind_of arm) (is_past came.flow)
    where
      came : Done
      came = run go (begun_at d.acting.home a) d.bound (body_of arm) d

      ran : HasRun a d.world came.doing.world came.flow
      ran = run_ends go all (begun_at d.acting.home a) d.bound (body_of arm) d r (w.are_open a (or_left _ _ (same_name_self a)))

      others : Waiting names came.doing.world
      others = others_wait a names d.world came.doing.world w ran.came

      more : (e : Doing) → CameToEnd (a ∷ []) d.world e.world → Waiting names e.world → e.acting.name ≡ d.acting.name
          → ArmsStay (a ∷ names) d home (arms_run go arms names e)
      more e c wait same =
          let s = rest e c.went.is_run wait in
          (one_then a names d.world e.world (finished home (arms_run go arms names e)) c s.0, s.1 ∙ same)

      no_more : (e : Doing) → CameToEnd (a ∷ []) d.world e.world → Waiting names e.world → e.acting.name ≡ d.acting.name
          → ArmsStay (a ∷ names) d home (record { doing = e; flow = came.flow }, names)
      no_more e c wait same = (
        one_then a names d.world e.world (arms_aborted home names e.world) c
            (abort_each home names e.world c.went.is_run (λ b h. (wait.are_open b h).begun)),
        same,
      )

      turn : (k : ArmKind) (past : Bool)
          → ArmsStay (a ∷ names) d home
          (if past then arms_run go arms names (past_arm k d came) else (record { doing = past_arm k d came; flow = came.flow }, names))
      turn kind.Sub true = more (past_arm kind.Sub d came) ran.came others refl
      turn kind.Top true = more (past_arm kind.Top d came) ran.came others refl
      turn kind.Sub false = no_more (past_arm kind.Sub d came) ran.came others refl
      turn kind.Top false = no_more (past_arm kind.Top d came) ran.came others refl

  arms_stay : (arms : List Arm) (names : List Name) (d : Doing) (home : ℕ) → IsRunning d.world → Waiting names d.world
      → ArmsStay names d home (arms_run go arms names d)
  arms_stay [] names d home r w = (abort_each home names d.world r (λ a h. (w.are_open a h).begun), refl)
  arms_stay (arm ∷ arms) [] d home r w = (abort_each home [] d.world r (λ a h. (w.are_open a h).begun), refl)
  arms_stay (arm ∷ arms) (a ∷ names) d home r w = arm_stays arm arms a names d home (λ e. arms_stay arms names e home) r w

  arms_named : (a : Answer) (mid : World) (arms : List Arm) (d : Doing) → Made d.acting.name (names_begun a) d.world mid
      → Differ (names_begun a) → Stays d (by_arms go arms (with_world d mid) (waiting_by a)).doing
  arms_named (answer.Began names) mid arms d m f =
      let s = arms_stay arms names (with_world d mid) d.acting.home m.is_run (record { differ = f; are_open = m.began.are_open }) in
      (fresh_came d.acting.name names d.world mid (finished d.acting.home (arms_run go arms names (with_world d mid))) m s.0, s.1)
  arms_named (answer.Granted reply) mid arms d m f = (made_nothing d.acting.name d.world mid m, refl)
  arms_named (answer.Waits names) mid arms d m f = (made_nothing d.acting.name d.world mid m, refl)
  arms_named answer.VoteYes mid arms d m f = (made_nothing d.acting.name d.world mid m, refl)
  arms_named answer.VoteNo mid arms d m f = (made_nothing d.acting.name d.world mid m, refl)
  arms_named (answer.Done n) mid arms d m f = (made_nothing d.acting.name d.world mid m, refl)
  arms_named (answer.Refused why) mid arms d m f = (made_nothing d.acting.name d.world mid m, refl)

  coenter_stays : (arms : List Arm) (d : Doing) → IsRunning d.world → Stays d (coenter_done go arms d).doing
  coenter_stays arms d r =
      let step : Step = Arms d.acting.name (kinds arms) in
      arms_named (asked step d.world) (after step d.world) arms d (made d.acting.name d.world r step tt refl refl)
      (begun_differ (opening_in d.world.lists) d.acting.name (kinds arms) d.world.past r)

  -- ---- the other statements

  truth_stays : (first second : List Statement) (d : Doing) (holds : Option Bool) → IsRunning d.world → Stays d (by_truth go first second d holds).doing
  truth_stays first second d (Some true) r = all first d r
  truth_stays first second d (Some false) r = all second d r
  truth_stays first second d None r = stays_here d r

  repeat_stays : (turns : ℕ) (body : List Statement) (d : Doing) → IsRunning d.world → Stays d (repeated go turns body d).doing
  repeat_stays zero body d r = stays_here d r
  repeat_stays (suc turns) body d r =
      budgeted_stays d (λ next. where_ended (inner go body next) (repeated go turns body)) r
      (λ next s. where_ended_stays next (inner go body next) (repeated go turns body) (all body next s) (repeat_stays turns body))

  opened_stays : (handlers : List Handler) (statement : Statement-F Arm Statement) (d : Doing) → IsRunning d.world
      → Stays d (opened_done handlers go statement d).doing
  opened_stays handlers (Statement-F.Op call signals) d r = op_stays call signals d r
  opened_stays handlers (Statement-F.Call call signals) d r = call_stays (slice_get handlers call.handler) call signals (given d.bound call) d r
  opened_stays handlers (Statement-F.Coenter arms) d r = coenter_stays arms d r
  opened_stays handlers (Statement-F.TopAction body signals) d r = nested_stays body signals d r
  opened_stays handlers (Statement-F.If test first second) d r = truth_stays first second d (truth_of d.bound test) r
  opened_stays handlers (Statement-F.Repeat turns body) d r = repeat_stays turns body d r
  opened_stays handlers Statement-F.Abort d r = stays_here d r
  opened_stays handlers (Statement-F.Return e) d r = stays_here d r

-- by induction over how many statements may be begun
pub bodies_stay : (handlers : List Handler) (most : ℕ) → AllStay (body_done handlers most)
bodies_stay handlers most [] d r = stays_here d r
bodies_stay handlers zero (statement ∷ rest) d r = stays_here d r
bodies_stay handlers (suc most) (statement ∷ rest) d r =
    let go : Through = body_done handlers most in
    budgeted_stays d (λ next. where_ended (statement_done handlers go statement next) (go rest)) r
    (λ next s. where_ended_stays next (statement_done handlers go statement next) (go rest)
    (opened_stays go (bodies_stay handlers most) handlers (out-Statement statement) next s) (bodies_stay handlers most rest))
