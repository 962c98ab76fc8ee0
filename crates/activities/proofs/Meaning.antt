-- What statements come to, by what their parts came to.
use Rattle.std.proofs.Common.{Err, IfOk, List, None, Ok, Option, Result, Some, [], ap, arith, drop, false, get_or, if◌then◌else◌, le_refl, le_trans, length, refl, reverse, slice_get, subst, suc, sym, true, zero, ℕ, ◌++◌, ◌+◌, ◌<◌, ◌≤◌, ◌∙◌, ◌∷◌, ◌≡◌}
use Rattle.std.proofs.Math.Seq.{drop-cons}
use Rattle.std.proofs.lemmas.List.{reverse-append}
use Rattle.action_names.specs.Names.{Name}
use Rattle.atomic_types.specs.declared.op.Reply.{Reply}
use Rattle.run_model.specs.declared.step.Step.{Step}
use Rattle.run_model.specs.declared.step.Step.TheVariants.{Call, NestedTop, Top}
use Rattle.run_model.specs.Runs.{World}
use Rattle.script_model.specs.declared.checked.Checked.{Checked}
use Rattle.script_model.specs.declared.checked.Client.{Client}
use Rattle.script_model.specs.declared.checked.Handler.{Handler}
use Rattle.script_model.specs.declared.statement.Arm.{Arm, out-Arm}
use Rattle.script_model.specs.declared.statement.Arm.TheVariants as arm
use Rattle.run_model.specs.declared.step.ArmKind.TheVariants as kind
use Rattle.script_model.specs.declared.statement.Arm.TheOpen.{Arm-F, Statement-F}
use Rattle.script_model.specs.declared.statement.Binding.{Binding}
use Rattle.script_model.specs.declared.statement.HandlerCall.{HandlerCall}
use Rattle.script_model.specs.declared.statement.ObjectCall.{ObjectCall}
use Rattle.script_model.specs.declared.statement.Statement.{Statement, out-Statement}
use Rattle.script_model.specs.declared.statement.Arm.TheViews.{out-roll-Arm, out-roll-Statement}
use Rattle.script_model.specs.declared.statement.Statement.TheVariants as stat
use Rattle.values.specs.declared.value.Value.{Value}
use Rattle.frames.specs.Bound.{Bound, nothing_bound}
use Rattle.frames.specs.Binding.{bound_after}
use Rattle.frames.specs.Operating.{given}
use Rattle.activities.specs.declared.client.ClientEnd.{ClientEnd}
use Rattle.activities.specs.declared.client.ClientEnd.TheVariants as ends
use Rattle.activities.specs.declared.flow.Flow.{Flow}
use Rattle.activities.specs.declared.flow.Flow.TheVariants.{Aborted, Ended, Outwards, Returned}
use Rattle.activities.specs.declared.flow.Reach.{Reach}
use Rattle.activities.specs.declared.flow.Reach.TheVariants as reach
use Rattle.activities.specs.declared.open_action.Called.{Called}
use Rattle.activities.specs.declared.open_action.Called.TheVariants as called
use Rattle.activities.specs.declared.open_action.OpenAction.{OpenAction}
use Rattle.activities.specs.declared.operations.Outcome.{Outcome}
use Rattle.activities.specs.Acting.{ComesSo, acting}
use Rattle.activities.specs.Bodies.{body_of, kind_of, opened_kind}
use Rattle.activities.specs.Ends.{commits, end_of}
use Rattle.activities.specs.Performing.{IsAfterAny, outcome_of, step_for}
use Rattle.activities.specs.Serial.{Acting, Doing, Done, Left, Ran, Through, after, after_any, arms_run, asked, begun_at, begun_by, beside, body_done, budget, budgeted, by_budget, by_called, by_end, by_fitting, by_flow, by_nested, by_nested_end, by_outcome, by_top, by_value_back, call_done, called_by, client_ran, clients_ran, ended, given_back, inner, is_past, nested_done, on_signal, op_done, opened_done, past_arm, repeated, reply_of, run, statement_done, taken_in, taking_in, where_ended, with_world}

-- ---- what stands in a statement

op_out : (call : ObjectCall) (signals : Option (List Statement)) → out-Statement (stat.Op call signals) ≡ Statement-F.Op call signals
op_out call None = ap out-Statement (sym (stat.rolls-Op call None)) ∙ out-roll-Statement (Statement-F.Op call None)
op_out call (Some b) = ap out-Statement (sym (stat.rolls-Op call (Some b))) ∙ out-roll-Statement (Statement-F.Op call (Some b))

call_out : (call : HandlerCall) (signals : Option (List Statement)) → out-Statement (stat.Call call signals) ≡ Statement-F.Call call signals
call_out call None = ap out-Statement (sym (stat.rolls-Call call None)) ∙ out-roll-Statement (Statement-F.Call call None)
call_out call (Some b) = ap out-Statement (sym (stat.rolls-Call call (Some b))) ∙ out-roll-Statement (Statement-F.Call call (Some b))

module _ (handlers : List Handler) (go : Through) (d : Doing) where
  -- what a statement comes to, by what it is
  by_out : (s : Statement) (o : Statement-F Arm Statement) → out-Statement s ≡ o → statement_done handlers go s d ≡ opened_done handlers go o d
  by_out s o e = ap (λ x. opened_done handlers go x d) e

  pub op_goes : (call : ObjectCall) (signals : Option (List Statement)) (s : Statement) → s ≡ stat.Op call signals
      → statement_done handlers go s d ≡ op_done go call signals d
  op_goes call signals s e = by_out s (Statement-F.Op call signals) (ap out-Statement e ∙ op_out call signals)

  pub call_goes : (call : HandlerCall) (signals : Option (List Statement)) (s : Statement) → s ≡ stat.Call call signals
      → statement_done handlers go s d ≡ call_done go (slice_get handlers call.handler) call signals (given d.bound call) d
  call_goes call signals s e = by_out s (Statement-F.Call call signals) (ap out-Statement e ∙ call_out call signals)

-- ---- operations

after_is : (step : Option Step) (old new : World) → IsAfterAny step old new → new ≡ after_any step old
after_is None old new h = h
after_is (Some step) old new h = h

-- what an operation comes to, by what came of its step
pub op_comes : (handlers : List Handler) (go : Through) (call : ObjectCall) (signals : Option (List Statement)) (d : Doing) (s : Statement) (w : World)
    (b : Bound) (came : Outcome) → s ≡ stat.Op call signals → IsAfterAny (step_for d.acting.name d.acting.home d.bound call) d.world w
    → (came, b) ≡ outcome_of d.world d.bound call.binding (step_for d.acting.name d.acting.home d.bound call)
    → statement_done handlers go s d ≡ by_outcome go signals (record d { world = w; bound = b }) came
op_comes handlers go call signals d s w b came e h k =
    let step : Option Step = step_for d.acting.name d.acting.home d.bound call in
    let came_of : Outcome × Bound = outcome_of d.world d.bound call.binding step in
    op_goes handlers go d call signals s e
    ∙ ap (λ v. by_outcome go signals (record d { world = v; bound = came_of.1 }) came_of.0) (sym (after_is step d.world w h))
    ∙ ap (λ (p : Outcome × Bound). by_outcome go signals (record d { world = w; bound = p.1 }) p.0) (sym k)

-- ---- handler calls

-- a call that can be made, by what came of it
pub call_comes : (go : Through) (found : Option Handler) (h : Handler) (call : HandlerCall) (signals : Option (List Statement)) (handed : Option Bound)
    (inside : Bound) (d : Doing) (w : World) (came : Called) → found ≡ Some h → handed ≡ Some inside
    → w ≡ after (Call d.acting.name h.guardian) d.world → came ≡ called_by (asked (Call d.acting.name h.guardian) d.world)
    → call_done go found call signals handed d ≡ by_called go h inside call.binding signals (with_world d w) came
call_comes go found h call signals handed inside d w came e k m c =
    ap (λ f. call_done go f call signals handed d) e ∙ ap (λ b. call_done go (Some h) call signals b d) k
    ∙ ap (λ v. by_called go h inside call.binding signals (with_world d v) (called_by (asked (Call d.acting.name h.guardian) d.world))) (sym m)
    ∙ ap (λ a. by_called go h inside call.binding signals (with_world d w) a) (sym c)

-- what a handler gave back
pub back_fits : (before after : Bound) (binding : Binding) (value : Option Value) (r : Reply) → r ≡ reply_of value
    → bound_after before binding r ≡ Some after → (Ended, after) ≡ given_back before binding value
back_fits before after binding value r e h = sym (ap (λ x. by_fitting before (bound_after before binding x)) (sym e) ∙ ap (by_fitting before) h)

pub back_unfit : (before : Bound) (binding : Binding) (value : Option Value) (r : Reply) → r ≡ reply_of value
    → bound_after before binding r ≡ None → (Aborted, before) ≡ given_back before binding value
back_unfit before binding value r e h = sym (ap (λ x. by_fitting before (bound_after before binding x)) (sym e) ∙ ap (by_fitting before) h)

pub ruleset values_back = (back_fits, back_unfit)

-- ---- nested top actions

pub nested_comes : (go : Through) (body signals : List Statement) (d : Doing) (w : World) (found : Option Name)
    → w ≡ after (NestedTop d.acting.name) d.world → found ≡ begun_by (asked (NestedTop d.acting.name) d.world)
    → nested_done go body signals d ≡ by_nested go body signals (with_world d w) found
nested_comes go body signals d w found m c =
    ap (λ v. by_nested go body signals (with_world d v) (begun_by (asked (NestedTop d.acting.name) d.world))) (sym m)
    ∙ ap (λ a. by_nested go body signals (with_world d w) a) (sym c)

-- ---- bodies

-- something is left of the budget
pub budget_left : (d : Doing) (next : Doing → Done) (left : ℕ) → d.left ≡ left + 1 → budgeted d next ≡ next (record d { left = left })
budget_left d next left e = ap (by_budget d next) (e ∙ one)
  where
    one : left + 1 ≡ suc left
    one = omega arith

-- nothing is left
pub budget_gone : (d : Doing) (next : Doing → Done) → d.left ≡ 0 → budgeted d next ≡ record { doing = d; flow = Outwards reach.Client }
budget_gone d next e = ap (by_budget d next) e

-- where it ended well, the next comes
pub next_comes : (r : Done) (next : Doing → Done) → r.flow ≡ Ended → where_ended r next ≡ next r.doing
next_comes r next e = ap (by_flow r next) e

-- else it is what it came to
pub none_comes_next : (r : Done) (next : Doing → Done) → (r.flow ≡ Ended → ⊥) → where_ended r next ≡ r
none_comes_next r next n = go r.flow n
  where
    go : (f : Flow) → (f ≡ Ended → ⊥) → by_flow r next f ≡ r
    go Ended n = absurd (n refl)
    go (Returned v) n = refl
    go Aborted n = refl
    go (Outwards k) n = refl

module _ (handlers : List Handler) where
  -- a statement of a body, for which there is budget
  pub statement_goes : (most : ℕ) (statement : Statement) (rest : List Statement) (d : Doing) (left : ℕ) → d.left ≡ left + 1 → d.left ≤ most
      → (fewer : ℕ) × (left ≤ fewer)
      × (body_done handlers most (statement ∷ rest) d
      ≡ where_ended (statement_done handlers (body_done handlers fewer) statement (record d { left = left })) (body_done handlers fewer rest))
  statement_goes zero statement rest d left e l = absurd (none l e)
    where
      none : d.left ≤ 0 → d.left ≡ left + 1 → ⊥
      none l e = omega (arith, l, e)
  statement_goes (suc most) statement rest d left e l =
      (most, omega (arith, l, e), budget_left d (λ next. where_ended (statement_done handlers (body_done handlers most) statement next) (body_done handlers most rest)) left e)

  -- and one for which there is none
  pub statement_lacks : (most : ℕ) (statement : Statement) (rest : List Statement) (d : Doing) → d.left ≡ 0
      → body_done handlers most (statement ∷ rest) d ≡ record { doing = d; flow = Outwards reach.Client }
  statement_lacks zero statement rest d e = refl
  statement_lacks (suc most) statement rest d e =
      budget_gone d (λ next. where_ended (statement_done handlers (body_done handlers most) statement next) (body_done handlers most rest)) e

-- ---- what came so far

-- what is so of a result that came, by what was so of it
pub if_ok_then : {A E : Type 0} {P Q : A → Type 0} (r : Result A E) → IfOk r P → ((x : A) → P x → Q x) → IfOk r Q
if_ok_then (Ok x) h f = f x h
if_ok_then (Err e) h f = tt

module _ (script : Checked) where
  -- a body whose first statements are done
  abbrev pub IsBodyFrom : ℕ → List Statement → Doing → List Statement → Doing → Type 0
  IsBodyFrom left body old rest d =
      (most : ℕ) → left ≤ most
      → (fewer : ℕ) × (d.left ≤ fewer) × (body_done script.handlers most body old ≡ body_done script.handlers fewer rest d)

  module _ (left : ℕ) (body : List Statement) (old d : Doing) where
    -- by its next statement
    by_next : (s : Statement) (rest : List Statement) (l : ℕ) (r : Done) → IsBodyFrom left body old (s ∷ rest) d → d.left ≡ l + 1
        → ComesSo script l r (λ go. statement_done script.handlers go s (record d { left = l })) → (most : ℕ) → left ≤ most
        → (fewer : ℕ) × (l ≤ fewer) × (body_done script.handlers most body old ≡ where_ended r (body_done script.handlers fewer rest))
    by_next s rest l r b e m most h =
        let (j, lt, is) = b most h in
        let (f, lf, goes) = statement_goes script.handlers j s rest d l e lt in
        (f, lf, is ∙ goes ∙ ap (λ x. where_ended x (body_done script.handlers f rest)) (sym (m f lf)))

    pub body_goes : (s : Statement) (rest : List Statement) (l : ℕ) (r : Done) → IsBodyFrom left body old (s ∷ rest) d → d.left ≡ l + 1
        → ComesSo script l r (λ go. statement_done script.handlers go s (record d { left = l })) → r.flow ≡ Ended → r.doing.left ≤ l
        → IsBodyFrom left body old rest r.doing
    body_goes s rest l r b e m ended less most h =
        let (f, lf, is) = by_next s rest l r b e m most h in
        (f, le_trans less lf, is ∙ next_comes r (body_done script.handlers f rest) ended)

    pub body_stops : (s : Statement) (rest : List Statement) (l : ℕ) (r : Done) → IsBodyFrom left body old (s ∷ rest) d → d.left ≡ l + 1
        → ComesSo script l r (λ go. statement_done script.handlers go s (record d { left = l })) → (r.flow ≡ Ended → ⊥)
        → ComesSo script left r (λ go. go body old)
    body_stops s rest l r b e m other most h =
        let (f, lf, is) = by_next s rest l r b e m most h in sym (is ∙ none_comes_next r (body_done script.handlers f rest) other)

    pub body_lacks : (s : Statement) (rest : List Statement) → IsBodyFrom left body old (s ∷ rest) d → d.left ≡ 0
        → ComesSo script left (record { doing = d; flow = Outwards reach.Client }) (λ go. go body old)
    body_lacks s rest b e most h =
        let (j, lt, is) = b most h in sym (is ∙ statement_lacks script.handlers j s rest d e)

    pub body_ends : (rest : List Statement) → rest ≡ [] → IsBodyFrom left body old rest d
        → ComesSo script left (record { doing = d; flow = Ended }) (λ go. go body old)
    body_ends rest e b most h =
        let (j, lt, is) = b most h in sym (is ∙ ap (λ l. body_done script.handlers j l d) e)

  -- turns, the first of them done
  abbrev pub AreTurnsFrom : ℕ → ℕ → List Statement → Doing → ℕ → Doing → Type 0
  AreTurnsFrom left turns body old n d =
      (most : ℕ) → left ≤ most → repeated (body_done script.handlers most) turns body old ≡ repeated (body_done script.handlers most) n body d

  module _ (left turns : ℕ) (body : List Statement) (old d : Doing) where
    by_turn : (n m l : ℕ) (r : Done) → AreTurnsFrom left turns body old n d → n ≡ m + 1 → d.left ≡ l + 1 → l ≤ left
        → ComesSo script l r (λ go. inner go body (record d { left = l })) → (most : ℕ) → left ≤ most
        → repeated (body_done script.handlers most) turns body old ≡ where_ended r (repeated (body_done script.handlers most) m body)
    by_turn n m l r t e f less c most h =
        t most h ∙ ap (λ x. repeated (body_done script.handlers most) x body d) (e ∙ one)
        ∙ budget_left d (λ next. where_ended (inner (body_done script.handlers most) body next) (repeated (body_done script.handlers most) m body)) l f
        ∙ ap (λ x. where_ended x (repeated (body_done script.handlers most) m body)) (sym (c most (le_trans less h)))
      where
        one : m + 1 ≡ suc m
        one = omega arith

    pub turn_goes : (n m l : ℕ) (r : Done) → AreTurnsFrom left turns body old n d → n ≡ m + 1 → d.left ≡ l + 1 → l ≤ left
        → ComesSo script l r (λ go. inner go body (record d { left = l })) → r.flow ≡ Ended → AreTurnsFrom left turns body old m r.doing
    turn_goes n m l r t e f less c ended most h =
        by_turn n m l r t e f less c most h ∙ next_comes r (repeated (body_done script.handlers most) m body) ended

    pub turn_stops : (n m l : ℕ) (r : Done) → AreTurnsFrom left turns body old n d → n ≡ m + 1 → d.left ≡ l + 1 → l ≤ left
        → ComesSo script l r (λ go. inner go body (record d { left = l })) → (r.flow ≡ Ended → ⊥)
        → ComesSo script left r (λ go. repeated go turns body old)
    turn_stops n m l r t e f less c other most h =
        sym (by_turn n m l r t e f less c most h ∙ none_comes_next r (repeated (body_done script.handlers most) m body) other)

    pub turn_lacks : (n m : ℕ) → AreTurnsFrom left turns body old n d → n ≡ m + 1 → d.left ≡ 0
        → ComesSo script left (record { doing = d; flow = Outwards reach.Client }) (λ go. repeated go turns body old)
    turn_lacks n m t e f most h =
        sym (t most h ∙ ap (λ x. repeated (body_done script.handlers most) x body d) (e ∙ one)
        ∙ budget_gone d (λ next. where_ended (inner (body_done script.handlers most) body next) (repeated (body_done script.handlers most) m body)) f)
      where
        one : m + 1 ≡ suc m
        one = omega arith

    pub turns_end : (n : ℕ) → n ≡ 0 → AreTurnsFrom left turns body old n d
        → ComesSo script left (record { doing = d; flow = Ended }) (λ go. repeated go turns body old)
    turns_end n e t most h = sym (t most h ∙ ap (λ x. repeated (body_done script.handlers most) x body d) e)

  -- arms, the first of them run
  abbrev pub AreArmsFrom : ℕ → List Arm → List Name → Doing → List Arm → List Name → Doing → Type 0
  AreArmsFrom left arms all old rest names d =
      (most : ℕ) → left ≤ most
      → arms_run (body_done script.handlers most) arms all old ≡ arms_run (body_done script.handlers most) rest names d

  module _ (left : ℕ) (arms : List Arm) (all : List Name) (old d : Doing) where
    -- by what the next arm came to
    by_next_arm : (arm : Arm) (a : Name) (rest : List Arm) (names : List Name) (r : Done) → AreArmsFrom left arms all old (arm ∷ rest) (a ∷ names) d
        → d.left ≤ left → ComesSo script d.left r (λ go. run go (begun_at d.acting.home a) d.bound (body_of arm) d) → (most : ℕ) → left ≤ most
        → arms_run (body_done script.handlers most) arms all old
        ≡ (if is_past r.flow then arms_run (body_done script.handlers most) rest names (past_arm (kind_of arm) d r)
        else (record { doing = past_arm (kind_of arm) d r; flow = r.flow }, names))
    by_next_arm arm a rest names r t less c most h =
        t most h
        ∙ ap (λ (x : Done). if is_past x.flow then arms_run (body_done script.handlers most) rest names (past_arm (kind_of arm) d x)
        else (record { doing = past_arm (kind_of arm) d x; flow = x.flow }, names))
        (sym (c most (le_trans less h)))

    pub arm_goes : (arm : Arm) (a : Name) (rest : List Arm) (names : List Name) (r : Done) (next : Doing)
        → AreArmsFrom left arms all old (arm ∷ rest) (a ∷ names) d → d.left ≤ left
        → ComesSo script d.left r (λ go. run go (begun_at d.acting.home a) d.bound (body_of arm) d) → is_past r.flow ≡ true
        → next ≡ past_arm (kind_of arm) d r → AreArmsFrom left arms all old rest names next
    arm_goes arm a rest names r next t less c past n most h =
        by_next_arm arm a rest names r t less c most h
        ∙ ap (λ b. if b then arms_run (body_done script.handlers most) rest names (past_arm (kind_of arm) d r)
        else (record { doing = past_arm (kind_of arm) d r; flow = r.flow }, names)) past
        ∙ ap (arms_run (body_done script.handlers most) rest names) (sym n)

    pub arm_stops : (arm : Arm) (a : Name) (rest : List Arm) (names : List Name) (r : Done) (next : Doing)
        → AreArmsFrom left arms all old (arm ∷ rest) (a ∷ names) d → d.left ≤ left
        → ComesSo script d.left r (λ go. run go (begun_at d.acting.home a) d.bound (body_of arm) d) → is_past r.flow ≡ false
        → next ≡ past_arm (kind_of arm) d r → ComesSo script left (record { doing = next; flow = r.flow }, names) (λ go. arms_run go arms all old)
    arm_stops arm a rest names r next t less c past n most h =
        ap (λ x. (record { doing = x; flow = r.flow }, names)) n
        ∙ sym (by_next_arm arm a rest names r t less c most h
        ∙ ap (λ b. if b then arms_run (body_done script.handlers most) rest names (past_arm (kind_of arm) d r)
        else (record { doing = past_arm (kind_of arm) d r; flow = r.flow }, names)) past)

    pub arms_end : (rest : List Arm) (names : List Name) → rest ≡ [] → AreArmsFrom left arms all old rest names d
        → ComesSo script left (record { doing = d; flow = Ended }, names) (λ go. arms_run go arms all old)
    arms_end rest names e t most h = sym (t most h ∙ ap (λ l. arms_run (body_done script.handlers most) l names d) e)

  -- ---- actions

  -- an action that was run
  pub run_ends : (left : ℕ) (a : Acting) (b : Bound) (body : List Statement) (d : Doing) (r : Done) (l : Left)
      → ComesSo script left r (λ go. go body (record d { acting = a; bound = b })) → l ≡ ended r.doing.acting r.flow r.doing.world
      → ComesSo script left (record { doing = with_world r.doing l.world; flow = l.flow }) (λ go. run go a b body d)
  run_ends left a b body d r l c e most h =
      ap (λ (x : Left). record { doing = with_world r.doing x.world; flow = x.flow }) e
      ∙ ap (λ (x : Done). let y = ended x.doing.acting x.flow x.doing.world in record { doing = with_world x.doing y.world; flow = y.flow }) (c most h)

  module _ (left : ℕ) (d : Doing) where
    -- a call, by what came of it
    pub call_so : (found : Option Handler) (h : Handler) (call : HandlerCall) (signals : Option (List Statement)) (handed : Option Bound) (inside : Bound)
        (w : World) (came : Called) (this : Done) → found ≡ Some h → handed ≡ Some inside → w ≡ after (Call d.acting.name h.guardian) d.world
        → came ≡ called_by (asked (Call d.acting.name h.guardian) d.world)
        → ComesSo script left this (λ go. by_called go h inside call.binding signals (with_world d w) came)
        → ComesSo script left this (λ go. call_done go found call signals handed d)
    call_so found h call signals handed inside w came this e k m c t most lt =
        t most lt ∙ sym (call_comes (body_done script.handlers most) found h call signals handed inside d w came e k m c)

    -- the handler's body was run
    pub called_so : (h : Handler) (inside : Bound) (binding : Binding) (signals : Option (List Statement)) (n : Name) (r this : Done)
        → ComesSo script left r (λ go. run go (begun_at h.guardian n) inside h.body d)
        → ComesSo script left this (λ go. by_end go binding signals (taking_in d r) r.flow)
        → ComesSo script left this (λ go. by_called go h inside binding signals d (called.Began n))
    called_so h inside binding signals n r this c t most lt =
        t most lt ∙ ap (λ (x : Done). by_end (body_done script.handlers most) binding signals (taking_in d x) x.flow) (c most lt)

    pub nested_so : (body signals : List Statement) (w : World) (found : Option Name) (this : Done) → w ≡ after (NestedTop d.acting.name) d.world
        → found ≡ begun_by (asked (NestedTop d.acting.name) d.world)
        → ComesSo script left this (λ go. by_nested go body signals (with_world d w) found)
        → ComesSo script left this (λ go. nested_done go body signals d)
    nested_so body signals w found this m c t most lt =
        t most lt ∙ sym (nested_comes (body_done script.handlers most) body signals d w found m c)

    pub nested_ran : (body signals : List Statement) (n : Name) (r this : Done)
        → ComesSo script left r (λ go. run go (begun_at d.acting.home n) d.bound body d)
        → ComesSo script left this (λ go. by_nested_end go signals (beside d r.doing) r.flow)
        → ComesSo script left this (λ go. by_nested go body signals d (Some n))
    nested_ran body signals n r this c t most lt =
        t most lt ∙ ap (λ (x : Done). by_nested_end (body_done script.handlers most) signals (beside d x.doing) x.flow) (c most lt)

-- the same script under another name
pub of_script : {X : Type 0} (a b : Checked) (left : ℕ) (this : X) (asked : Checked → Through → X) → a ≡ b
    → ComesSo a left this (asked a) → ComesSo b left this (asked b)
of_script a b left this asked e = subst (λ (s : Checked). ComesSo s left this (asked s)) e

-- an action that has just begun
pub acting_begun : (c : OpenAction) (a : Name) (h : ℕ) → c.name ≡ a → c.home ≡ h → c.reached.homes.keys ≡ h ∷ [] → c.reached.participants.keys ≡ h ∷ []
    → acting c ≡ begun_at h a
acting_begun c a h n e p q =
    ap (λ x. record { name = x; home = c.home; homes = c.reached.homes.keys; participants = c.reached.participants.keys }) n
    ∙ ap (λ x. record { name = a; home = x; homes = c.reached.homes.keys; participants = c.reached.participants.keys }) e
    ∙ ap (λ x. record { name = a; home = h; homes = x; participants = c.reached.participants.keys }) p
    ∙ ap (λ x. record { name = a; home = h; homes = h ∷ []; participants = x }) q

-- what is run, under other names
pub run_named : (go : Through) (a c : Acting) (b e : Bound) (body other : List Statement) (d : Doing) → a ≡ c → b ≡ e → body ≡ other
    → run go a b body d ≡ run go c e other d
run_named go a c b e body other d p q r =
    ap (λ x. run go x b body d) p ∙ ap (λ x. run go c x body d) q ∙ ap (λ x. run go c e x d) r

-- ---- how a handler's body ended

module _ (go : Through) (binding : Binding) (signals : Option (List Statement)) (d : Doing) (r : Done) (a : Acting)
    (taken : a ≡ taken_in d.acting r.doing.acting (commits r.flow)) where
  pub ended_back : (b : Bound) (flow : Flow) → r.flow ≡ Ended → (flow, b) ≡ given_back d.bound binding None
      → record { doing = record { world = r.doing.world; left = r.doing.left; acting = a; bound = b }; flow = flow }
      ≡ by_end go binding signals (taking_in d r) r.flow
  ended_back b flow e h =
      ap (λ x. record { doing = record { world = r.doing.world; left = r.doing.left; acting = x; bound = b }; flow = flow }) taken
      ∙ ap (λ (p : Flow × Bound). by_value_back (taking_in d r) p) h ∙ sym (ap (by_end go binding signals (taking_in d r)) e)

  pub returned_back : (value : Option Value) (b : Bound) (flow : Flow) → r.flow ≡ Returned value → (flow, b) ≡ given_back d.bound binding value
      → record { doing = record { world = r.doing.world; left = r.doing.left; acting = a; bound = b }; flow = flow }
      ≡ by_end go binding signals (taking_in d r) r.flow
  returned_back value b flow e h =
      ap (λ x. record { doing = record { world = r.doing.world; left = r.doing.left; acting = x; bound = b }; flow = flow }) taken
      ∙ ap (λ (p : Flow × Bound). by_value_back (taking_in d r) p) h ∙ sym (ap (by_end go binding signals (taking_in d r)) e)

  pub aborted_back : (this : Done) → r.flow ≡ Aborted
      → this ≡ on_signal go signals (record { world = r.doing.world; left = r.doing.left; acting = a; bound = d.bound })
      → this ≡ by_end go binding signals (taking_in d r) r.flow
  aborted_back this e h =
      h ∙ ap (λ x. on_signal go signals (record { world = r.doing.world; left = r.doing.left; acting = x; bound = d.bound })) taken
      ∙ sym (ap (by_end go binding signals (taking_in d r)) e)

  pub outwards_back : (reach : Reach) → r.flow ≡ Outwards reach
      → record { doing = record { world = r.doing.world; left = r.doing.left; acting = a; bound = d.bound }; flow = Outwards reach }
      ≡ by_end go binding signals (taking_in d r) r.flow
  outwards_back reach e =
      ap (λ x. record { doing = record { world = r.doing.world; left = r.doing.left; acting = x; bound = d.bound }; flow = Outwards reach }) taken
      ∙ sym (ap (by_end go binding signals (taking_in d r)) e)

-- a nested top action that did not abort
pub nested_past : (go : Through) (signals : List Statement) (d : Doing) (flow : Flow) → (flow ≡ Aborted → ⊥)
    → record { doing = d; flow = flow } ≡ by_nested_end go signals d flow
nested_past go signals d Ended n = refl
nested_past go signals d (Returned v) n = refl
nested_past go signals d Aborted n = absurd (n refl)
nested_past go signals d (Outwards r) n = refl

-- ---- what is next in a list

pub next_list : {X : Type 0} (xs : List X) (i : ℕ) (x : X) → i < length xs → x ≡ get_or xs i x → drop i xs ≡ x ∷ drop (i + 1) xs
next_list xs i x l e = drop-cons xs i x l ∙ ap (λ y. y ∷ drop (suc i) xs) (sym e) ∙ ap (λ n. x ∷ drop n xs) one
  where
    one : suc i ≡ i + 1
    one = omega arith

pub last_first : {X : Type 0} (xs rest : List X) (x : X) → xs ≡ rest ++ (x ∷ []) → reverse xs ≡ x ∷ reverse rest
last_first xs rest x e = ap reverse e ∙ reverse-append rest (x ∷ [])

-- ---- arms

pub not_past : (flow : Flow) → (flow ≡ Ended → ⊥) → (flow ≡ Aborted → ⊥) → is_past flow ≡ false
not_past Ended n m = absurd (n refl)
not_past (Returned v) n m = refl
not_past Aborted n m = absurd (m refl)
not_past (Outwards r) n m = refl

sub_kind : (body : List Statement) → kind_of (arm.Sub body) ≡ kind.Sub
sub_kind body = ap opened_kind (ap out-Arm (sym (arm.rolls-Sub body)) ∙ out-roll-Arm (Arm-F.Sub body))

top_kind : (body : List Statement) → kind_of (arm.Top body) ≡ kind.Top
top_kind body = ap opened_kind (ap out-Arm (sym (arm.rolls-Top body)) ∙ out-roll-Arm (Arm-F.Top body))

-- what the starter knows once an arm has run
pub sub_past : (a : Arm) (body : List Statement) (d : Doing) (r : Done) (taken : Acting) → a ≡ arm.Sub body
    → taken ≡ taken_in d.acting r.doing.acting (commits r.flow)
    → record { world = r.doing.world; left = r.doing.left; acting = taken; bound = d.bound } ≡ past_arm (kind_of a) d r
sub_past a body d r taken e t =
    ap (λ x. record { world = r.doing.world; left = r.doing.left; acting = x; bound = d.bound }) t
    ∙ sym (ap (λ k. past_arm k d r) (ap kind_of e ∙ sub_kind body))

pub top_past : (a : Arm) (body : List Statement) (d : Doing) (r : Done) → a ≡ arm.Top body
    → record { world = r.doing.world; left = r.doing.left; acting = d.acting; bound = d.bound } ≡ past_arm (kind_of a) d r
top_past a body d r e = sym (ap (λ k. past_arm k d r) (ap kind_of e ∙ top_kind body))

-- a result at which something was found
pub if_ok_at : {A E : Type 0} (P : A → Type 0) (r : Result A E) (x : A) → r ≡ Ok x → IfOk r P → P x
if_ok_at P r x e h = subst (λ p. IfOk p P) e h

-- ---- clients

-- a client whose top action could not be begun
pub top_lacks : (handlers : List Handler) (c : Client) (w next : World) (found : Option Name) → next ≡ after (Top c.home) w
    → found ≡ begun_by (asked (Top c.home) w) → found ≡ None → (next, ends.Aborted None) ≡ client_ran handlers c w
top_lacks handlers c w next found n e m =
    ap (λ v. by_top handlers c v None) n ∙ ap (by_top handlers c (after (Top c.home) w)) (sym m ∙ e)

-- one whose top action was run
pub top_runs : (script : Checked) (c : Client) (w next : World) (found : Option Name) (a : Name) (r : Done) (end : ClientEnd) → next ≡ after (Top c.home) w
    → found ≡ begun_by (asked (Top c.home) w) → found ≡ Some a
    → ComesSo script budget r (λ go. run go (begun_at c.home a) nothing_bound c.body
    (record { world = next; left = budget; acting = begun_at c.home a; bound = nothing_bound }))
    → end ≡ end_of a r.flow → (r.doing.world, end) ≡ client_ran script.handlers c w
top_runs script c w next found a r end n e m k h =
    ap (λ x. (r.doing.world, x)) h ∙ ap (λ (x : Done). (x.doing.world, end_of a x.flow)) (k budget (le_refl budget))
    ∙ ap (λ v. by_top script.handlers c v (Some a)) n ∙ ap (by_top script.handlers c (after (Top c.home) w)) (sym m ∙ e)

module _ (handlers : List Handler) where
  -- one client more
  ran_then : (clients : List Client) (c : Client) (w : World)
      → clients_ran handlers (clients ++ (c ∷ [])) w
      ≡ record {
        world = (client_ran handlers c (clients_ran handlers clients w).world).0;
        ends = (clients_ran handlers clients w).ends ++ ((client_ran handlers c (clients_ran handlers clients w).world).1 ∷ []);
      }
  ran_then [] c w = refl
  ran_then (first ∷ clients) c w =
      ap (λ (x : Ran). record { world = x.world; ends = (client_ran handlers first w).1 ∷ x.ends })
      (ran_then clients c (client_ran handlers first w).0)

  pub one_more_ran : (clients : List Client) (c : Client) (old w next : World) (ends : List ClientEnd) (end : ClientEnd)
      → record { world = w; ends = ends } ≡ clients_ran handlers clients old → (next, end) ≡ client_ran handlers c w
      → record { world = next; ends = ends ++ (end ∷ []) } ≡ clients_ran handlers (clients ++ (c ∷ [])) old
  one_more_ran clients c old w next ends end e k =
      ap (λ (x : World × ClientEnd). record { world = x.0; ends = ends ++ (x.1 ∷ []) }) k
      ∙ ap (λ (x : Ran). record { world = (client_ran handlers c x.world).0; ends = x.ends ++ ((client_ran handlers c x.world).1 ∷ []) }) e
      ∙ sym (ran_then clients c old)
