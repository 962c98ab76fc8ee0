use Rattle.std.proofs.Common.{IfErr, IfOk, IfSome, IsTrue, List, Ok, Option, Some, ap, arith, drop, drop_of_length-le, false, inl, inr, le_trans, length, refl, reverse, rules, slice_get, subst, sym, true, [], ◌+◌, ◌-◌, ◌<◌, ◌∙◌, ◌∷◌, ◌≡◌, ◌≤◌}
use Rattle.std.proofs.lemmas.Bool.{false≢true}
use Rattle.std.proofs.lemmas.List.{length-take, nil_from_length}
use Rattle.std.proofs.lemmas.Option.{slice_get_read}
use Rattle.action_names.specs.Names.{Name, has_name}
use Rattle.run_laws.proofs.Names.{clash}
use Rattle.script_model.specs.declared.statement.Arm.{Arm}
use Rattle.frames.specs.Operating.{given}
use Rattle.activities.specs.declared.flow.Flow.TheVariants.{Aborted, Ended, Outwards}
use Rattle.activities.specs.declared.flow.Reach.TheVariants as reach
use Rattle.activities.specs.declared.open_action.Called.TheVariants as called
use Rattle.activities.specs.declared.open_action.OpenAction.{OpenAction}
use Rattle.activities.specs.declared.operations.Outcome.TheVariants as outcome
use Rattle.activities.specs.Acting.{ComesSo, acting, doing, done}
use Rattle.activities.specs.Performing.{outcome_of, step_for}
use Rattle.activities.specs.Serial.{Doing, Done, begun_at, beside, body_done, by_nested_end, inner, is_past, on_signal, past_arm, repeated, run, statement_done, taken_in}
use Rattle.script_model.specs.declared.checked.Handler.{Handler}
use Rattle.script_model.specs.declared.statement.Statement.{Statement}
use Rattle.script_model.specs.Resolved.{asked}
use Rattle.run_model.specs.Runs.{World}
use Rattle.activities.specs.Bodies.{AreArms, IsBody, IsOf, IsOutcome, IsStatement, SignalsHold, WhereEnded, body_of, kind_of, sizes}
use Rattle.activities.specs.Apart.{begun_names}
use Rattle.activities.specs.Failing.{IsCause}
use Rattle.activities.specs.Making.{Begins}
use Rattle.activities.specs.Ends.{called, commits, has_committed, named_by}
use Rattle.activities.proofs.Following.{called_began, handed_sizes, next_rest, next_within, nothing_bound, ok_so, popped, popped_length, same_body}
use Rattle.activities.proofs.Failing.{cause_of_arms, fewer_apart, last_ran, more_apart, none_apart, none_ran, over_arms, over_child, over_ends_named, over_nowhere, over_none, over_through}
use Rattle.activities.proofs.Meaning.{AreArmsFrom, IsBodyFrom, aborted_back, acting_begun, arm_goes, arm_stops, arms_end, body_ends, body_goes, body_lacks, body_stops, call_goes, call_so, called_so, ended_back, if_ok_at, if_ok_then, last_first, nested_past, nested_ran, nested_so, next_list, not_past, of_script, op_comes, outwards_back, returned_back, run_ends, run_named, sub_past, top_past, turn_goes, turn_lacks, turn_stops, turns_end}
use Rattle.activities.proofs.Resolving.{arm_of, arms_from, call_binding, call_ints, call_of, call_signals, call_texts, called_body, called_within, first_of, op_after, op_of, op_signals, return_of, signalled_after, signals_hold_there}
use Rattle.activities.proofs.ArmsApart.{has_fewer, makes_within, then_within}
use Rattle.activities.proofs.Making.{arms_make, child_makes, earlier_waits, if_ok_at_all, if_ok_each, if_ok_with, last_waits, makes_nowhere, makes_through, one_makes, then_makes, then_tells}
use Rattle.activities.proofs.activity.Activity.+activity.Goals.{body-in-Ended, body-in_default, repeat-in-Ended, repeat-in_default, run_arms-in-Ended, run_arms-in-Sub, run_arms-in-Top, run_arms-in_default}
use Rattle.activities.proofs.activity.Activity.+activity.Goals as goal

-- what a nested top action began
began_named : (found : Option Name) (a n : Name) (actors : List Name) (x y : World) → found ≡ Some a → n ≡ a
    → Begins actors [] (named_by found) x y → Begins actors [] (n ∷ []) x y
began_named found a n actors x y e k h =
    subst (λ m. Begins actors [] (m ∷ []) x y) (sym k) (subst (λ o. Begins actors [] (named_by o) x y) e h)

pub run-returns-in-Ok-clause-told : goal.run-returns-in-Ok-clause-told
run-returns-in-Ok-clause-told g t c =
    if_ok_each c.end.result c.end.ensures.told
    (λ flow told. then_tells (commits flow) c.args.action.now.name c.body.new.action.name (g.W.ActivitySteps.run c.args.world.now) (g.W.ActivitySteps.run c.body.new.world)
    (g.W.ActivitySteps.run c.end.new.world) c.body.ensures.name c.body.ensures.makes told)

pub top_action-returns-in-Aborted-clause-makes : goal.top_action-returns-in-Aborted-clause-makes
top_action-returns-in-Aborted-clause-makes g t c =
    let x = (g.W.ActivitySteps.run c.args.world.now) in
    let y = (g.W.ActivitySteps.run c.begin_nested.new.world) in
    let z = (g.W.ActivitySteps.run c.run.new.world) in
    let n = c.new-nested.result.name in
    let began = began_named c.in_ok-name.field-0 c.in-Some.name n (c.args.action.now.name ∷ []) x y c.in-Some.is c.new-nested.ensures.name c.in_ok-name.ensures.began in
    makes_through (c.args.action.now.name ∷ []) [] x z (g.W.ActivitySteps.run c.inner.new.world) (child_makes n (c.args.action.now.name ∷ []) x y z began c.run.ensures.makes)
    c.inner.ensures.makes

pub call-returns-in-Aborted-clause-makes : goal.call-returns-in-Aborted-clause-makes
call-returns-in-Aborted-clause-makes g t c =
    let x = (g.W.ActivitySteps.run c.args.world.now) in
    let y = (g.W.ActivitySteps.run c.begin_call.new.world) in
    let z = (g.W.ActivitySteps.run c.run-ended.new.world) in
    let n = c.new-child.result.name in
    let began = called_began c.in_ok-name.field-0 c.in-Began.name n (c.args.action.now.name ∷ []) x y c.in-Began.is c.new-child.ensures.name c.in_ok-name.ensures.began in
    then_makes c.args.action.now.name c.take_in-taken.new.self.name x z (g.W.ActivitySteps.run c.run_signals-in-Aborted.new.world) c.take_in-taken.ensures.name
    (child_makes n (c.args.action.now.name ∷ []) x y z began c.run-ended.ensures.makes) c.run_signals-in-Aborted.ensures.makes

pub run_arms-returns-in_err-flow-clause-makes : goal.run_arms-returns-in_err-flow-clause-makes
run_arms-returns-in_err-flow-clause-makes g t c =
    let l = c.loop-arm in
    let rest = c.pop.new.self.items in
    let a = c.new-child.result.name in
    let is = popped l.waiting.items rest c.pop.result c.unwrap.result a c.pop.ensures.items c.unwrap.ensures c.new-child.ensures.name in
    one_makes a c.args.waiting.now.items (g.W.ActivitySteps.run c.args.world.now) (g.W.ActivitySteps.run l.world) (g.W.ActivitySteps.run c.run-ended.new.world)
    (l.invariant.among a (last_waits l.waiting.items rest a is)) l.invariant.makes c.run-ended.ensures.makes

pub run_arms-returns-in_err-taken-clause-makes : goal.run_arms-returns-in_err-taken-clause-makes
run_arms-returns-in_err-taken-clause-makes g t c =
    let l = c.loop-arm in
    let rest = c.pop.new.self.items in
    let a = c.new-child.result.name in
    let is = popped l.waiting.items rest c.pop.result c.unwrap.result a c.pop.ensures.items c.unwrap.ensures c.new-child.ensures.name in
    one_makes a c.args.waiting.now.items (g.W.ActivitySteps.run c.args.world.now) (g.W.ActivitySteps.run l.world) (g.W.ActivitySteps.run c.run-ended.new.world)
    (l.invariant.among a (last_waits l.waiting.items rest a is)) l.invariant.makes c.run-ended.ensures.makes

pub run_arms-returns-then-not-matches-clause-makes : goal.run_arms-returns-then-not-matches-clause-makes
run_arms-returns-then-not-matches-clause-makes g t c =
    let l = c.loop-arm in
    let rest = c.pop.new.self.items in
    let a = c.new-child.result.name in
    let is = popped l.waiting.items rest c.pop.result c.unwrap.result a c.pop.ensures.items c.unwrap.ensures c.new-child.ensures.name in
    one_makes a c.args.waiting.now.items (g.W.ActivitySteps.run c.args.world.now) (g.W.ActivitySteps.run l.world) (g.W.ActivitySteps.run c.run-ended.new.world)
    (l.invariant.among a (last_waits l.waiting.items rest a is)) l.invariant.makes c.run-ended.ensures.makes

pub coenter-returns-in_err-aborted-clause-makes : goal.coenter-returns-in_err-aborted-clause-makes
coenter-returns-in_err-aborted-clause-makes g t c =
    let x = (g.W.ActivitySteps.run c.args.world.now) in
    let y = (g.W.ActivitySteps.run c.begin_arms.new.world) in
    let names = c.in-Some.waiting.items in
    arms_make names c.arms-ran.new.waiting.items (c.args.action.now.name ∷ []) x y (g.W.ActivitySteps.run c.arms-ran.new.world) (g.W.ActivitySteps.run c.abort_arms-aborted.new.world)
    (subst (λ o. IfSome o (λ v. Begins (c.args.action.now.name ∷ []) [] v.items x y)) c.in-Some.is c.in_ok-waiting.ensures.began)
    c.arms-ran.ensures.makes c.arms-ran.ensures.rest c.abort_arms-aborted.ensures.makes

pub body-loop-statement-preserved : goal.body-loop-statement-preserved
body-loop-statement-preserved g t c =
    let l = c.loop-statement in
    let s = c.statement-item.result in
    let script = c.args.self.now.script.now in
    let left = c.args.self.now.left in
    let body = c.args.body.now in
    let old : Doing = doing (g.W.ActivitySteps.run c.args.world.now) left c.args.action.now c.args.frames.now in
    let d : Doing = doing (g.W.ActivitySteps.run l.world) l.self.left l.action l.frames in
    let rest = drop (l.statement-index + 1) body in
    let less = c.begin.new.self.left in
    let budget : l.self.left ≡ less + 1 = c.if-not-begin.ensures.left refl in
    let r : Done = done (g.W.ActivitySteps.run c.statement.new.world) c.statement.new.self.left c.statement.new.action c.statement.new.frames c.in_ok-flow.flow in
    let ended : c.in_ok-flow.flow ≡ Ended = elim c.match-matches.branch [
      | body-in-Ended w ↦ w.in-Ended.is
      | body-in_default w ↦ absurd (clash c.if-not-matches.false w.matches-is)
    ] in
    let bound : sizes c.statement.new.frames ≡ (asked s).after (sizes l.frames) = search rules in
    let same : c.statement.new.self.script.now ≡ l.self.script.now = cc in
    record {
      makes = then_makes c.args.action.now.name l.action.name (g.W.ActivitySteps.run c.args.world.now) (g.W.ActivitySteps.run l.world)
          (g.W.ActivitySteps.run c.statement.new.world) l.invariant.name l.invariant.makes c.statement.ensures.makes;
      over = over_through g.W.ActivitySteps.alone g.W.ActivitySteps.fails (g.W.ActivitySteps.run c.args.world.now) (g.W.ActivitySteps.run l.world) (g.W.ActivitySteps.run c.statement.new.world) l.invariant.over c.statement.ensures.over;
      resolved = subst (IsOf g.W.ActivitySteps.scripts) (sym same) l.invariant.resolved;
      rest = next_rest l.self.script.now c.statement.new.self.script.now (sizes l.frames) (sizes c.statement.new.frames) c.args.body.now
          l.statement-index s (omega arith) c.statement-item.is same bound l.invariant.rest;
      frames = next_within (sizes c.args.frames.now) (sizes l.frames) (sizes c.statement.new.frames) s l.invariant.frames bound;
      left = omega (arith, c.statement.ensures.left, budget, l.invariant.left);
      script = cc;
      name = cc;
      home = cc;
      means = λ alone.
          let from : IsBodyFrom script left body old (s ∷ rest) d =
          subst (λ (x : List Statement). IsBodyFrom script left body old x d) (next_list body l.statement-index s (omega arith) c.statement-item.is)
          (l.invariant.means alone) in
          let came : ComesSo script less r (λ go. statement_done script.handlers go s (doing (g.W.ActivitySteps.run l.world) less l.action l.frames)) =
          of_script c.begin.new.self.script.now script less r (λ x go. statement_done x.handlers go s (doing (g.W.ActivitySteps.run l.world) less l.action l.frames))
          (c.begin.ensures.script ∙ l.invariant.script) (c.in_ok-flow.ensures.means alone) in
          let body_means = body_goes script left body old d s rest less r from budget came ended c.statement.ensures.left in
          body_means;
    }

pub repeat-loop-preserved : goal.repeat-loop-preserved
repeat-loop-preserved g t c =
    let l = c.loop in
    let script = c.args.self.now.script.now in
    let left = c.args.self.now.left in
    let body = c.args.body.now in
    let turns = c.args.turns in
    let old : Doing = doing (g.W.ActivitySteps.run c.args.world.now) left c.args.action.now c.args.frames.now in
    let d : Doing = doing (g.W.ActivitySteps.run l.world) l.self.left l.action l.frames in
    let n = turns - l.counter in
    let m = turns - (l.counter + 1) in
    let one : n ≡ m + 1 = omega (arith, c.loop-test.true) in
    let less = c.begin.new.self.left in
    let budget : l.self.left ≡ less + 1 = c.if-not-begin.ensures.left refl in
    let fewer : less ≤ left = omega (arith, budget, l.invariant.left) in
    let r : Done = done (g.W.ActivitySteps.run c.inner.new.world) c.inner.new.self.left c.inner.new.action c.inner.new.frames c.in_ok-flow.flow in
    let ended : c.in_ok-flow.flow ≡ Ended = elim c.match-matches.branch [
      | repeat-in-Ended w ↦ w.in-Ended.is
      | repeat-in_default w ↦ absurd (clash c.if-not-matches.false w.matches-is)
    ] in
    let bound : sizes c.inner.new.frames ≡ sizes l.frames = search rules in
    let same : c.inner.new.self.script.now ≡ l.self.script.now = cc in
    record {
      makes = then_makes c.args.action.now.name l.action.name (g.W.ActivitySteps.run c.args.world.now) (g.W.ActivitySteps.run l.world)
          (g.W.ActivitySteps.run c.inner.new.world) l.invariant.name l.invariant.makes c.inner.ensures.makes;
      over = over_through g.W.ActivitySteps.alone g.W.ActivitySteps.fails (g.W.ActivitySteps.run c.args.world.now) (g.W.ActivitySteps.run l.world) (g.W.ActivitySteps.run c.inner.new.world) l.invariant.over c.inner.ensures.over;
      resolved = subst (IsOf g.W.ActivitySteps.scripts) (sym same) l.invariant.resolved;
      body = same_body l.self.script.now c.inner.new.self.script.now (sizes l.frames) (sizes c.inner.new.frames) c.args.body.now same bound
          l.invariant.body;
      frames = bound ∙ l.invariant.frames;
      left = omega (arith, c.inner.ensures.left, budget, l.invariant.left);
      script = cc;
      name = cc;
      home = cc;
      means = λ alone.
          let came : ComesSo script less r (λ go. inner go body (doing (g.W.ActivitySteps.run l.world) less l.action l.frames)) =
          of_script c.begin.new.self.script.now script less r (λ x go. inner go body (doing (g.W.ActivitySteps.run l.world) less l.action l.frames))
          (c.begin.ensures.script ∙ l.invariant.script) (c.in_ok-flow.ensures.means alone) in
          turn_goes script left turns body old d n m less r (l.invariant.means alone) one budget fewer came ended;
    }

pub top_action-returns : goal.top_action-returns
top_action-returns g t c =
    let script = c.args.self.now.script.now in
    let left = c.args.self.now.left in
    let old : Doing = doing (g.W.ActivitySteps.run c.args.world.now) left c.args.action.now c.args.frames.now in
    let d : Doing = doing (g.W.ActivitySteps.run c.begin_nested.new.world) left c.args.action.now c.args.frames.now in
    let home = c.args.action.now.home in
    let a = c.in-Some.name in
    let r : Done = done (g.W.ActivitySteps.run c.run.new.world) c.run.new.self.left c.run.new.action c.run.new.frames c.in_ok-flow.flow in
    let acts : acting c.new-nested.result ≡ begun_at home a =
    acting_begun c.new-nested.result a home c.new-nested.ensures.name c.new-nested.ensures.home
    (ap (λ x. x.homes.keys) c.new-nested.ensures.reached ∙ c.in_ok-reached.ensures.homes)
    (ap (λ x. x.participants.keys) c.new-nested.ensures.reached ∙ c.in_ok-reached.ensures.participants) in
    let this : Done = done (g.W.ActivitySteps.run c.run.new.world) c.run.new.self.left c.args.action.now c.args.frames.now c.in_ok-flow.flow in
    let x = (g.W.ActivitySteps.run c.args.world.now) in
    let y = (g.W.ActivitySteps.run c.begin_nested.new.world) in
    let z = (g.W.ActivitySteps.run c.run.new.world) in
    let n = c.new-nested.result.name in
    let began = began_named c.in_ok-name.field-0 c.in-Some.name n (c.args.action.now.name ∷ []) x y c.in-Some.is c.new-nested.ensures.name c.in_ok-name.ensures.began in
    record {
      makes = child_makes n (c.args.action.now.name ∷ []) x y z began c.run.ensures.makes;
      failed = tt;
      over = over_child g.W.ActivitySteps.alone g.W.ActivitySteps.fails n (c.args.action.now.name ∷ []) x y z began c.run.ensures.over;
      frames = nothing_bound c.in_ok-flow.flow (sizes c.args.frames.now);
      left = c.run.ensures.left;
      script = c.run.ensures.script;
      name = refl;
      home = refl;
      means = λ alone.
          let ran : ComesSo script left r (λ go. run go (begun_at home a) c.args.frames.now c.args.body.now d) =
          λ most h. (c.in_ok-flow.ensures.means alone) most h
          ∙ run_named (body_done script.handlers most) (acting c.new-nested.result) (begun_at home a) c.in_ok-inside.inside c.args.frames.now c.args.body.now
          c.args.body.now d acts c.in_ok-inside.ensures refl in
          let begun = sym c.in-Some.is ∙ (c.in_ok-name.ensures.begun alone) in
          nested_so script left old c.args.body.now c.args.signals.now y (Some a) this (c.in_ok-name.ensures.made alone) begun
          (nested_ran script left d c.args.body.now c.args.signals.now a r this ran
          (λ most h. nested_past (body_done script.handlers most) c.args.signals.now (beside d r.doing) c.in_ok-flow.flow (λ e. c.in_default-2.not-Aborted e)));
    }

pub body-statement-requires : goal.body-statement-requires
body-statement-requires g t c κs within =
    let l = c.loop-statement in
    let script = l.self.script.now in
    let frames = sizes l.frames in
    let s = c.statement-item.result in
    let left = subst (λ (x : List Statement). IsBody script frames x) (next_list c.args.body.now l.statement-index s (omega arith) c.statement-item.is) l.invariant.rest in
    let asks = first_of script frames s _ left in
    let same = sym c.begin.ensures.script in
    let budget = c.if-not-begin.ensures.left refl in
    (omega (arith, budget, l.invariant.left), (within, (subst (IsOf g.W.ActivitySteps.scripts) same l.invariant.resolved, subst (λ x. IsStatement x frames s) same asks)))

pub call-bounds-as_slice-call : goal.call-bounds-as_slice-call
call-bounds-as_slice-call g t c =
    let call = c.args.call.now in
    subst (λ (l : List Handler). call.handler < length l) (sym c.as_slice.ensures)
    (called_within c.args.self.now.script.now (sizes c.args.frames.now) call c.requires.call)

pub call-arguments-requires-clause-ints : goal.call-arguments-requires-clause-ints
call-arguments-requires-clause-ints g t c = call_ints c.args.self.now.script.now (sizes c.args.frames.now) c.args.call.now c.requires.call

pub call-arguments-requires-clause-texts : goal.call-arguments-requires-clause-texts
call-arguments-requires-clause-texts g t c = call_texts c.args.self.now.script.now (sizes c.args.frames.now) c.args.call.now c.requires.call

pub call-bind_value-requires : goal.call-bind_value-requires
call-bind_value-requires g t c = call_binding c.args.self.now.script.now (sizes c.args.frames.now) c.args.call.now c.requires.call

pub call-bind_value-requires-in-Returned : goal.call-bind_value-requires-in-Returned
call-bind_value-requires-in-Returned g t c = call_binding c.args.self.now.script.now (sizes c.args.frames.now) c.args.call.now c.requires.call

pub statement-returned-requires : goal.statement-returned-requires
statement-returned-requires g t c =
    let script = c.args.self.now.script.now in
    let frames = sizes c.args.frames.now in
    return_of script frames c.in-Return.expr (subst (λ (s : Statement). IsStatement script frames s) c.in-Return.is c.requires.statement)

pub call-run-ended-requires : goal.call-run-ended-requires
call-run-ended-requires g t c κs within =
    let script = c.args.self.now.script.now in
    let frames = sizes c.args.frames.now in
    let call = c.args.call.now in
    let h = c.index-as_slice-call.result in
    let hs = c.as_slice.result.now in
    let known = subst (λ (l : List Handler). call.handler < length l) (sym c.as_slice.ensures) (called_within script frames call c.requires.call) in
    let there = subst (λ (l : List Handler). slice_get l call.handler ≡ Some h) c.as_slice.ensures
    (slice_get_read hs (length hs) call.handler h refl known c.index-as_slice-call.is) in
    let begins = handed_sizes c.in_ok-inside.field-0 c.in-Some.inside c.args.frames.now call c.in-Some.is c.in_ok-inside.ensures in
    let body = subst (λ (l : List Statement). IsBody script (sizes c.in-Some.inside) l) (sym c.as_slice-2.ensures)
    (subst (λ f. IsBody script f h.body) (sym begins) (called_body script frames call h c.requires.script.resolved c.requires.call there)) in
    (omega arith, (within, (c.requires.script, body)))

pub run_arms-run-ended-requires : goal.run_arms-run-ended-requires
run_arms-run-ended-requires g t c κs within =
    let l = c.loop-arm in
    let script = l.self.script.now in
    let arms = c.args.arms.now in
    let arm = c.arm-item.result in
    let there = slice_get_read arms (length arms) l.arm-index arm refl (omega arith) c.arm-item.is in
    let copied = ap sizes c.in_ok-inside.ensures in
    let body = subst (λ (b : List Statement). IsBody script (sizes c.in_ok-inside.inside) b) (sym c.arm_body.ensures)
    (subst (λ f. IsBody script f (body_of arm)) (sym copied)
    (arm_of script (sizes c.args.frames.now) arms l.arm-index arm l.invariant.arms there)) in
    (omega arith, (within, (l.invariant.resolved, body)))

pub run_arms-loop-arm-preserved : goal.run_arms-loop-arm-preserved
run_arms-loop-arm-preserved g t c =
    let l = c.loop-arm in
    let script = c.args.self.now.script.now in
    let left = c.args.self.now.left in
    let arms = c.args.arms.now in
    let frames = c.args.frames.now in
    let arm = c.arm-item.result in
    let a = c.new-child.result.name in
    let names = c.pop.new.self.items in
    let old : Doing = doing (g.W.ActivitySteps.run c.args.world.now) left c.args.action.now frames in
    let d : Doing = doing (g.W.ActivitySteps.run l.world) l.self.left l.action frames in
    let r : Done = done (g.W.ActivitySteps.run c.run-ended.new.world) c.run-ended.new.self.left c.run-ended.new.action c.run-ended.new.frames c.in_ok-flow.flow in
    let next : Doing = doing (g.W.ActivitySteps.run c.run-ended.new.world) c.run-ended.new.self.left c.match-arm.action frames in
    let popped_so = popped l.waiting.items names c.pop.result c.unwrap.result a c.pop.ensures.items c.unwrap.ensures c.new-child.ensures.name in
    let acts : acting c.new-child.result ≡ begun_at l.action.home a =
    acting_begun c.new-child.result a l.action.home refl c.new-child.ensures.home
    (ap (λ x. x.homes.keys) c.new-child.ensures.reached ∙ c.in_ok-reached.ensures.homes)
    (ap (λ x. x.participants.keys) c.new-child.ensures.reached ∙ c.in_ok-reached.ensures.participants) in
    let knows : next ≡ past_arm (kind_of arm) d r = elim c.match-arm.branch [
      | run_arms-in-Sub w ↦
          ap (λ (x : OpenAction). doing (g.W.ActivitySteps.run c.run-ended.new.world) c.run-ended.new.self.left x frames) w.action-is
          ∙ sub_past arm w.in-Sub.field-0 d r (acting w.take_in-taken.new.self) w.in-Sub.is
          (ok_so w.take_in-taken.result c.in_ok-taken.field-0 _ (sym w.taken-is ∙ c.in_ok-taken.was) w.take_in-taken.ensures.taken
          ∙ ap (λ b. taken_in (acting l.action) r.doing.acting b) (w.has_committed.ensures ∙ ap (λ x. has_committed x) c.in_ok-flow.was))
      | run_arms-in-Top w ↦
          ap (λ (x : OpenAction). doing (g.W.ActivitySteps.run c.run-ended.new.world) c.run-ended.new.self.left x frames) w.action-is
          ∙ top_past arm w.in-Top.field-0 d r w.in-Top.is
    ] in
    let past : is_past c.in_ok-flow.flow ≡ true = elim c.match-matches.branch [
      | run_arms-in-Ended w ↦ elim w.in-Ended.is [ inl e ↦ ap is_past e | inr e ↦ ap is_past e ]
      | run_arms-in_default w ↦ absurd (clash c.if-not-matches.false w.matches-is)
    ] in
    let x = (g.W.ActivitySteps.run c.args.world.now) in
    let z = (g.W.ActivitySteps.run c.run-ended.new.world) in
    let all = c.args.waiting.now.items in
    let waits = l.waiting.items in
    let rest = c.pop.new.self.items in
    let is = popped waits rest c.pop.result c.unwrap.result a c.pop.ensures.items c.unwrap.ensures c.new-child.ensures.name in
    record {
      makes = one_makes a all x (g.W.ActivitySteps.run l.world) z (l.invariant.among a (last_waits waits rest a is)) l.invariant.makes
          c.run-ended.ensures.makes;
      over = last_ran g.W.ActivitySteps.alone g.W.ActivitySteps.fails all waits rest a x (g.W.ActivitySteps.run l.world) z is l.invariant.over c.run-ended.ensures.over;
      among = λ b h. l.invariant.among b (earlier_waits waits rest a is b h);
      each = omega (arith, popped_length waits rest a is, l.invariant.each);
      resolved = subst (IsOf g.W.ActivitySteps.scripts) (sym c.run-ended.ensures.script) l.invariant.resolved;
      arms = subst (λ s. AreArms s (sizes c.args.frames.now) c.args.arms.now) (sym c.run-ended.ensures.script) l.invariant.arms;
      frames = refl;
      left = search (rules, arith);
      script = cc;
      name = elim c.match-arm.branch [ run_arms-in-Sub w ↦ (cc) | run_arms-in-Top w ↦ (cc) ];
      home = elim c.match-arm.branch [ run_arms-in-Sub w ↦ (cc) | run_arms-in-Top w ↦ (cc) ];
      means = λ alone.
          let from : AreArmsFrom script left arms (reverse c.args.waiting.now.items) old (arm ∷ drop (l.arm-index + 1) arms) (a ∷ reverse names) d =
          subst (λ (x : List Arm). AreArmsFrom script left arms (reverse c.args.waiting.now.items) old x (a ∷ reverse names) d)
          (next_list arms l.arm-index arm (omega arith) c.arm-item.is)
          (subst (λ (x : List Name). AreArmsFrom script left arms (reverse c.args.waiting.now.items) old (drop l.arm-index arms) x d)
          (last_first l.waiting.items names a popped_so) (l.invariant.means alone)) in
          let own : ComesSo script l.self.left r (λ go. run go (acting c.new-child.result) c.in_ok-inside.inside c.arm_body.result.now d) =
          of_script l.self.script.now script l.self.left r (λ x go. run go (acting c.new-child.result) c.in_ok-inside.inside c.arm_body.result.now d)
          l.invariant.script (c.in_ok-flow.ensures.means alone) in
          let came : ComesSo script l.self.left r (λ go. run go (begun_at l.action.home a) frames (body_of arm) d) =
          λ most h. own most h
          ∙ run_named (body_done script.handlers most) (acting c.new-child.result) (begun_at l.action.home a) c.in_ok-inside.inside frames c.arm_body.result.now
          (body_of arm) d acts c.in_ok-inside.ensures c.arm_body.ensures in
          let arms_mean = arm_goes script left arms (reverse c.args.waiting.now.items) old d arm a (drop (l.arm-index + 1) arms) (reverse names) r next from
          l.invariant.left came past knows in
          arms_mean;
    }

pub run_arms-returns-in_err-flow-clause-rest : goal.run_arms-returns-in_err-flow-clause-rest
run_arms-returns-in_err-flow-clause-rest g t c =
    let l = c.loop-arm in
    let rest = c.pop.new.self.items in
    let a = c.new-child.result.name in
    let is = popped l.waiting.items rest c.pop.result c.unwrap.result a c.pop.ensures.items c.unwrap.ensures c.new-child.ensures.name in
    λ b h. l.invariant.among b (earlier_waits l.waiting.items rest a is b h)

pub run_arms-returns-in_err-taken-clause-rest : goal.run_arms-returns-in_err-taken-clause-rest
run_arms-returns-in_err-taken-clause-rest g t c =
    let l = c.loop-arm in
    let rest = c.pop.new.self.items in
    let a = c.new-child.result.name in
    let is = popped l.waiting.items rest c.pop.result c.unwrap.result a c.pop.ensures.items c.unwrap.ensures c.new-child.ensures.name in
    λ b h. l.invariant.among b (earlier_waits l.waiting.items rest a is b h)

pub run_arms-returns-then-not-matches-clause-rest : goal.run_arms-returns-then-not-matches-clause-rest
run_arms-returns-then-not-matches-clause-rest g t c =
    let l = c.loop-arm in
    let rest = c.pop.new.self.items in
    let a = c.new-child.result.name in
    let is = popped l.waiting.items rest c.pop.result c.unwrap.result a c.pop.ensures.items c.unwrap.ensures c.new-child.ensures.name in
    λ b h. l.invariant.among b (earlier_waits l.waiting.items rest a is b h)

-- where the last one ended well, none waits
pub run_arms-returns-then-not-matches-clause-ran : goal.run_arms-returns-then-not-matches-clause-ran
run_arms-returns-then-not-matches-clause-ran g t c = λ is.
    elim c.match-matches.branch [
      | run_arms-in-Ended w ↦ absurd (clash w.matches-is c.if-not-matches.true)
      | run_arms-in_default w ↦ absurd (w.in_default.not-Ended is)
    ]

pub run_arms-returns-clause-ran : goal.run_arms-returns-clause-ran
run_arms-returns-clause-ran g t c = λ is.
    nil_from_length c.loop-arm.waiting.items (omega (arith, c.loop-arm-test.false, c.loop-arm.invariant.each))

pub statement-perform-requires : goal.statement-perform-requires
statement-perform-requires g t c =
    let frames = sizes c.args.frames.now in
    record {
      call = op_of c.args.self.now.script.now frames c.in-Op.call c.in-Op.signals
          (subst (λ (s : Statement). IsStatement c.args.self.now.script.now frames s) c.in-Op.is c.requires.statement);
    }

pub statement-call-requires : goal.statement-call-requires
statement-call-requires g t c κs within =
    let script = c.args.self.now.script.now in
    let frames = sizes c.args.frames.now in
    let call = c.in-Call.call in
    let asks = subst (λ (s : Statement). IsStatement script frames s) c.in-Call.is c.requires.statement in
    let resolved = call_of script frames call c.in-Call.signals asks in
    let signals = call_signals script frames call c.in-Call.signals asks in
    (omega arith, (within, (c.requires.script, (resolved, signals))))

pub statement-run_signals-requires : goal.statement-run_signals-requires
statement-run_signals-requires g t c κs within =
    let script = c.args.self.now.script.now in
    let frames = sizes c.args.frames.now in
    let binding = c.in-Op.call.binding in
    let asks = subst (λ (s : Statement). IsStatement script frames s) c.in-Op.is c.requires.statement in
    let same = subst (λ p. IsOutcome p binding frames (sizes c.perform.new.frames)) c.in-Signalled.is c.in_ok-perform-in-Op.ensures.frames in
    let signals = subst (λ f. SignalsHold script f c.in-Op.signals) (sym same)
    (signals_hold_there script frames binding c.in-Op.signals (op_signals script frames c.in-Op.call c.in-Op.signals asks)) in
    (omega arith, (within, (c.requires.script, signals)))

pub statement-returns-in-Signalled-clause-frames : goal.statement-returns-in-Signalled-clause-frames
statement-returns-in-Signalled-clause-frames g t c =
    let script = c.args.self.now.script.now in
    let frames = sizes c.args.frames.now in
    let binding = c.in-Op.call.binding in
    let new = sizes c.run_signals.new.frames in
    let r = c.run_signals.result in
    let asks = subst (λ (s : Statement). IsStatement script frames s) c.in-Op.is c.requires.statement in
    let same = subst (λ p. IsOutcome p binding frames (sizes c.perform.new.frames)) c.in-Signalled.is c.in_ok-perform-in-Op.ensures.frames in
    let after = ap (λ (s : Statement). (asked s).after frames) c.in-Op.is ∙ op_after script frames c.in-Op.call c.in-Op.signals in
    subst (λ f. IfOk r (λ flow. WhereEnded flow (new ≡ f))) (sym after)
    (signalled_after script frames binding c.in-Op.signals new r (op_signals script frames c.in-Op.call c.in-Op.signals asks)
    c.run_signals.ensures.unheard (subst (λ f. IfOk r (λ flow. WhereEnded flow (new ≡ f))) same c.run_signals.ensures.frames))

-- ---- what each comes to

pub run-returns-in-Ok-clause-means : goal.run-returns-in-Ok-clause-means
run-returns-in-Ok-clause-means g t c =
    if_ok_with _ c.end.result (λ alone.
    let r : Done = done (g.W.ActivitySteps.run c.body.new.world) c.body.new.self.left c.body.new.action c.body.new.frames c.in-Ok.flow in
    if_ok_then c.end.result (if_ok_at_all _ c.end.result c.end.ensures.means alone)
    (λ end e. run_ends c.args.self.now.script.now c.args.self.now.left (acting c.args.action.now) c.args.frames.now c.args.body.now
    (doing (g.W.ActivitySteps.run c.args.world.now) c.args.self.now.left c.args.action.now c.args.frames.now) r
    (record { world = (g.W.ActivitySteps.run c.end.new.world); flow = end }) (c.in-Ok.ensures.means alone) e))

pub body-loop-statement-init : goal.body-loop-statement-init
body-loop-statement-init g t c = record {
  makes = makes_nowhere (c.args.action.now.name ∷ []) [] (g.W.ActivitySteps.run c.args.world.now);
  over = over_nowhere g.W.ActivitySteps.alone g.W.ActivitySteps.fails (g.W.ActivitySteps.run c.args.world.now);
  resolved = c.requires.script;
  rest = c.requires.body;
  frames = record { ints = omega arith; texts = omega arith; truths = omega arith };
  left = omega arith;
  script = refl;
  name = refl;
  home = refl;
  means = λ alone most h. (most, h, refl);
}

pub body-returns-then-not-begin-clause-means : goal.body-returns-then-not-begin-clause-means
body-returns-then-not-begin-clause-means g t c = λ alone.
    let l = c.loop-statement in
    let s = c.statement-item.result in
    let script = c.args.self.now.script.now in
    let left = c.args.self.now.left in
    let body = c.args.body.now in
    let old : Doing = doing (g.W.ActivitySteps.run c.args.world.now) left c.args.action.now c.args.frames.now in
    let d : Doing = doing (g.W.ActivitySteps.run l.world) l.self.left l.action l.frames in
    let rest = drop (l.statement-index + 1) body in
    let from : IsBodyFrom script left body old (s ∷ rest) d =
    subst (λ (x : List Statement). IsBodyFrom script left body old x d) (next_list body l.statement-index s (omega arith) c.statement-item.is)
    (l.invariant.means alone) in
    subst (λ n. ComesSo script left (done (g.W.ActivitySteps.run l.world) n l.action l.frames (Outwards reach.Client)) (λ go. go body old))
    ((c.if-not-begin.ensures.none refl).0 ∙ sym (c.if-not-begin.ensures.none refl).1) (body_lacks script left body old d s rest from (c.if-not-begin.ensures.none refl).0)

pub body-returns-then-not-matches-clause-means : goal.body-returns-then-not-matches-clause-means
body-returns-then-not-matches-clause-means g t c = λ alone.
    let l = c.loop-statement in
    let s = c.statement-item.result in
    let script = c.args.self.now.script.now in
    let left = c.args.self.now.left in
    let body = c.args.body.now in
    let old : Doing = doing (g.W.ActivitySteps.run c.args.world.now) left c.args.action.now c.args.frames.now in
    let d : Doing = doing (g.W.ActivitySteps.run l.world) l.self.left l.action l.frames in
    let rest = drop (l.statement-index + 1) body in
    let from : IsBodyFrom script left body old (s ∷ rest) d =
    subst (λ (x : List Statement). IsBodyFrom script left body old x d) (next_list body l.statement-index s (omega arith) c.statement-item.is)
    (l.invariant.means alone) in
    let less = c.begin.new.self.left in
    let budget : l.self.left ≡ less + 1 = c.if-not-begin.ensures.left refl in
    let r : Done = done (g.W.ActivitySteps.run c.statement.new.world) c.statement.new.self.left c.statement.new.action c.statement.new.frames c.in_ok-flow.flow in
    let came : ComesSo script less r (λ go. statement_done script.handlers go s (doing (g.W.ActivitySteps.run l.world) less l.action l.frames)) =
    of_script c.begin.new.self.script.now script less r (λ x go. statement_done x.handlers go s (doing (g.W.ActivitySteps.run l.world) less l.action l.frames))
    (c.begin.ensures.script ∙ l.invariant.script) (c.in_ok-flow.ensures.means alone) in
    body_stops script left body old d s rest less r from budget came (λ e. elim c.match-matches.branch [
      | body-in-Ended w ↦ clash w.matches-is c.if-not-matches.true
      | body-in_default w ↦ w.in_default.not-Ended e
    ])

pub body-returns-clause-means : goal.body-returns-clause-means
body-returns-clause-means g t c = λ alone.
    let l = c.loop-statement in
    body_ends c.args.self.now.script.now c.args.self.now.left c.args.body.now
    (doing (g.W.ActivitySteps.run c.args.world.now) c.args.self.now.left c.args.action.now c.args.frames.now)
    (doing (g.W.ActivitySteps.run l.world) l.self.left l.action l.frames) (drop l.statement-index c.args.body.now)
    (drop_of_length-le c.args.body.now (omega (arith, c.loop-statement-test.false))) (l.invariant.means alone)

pub repeat-loop-init : goal.repeat-loop-init
repeat-loop-init g t c = record {
  makes = makes_nowhere (c.args.action.now.name ∷ []) [] (g.W.ActivitySteps.run c.args.world.now);
  over = over_nowhere g.W.ActivitySteps.alone g.W.ActivitySteps.fails (g.W.ActivitySteps.run c.args.world.now);
  resolved = c.requires.script;
  body = c.requires.body;
  frames = refl;
  left = omega arith;
  script = refl;
  name = refl;
  home = refl;
  means = λ alone most h. ap (λ n. repeated (body_done c.args.self.now.script.now.handlers most) n c.args.body.now (doing (g.W.ActivitySteps.run c.args.world.now) c.args.self.now.left c.args.action.now c.args.frames.now)) (omega arith);
}

pub repeat-returns-then-not-begin-clause-means : goal.repeat-returns-then-not-begin-clause-means
repeat-returns-then-not-begin-clause-means g t c = λ alone.
    let l = c.loop in
    let script = c.args.self.now.script.now in
    let left = c.args.self.now.left in
    let body = c.args.body.now in
    let turns = c.args.turns in
    let old : Doing = doing (g.W.ActivitySteps.run c.args.world.now) left c.args.action.now c.args.frames.now in
    let d : Doing = doing (g.W.ActivitySteps.run l.world) l.self.left l.action l.frames in
    let n = turns - l.counter in
    let m = turns - (l.counter + 1) in
    let one : n ≡ m + 1 = omega (arith, c.loop-test.true) in
    subst (λ k. ComesSo script left (done (g.W.ActivitySteps.run l.world) k l.action l.frames (Outwards reach.Client)) (λ go. repeated go turns body old))
    ((c.if-not-begin.ensures.none refl).0 ∙ sym (c.if-not-begin.ensures.none refl).1)
    (turn_lacks script left turns body old d n m (l.invariant.means alone) one (c.if-not-begin.ensures.none refl).0)

pub repeat-returns-then-not-matches-clause-means : goal.repeat-returns-then-not-matches-clause-means
repeat-returns-then-not-matches-clause-means g t c = λ alone.
    let l = c.loop in
    let script = c.args.self.now.script.now in
    let left = c.args.self.now.left in
    let body = c.args.body.now in
    let turns = c.args.turns in
    let old : Doing = doing (g.W.ActivitySteps.run c.args.world.now) left c.args.action.now c.args.frames.now in
    let d : Doing = doing (g.W.ActivitySteps.run l.world) l.self.left l.action l.frames in
    let n = turns - l.counter in
    let m = turns - (l.counter + 1) in
    let one : n ≡ m + 1 = omega (arith, c.loop-test.true) in
    let less = c.begin.new.self.left in
    let budget : l.self.left ≡ less + 1 = c.if-not-begin.ensures.left refl in
    let fewer : less ≤ left = omega (arith, budget, l.invariant.left) in
    let r : Done = done (g.W.ActivitySteps.run c.inner.new.world) c.inner.new.self.left c.inner.new.action c.inner.new.frames c.in_ok-flow.flow in
    let came : ComesSo script less r (λ go. inner go body (doing (g.W.ActivitySteps.run l.world) less l.action l.frames)) =
    of_script c.begin.new.self.script.now script less r (λ x go. inner go body (doing (g.W.ActivitySteps.run l.world) less l.action l.frames))
    (c.begin.ensures.script ∙ l.invariant.script) (c.in_ok-flow.ensures.means alone) in
    turn_stops script left turns body old d n m less r (l.invariant.means alone) one budget fewer came (λ e. elim c.match-matches.branch [
      | repeat-in-Ended w ↦ clash w.matches-is c.if-not-matches.true
      | repeat-in_default w ↦ w.in_default.not-Ended e
    ])

pub repeat-returns-clause-means : goal.repeat-returns-clause-means
repeat-returns-clause-means g t c = λ alone.
    let l = c.loop in
    turns_end c.args.self.now.script.now c.args.self.now.left c.args.turns c.args.body.now
    (doing (g.W.ActivitySteps.run c.args.world.now) c.args.self.now.left c.args.action.now c.args.frames.now)
    (doing (g.W.ActivitySteps.run l.world) l.self.left l.action l.frames) (c.args.turns - l.counter) (omega (arith, c.loop-test.false)) (l.invariant.means alone)

pub call-returns-in-Signalled-clause-means : goal.call-returns-in-Signalled-clause-means
call-returns-in-Signalled-clause-means g t c =
    if_ok_with _ c.run_signals.result (λ alone.
    let script = c.args.self.now.script.now in
    let left = c.args.self.now.left in
    let call = c.args.call.now in
    let signals = c.args.signals.now in
    let action = c.args.action.now in
    let frames = c.args.frames.now in
    let h = c.index-as_slice-call.result in
    let y = (g.W.ActivitySteps.run c.begin_call.new.world) in
    let found : slice_get script.handlers call.handler ≡ Some h =
    subst (λ (l : List Handler). slice_get l call.handler ≡ Some h) c.as_slice.ensures
    (slice_get_read c.as_slice.result.now (length c.as_slice.result.now) call.handler h refl
    (subst (λ (l : List Handler). call.handler < length l) (sym c.as_slice.ensures) (called_within script (sizes frames) call c.requires.call))
    c.index-as_slice-call.is) in
    let handed : given frames call ≡ Some c.in-Some.inside = sym c.in_ok-inside.ensures ∙ c.in-Some.is in
    let old : Doing = doing (g.W.ActivitySteps.run c.args.world.now) left action frames in
    let d : Doing = doing y left action frames in
    if_ok_then c.run_signals.result (if_ok_at_all _ c.run_signals.result c.run_signals.ensures.means alone)
    (λ flow m. call_so script left old (slice_get script.handlers call.handler) h call signals (given frames call) c.in-Some.inside y called.Signalled
    (done (g.W.ActivitySteps.run c.run_signals.new.world) c.run_signals.new.self.left c.run_signals.new.action c.run_signals.new.frames flow) found handed
    (c.in_ok-name.ensures.made alone) (sym c.in-Signalled.is ∙ (c.in_ok-name.ensures.called alone)) m))

pub call-returns-in-Refused-clause-means : goal.call-returns-in-Refused-clause-means
call-returns-in-Refused-clause-means g t c = λ alone.
    let script = c.args.self.now.script.now in
    let left = c.args.self.now.left in
    let call = c.args.call.now in
    let signals = c.args.signals.now in
    let action = c.args.action.now in
    let frames = c.args.frames.now in
    let h = c.index-as_slice-call.result in
    let y = (g.W.ActivitySteps.run c.begin_call.new.world) in
    let found : slice_get script.handlers call.handler ≡ Some h =
    subst (λ (l : List Handler). slice_get l call.handler ≡ Some h) c.as_slice.ensures
    (slice_get_read c.as_slice.result.now (length c.as_slice.result.now) call.handler h refl
    (subst (λ (l : List Handler). call.handler < length l) (sym c.as_slice.ensures) (called_within script (sizes frames) call c.requires.call))
    c.index-as_slice-call.is) in
    let handed : given frames call ≡ Some c.in-Some.inside = sym c.in_ok-inside.ensures ∙ c.in-Some.is in
    let old : Doing = doing (g.W.ActivitySteps.run c.args.world.now) left action frames in
    let d : Doing = doing y left action frames in
    call_so script left old (slice_get script.handlers call.handler) h call signals (given frames call) c.in-Some.inside y called.Refused
    (done y left action frames Aborted) found handed (c.in_ok-name.ensures.made alone) (sym c.in-Refused.is ∙ (c.in_ok-name.ensures.called alone)) (λ most lt. refl)

pub call-returns-in-Aborted-clause-means : goal.call-returns-in-Aborted-clause-means
call-returns-in-Aborted-clause-means g t c =
    if_ok_with _ c.run_signals-in-Aborted.result (λ alone.
    let script = c.args.self.now.script.now in
    let left = c.args.self.now.left in
    let call = c.args.call.now in
    let signals = c.args.signals.now in
    let action = c.args.action.now in
    let frames = c.args.frames.now in
    let h = c.index-as_slice-call.result in
    let y = (g.W.ActivitySteps.run c.begin_call.new.world) in
    let found : slice_get script.handlers call.handler ≡ Some h =
    subst (λ (l : List Handler). slice_get l call.handler ≡ Some h) c.as_slice.ensures
    (slice_get_read c.as_slice.result.now (length c.as_slice.result.now) call.handler h refl
    (subst (λ (l : List Handler). call.handler < length l) (sym c.as_slice.ensures) (called_within script (sizes frames) call c.requires.call))
    c.index-as_slice-call.is) in
    let handed : given frames call ≡ Some c.in-Some.inside = sym c.in_ok-inside.ensures ∙ c.in-Some.is in
    let old : Doing = doing (g.W.ActivitySteps.run c.args.world.now) left action frames in
    let d : Doing = doing y left action frames in
    let n = c.in-Began.name in
    let r : Done = done (g.W.ActivitySteps.run c.run-ended.new.world) c.run-ended.new.self.left c.run-ended.new.action c.run-ended.new.frames c.in_ok-flow.flow in
    let was : c.run-ended.result ≡ Ok c.in_ok-flow.flow = search rules in
    let acts : acting c.new-child.result ≡ begun_at h.guardian n =
    acting_begun c.new-child.result n h.guardian c.new-child.ensures.name c.new-child.ensures.home
    (ap (λ x. x.homes.keys) c.new-child.ensures.reached ∙ c.in_ok-reached.ensures.homes)
    (ap (λ x. x.participants.keys) c.new-child.ensures.reached ∙ c.in_ok-reached.ensures.participants) in
    let own : ComesSo script left r (λ go. run go (acting c.new-child.result) c.in-Some.inside c.as_slice-2.result.now d) =
    if_ok_at (λ flow. ComesSo script left (done (g.W.ActivitySteps.run c.run-ended.new.world) c.run-ended.new.self.left c.run-ended.new.action c.run-ended.new.frames flow)
    (λ go. run go (acting c.new-child.result) c.in-Some.inside c.as_slice-2.result.now d)) c.run-ended.result c.in_ok-flow.flow was (if_ok_at_all _ c.run-ended.result c.run-ended.ensures.means alone) in
    let ran : ComesSo script left r (λ go. run go (begun_at h.guardian n) c.in-Some.inside h.body d) =
    λ most lt. own most lt
    ∙ run_named (body_done script.handlers most) (acting c.new-child.result) (begun_at h.guardian n) c.in-Some.inside c.in-Some.inside c.as_slice-2.result.now
    h.body d acts refl c.as_slice-2.ensures in
    let taken : acting c.take_in-taken.new.self ≡ taken_in (acting action) r.doing.acting (commits c.in_ok-flow.flow) =
    c.in_ok-taken.ensures.taken
    ∙ ap (λ b. taken_in (acting action) r.doing.acting b) (c.has_committed.ensures ∙ ap (λ x. has_committed x) was) in
    let came = sym c.in-Began.is ∙ (c.in_ok-name.ensures.called alone) in
    let e = c.run_signals-in-Aborted in
    if_ok_then e.result (if_ok_at_all _ e.result e.ensures.means alone)
    (λ flow m.
    let this : Done = done (g.W.ActivitySteps.run e.new.world) e.new.self.left e.new.action e.new.frames flow in
    let signalled : ComesSo script c.run-ended.new.self.left this
    (λ go. on_signal go signals (doing (g.W.ActivitySteps.run c.run-ended.new.world) c.run-ended.new.self.left c.take_in-taken.new.self frames)) =
    of_script c.run-ended.new.self.script.now script c.run-ended.new.self.left this
    (λ x go. on_signal go signals (doing (g.W.ActivitySteps.run c.run-ended.new.world) c.run-ended.new.self.left c.take_in-taken.new.self frames)) c.run-ended.ensures.script m in
    call_so script left old (slice_get script.handlers call.handler) h call signals (given frames call) c.in-Some.inside y (called.Began n) this found handed
    (c.in_ok-name.ensures.made alone) came
    (called_so script left d h c.in-Some.inside call.binding signals n r this ran
    (λ most lt. aborted_back (body_done script.handlers most) call.binding signals d r (acting c.take_in-taken.new.self) taken this c.in-Aborted.is
    (signalled most (le_trans c.run-ended.ensures.left lt))))))

pub call-returns-in-Ended-clause-means : goal.call-returns-in-Ended-clause-means
call-returns-in-Ended-clause-means g t c = λ alone.
    let script = c.args.self.now.script.now in
    let left = c.args.self.now.left in
    let call = c.args.call.now in
    let signals = c.args.signals.now in
    let action = c.args.action.now in
    let frames = c.args.frames.now in
    let h = c.index-as_slice-call.result in
    let y = (g.W.ActivitySteps.run c.begin_call.new.world) in
    let found : slice_get script.handlers call.handler ≡ Some h =
    subst (λ (l : List Handler). slice_get l call.handler ≡ Some h) c.as_slice.ensures
    (slice_get_read c.as_slice.result.now (length c.as_slice.result.now) call.handler h refl
    (subst (λ (l : List Handler). call.handler < length l) (sym c.as_slice.ensures) (called_within script (sizes frames) call c.requires.call))
    c.index-as_slice-call.is) in
    let handed : given frames call ≡ Some c.in-Some.inside = sym c.in_ok-inside.ensures ∙ c.in-Some.is in
    let old : Doing = doing (g.W.ActivitySteps.run c.args.world.now) left action frames in
    let d : Doing = doing y left action frames in
    let n = c.in-Began.name in
    let r : Done = done (g.W.ActivitySteps.run c.run-ended.new.world) c.run-ended.new.self.left c.run-ended.new.action c.run-ended.new.frames c.in_ok-flow.flow in
    let was : c.run-ended.result ≡ Ok c.in_ok-flow.flow = search rules in
    let acts : acting c.new-child.result ≡ begun_at h.guardian n =
    acting_begun c.new-child.result n h.guardian c.new-child.ensures.name c.new-child.ensures.home
    (ap (λ x. x.homes.keys) c.new-child.ensures.reached ∙ c.in_ok-reached.ensures.homes)
    (ap (λ x. x.participants.keys) c.new-child.ensures.reached ∙ c.in_ok-reached.ensures.participants) in
    let own : ComesSo script left r (λ go. run go (acting c.new-child.result) c.in-Some.inside c.as_slice-2.result.now d) =
    if_ok_at (λ flow. ComesSo script left (done (g.W.ActivitySteps.run c.run-ended.new.world) c.run-ended.new.self.left c.run-ended.new.action c.run-ended.new.frames flow)
    (λ go. run go (acting c.new-child.result) c.in-Some.inside c.as_slice-2.result.now d)) c.run-ended.result c.in_ok-flow.flow was (if_ok_at_all _ c.run-ended.result c.run-ended.ensures.means alone) in
    let ran : ComesSo script left r (λ go. run go (begun_at h.guardian n) c.in-Some.inside h.body d) =
    λ most lt. own most lt
    ∙ run_named (body_done script.handlers most) (acting c.new-child.result) (begun_at h.guardian n) c.in-Some.inside c.in-Some.inside c.as_slice-2.result.now
    h.body d acts refl c.as_slice-2.ensures in
    let taken : acting c.take_in-taken.new.self ≡ taken_in (acting action) r.doing.acting (commits c.in_ok-flow.flow) =
    c.in_ok-taken.ensures.taken
    ∙ ap (λ b. taken_in (acting action) r.doing.acting b) (c.has_committed.ensures ∙ ap (λ x. has_committed x) was) in
    let came = sym c.in-Began.is ∙ (c.in_ok-name.ensures.called alone) in
    let this : Done = done (g.W.ActivitySteps.run c.run-ended.new.world) c.run-ended.new.self.left c.take_in-taken.new.self c.bind_value.new.frames c.in_ok-bind_value-in-Ended.field-0 in
    call_so script left old (slice_get script.handlers call.handler) h call signals (given frames call) c.in-Some.inside y (called.Began n) this found handed
    (c.in_ok-name.ensures.made alone) came
    (called_so script left d h c.in-Some.inside call.binding signals n r this ran
    (λ most lt. ended_back (body_done script.handlers most) call.binding signals d r (acting c.take_in-taken.new.self)
    taken c.bind_value.new.frames c.in_ok-bind_value-in-Ended.field-0 c.in-Ended.is
    c.in_ok-bind_value-in-Ended.ensures.means))

pub call-returns-in-Returned-clause-means : goal.call-returns-in-Returned-clause-means
call-returns-in-Returned-clause-means g t c = λ alone.
    let script = c.args.self.now.script.now in
    let left = c.args.self.now.left in
    let call = c.args.call.now in
    let signals = c.args.signals.now in
    let action = c.args.action.now in
    let frames = c.args.frames.now in
    let h = c.index-as_slice-call.result in
    let y = (g.W.ActivitySteps.run c.begin_call.new.world) in
    let found : slice_get script.handlers call.handler ≡ Some h =
    subst (λ (l : List Handler). slice_get l call.handler ≡ Some h) c.as_slice.ensures
    (slice_get_read c.as_slice.result.now (length c.as_slice.result.now) call.handler h refl
    (subst (λ (l : List Handler). call.handler < length l) (sym c.as_slice.ensures) (called_within script (sizes frames) call c.requires.call))
    c.index-as_slice-call.is) in
    let handed : given frames call ≡ Some c.in-Some.inside = sym c.in_ok-inside.ensures ∙ c.in-Some.is in
    let old : Doing = doing (g.W.ActivitySteps.run c.args.world.now) left action frames in
    let d : Doing = doing y left action frames in
    let n = c.in-Began.name in
    let r : Done = done (g.W.ActivitySteps.run c.run-ended.new.world) c.run-ended.new.self.left c.run-ended.new.action c.run-ended.new.frames c.in_ok-flow.flow in
    let was : c.run-ended.result ≡ Ok c.in_ok-flow.flow = search rules in
    let acts : acting c.new-child.result ≡ begun_at h.guardian n =
    acting_begun c.new-child.result n h.guardian c.new-child.ensures.name c.new-child.ensures.home
    (ap (λ x. x.homes.keys) c.new-child.ensures.reached ∙ c.in_ok-reached.ensures.homes)
    (ap (λ x. x.participants.keys) c.new-child.ensures.reached ∙ c.in_ok-reached.ensures.participants) in
    let own : ComesSo script left r (λ go. run go (acting c.new-child.result) c.in-Some.inside c.as_slice-2.result.now d) =
    if_ok_at (λ flow. ComesSo script left (done (g.W.ActivitySteps.run c.run-ended.new.world) c.run-ended.new.self.left c.run-ended.new.action c.run-ended.new.frames flow)
    (λ go. run go (acting c.new-child.result) c.in-Some.inside c.as_slice-2.result.now d)) c.run-ended.result c.in_ok-flow.flow was (if_ok_at_all _ c.run-ended.result c.run-ended.ensures.means alone) in
    let ran : ComesSo script left r (λ go. run go (begun_at h.guardian n) c.in-Some.inside h.body d) =
    λ most lt. own most lt
    ∙ run_named (body_done script.handlers most) (acting c.new-child.result) (begun_at h.guardian n) c.in-Some.inside c.in-Some.inside c.as_slice-2.result.now
    h.body d acts refl c.as_slice-2.ensures in
    let taken : acting c.take_in-taken.new.self ≡ taken_in (acting action) r.doing.acting (commits c.in_ok-flow.flow) =
    c.in_ok-taken.ensures.taken
    ∙ ap (λ b. taken_in (acting action) r.doing.acting b) (c.has_committed.ensures ∙ ap (λ x. has_committed x) was) in
    let came = sym c.in-Began.is ∙ (c.in_ok-name.ensures.called alone) in
    let this : Done = done (g.W.ActivitySteps.run c.run-ended.new.world) c.run-ended.new.self.left c.take_in-taken.new.self c.bind_value-in-Returned.new.frames c.in_ok-bind_value-in-Returned.field-0 in
    call_so script left old (slice_get script.handlers call.handler) h call signals (given frames call) c.in-Some.inside y (called.Began n) this found handed
    (c.in_ok-name.ensures.made alone) came
    (called_so script left d h c.in-Some.inside call.binding signals n r this ran
    (λ most lt. returned_back (body_done script.handlers most) call.binding signals d r
    (acting c.take_in-taken.new.self) taken c.in-Returned.value c.bind_value-in-Returned.new.frames
    c.in_ok-bind_value-in-Returned.field-0 c.in-Returned.is c.in_ok-bind_value-in-Returned.ensures.means))

pub call-returns-clause-means : goal.call-returns-clause-means
call-returns-clause-means g t c = λ alone.
    let script = c.args.self.now.script.now in
    let left = c.args.self.now.left in
    let call = c.args.call.now in
    let signals = c.args.signals.now in
    let action = c.args.action.now in
    let frames = c.args.frames.now in
    let h = c.index-as_slice-call.result in
    let y = (g.W.ActivitySteps.run c.begin_call.new.world) in
    let found : slice_get script.handlers call.handler ≡ Some h =
    subst (λ (l : List Handler). slice_get l call.handler ≡ Some h) c.as_slice.ensures
    (slice_get_read c.as_slice.result.now (length c.as_slice.result.now) call.handler h refl
    (subst (λ (l : List Handler). call.handler < length l) (sym c.as_slice.ensures) (called_within script (sizes frames) call c.requires.call))
    c.index-as_slice-call.is) in
    let handed : given frames call ≡ Some c.in-Some.inside = sym c.in_ok-inside.ensures ∙ c.in-Some.is in
    let old : Doing = doing (g.W.ActivitySteps.run c.args.world.now) left action frames in
    let d : Doing = doing y left action frames in
    let n = c.in-Began.name in
    let r : Done = done (g.W.ActivitySteps.run c.run-ended.new.world) c.run-ended.new.self.left c.run-ended.new.action c.run-ended.new.frames c.in_ok-flow.flow in
    let was : c.run-ended.result ≡ Ok c.in_ok-flow.flow = search rules in
    let acts : acting c.new-child.result ≡ begun_at h.guardian n =
    acting_begun c.new-child.result n h.guardian c.new-child.ensures.name c.new-child.ensures.home
    (ap (λ x. x.homes.keys) c.new-child.ensures.reached ∙ c.in_ok-reached.ensures.homes)
    (ap (λ x. x.participants.keys) c.new-child.ensures.reached ∙ c.in_ok-reached.ensures.participants) in
    let own : ComesSo script left r (λ go. run go (acting c.new-child.result) c.in-Some.inside c.as_slice-2.result.now d) =
    if_ok_at (λ flow. ComesSo script left (done (g.W.ActivitySteps.run c.run-ended.new.world) c.run-ended.new.self.left c.run-ended.new.action c.run-ended.new.frames flow)
    (λ go. run go (acting c.new-child.result) c.in-Some.inside c.as_slice-2.result.now d)) c.run-ended.result c.in_ok-flow.flow was (if_ok_at_all _ c.run-ended.result c.run-ended.ensures.means alone) in
    let ran : ComesSo script left r (λ go. run go (begun_at h.guardian n) c.in-Some.inside h.body d) =
    λ most lt. own most lt
    ∙ run_named (body_done script.handlers most) (acting c.new-child.result) (begun_at h.guardian n) c.in-Some.inside c.in-Some.inside c.as_slice-2.result.now
    h.body d acts refl c.as_slice-2.ensures in
    let taken : acting c.take_in-taken.new.self ≡ taken_in (acting action) r.doing.acting (commits c.in_ok-flow.flow) =
    c.in_ok-taken.ensures.taken
    ∙ ap (λ b. taken_in (acting action) r.doing.acting b) (c.has_committed.ensures ∙ ap (λ x. has_committed x) was) in
    let came = sym c.in-Began.is ∙ (c.in_ok-name.ensures.called alone) in
    let this : Done = done (g.W.ActivitySteps.run c.run-ended.new.world) c.run-ended.new.self.left c.take_in-taken.new.self frames (Outwards c.in-Outwards.reach) in
    call_so script left old (slice_get script.handlers call.handler) h call signals (given frames call) c.in-Some.inside y (called.Began n) this found handed
    (c.in_ok-name.ensures.made alone) came
    (called_so script left d h c.in-Some.inside call.binding signals n r this ran (λ most lt. outwards_back (body_done script.handlers most) call.binding signals d r (acting c.take_in-taken.new.self) taken c.in-Outwards.reach c.in-Outwards.is))

pub run_arms-loop-arm-init : goal.run_arms-loop-arm-init
run_arms-loop-arm-init g t c = record {
  makes = makes_nowhere c.args.waiting.now.items c.args.waiting.now.items (g.W.ActivitySteps.run c.args.world.now);
  over = none_ran g.W.ActivitySteps.alone g.W.ActivitySteps.fails c.args.waiting.now.items (g.W.ActivitySteps.run c.args.world.now);
  among = λ a h. h;
  each = omega (arith, c.requires.each);
  resolved = c.requires.script;
  arms = c.requires.arms;
  frames = refl;
  left = omega arith;
  script = refl;
  name = refl;
  home = refl;
  means = λ alone most h. refl;
}

pub run_arms-returns-then-not-matches-clause-means : goal.run_arms-returns-then-not-matches-clause-means
run_arms-returns-then-not-matches-clause-means g t c = λ alone.
    let l = c.loop-arm in
    let script = c.args.self.now.script.now in
    let left = c.args.self.now.left in
    let arms = c.args.arms.now in
    let frames = c.args.frames.now in
    let arm = c.arm-item.result in
    let a = c.new-child.result.name in
    let names = c.pop.new.self.items in
    let old : Doing = doing (g.W.ActivitySteps.run c.args.world.now) left c.args.action.now frames in
    let d : Doing = doing (g.W.ActivitySteps.run l.world) l.self.left l.action frames in
    let r : Done = done (g.W.ActivitySteps.run c.run-ended.new.world) c.run-ended.new.self.left c.run-ended.new.action c.run-ended.new.frames c.in_ok-flow.flow in
    let next : Doing = doing (g.W.ActivitySteps.run c.run-ended.new.world) c.run-ended.new.self.left c.match-arm.action frames in
    let popped_so = popped l.waiting.items names c.pop.result c.unwrap.result a c.pop.ensures.items c.unwrap.ensures c.new-child.ensures.name in
    let from : AreArmsFrom script left arms (reverse c.args.waiting.now.items) old (arm ∷ drop (l.arm-index + 1) arms) (a ∷ reverse names) d =
    subst (λ (x : List Arm). AreArmsFrom script left arms (reverse c.args.waiting.now.items) old x (a ∷ reverse names) d)
    (next_list arms l.arm-index arm (omega arith) c.arm-item.is)
    (subst (λ (x : List Name). AreArmsFrom script left arms (reverse c.args.waiting.now.items) old (drop l.arm-index arms) x d)
    (last_first l.waiting.items names a popped_so) (l.invariant.means alone)) in
    let acts : acting c.new-child.result ≡ begun_at l.action.home a =
    acting_begun c.new-child.result a l.action.home refl c.new-child.ensures.home
    (ap (λ x. x.homes.keys) c.new-child.ensures.reached ∙ c.in_ok-reached.ensures.homes)
    (ap (λ x. x.participants.keys) c.new-child.ensures.reached ∙ c.in_ok-reached.ensures.participants) in
    let own : ComesSo script l.self.left r (λ go. run go (acting c.new-child.result) c.in_ok-inside.inside c.arm_body.result.now d) =
    of_script l.self.script.now script l.self.left r (λ x go. run go (acting c.new-child.result) c.in_ok-inside.inside c.arm_body.result.now d)
    l.invariant.script (c.in_ok-flow.ensures.means alone) in
    let came : ComesSo script l.self.left r (λ go. run go (begun_at l.action.home a) frames (body_of arm) d) =
    λ most h. own most h
    ∙ run_named (body_done script.handlers most) (acting c.new-child.result) (begun_at l.action.home a) c.in_ok-inside.inside frames c.arm_body.result.now
    (body_of arm) d acts c.in_ok-inside.ensures c.arm_body.ensures in
    let knows : next ≡ past_arm (kind_of arm) d r = elim c.match-arm.branch [
      | run_arms-in-Sub w ↦
          ap (λ (x : OpenAction). doing (g.W.ActivitySteps.run c.run-ended.new.world) c.run-ended.new.self.left x frames) w.action-is
          ∙ sub_past arm w.in-Sub.field-0 d r (acting w.take_in-taken.new.self) w.in-Sub.is
          (ok_so w.take_in-taken.result c.in_ok-taken.field-0 _ (sym w.taken-is ∙ c.in_ok-taken.was) w.take_in-taken.ensures.taken
          ∙ ap (λ b. taken_in (acting l.action) r.doing.acting b) (w.has_committed.ensures ∙ ap (λ x. has_committed x) c.in_ok-flow.was))
      | run_arms-in-Top w ↦
          ap (λ (x : OpenAction). doing (g.W.ActivitySteps.run c.run-ended.new.world) c.run-ended.new.self.left x frames) w.action-is
          ∙ top_past arm w.in-Top.field-0 d r w.in-Top.is
    ] in
    let stops : is_past c.in_ok-flow.flow ≡ false = elim c.match-matches.branch [
      | run_arms-in-Ended w ↦ absurd (clash w.matches-is c.if-not-matches.true)
      | run_arms-in_default w ↦ not_past c.in_ok-flow.flow w.in_default.not-Ended w.in_default.not-Aborted
    ] in
    arm_stops script left arms (reverse c.args.waiting.now.items) old d arm a (drop (l.arm-index + 1) arms) (reverse names) r next from l.invariant.left came
    stops knows

pub run_arms-returns-clause-means : goal.run_arms-returns-clause-means
run_arms-returns-clause-means g t c = λ alone.
    let l = c.loop-arm in
    arms_end c.args.self.now.script.now c.args.self.now.left c.args.arms.now (reverse c.args.waiting.now.items)
    (doing (g.W.ActivitySteps.run c.args.world.now) c.args.self.now.left c.args.action.now c.args.frames.now)
    (doing (g.W.ActivitySteps.run l.world) l.self.left l.action c.args.frames.now) (drop l.arm-index c.args.arms.now) (reverse l.waiting.items)
    (drop_of_length-le c.args.arms.now (omega (arith, c.loop-arm-test.false))) (l.invariant.means alone)

pub statement-returns-in-Signalled-clause-means : goal.statement-returns-in-Signalled-clause-means
statement-returns-in-Signalled-clause-means g t c =
    if_ok_with _ c.run_signals.result (λ alone.
    let script = c.args.self.now.script.now in
    let d : Doing = (doing (g.W.ActivitySteps.run c.args.world.now) c.args.self.now.left c.args.action.now c.args.frames.now) in
    let came : (outcome.Signalled, c.perform.new.frames) ≡ outcome_of (g.W.ActivitySteps.run c.args.world.now) c.args.frames.now c.in-Op.call.binding
    (step_for c.args.action.now.name c.args.action.now.home c.args.frames.now c.in-Op.call) =
    ap (λ o. (o, c.perform.new.frames)) (sym c.in-Signalled.is) ∙ (c.in_ok-perform-in-Op.ensures.outcome alone) in
    if_ok_then c.run_signals.result (if_ok_at_all _ c.run_signals.result c.run_signals.ensures.means alone)
    (λ flow m most lt. m most lt
    ∙ sym (op_comes script.handlers (body_done script.handlers most) c.in-Op.call c.in-Op.signals d c.args.statement.now (g.W.ActivitySteps.run c.perform.new.world)
    c.perform.new.frames outcome.Signalled c.in-Op.is (c.in_ok-perform-in-Op.ensures.made alone) came)))

pub statement-returns-in-Call-clause-means : goal.statement-returns-in-Call-clause-means
statement-returns-in-Call-clause-means g t c =
    if_ok_with _ c.call.result (λ alone.
    let script = c.args.self.now.script.now in
    let d : Doing = (doing (g.W.ActivitySteps.run c.args.world.now) c.args.self.now.left c.args.action.now c.args.frames.now) in
    if_ok_then c.call.result (if_ok_at_all _ c.call.result c.call.ensures.means alone)
    (λ flow m most lt. m most lt
    ∙ sym (call_goes script.handlers (body_done script.handlers most) d c.in-Call.call c.in-Call.signals c.args.statement.now c.in-Call.is)))

pub top_action-returns-in-Aborted-clause-means : goal.top_action-returns-in-Aborted-clause-means
top_action-returns-in-Aborted-clause-means g t c =
    if_ok_with _ c.inner.result (λ alone.
    let script = c.args.self.now.script.now in
    let left = c.args.self.now.left in
    let old : Doing = doing (g.W.ActivitySteps.run c.args.world.now) left c.args.action.now c.args.frames.now in
    let d : Doing = doing (g.W.ActivitySteps.run c.begin_nested.new.world) left c.args.action.now c.args.frames.now in
    let home = c.args.action.now.home in
    let a = c.in-Some.name in
    let r : Done = done (g.W.ActivitySteps.run c.run.new.world) c.run.new.self.left c.run.new.action c.run.new.frames c.in_ok-flow.flow in
    let acts : acting c.new-nested.result ≡ begun_at home a =
    acting_begun c.new-nested.result a home c.new-nested.ensures.name c.new-nested.ensures.home
    (ap (λ x. x.homes.keys) c.new-nested.ensures.reached ∙ c.in_ok-reached.ensures.homes)
    (ap (λ x. x.participants.keys) c.new-nested.ensures.reached ∙ c.in_ok-reached.ensures.participants) in
    let ran : ComesSo script left r (λ go. run go (begun_at home a) c.args.frames.now c.args.body.now d) =
    λ most h. (c.in_ok-flow.ensures.means alone) most h
    ∙ run_named (body_done script.handlers most) (acting c.new-nested.result) (begun_at home a) c.in_ok-inside.inside c.args.frames.now c.args.body.now
    c.args.body.now d acts c.in_ok-inside.ensures refl in
    let begun = sym c.in-Some.is ∙ (c.in_ok-name.ensures.begun alone) in
    let left_then = c.run.new.self.left in
    let then : Doing = doing (g.W.ActivitySteps.run c.run.new.world) left_then c.args.action.now c.args.frames.now in
    if_ok_then c.inner.result (if_ok_at_all _ c.inner.result c.inner.ensures.means alone)
    (λ flow m.
    let this : Done = done (g.W.ActivitySteps.run c.inner.new.world) c.inner.new.self.left c.inner.new.action c.inner.new.frames flow in
    let signalled : ComesSo script left_then this (λ go. inner go c.args.signals.now then) =
    of_script c.run.new.self.script.now script left_then this (λ x go. inner go c.args.signals.now then) c.run.ensures.script m in
    nested_so script left old c.args.body.now c.args.signals.now (g.W.ActivitySteps.run c.begin_nested.new.world) (Some a) this (c.in_ok-name.ensures.made alone) begun
    (nested_ran script left d c.args.body.now c.args.signals.now a r this ran
    (λ most lt. signalled most (le_trans c.run.ensures.left lt)
    ∙ sym (ap (by_nested_end (body_done script.handlers most) c.args.signals.now (beside d r.doing)) c.in-Aborted.is)))))

pub call-run_signals-requires-in-Aborted : goal.call-run_signals-requires-in-Aborted
call-run_signals-requires-in-Aborted g t c κs within =
    let follows = signals_hold_there c.args.self.now.script.now (sizes c.args.frames.now) c.args.call.now.binding c.args.signals.now c.requires.signals in
    let same = sym c.run-ended.ensures.script in (
      omega (arith, c.run-ended.ensures.left),
      (
        within,
        (
          subst (IsOf g.W.ActivitySteps.scripts) same c.requires.script,
          subst (λ script. SignalsHold script (sizes c.args.frames.now) c.args.signals.now) same follows,
        ),
      ),
    )

-- ---- arms that run apart

pub arms-returns-in_err-ended-clause-makes : goal.arms-returns-in_err-ended-clause-makes
arms-returns-in_err-ended-clause-makes g t c =
    let names = begun_names c.in_ok-begun.begun.items in
    makes_within names c.args.waiting.now.items (g.W.ActivitySteps.run c.args.world.now) (g.W.ActivitySteps.run c.run_arms-2.new.self)
    (subst (λ (l : List Name). (a : Name) → IsTrue (has_name names a) → IsTrue (has_name l a)) c.deref.ensures.value c.in_ok-begun.ensures.among)
    c.run_arms-2.ensures.makes

pub arms-returns-in_err-flow-clause-makes : goal.arms-returns-in_err-flow-clause-makes
arms-returns-in_err-flow-clause-makes g t c =
    let names = begun_names c.in_ok-begun.begun.items in
    makes_within names c.args.waiting.now.items (g.W.ActivitySteps.run c.args.world.now) (g.W.ActivitySteps.run c.run_arms-2.new.self)
    (subst (λ (l : List Name). (a : Name) → IsTrue (has_name names a) → IsTrue (has_name l a)) c.deref.ensures.value c.in_ok-begun.ensures.among)
    c.run_arms-2.ensures.makes

pub arms-returns-in_err-flow-clause-rest : goal.arms-returns-in_err-flow-clause-rest
arms-returns-in_err-flow-clause-rest g t c =
    λ a h. has_fewer _ c.args.waiting.now.items a (subst (λ (l : List Name). IsTrue (has_name l a)) c.truncate.ensures.items h)

pub arms-returns-in-Ended-clause-makes : goal.arms-returns-in-Ended-clause-makes
arms-returns-in-Ended-clause-makes g t c =
    let names = begun_names c.in_ok-begun.begun.items in
    let all = c.args.waiting.now.items in
    let x = g.W.ActivitySteps.run c.args.world.now in
    let y = g.W.ActivitySteps.run c.run_arms-2.new.self in
    then_within c.truncate.new.self.items all x y (g.W.ActivitySteps.run c.run_arms-in-Ended.new.world)
    (λ a h. has_fewer _ all a (subst (λ (l : List Name). IsTrue (has_name l a)) c.truncate.ensures.items h))
    (makes_within names all x y
    (subst (λ (l : List Name). (a : Name) → IsTrue (has_name names a) → IsTrue (has_name l a)) c.deref.ensures.value c.in_ok-begun.ensures.among)
    c.run_arms-2.ensures.makes)
    c.run_arms-in-Ended.ensures.makes

pub arms-returns-in-Ended-clause-rest : goal.arms-returns-in-Ended-clause-rest
arms-returns-in-Ended-clause-rest g t c =
    λ a h. has_fewer _ c.args.waiting.now.items a (subst (λ (l : List Name). IsTrue (has_name l a)) c.truncate.ensures.items (c.run_arms-in-Ended.ensures.rest a h))

pub arms-returns-in_default : goal.arms-returns-in_default
arms-returns-in_default g t c =
    let names = begun_names c.in_ok-begun.begun.items in
    record {
      makes = makes_within names c.args.waiting.now.items (g.W.ActivitySteps.run c.args.world.now) (g.W.ActivitySteps.run c.run_arms-2.new.self)
          (subst (λ (l : List Name). (a : Name) → IsTrue (has_name names a) → IsTrue (has_name l a)) c.deref.ensures.value c.in_ok-begun.ensures.among)
          c.run_arms-2.ensures.makes;
      rest = λ a h. has_fewer _ c.args.waiting.now.items a (subst (λ (l : List Name). IsTrue (has_name l a)) c.truncate.ensures.items h);
      ran = λ is. absurd (c.in_default.not-Ended is);
      frames = refl;
      left = omega arith;
      script = refl;
      name = c.flow_of.ensures.name;
      home = c.flow_of.ensures.home;
      means = λ alone. absurd (false≢true (sym (c.has_arms_apart.ensures alone) ∙ c.if-not-has_arms_apart.false));
      failed = tt;
      over = fewer_apart g.W.ActivitySteps.alone g.W.ActivitySteps.fails _ _ c.args.waiting.now.items (g.W.ActivitySteps.run c.args.world.now) (g.W.ActivitySteps.run c.run_arms-2.new.self) c.truncate.new.self.items
          (c.len.result - c.len-count.result) c.truncate.ensures.items c.run_arms-2.ensures.makes
          (λ alone. false≢true (sym (c.has_arms_apart.ensures alone) ∙ c.if-not-has_arms_apart.false));
    }

pub arms-run_arms-requires-in-Ended : goal.arms-run_arms-requires-in-Ended
arms-run_arms-requires-in-Ended g t c κs within =
    let script = c.args.self.now.script.now in
    let arms = c.args.arms.now in
    let frames = sizes c.args.frames.now in
    let behind = subst (λ (l : List Arm). AreArms script frames l) (sym c.split_at.ensures.back) (arms_from script frames _ arms c.requires.arms) in
    let names = ap length c.truncate.ensures.items in
    let fewer = length-take (c.len.result - c.len-count.result) c.args.waiting.now.items in
    let each : length c.truncate.new.self.items ≡ length c.split_at.result.1.now = omega (arith, names, fewer, c.split_at.ensures.back_len, c.requires.each) in
    (omega arith, (within, (c.requires.script, (behind, each))))

-- ---- what has ended in spite of a fault

pub body-returns-in_err-flow-clause-over : goal.body-returns-in_err-flow-clause-over
body-returns-in_err-flow-clause-over g t c =
    over_through g.W.ActivitySteps.alone g.W.ActivitySteps.fails (g.W.ActivitySteps.run c.args.world.now)
    (g.W.ActivitySteps.run c.loop-statement.world) (g.W.ActivitySteps.run c.statement.new.world)
    c.loop-statement.invariant.over c.statement.ensures.over

pub body-returns-then-not-matches-clause-over : goal.body-returns-then-not-matches-clause-over
body-returns-then-not-matches-clause-over g t c =
    over_through g.W.ActivitySteps.alone g.W.ActivitySteps.fails (g.W.ActivitySteps.run c.args.world.now)
    (g.W.ActivitySteps.run c.loop-statement.world) (g.W.ActivitySteps.run c.statement.new.world)
    c.loop-statement.invariant.over c.statement.ensures.over

pub body-returns-then-not-begin-clause-over : goal.body-returns-then-not-begin-clause-over
body-returns-then-not-begin-clause-over g t c =
    c.loop-statement.invariant.over

pub body-returns-clause-over : goal.body-returns-clause-over
body-returns-clause-over g t c =
    c.loop-statement.invariant.over

pub repeat-returns-in_err-flow-clause-over : goal.repeat-returns-in_err-flow-clause-over
repeat-returns-in_err-flow-clause-over g t c =
    over_through g.W.ActivitySteps.alone g.W.ActivitySteps.fails (g.W.ActivitySteps.run c.args.world.now) (g.W.ActivitySteps.run c.loop.world) (g.W.ActivitySteps.run c.inner.new.world) c.loop.invariant.over c.inner.ensures.over

pub repeat-returns-then-not-matches-clause-over : goal.repeat-returns-then-not-matches-clause-over
repeat-returns-then-not-matches-clause-over g t c =
    over_through g.W.ActivitySteps.alone g.W.ActivitySteps.fails (g.W.ActivitySteps.run c.args.world.now) (g.W.ActivitySteps.run c.loop.world) (g.W.ActivitySteps.run c.inner.new.world) c.loop.invariant.over c.inner.ensures.over

pub repeat-returns-then-not-begin-clause-over : goal.repeat-returns-then-not-begin-clause-over
repeat-returns-then-not-begin-clause-over g t c =
    c.loop.invariant.over

pub repeat-returns-clause-over : goal.repeat-returns-clause-over
repeat-returns-clause-over g t c =
    c.loop.invariant.over

pub run-returns-in-Ok-clause-over : goal.run-returns-in-Ok-clause-over
run-returns-in-Ok-clause-over g t c =
    over_ends_named g.W.ActivitySteps.alone g.W.ActivitySteps.fails c.args.action.now.name c.body.new.action.name
    (g.W.ActivitySteps.run c.args.world.now) (g.W.ActivitySteps.run c.body.new.world)
    (g.W.ActivitySteps.run c.end.new.world) c.body.ensures.name c.body.ensures.over
    c.end.ensures.over

pub run-returns-in-Err-clause-over : goal.run-returns-in-Err-clause-over
run-returns-in-Err-clause-over g t c =
    over_ends_named g.W.ActivitySteps.alone g.W.ActivitySteps.fails c.args.action.now.name c.body.new.action.name
    (g.W.ActivitySteps.run c.args.world.now) (g.W.ActivitySteps.run c.body.new.world)
    (g.W.ActivitySteps.run c.abort.new.world) c.body.ensures.name c.body.ensures.over
    c.abort.ensures.over

pub call-returns-in_err-flow-clause-over : goal.call-returns-in_err-flow-clause-over
call-returns-in_err-flow-clause-over g t c =
    let x = (g.W.ActivitySteps.run c.args.world.now) in
    let y = (g.W.ActivitySteps.run c.begin_call.new.world) in
    let z = (g.W.ActivitySteps.run c.run-ended.new.world) in
    let n = c.new-child.result.name in
    let began = called_began c.in_ok-name.field-0 c.in-Began.name n (c.args.action.now.name ∷ []) x y c.in-Began.is c.new-child.ensures.name c.in_ok-name.ensures.began in
    over_child g.W.ActivitySteps.alone g.W.ActivitySteps.fails n (c.args.action.now.name ∷ []) x y z began c.run-ended.ensures.over

pub call-returns-in_err-taken-clause-over : goal.call-returns-in_err-taken-clause-over
call-returns-in_err-taken-clause-over g t c =
    let x = (g.W.ActivitySteps.run c.args.world.now) in
    let y = (g.W.ActivitySteps.run c.begin_call.new.world) in
    let z = (g.W.ActivitySteps.run c.run-ended.new.world) in
    let n = c.new-child.result.name in
    let began = called_began c.in_ok-name.field-0 c.in-Began.name n (c.args.action.now.name ∷ []) x y c.in-Began.is c.new-child.ensures.name c.in_ok-name.ensures.began in
    over_child g.W.ActivitySteps.alone g.W.ActivitySteps.fails n (c.args.action.now.name ∷ []) x y z began c.run-ended.ensures.over

pub call-returns-in_err-bind_value-in-Ended-clause-over : goal.call-returns-in_err-bind_value-in-Ended-clause-over
call-returns-in_err-bind_value-in-Ended-clause-over g t c =
    let x = (g.W.ActivitySteps.run c.args.world.now) in
    let y = (g.W.ActivitySteps.run c.begin_call.new.world) in
    let z = (g.W.ActivitySteps.run c.run-ended.new.world) in
    let n = c.new-child.result.name in
    let began = called_began c.in_ok-name.field-0 c.in-Began.name n (c.args.action.now.name ∷ []) x y c.in-Began.is c.new-child.ensures.name c.in_ok-name.ensures.began in
    over_child g.W.ActivitySteps.alone g.W.ActivitySteps.fails n (c.args.action.now.name ∷ []) x y z began c.run-ended.ensures.over

pub call-returns-in-Ended-clause-over : goal.call-returns-in-Ended-clause-over
call-returns-in-Ended-clause-over g t c =
    let x = (g.W.ActivitySteps.run c.args.world.now) in
    let y = (g.W.ActivitySteps.run c.begin_call.new.world) in
    let z = (g.W.ActivitySteps.run c.run-ended.new.world) in
    let n = c.new-child.result.name in
    let began = called_began c.in_ok-name.field-0 c.in-Began.name n (c.args.action.now.name ∷ []) x y c.in-Began.is c.new-child.ensures.name c.in_ok-name.ensures.began in
    over_child g.W.ActivitySteps.alone g.W.ActivitySteps.fails n (c.args.action.now.name ∷ []) x y z began c.run-ended.ensures.over

pub call-returns-in_err-bind_value-in-Returned-clause-over : goal.call-returns-in_err-bind_value-in-Returned-clause-over
call-returns-in_err-bind_value-in-Returned-clause-over g t c =
    let x = (g.W.ActivitySteps.run c.args.world.now) in
    let y = (g.W.ActivitySteps.run c.begin_call.new.world) in
    let z = (g.W.ActivitySteps.run c.run-ended.new.world) in
    let n = c.new-child.result.name in
    let began = called_began c.in_ok-name.field-0 c.in-Began.name n (c.args.action.now.name ∷ []) x y c.in-Began.is c.new-child.ensures.name c.in_ok-name.ensures.began in
    over_child g.W.ActivitySteps.alone g.W.ActivitySteps.fails n (c.args.action.now.name ∷ []) x y z began c.run-ended.ensures.over

pub call-returns-in-Returned-clause-over : goal.call-returns-in-Returned-clause-over
call-returns-in-Returned-clause-over g t c =
    let x = (g.W.ActivitySteps.run c.args.world.now) in
    let y = (g.W.ActivitySteps.run c.begin_call.new.world) in
    let z = (g.W.ActivitySteps.run c.run-ended.new.world) in
    let n = c.new-child.result.name in
    let began = called_began c.in_ok-name.field-0 c.in-Began.name n (c.args.action.now.name ∷ []) x y c.in-Began.is c.new-child.ensures.name c.in_ok-name.ensures.began in
    over_child g.W.ActivitySteps.alone g.W.ActivitySteps.fails n (c.args.action.now.name ∷ []) x y z began c.run-ended.ensures.over

pub call-returns-clause-over : goal.call-returns-clause-over
call-returns-clause-over g t c =
    let x = (g.W.ActivitySteps.run c.args.world.now) in
    let y = (g.W.ActivitySteps.run c.begin_call.new.world) in
    let z = (g.W.ActivitySteps.run c.run-ended.new.world) in
    let n = c.new-child.result.name in
    let began = called_began c.in_ok-name.field-0 c.in-Began.name n (c.args.action.now.name ∷ []) x y c.in-Began.is c.new-child.ensures.name c.in_ok-name.ensures.began in
    over_child g.W.ActivitySteps.alone g.W.ActivitySteps.fails n (c.args.action.now.name ∷ []) x y z began c.run-ended.ensures.over

pub call-returns-in-Aborted-clause-over : goal.call-returns-in-Aborted-clause-over
call-returns-in-Aborted-clause-over g t c =
    let x = (g.W.ActivitySteps.run c.args.world.now) in
    let y = (g.W.ActivitySteps.run c.begin_call.new.world) in
    let z = (g.W.ActivitySteps.run c.run-ended.new.world) in
    let n = c.new-child.result.name in
    let began = called_began c.in_ok-name.field-0 c.in-Began.name n (c.args.action.now.name ∷ []) x y c.in-Began.is c.new-child.ensures.name c.in_ok-name.ensures.began in
    over_through g.W.ActivitySteps.alone g.W.ActivitySteps.fails x z
    (g.W.ActivitySteps.run c.run_signals-in-Aborted.new.world)
    (over_child g.W.ActivitySteps.alone g.W.ActivitySteps.fails n (c.args.action.now.name ∷ []) x y z began
    c.run-ended.ensures.over)
    c.run_signals-in-Aborted.ensures.over

pub call-returns-in-Signalled-clause-over : goal.call-returns-in-Signalled-clause-over
call-returns-in-Signalled-clause-over g t c =
    let x = (g.W.ActivitySteps.run c.args.world.now) in
    let y = (g.W.ActivitySteps.run c.begin_call.new.world) in
    over_through g.W.ActivitySteps.alone g.W.ActivitySteps.fails x y (g.W.ActivitySteps.run c.run_signals.new.world)
    (over_none g.W.ActivitySteps.alone g.W.ActivitySteps.fails (c.args.action.now.name ∷ []) [] x y (subst (λ k. Begins (c.args.action.now.name ∷ []) [] (called k) x y) c.in-Signalled.is c.in_ok-name.ensures.began))
    c.run_signals.ensures.over

pub top_action-returns-in_err-flow-clause-makes : goal.top_action-returns-in_err-flow-clause-makes
top_action-returns-in_err-flow-clause-makes g t c =
    let x = (g.W.ActivitySteps.run c.args.world.now) in
    let y = (g.W.ActivitySteps.run c.begin_nested.new.world) in
    let z = (g.W.ActivitySteps.run c.run.new.world) in
    let n = c.new-nested.result.name in
    let began = began_named c.in_ok-name.field-0 c.in-Some.name n (c.args.action.now.name ∷ []) x y c.in-Some.is c.new-nested.ensures.name c.in_ok-name.ensures.began in
    child_makes n (c.args.action.now.name ∷ []) x y z began c.run.ensures.makes

pub top_action-returns-in_err-flow-clause-over : goal.top_action-returns-in_err-flow-clause-over
top_action-returns-in_err-flow-clause-over g t c =
    let x = (g.W.ActivitySteps.run c.args.world.now) in
    let y = (g.W.ActivitySteps.run c.begin_nested.new.world) in
    let z = (g.W.ActivitySteps.run c.run.new.world) in
    let n = c.new-nested.result.name in
    let began = began_named c.in_ok-name.field-0 c.in-Some.name n (c.args.action.now.name ∷ []) x y c.in-Some.is c.new-nested.ensures.name c.in_ok-name.ensures.began in
    over_child g.W.ActivitySteps.alone g.W.ActivitySteps.fails n (c.args.action.now.name ∷ []) x y z began c.run.ensures.over

pub top_action-returns-in-Aborted-clause-over : goal.top_action-returns-in-Aborted-clause-over
top_action-returns-in-Aborted-clause-over g t c =
    let x = (g.W.ActivitySteps.run c.args.world.now) in
    let y = (g.W.ActivitySteps.run c.begin_nested.new.world) in
    let z = (g.W.ActivitySteps.run c.run.new.world) in
    let n = c.new-nested.result.name in
    let began = began_named c.in_ok-name.field-0 c.in-Some.name n (c.args.action.now.name ∷ []) x y c.in-Some.is c.new-nested.ensures.name c.in_ok-name.ensures.began in
    over_through g.W.ActivitySteps.alone g.W.ActivitySteps.fails x z (g.W.ActivitySteps.run c.inner.new.world)
    (over_child g.W.ActivitySteps.alone g.W.ActivitySteps.fails n (c.args.action.now.name ∷ []) x y z began
    c.run.ensures.over) c.inner.ensures.over

pub top_action-returns-in_default-clause-over : goal.top_action-returns-in_default-clause-over
top_action-returns-in_default-clause-over g t c =
    let x = (g.W.ActivitySteps.run c.args.world.now) in
    let y = (g.W.ActivitySteps.run c.begin_nested.new.world) in
    over_none g.W.ActivitySteps.alone g.W.ActivitySteps.fails (c.args.action.now.name ∷ []) [] x y (subst (λ o. Begins (c.args.action.now.name ∷ []) [] (named_by o) x y) c.in_default.is c.in_ok-name.ensures.began)

pub statement-returns-in-Signalled-clause-over : goal.statement-returns-in-Signalled-clause-over
statement-returns-in-Signalled-clause-over g t c =
    over_through g.W.ActivitySteps.alone g.W.ActivitySteps.fails (g.W.ActivitySteps.run c.args.world.now) (g.W.ActivitySteps.run c.perform.new.world) (g.W.ActivitySteps.run c.run_signals.new.world) c.perform.ensures.over c.run_signals.ensures.over

pub coenter-returns-in_err-flow-clause-over : goal.coenter-returns-in_err-flow-clause-over
coenter-returns-in_err-flow-clause-over g t c =
    let x = (g.W.ActivitySteps.run c.args.world.now) in
    let y = (g.W.ActivitySteps.run c.begin_arms.new.world) in
    over_arms g.W.ActivitySteps.alone g.W.ActivitySteps.fails c.in-Some.waiting.items c.arms-ran.new.waiting.items (c.args.action.now.name ∷ []) x y (g.W.ActivitySteps.run c.arms-ran.new.world) (g.W.ActivitySteps.run c.abort_arms-aborted.new.world)
    (subst (λ o. IfSome o (λ v. Begins (c.args.action.now.name ∷ []) [] v.items x y)) c.in-Some.is c.in_ok-waiting.ensures.began)
    c.arms-ran.ensures.over c.abort_arms-aborted.ensures.over

pub coenter-returns-clause-over : goal.coenter-returns-clause-over
coenter-returns-clause-over g t c =
    let x = (g.W.ActivitySteps.run c.args.world.now) in
    let y = (g.W.ActivitySteps.run c.begin_arms.new.world) in
    over_arms g.W.ActivitySteps.alone g.W.ActivitySteps.fails c.in-Some.waiting.items c.arms-ran.new.waiting.items (c.args.action.now.name ∷ []) x y (g.W.ActivitySteps.run c.arms-ran.new.world) (g.W.ActivitySteps.run c.abort_arms-aborted.new.world)
    (subst (λ o. IfSome o (λ v. Begins (c.args.action.now.name ∷ []) [] v.items x y)) c.in-Some.is c.in_ok-waiting.ensures.began)
    c.arms-ran.ensures.over c.abort_arms-aborted.ensures.over

pub run_arms-returns-in_err-flow-clause-over : goal.run_arms-returns-in_err-flow-clause-over
run_arms-returns-in_err-flow-clause-over g t c =
    let l = c.loop-arm in
    let rest = c.pop.new.self.items in
    let a = c.new-child.result.name in
    let is = popped l.waiting.items rest c.pop.result c.unwrap.result a c.pop.ensures.items c.unwrap.ensures c.new-child.ensures.name in
    last_ran g.W.ActivitySteps.alone g.W.ActivitySteps.fails c.args.waiting.now.items l.waiting.items rest a
    (g.W.ActivitySteps.run c.args.world.now) (g.W.ActivitySteps.run l.world)
    (g.W.ActivitySteps.run c.run-ended.new.world) is l.invariant.over c.run-ended.ensures.over

pub run_arms-returns-in_err-flow-clause-name : goal.run_arms-returns-in_err-flow-clause-name
run_arms-returns-in_err-flow-clause-name g t c =
    elim c.match-arm.branch [ run_arms-in-Sub w ↦ (cc) | run_arms-in-Top w ↦ (cc) ]

pub run_arms-returns-in_err-flow-clause-home : goal.run_arms-returns-in_err-flow-clause-home
run_arms-returns-in_err-flow-clause-home g t c =
    elim c.match-arm.branch [ run_arms-in-Sub w ↦ (cc) | run_arms-in-Top w ↦ (cc) ]

pub run_arms-returns-in_err-taken-clause-over : goal.run_arms-returns-in_err-taken-clause-over
run_arms-returns-in_err-taken-clause-over g t c =
    let l = c.loop-arm in
    let rest = c.pop.new.self.items in
    let a = c.new-child.result.name in
    let is = popped l.waiting.items rest c.pop.result c.unwrap.result a c.pop.ensures.items c.unwrap.ensures c.new-child.ensures.name in
    last_ran g.W.ActivitySteps.alone g.W.ActivitySteps.fails c.args.waiting.now.items l.waiting.items rest a
    (g.W.ActivitySteps.run c.args.world.now) (g.W.ActivitySteps.run l.world)
    (g.W.ActivitySteps.run c.run-ended.new.world) is l.invariant.over c.run-ended.ensures.over

pub run_arms-returns-in_err-taken-clause-name : goal.run_arms-returns-in_err-taken-clause-name
run_arms-returns-in_err-taken-clause-name g t c =
    elim c.match-arm.branch [ run_arms-in-Sub w ↦ (cc) | run_arms-in-Top w ↦ (cc) ]

pub run_arms-returns-in_err-taken-clause-home : goal.run_arms-returns-in_err-taken-clause-home
run_arms-returns-in_err-taken-clause-home g t c =
    elim c.match-arm.branch [ run_arms-in-Sub w ↦ (cc) | run_arms-in-Top w ↦ (cc) ]

pub run_arms-returns-then-not-matches-clause-over : goal.run_arms-returns-then-not-matches-clause-over
run_arms-returns-then-not-matches-clause-over g t c =
    let l = c.loop-arm in
    let rest = c.pop.new.self.items in
    let a = c.new-child.result.name in
    let is = popped l.waiting.items rest c.pop.result c.unwrap.result a c.pop.ensures.items c.unwrap.ensures c.new-child.ensures.name in
    last_ran g.W.ActivitySteps.alone g.W.ActivitySteps.fails c.args.waiting.now.items l.waiting.items rest a
    (g.W.ActivitySteps.run c.args.world.now) (g.W.ActivitySteps.run l.world)
    (g.W.ActivitySteps.run c.run-ended.new.world) is l.invariant.over c.run-ended.ensures.over

pub run_arms-returns-then-not-matches-clause-name : goal.run_arms-returns-then-not-matches-clause-name
run_arms-returns-then-not-matches-clause-name g t c =
    elim c.match-arm.branch [ run_arms-in-Sub w ↦ (cc) | run_arms-in-Top w ↦ (cc) ]

pub run_arms-returns-then-not-matches-clause-home : goal.run_arms-returns-then-not-matches-clause-home
run_arms-returns-then-not-matches-clause-home g t c =
    elim c.match-arm.branch [ run_arms-in-Sub w ↦ (cc) | run_arms-in-Top w ↦ (cc) ]

pub run_arms-returns-in_err-inside-clause-over : goal.run_arms-returns-in_err-inside-clause-over
run_arms-returns-in_err-inside-clause-over g t c =
    c.loop-arm.invariant.over

pub run_arms-returns-in_err-reached-clause-over : goal.run_arms-returns-in_err-reached-clause-over
run_arms-returns-in_err-reached-clause-over g t c =
    c.loop-arm.invariant.over

pub run_arms-returns-clause-over : goal.run_arms-returns-clause-over
run_arms-returns-clause-over g t c =
    c.loop-arm.invariant.over

pub arms-returns-in_err-ended-clause-over : goal.arms-returns-in_err-ended-clause-over
arms-returns-in_err-ended-clause-over g t c =
    none_apart g.W.ActivitySteps.alone g.W.ActivitySteps.fails _ _ c.args.waiting.now.items (g.W.ActivitySteps.run c.args.world.now) (g.W.ActivitySteps.run c.run_arms-2.new.self) c.run_arms-2.ensures.makes
    (λ alone. false≢true (sym (c.has_arms_apart.ensures alone) ∙ c.if-not-has_arms_apart.false))

pub arms-returns-in_err-flow-clause-over : goal.arms-returns-in_err-flow-clause-over
arms-returns-in_err-flow-clause-over g t c =
    fewer_apart g.W.ActivitySteps.alone g.W.ActivitySteps.fails _ _ c.args.waiting.now.items (g.W.ActivitySteps.run c.args.world.now) (g.W.ActivitySteps.run c.run_arms-2.new.self) c.truncate.new.self.items
    (c.len.result - c.len-count.result) c.truncate.ensures.items c.run_arms-2.ensures.makes
    (λ alone. false≢true (sym (c.has_arms_apart.ensures alone) ∙ c.if-not-has_arms_apart.false))

pub arms-returns-in-Ended-clause-over : goal.arms-returns-in-Ended-clause-over
arms-returns-in-Ended-clause-over g t c =
    more_apart g.W.ActivitySteps.alone g.W.ActivitySteps.fails _ _ c.args.waiting.now.items c.truncate.new.self.items
    c.run_arms-in-Ended.new.waiting.items (c.len.result - c.len-count.result) (g.W.ActivitySteps.run c.args.world.now)
    (g.W.ActivitySteps.run c.run_arms-2.new.self)
    (g.W.ActivitySteps.run c.run_arms-in-Ended.new.world) c.truncate.ensures.items c.run_arms-2.ensures.makes c.run_arms-in-Ended.ensures.over
    (λ alone. false≢true (sym (c.has_arms_apart.ensures alone) ∙ c.if-not-has_arms_apart.false))

pub arms-returns-in_err-flow-clause-failed : goal.arms-returns-in_err-flow-clause-failed
arms-returns-in_err-flow-clause-failed g t c =
    let cause : IfErr c.flow_of.result (IsCause g.W.ActivitySteps.fails) =
    cause_of_arms g.W.ActivitySteps.fails c.in_ok-ended.ended.items (Ok Ended) c.flow_of.result c.in_ok-ended.ensures.causes tt c.flow_of.ensures.goes_on in
    search rules
