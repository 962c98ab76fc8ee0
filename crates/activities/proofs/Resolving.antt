-- What is known of a statement gives of its parts.
use Rattle.std.proofs.Common.{Bool, IfOk, IfSome, ap₂, IsTrue, List, None, Option, Result, Ok, Err, Some, [], ap, arith, cond, drop, false, length, map, option_map, refl, slice_get, subst, suc, sym, true, zero, ℕ, ◌&&◌, ◌<◌, ◌≤◌, ◌==◌, ◌∙◌, ◌∷◌, ◌≡◌, eqb-true}
use Rattle.std.proofs.Math.Logic.{∥∥₁_elim, ∥∥₁_map}
use mathlib.Core.Bool.{Bool-set}
use Rattle.std.proofs.lemmas.Bool.{and_parts, false≢true, not-true}
use Rattle.std.proofs.lemmas.Option.{slice_get_within}
use Rattle.std.specs.List.{list_all}
use Rattle.values.specs.declared.content.Content.{Content}
use Rattle.script_model.specs.declared.names.Gives.{Gives}
use Rattle.script_model.specs.declared.expression.Expr.{Expr}
use Rattle.script_model.specs.declared.expression.Condition.{Condition}
use Rattle.script_model.specs.declared.statement.Binding.{Binding}
use Rattle.script_model.specs.declared.statement.Binding.TheVariants as binding
use Rattle.script_model.specs.declared.statement.ObjectCall.{ObjectCall}
use Rattle.script_model.specs.declared.statement.HandlerCall.{HandlerCall}
use Rattle.script_model.specs.declared.statement.Statement.{Statement, out-Statement}
use Rattle.script_model.specs.declared.statement.Arm.TheViews.{roll-Arm, roll-out-Arm, roll-Statement, roll-out-Statement}
use Rattle.script_model.specs.declared.statement.Statement.TheVariants as stat
use Rattle.script_model.specs.declared.statement.Arm.{Arm, out-Arm}
use Rattle.script_model.specs.declared.statement.Arm.TheOpen.{Statement-F, Arm-F}
use Rattle.script_model.specs.declared.statement.Arm.TheFolds.{fold-Arm, fold-roll-Arm, fold-roll-Statement, map-Statement}
use Rattle.script_model.specs.declared.checked.Checked.{Checked}
use Rattle.script_model.specs.declared.checked.Handler.{Handler}
use Rattle.script_model.specs.Resolved.{Asked, Frames, IsResolved, Surroundings, all_hold, asked, asked_arm, asked_step, binding_is_bound, binds_newly, body_holds, call_is_resolved, condition_is_bound, expr_is_bound, frames_after, grown, handler_takes, in_top_surroundings, int_is_bound, is_new, is_resolved_at, is_resolved_body, is_resolved_handler, objects_at, signals_hold, text_is_bound, what_gives}
use Rattle.frames.specs.Bound.{Bound, cut_back, sizes}
use Rattle.frames.proofs.Counting.{sizes_cut}
use Rattle.activities.specs.declared.flow.Flow.{Flow}
use Rattle.activities.specs.declared.flow.Flow.TheVariants.{Aborted}
use Rattle.activities.specs.Bodies.{AreArms, IsBody, IsCall, IsOp, IsStatement, Place, SignalsFollow, SignalsHold, Somewhere, WhereEnded, Within, body_of, opened_body}

-- ---- what is asked of a statement, by what is asked of its parts

abbrev Held : Type 0
Held = Surroundings → Frames → Bool

abbrev arm_asked : Arm → Held
arm_asked = fold-Arm Held Asked asked_arm asked_step

op_asks : (o : ObjectCall) (s : Option (List Statement)) → asked (stat.Op o s) ≡ asked_step (Statement-F.Op o (option_map (map asked) s))
op_asks o None = ap asked (sym (stat.rolls-Op o None)) ∙ fold-roll-Statement Held Asked asked_arm asked_step (Statement-F.Op o None)
op_asks o (Some b) = ap asked (sym (stat.rolls-Op o (Some b))) ∙ fold-roll-Statement Held Asked asked_arm asked_step (Statement-F.Op o (Some b))

call_asks : (c : HandlerCall) (s : Option (List Statement)) → asked (stat.Call c s) ≡ asked_step (Statement-F.Call c (option_map (map asked) s))
call_asks c None = ap asked (sym (stat.rolls-Call c None)) ∙ fold-roll-Statement Held Asked asked_arm asked_step (Statement-F.Call c None)
call_asks c (Some b) = ap asked (sym (stat.rolls-Call c (Some b))) ∙ fold-roll-Statement Held Asked asked_arm asked_step (Statement-F.Call c (Some b))

coenter_asks : (arms : List Arm) → asked (stat.Coenter arms) ≡ asked_step (Statement-F.Coenter (map arm_asked arms))
coenter_asks arms = ap asked (sym (stat.rolls-Coenter arms)) ∙ fold-roll-Statement Held Asked asked_arm asked_step (Statement-F.Coenter arms)

top_asks : (b s : List Statement) → asked (stat.TopAction b s) ≡ asked_step (Statement-F.TopAction (map asked b) (map asked s))
top_asks b s = ap asked (sym (stat.rolls-TopAction b s)) ∙ fold-roll-Statement Held Asked asked_arm asked_step (Statement-F.TopAction b s)

if_asks : (c : Condition) (xs ys : List Statement) → asked (stat.If c xs ys) ≡ asked_step (Statement-F.If c (map asked xs) (map asked ys))
if_asks c xs ys = ap asked (sym (stat.rolls-If c xs ys)) ∙ fold-roll-Statement Held Asked asked_arm asked_step (Statement-F.If c xs ys)

repeat_asks : (n : ℕ) (b : List Statement) → asked (stat.Repeat n b) ≡ asked_step (Statement-F.Repeat n (map asked b))
repeat_asks n b = ap asked (sym (stat.rolls-Repeat n b)) ∙ fold-roll-Statement Held Asked asked_arm asked_step (Statement-F.Repeat n b)

return_asks : (e : Option Expr) → asked (stat.Return e) ≡ asked_step (Statement-F.Return e)
return_asks e = ap asked (sym (stat.rolls-Return e)) ∙ fold-roll-Statement Held Asked asked_arm asked_step (Statement-F.Return e)

-- a body is resolved where what is asked of its statements holds
body_asks : (ss : List Statement) (at : Surroundings) (frames : Frames) → body_holds (map asked ss) at frames ≡ is_resolved_body at frames ss
body_asks [] at frames = refl
body_asks (s ∷ ss) at frames = ap (λ b. (asked s).holds at frames && b) (body_asks ss at ((asked s).after frames))

-- ---- what is resolved somewhere

there_too : (script : Checked) (p q : Surroundings → Bool) → ((at : Surroundings) → p at ≡ true → q at ≡ true) → Place script p → Place script q
there_too script p q f s = record { at = s.at; handlers = s.handlers; holds_there = f s.at s.holds_there }

-- what a part of it needs is resolved there too
part : (script : Checked) (p q : Surroundings → Bool) → ((at : Surroundings) → p at ≡ true → q at ≡ true) → Somewhere script p → Somewhere script q
part script p q f s = ∥∥₁_map s (there_too script p q f)

-- also in a top action
part_in_top : (script : Checked) (p q : Surroundings → Bool) → ((at : Surroundings) → p at ≡ true → q (in_top_surroundings at) ≡ true)
    → Somewhere script p → Somewhere script q
part_in_top script p q f s = ∥∥₁_map s inside
  where
    inside : Place script p → Place script q
    inside s = record { at = in_top_surroundings s.at; handlers = s.handlers; holds_there = f s.at s.holds_there }

-- what follows of any place
so_there : (script : Checked) (p : Surroundings → Bool) (x y : Bool) → (Place script p → x ≡ y) → Somewhere script p → x ≡ y
so_there script p x y f s = ∥∥₁_elim s (Bool-set x y) f

-- what is asked of a statement, where it is known what that is
asked_as : (script : Checked) (frames : Frames) (s : Statement) (x : Asked) → asked s ≡ x → IsStatement script frames s
    → Somewhere script (λ at. x.holds at frames)
asked_as script frames s x e h = part script (λ at. (asked s).holds at frames) (λ at. x.holds at frames) (λ at k. sym (ap (λ (y : Asked). y.holds at frames) e) ∙ k) h

after_as : (frames : Frames) (s : Statement) (x : Asked) → asked s ≡ x → (asked s).after frames ≡ x.after frames
after_as frames s x e = ap (λ (y : Asked). y.after frames) e

-- a binding that binds nothing newly leaves as many variables
grown_none : (n : ℕ) (place : Option ℕ) → is_new n place ≡ false → grown n place ≡ n
grown_none n None h = refl
grown_none n (Some p) h = ap (λ t. cond t (suc n) n) h

binds_nothing : (frames : Frames) (b : Binding) → binds_newly frames b ≡ false → frames_after frames b ≡ frames
binds_nothing frames binding.Nothing h = refl
binds_nothing frames (binding.Int place) h = ap (λ n. record frames { ints = n }) (grown_none frames.ints place h)
binds_nothing frames (binding.Text place) h = ap (λ n. record frames { texts = n }) (grown_none frames.texts place h)
binds_nothing frames (binding.Truth place) h = ap (λ n. record frames { truths = n }) (grown_none frames.truths place h)

some_same : {A : Type 0} (x y : A) → Some x ≡ Some y → x ≡ y
some_same x y e = cc

last_of : (a b c d : Bool) → (a && (b && (c && d))) ≡ true → d ≡ true
last_of a b c d h = (and_parts c d (and_parts b (c && d) (and_parts a (b && (c && d)) h).1).1).1

all_hold_at : (arms : List Arm) (i : ℕ) (arm : Arm) (at : Surroundings) (frames : Frames) → all_hold (map arm_asked arms) at frames ≡ true
    → slice_get arms i ≡ Some arm → arm_asked arm at frames ≡ true
all_hold_at [] i arm at frames h there = absurd (none_is there)
  where
    none_is : None ≡ Some arm → ⊥
    none_is e = cc
all_hold_at (a ∷ arms) zero arm at frames h there =
    subst (λ (b : Arm). arm_asked b at frames ≡ true) (some_same a arm there) (and_parts _ _ h).0
all_hold_at (a ∷ arms) (suc i) arm at frames h there = all_hold_at arms i arm at frames (and_parts _ _ h).1 there

all_hold_from : (n : ℕ) (arms : List Arm) (at : Surroundings) (frames : Frames) → all_hold (map arm_asked arms) at frames ≡ true
    → all_hold (map arm_asked (drop n arms)) at frames ≡ true
all_hold_from zero [] at frames h = h
all_hold_from zero (a ∷ arms) at frames h = h
all_hold_from (suc n) [] at frames h = h
all_hold_from (suc n) (a ∷ arms) at frames h = all_hold_from n arms at frames (and_parts _ _ h).1

module _ (script : Checked) (frames : Frames) where
  -- a body begins with a statement, and goes on after it
  pub first_of : (s : Statement) (ss : List Statement) → IsBody script frames (s ∷ ss) → IsStatement script frames s
  first_of s ss = part script (λ at. is_resolved_body at frames (s ∷ ss)) (λ at. (asked s).holds at frames) (λ at h. (and_parts _ _ h).0)

  pub rest_of : (s : Statement) (ss : List Statement) → IsBody script frames (s ∷ ss) → IsBody script ((asked s).after frames) ss
  rest_of s ss = part script (λ at. is_resolved_body at frames (s ∷ ss)) (λ at. is_resolved_body at ((asked s).after frames) ss) (λ at h. (and_parts _ _ h).1)

  -- signals that hold beside a binding follow it
  signals_of : (b : Binding) (s : Option (List Statement)) → Somewhere script (λ at. signals_hold b (option_map (map asked) s) at frames)
      → SignalsFollow script frames b s
  signals_of b None h = tt
  signals_of b (Some ss) h = (
    part script (λ at. signals_hold b (Some (map asked ss)) at frames) (λ at. is_resolved_body at frames ss)
        (λ at k. sym (body_asks ss at frames) ∙ (and_parts _ _ k).1) h,
    binds_nothing frames b (so_there script _ _ _ (λ w. not-true _ (and_parts _ _ w.holds_there).0) h),
  )

  -- an operation
  pub op_of : (o : ObjectCall) (s : Option (List Statement)) → IsStatement script frames (stat.Op o s) → IsOp frames o
  op_of o s h =
      so_there script _ _ _ (λ w. (and_parts _ _ (and_parts _ _ (and_parts _ _ w.holds_there).0).1).1)
      (asked_as script frames (stat.Op o s) _ (op_asks o s) h)

  pub op_signals : (o : ObjectCall) (s : Option (List Statement)) → IsStatement script frames (stat.Op o s)
      → SignalsFollow script frames o.binding s
  op_signals o s h =
      signals_of o.binding s (part script _ (λ at. signals_hold o.binding (option_map (map asked) s) at frames) (λ at k. (and_parts _ _ k).1)
      (asked_as script frames (stat.Op o s) _ (op_asks o s) h))

  pub op_after : (o : ObjectCall) (s : Option (List Statement)) → (asked (stat.Op o s)).after frames ≡ frames_after frames o.binding
  op_after o s = after_as frames (stat.Op o s) _ (op_asks o s)

  -- a handler call
  pub call_of : (c : HandlerCall) (s : Option (List Statement)) → IsStatement script frames (stat.Call c s) → IsCall script frames c
  call_of c s h =
      part script _ (λ at. call_is_resolved at frames c) (λ at k. (and_parts _ _ k).0) (asked_as script frames (stat.Call c s) _ (call_asks c s) h)

  -- its arguments and its binding
  pub call_ints : (c : HandlerCall) → IsCall script frames c → IsTrue (list_all (int_is_bound frames.ints) c.ints)
  call_ints c h = so_there script _ _ _ (λ w. (and_parts _ _ (and_parts _ _ w.holds_there).1).0) h

  pub call_texts : (c : HandlerCall) → IsCall script frames c → IsTrue (list_all (text_is_bound frames.texts) c.texts)
  call_texts c h = so_there script _ _ _ (λ w. (and_parts _ _ (and_parts _ _ (and_parts _ _ w.holds_there).1).1).0) h

  pub call_binding : (c : HandlerCall) → IsCall script frames c → IsTrue (binding_is_bound frames c.binding)
  call_binding c h =
      so_there script _ _ _ (λ w. last_of (handler_takes (slice_get w.at.handlers c.handler) c) (list_all (int_is_bound frames.ints) c.ints)
      (list_all (text_is_bound frames.texts) c.texts) (binding_is_bound frames c.binding) w.holds_there) h

  pub call_signals : (c : HandlerCall) (s : Option (List Statement)) → IsStatement script frames (stat.Call c s)
      → SignalsFollow script frames c.binding s
  call_signals c s h =
      signals_of c.binding s (part script _ (λ at. signals_hold c.binding (option_map (map asked) s) at frames) (λ at k. (and_parts _ _ k).1)
      (asked_as script frames (stat.Call c s) _ (call_asks c s) h))

  pub call_after : (c : HandlerCall) (s : Option (List Statement)) → (asked (stat.Call c s)).after frames ≡ frames_after frames c.binding
  call_after c s = after_as frames (stat.Call c s) _ (call_asks c s)

  -- a nested top action
  pub top_body : (b s : List Statement) → IsStatement script frames (stat.TopAction b s) → IsBody script frames b
  top_body b s h =
      part_in_top script _ (λ at. is_resolved_body at frames b)
      (λ at k. sym (body_asks b (in_top_surroundings at) frames) ∙ (and_parts _ _ k).0)
      (asked_as script frames (stat.TopAction b s) _ (top_asks b s) h)

  pub top_signals : (b s : List Statement) → IsStatement script frames (stat.TopAction b s) → IsBody script frames s
  top_signals b s h =
      part script _ (λ at. is_resolved_body at frames s) (λ at k. sym (body_asks s at frames) ∙ (and_parts _ _ k).1)
      (asked_as script frames (stat.TopAction b s) _ (top_asks b s) h)

  pub top_after : (b s : List Statement) → (asked (stat.TopAction b s)).after frames ≡ frames
  top_after b s = after_as frames (stat.TopAction b s) _ (top_asks b s)

  -- a choice
  pub if_condition : (c : Condition) (xs ys : List Statement) → IsStatement script frames (stat.If c xs ys)
      → IsTrue (condition_is_bound frames c)
  if_condition c xs ys h =
      so_there script _ _ _ (λ w. (and_parts _ _ w.holds_there).0) (asked_as script frames (stat.If c xs ys) _ (if_asks c xs ys) h)

  pub if_first : (c : Condition) (xs ys : List Statement) → IsStatement script frames (stat.If c xs ys) → IsBody script frames xs
  if_first c xs ys h =
      part script _ (λ at. is_resolved_body at frames xs) (λ at k. sym (body_asks xs at frames) ∙ (and_parts _ _ (and_parts _ _ k).1).0)
      (asked_as script frames (stat.If c xs ys) _ (if_asks c xs ys) h)

  pub if_second : (c : Condition) (xs ys : List Statement) → IsStatement script frames (stat.If c xs ys) → IsBody script frames ys
  if_second c xs ys h =
      part script _ (λ at. is_resolved_body at frames ys) (λ at k. sym (body_asks ys at frames) ∙ (and_parts _ _ (and_parts _ _ k).1).1)
      (asked_as script frames (stat.If c xs ys) _ (if_asks c xs ys) h)

  pub if_after : (c : Condition) (xs ys : List Statement) → (asked (stat.If c xs ys)).after frames ≡ frames
  if_after c xs ys = after_as frames (stat.If c xs ys) _ (if_asks c xs ys)

  -- turns
  pub repeat_body : (n : ℕ) (b : List Statement) → IsStatement script frames (stat.Repeat n b) → IsBody script frames b
  repeat_body n b h =
      part script _ (λ at. is_resolved_body at frames b) (λ at k. sym (body_asks b at frames) ∙ k)
      (asked_as script frames (stat.Repeat n b) _ (repeat_asks n b) h)

  pub repeat_after : (n : ℕ) (b : List Statement) → (asked (stat.Repeat n b)).after frames ≡ frames
  repeat_after n b = after_as frames (stat.Repeat n b) _ (repeat_asks n b)

  -- a value that is returned
  pub return_of : (e : Option Expr) → IsStatement script frames (stat.Return e) → IfSome e (λ x. IsTrue (expr_is_bound frames x))
  return_of None h = tt
  return_of (Some e) h =
      so_there script _ _ _ (λ w. (and_parts _ _ (and_parts _ _ w.holds_there).1).1)
      (asked_as script frames (stat.Return (Some e)) _ (return_asks (Some e)) h)

  -- arms
  pub coenter_after : (arms : List Arm) → (asked (stat.Coenter arms)).after frames ≡ frames
  coenter_after arms = after_as frames (stat.Coenter arms) _ (coenter_asks arms)

  pub signals_hold_there : (b : Binding) (s : Option (List Statement)) → SignalsFollow script frames b s → SignalsHold script frames s
  signals_hold_there b None h = tt
  signals_hold_there b (Some ss) h = h.0

  -- after a signal that was heard the variables are as they were
  pub signalled_after : {E : Type 0} (b : Binding) (s : Option (List Statement)) (new : Frames) (r : Result Flow E) → SignalsFollow script frames b s
      → (s ≡ None → IfOk r (λ flow. flow ≡ Aborted)) → IfOk r (λ flow. WhereEnded flow (new ≡ frames))
      → IfOk r (λ flow. WhereEnded flow (new ≡ frames_after frames b))
  signalled_after b s new (Err fault) f n h = tt
  signalled_after b None new (Ok flow) f n h = subst (λ w. WhereEnded w (new ≡ frames_after frames b)) (sym (n refl)) tt
  signalled_after b (Some ss) new (Ok flow) f n h = subst (λ v. WhereEnded flow (new ≡ v)) (sym f.1) h

  opened_arm : (o : Arm-F Arm Statement) → Somewhere script (λ at. arm_asked (roll-Arm o) at frames) → IsBody script frames (opened_body o)
  opened_arm (Arm-F.Sub b) h =
      part script _ (λ at. is_resolved_body at frames b)
      (λ at k. sym (ap (λ (w : Held). w at frames) (fold-roll-Arm Held Asked asked_arm asked_step (Arm-F.Sub b)) ∙ body_asks b at frames) ∙ k) h
  opened_arm (Arm-F.Top b) h =
      part_in_top script _ (λ at. is_resolved_body at frames b)
      (λ at k. sym (ap (λ (w : Held). w at frames) (fold-roll-Arm Held Asked asked_arm asked_step (Arm-F.Top b))
      ∙ body_asks b (in_top_surroundings at) frames) ∙ k) h

  -- the body of each arm
  pub arm_of : (arms : List Arm) (i : ℕ) (arm : Arm) → AreArms script frames arms → slice_get arms i ≡ Some arm → IsBody script frames (body_of arm)
  arm_of arms i arm h there =
      opened_arm (out-Arm arm) (subst (λ (a : Arm). Somewhere script (λ at. arm_asked a at frames)) (sym (roll-out-Arm arm))
      (part script _ (λ at. arm_asked arm at frames) (λ at k. all_hold_at arms i arm at frames k there)
      (asked_as script frames (stat.Coenter arms) _ (coenter_asks arms) h)))

  -- the arms behind the first so many
  pub arms_from : (n : ℕ) (arms : List Arm) → AreArms script frames arms → AreArms script frames (drop n arms)
  arms_from n arms h =
      part script _ _ (λ at k. ap (λ (x : Asked). x.holds at frames) (coenter_asks (drop n arms)) ∙ all_hold_from n arms at frames k)
      (asked_as script frames (stat.Coenter arms) _ (coenter_asks arms) h)

-- ---- a handler that is called

all_at : {A : Type 0} (p : A → Bool) (xs : List A) (i : ℕ) (x : A) → list_all p xs ≡ true → slice_get xs i ≡ Some x → p x ≡ true
all_at p [] i x h there = absurd (none_is there)
  where
    none_is : None ≡ Some x → ⊥
    none_is e = cc
all_at p (y ∷ xs) zero x h there = subst (λ z. p z ≡ true) (some_same y x there) (and_parts _ _ h).0
all_at p (y ∷ xs) (suc i) x h there = all_at p xs i x (and_parts _ _ h).1 there

-- there is such a handler, and its frames are as many as the arguments
takes_some : (o : Option Handler) (c : HandlerCall) → handler_takes o c ≡ true → (h : Handler) × (o ≡ Some h) × (length c.ints ≡ h.ints) × (length c.texts ≡ h.texts)
takes_some None c e = absurd (false≢true e)
takes_some (Some h) c e = (h, refl, eqb-true _ _ (and_parts _ _ e).0, eqb-true _ _ (and_parts _ _ (and_parts _ _ e).1).0)

called_takes : (script : Checked) (frames : Frames) (c : HandlerCall) → IsCall script frames c
    → (h : Handler) × (slice_get script.handlers c.handler ≡ Some h) × (length c.ints ≡ h.ints) × (length c.texts ≡ h.texts)
called_takes script frames c k =
    takes_some (slice_get script.handlers c.handler) c
    (so_there script _ _ _ (λ w. sym (ap (λ hs. handler_takes (slice_get hs c.handler) c) w.handlers) ∙ (and_parts _ _ w.holds_there).0) k)

pub called_within : (script : Checked) (frames : Frames) (c : HandlerCall) → IsCall script frames c → c.handler < length script.handlers
called_within script frames c k =
    let (h, there, ints, texts) = called_takes script frames c k in slice_get_within script.handlers c.handler h there

-- the frames with which a handler begins
abbrev pub handed : ℕ → ℕ → Frames
handed ints texts = record { ints = ints; texts = texts; truths = 0 }

-- a body that is resolved at these objects
pub resolved_at : (objects : Option (List Content)) (script : Checked) (g : Gives) (frames : Frames) (body : List Statement)
    → is_resolved_at objects script g frames body ≡ true → IsBody script frames body
resolved_at None script g frames body h = absurd (false≢true h)
resolved_at (Some objects) script g frames body h = ∣ here ∣₁
  where
    here : Place script (λ at. is_resolved_body at frames body)
    here = record { at = record { objects = objects; handlers = script.handlers; gives = g; in_top = false }; handlers = refl; holds_there = h }

pub called_body : (script : Checked) (frames : Frames) (c : HandlerCall) (h : Handler) → IsResolved script → IsCall script frames c
    → slice_get script.handlers c.handler ≡ Some h → IsBody script (handed (length c.ints) (length c.texts)) h.body
called_body script frames c h r k there =
    let (g, found, ints, texts) = called_takes script frames c k in
    let same : g ≡ h = some_same g h (sym found ∙ there) in
    let asks = all_at (is_resolved_handler script) script.handlers c.handler h r.handlers there in
    subst (λ f. IsBody script f h.body) (sym (ap₂ handed (ints ∙ ap (λ (x : Handler). x.ints) same) (texts ∙ ap (λ (x : Handler). x.texts) same)))
    (resolved_at (objects_at script h.guardian) script (what_gives h.gives) (handed h.ints h.texts) h.body (and_parts _ _ asks).0)

-- ---- as many variables, and more

pub within_self : (f : Frames) → Within f f
within_self f = record { ints = omega arith; texts = omega arith; truths = omega arith }

pub within_through : (f g h : Frames) → Within f g → Within g h → Within f h
within_through f g h a b = record {
  ints = omega (arith, a.ints, b.ints);
  texts = omega (arith, a.texts, b.texts);
  truths = omega (arith, a.truths, b.truths);
}

grows : (n : ℕ) (place : Option ℕ) → n ≤ grown n place
grows n None = omega arith
grows n (Some p) = go (p == n)
  where
    go : (t : Bool) → n ≤ cond t (suc n) n
    go true = omega arith
    go false = omega arith

binding_grows : (f : Frames) (b : Binding) → Within f (frames_after f b)
binding_grows f binding.Nothing = within_self f
binding_grows f (binding.Int place) = record { ints = grows f.ints place; texts = omega arith; truths = omega arith }
binding_grows f (binding.Text place) = record { ints = omega arith; texts = grows f.texts place; truths = omega arith }
binding_grows f (binding.Truth place) = record { ints = omega arith; texts = omega arith; truths = grows f.truths place }

opened_grows : (o : Statement-F Arm Statement) (f : Frames) → Within f ((asked (roll-Statement o)).after f)
opened_grows o f = subst (Within f) (sym (ap (λ (x : Asked). x.after f) (fold-roll-Statement Held Asked asked_arm asked_step o))) (go o)
  where
    go : (p : Statement-F Arm Statement) → Within f ((asked_step (map-Statement Arm Statement Held Asked arm_asked asked p)).after f)
    go (Statement-F.Op c s) = binding_grows f c.binding
    go (Statement-F.Call c s) = binding_grows f c.binding
    go (Statement-F.Coenter arms) = within_self f
    go (Statement-F.TopAction b s) = within_self f
    go (Statement-F.If c xs ys) = within_self f
    go (Statement-F.Repeat n b) = within_self f
    go Statement-F.Abort = within_self f
    go (Statement-F.Return e) = within_self f

-- no statement forgets a variable
pub statement_grows : (s : Statement) (f : Frames) → Within f ((asked s).after f)
statement_grows s f = subst (λ (t : Statement). Within f ((asked t).after f)) (roll-out-Statement s) (opened_grows (out-Statement s) f)

-- what was cut back to the old sizes has them
pub cut_sizes : (old : Frames) (b : Bound) → Within old (sizes b) → sizes (cut_back old b) ≡ old
cut_sizes old b w = sizes_cut old b w.ints w.texts w.truths

pub ruleset statements = (
  op_of,
  op_signals,
  op_after,
  call_of,
  call_signals,
  call_after,
  top_body,
  top_signals,
  top_after,
  if_condition,
  if_first,
  if_second,
  if_after,
  repeat_body,
  repeat_after,
  return_of,
  coenter_after,
  signals_hold_there,
  signalled_after,
)
