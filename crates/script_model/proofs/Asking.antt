-- What is asked of an expression and of a statement, by what is asked of its parts.
use Rattle.std.proofs.Common.{Bool, List, Option, None, Some, [], ap, map, nat_lt, option_map, refl, sym, true, ℕ, ℤ, ◌&&◌, ◌∙◌, ◌∷◌, ◌≡◌}
use Rattle.script_model.specs.declared.expression.IntExpr.{IntExpr}
use Rattle.script_model.specs.declared.expression.IntExpr.TheVariants as int
use Rattle.script_model.specs.declared.expression.IntExpr.TheOpen.{IntExpr-F}
use Rattle.script_model.specs.declared.expression.IntExpr.TheFolds.{fold-roll-IntExpr}
use Rattle.script_model.specs.declared.expression.Expr.{Expr}
use Rattle.script_model.specs.declared.expression.Condition.{Condition}
use Rattle.script_model.specs.declared.statement.ObjectCall.{ObjectCall}
use Rattle.script_model.specs.declared.statement.HandlerCall.{HandlerCall}
use Rattle.script_model.specs.declared.statement.Statement.{Statement}
use Rattle.script_model.specs.declared.statement.Statement.TheVariants as stat
use Rattle.script_model.specs.declared.statement.Arm.{Arm}
use Rattle.script_model.specs.declared.statement.Arm.TheVariants as arm
use Rattle.script_model.specs.declared.statement.Arm.TheOpen.{Statement-F, Arm-F}
use Rattle.script_model.specs.declared.statement.Arm.TheFolds.{fold-roll-Statement, fold-roll-Arm, fold-Arm}
use Rattle.script_model.specs.Resolved.{int_is_bound, int_step, Asked, asked, asked_step, asked_arm, Surroundings, Frames, body_holds, is_resolved_body, statement_ends, ends_step, last_ends, body_ends}

pub literal_asks : (n : ℕ) (z : ℤ) → int_is_bound n (int.Literal z) ≡ true
literal_asks n z = ap (int_is_bound n) (sym (int.rolls-Literal z)) ∙ fold-roll-IntExpr Bool (int_step n) (IntExpr-F.Literal z)

pub variable_asks : (n p : ℕ) → int_is_bound n (int.Variable p) ≡ nat_lt p n
variable_asks n p = ap (int_is_bound n) (sym (int.rolls-Variable p)) ∙ fold-roll-IntExpr Bool (int_step n) (IntExpr-F.Variable p)

pub sum_asks : (n : ℕ) (x y : IntExpr) → int_is_bound n (int.Sum x y) ≡ (int_is_bound n x && int_is_bound n y)
sum_asks n x y = ap (int_is_bound n) (sym (int.rolls-Sum x y)) ∙ fold-roll-IntExpr Bool (int_step n) (IntExpr-F.Sum x y)

pub difference_asks : (n : ℕ) (x y : IntExpr) → int_is_bound n (int.Difference x y) ≡ (int_is_bound n x && int_is_bound n y)
difference_asks n x y =
    ap (int_is_bound n) (sym (int.rolls-Difference x y)) ∙ fold-roll-IntExpr Bool (int_step n) (IntExpr-F.Difference x y)

-- ---- statements

abbrev Held : Type 0
Held = Surroundings → Frames → Bool

abbrev pub arm_asked : Arm → Surroundings → Frames → Bool
arm_asked = fold-Arm Held Asked asked_arm asked_step

pub op_asks : (o : ObjectCall) (s : Option (List Statement))
    → asked (stat.Op o s) ≡ asked_step (Statement-F.Op o (option_map (map asked) s))
op_asks o None = ap asked (sym (stat.rolls-Op o None)) ∙ fold-roll-Statement Held Asked asked_arm asked_step (Statement-F.Op o None)
op_asks o (Some b) =
    ap asked (sym (stat.rolls-Op o (Some b))) ∙ fold-roll-Statement Held Asked asked_arm asked_step (Statement-F.Op o (Some b))

pub call_asks : (c : HandlerCall) (s : Option (List Statement))
    → asked (stat.Call c s) ≡ asked_step (Statement-F.Call c (option_map (map asked) s))
call_asks c None = ap asked (sym (stat.rolls-Call c None)) ∙ fold-roll-Statement Held Asked asked_arm asked_step (Statement-F.Call c None)
call_asks c (Some b) =
    ap asked (sym (stat.rolls-Call c (Some b))) ∙ fold-roll-Statement Held Asked asked_arm asked_step (Statement-F.Call c (Some b))

pub coenter_asks : (arms : List Arm) → asked (stat.Coenter arms) ≡ asked_step (Statement-F.Coenter (map arm_asked arms))
coenter_asks arms =
    ap asked (sym (stat.rolls-Coenter arms)) ∙ fold-roll-Statement Held Asked asked_arm asked_step (Statement-F.Coenter arms)

pub top_asks : (b s : List Statement) → asked (stat.TopAction b s) ≡ asked_step (Statement-F.TopAction (map asked b) (map asked s))
top_asks b s = ap asked (sym (stat.rolls-TopAction b s)) ∙ fold-roll-Statement Held Asked asked_arm asked_step (Statement-F.TopAction b s)

pub if_asks : (c : Condition) (xs ys : List Statement)
    → asked (stat.If c xs ys) ≡ asked_step (Statement-F.If c (map asked xs) (map asked ys))
if_asks c xs ys = ap asked (sym (stat.rolls-If c xs ys)) ∙ fold-roll-Statement Held Asked asked_arm asked_step (Statement-F.If c xs ys)

pub repeat_asks : (n : ℕ) (b : List Statement) → asked (stat.Repeat n b) ≡ asked_step (Statement-F.Repeat n (map asked b))
repeat_asks n b = ap asked (sym (stat.rolls-Repeat n b)) ∙ fold-roll-Statement Held Asked asked_arm asked_step (Statement-F.Repeat n b)

pub abort_asks : asked stat.Abort ≡ asked_step Statement-F.Abort
abort_asks = ap asked (sym stat.rolls-Abort) ∙ fold-roll-Statement Held Asked asked_arm asked_step Statement-F.Abort

pub return_asks : (e : Option Expr) → asked (stat.Return e) ≡ asked_step (Statement-F.Return e)
return_asks e = ap asked (sym (stat.rolls-Return e)) ∙ fold-roll-Statement Held Asked asked_arm asked_step (Statement-F.Return e)

pub sub_asks : (b : List Statement) → arm_asked (arm.Sub b) ≡ asked_arm (Arm-F.Sub (map asked b))
sub_asks b = ap arm_asked (sym (arm.rolls-Sub b)) ∙ fold-roll-Arm Held Asked asked_arm asked_step (Arm-F.Sub b)

pub top_arm_asks : (b : List Statement) → arm_asked (arm.Top b) ≡ asked_arm (Arm-F.Top (map asked b))
top_arm_asks b = ap arm_asked (sym (arm.rolls-Top b)) ∙ fold-roll-Arm Held Asked asked_arm asked_step (Arm-F.Top b)

-- a body is resolved where what is asked of its statements holds
pub body_asks : (ss : List Statement) (at : Surroundings) (frames : Frames)
    → body_holds (map asked ss) at frames ≡ is_resolved_body at frames ss
body_asks [] at frames = refl
body_asks (s ∷ ss) at frames = ap (λ b. (asked s).holds at frames && b) (body_asks ss at ((asked s).after frames))

-- ---- endings

pub if_ends : (c : Condition) (xs ys : List Statement)
    → statement_ends (stat.If c xs ys) ≡ (last_ends (map statement_ends xs) && last_ends (map statement_ends ys))
if_ends c xs ys =
    ap statement_ends (sym (stat.rolls-If c xs ys)) ∙ fold-roll-Statement (Unit {0}) Bool (λ a. tt) ends_step (Statement-F.If c xs ys)

pub abort_ends : statement_ends stat.Abort ≡ true
abort_ends = ap statement_ends (sym stat.rolls-Abort) ∙ fold-roll-Statement (Unit {0}) Bool (λ a. tt) ends_step Statement-F.Abort

pub return_ends : (e : Option Expr) → statement_ends (stat.Return e) ≡ true
return_ends e =
    ap statement_ends (sym (stat.rolls-Return e)) ∙ fold-roll-Statement (Unit {0}) Bool (λ a. tt) ends_step (Statement-F.Return e)

pub body_ends_by : (ss : List Statement) → last_ends (map statement_ends ss) ≡ body_ends ss
body_ends_by [] = refl
body_ends_by (s ∷ []) = refl
body_ends_by (s ∷ t ∷ ss) = body_ends_by (t ∷ ss)
