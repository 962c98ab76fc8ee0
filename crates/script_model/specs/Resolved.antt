-- What an interpreter may rely on in a checked script: whatever it names is there, and of the kind that is wanted.
use Rattle.std.specs.Prelude.{ℕ, suc, ◌-◌, ◌==◌, nat_lt, nat_le, List, [], ◌∷◌, length, Bool, true, false, not, ◌&&◌, is_some, if◌then◌else◌, Option, Some, None, IsTrue, slice_get}
use Rattle.std.specs.List.{list_all}
use Rattle.values.specs.declared.value.Kind.{Kind}
use Rattle.values.specs.declared.value.Kind.TheVariants as kind
use Rattle.values.specs.declared.content.Content.{Content}
use Rattle.values.specs.declared.content.Content.TheVariants.{Record, Array, Variant, Counter}
use Rattle.values.specs.declared.record.Field.{Field}
use Rattle.values.specs.Values.{same_kind}
use Rattle.values.specs.Tags.{VariantContent, tag_kind}
use Rattle.script_model.specs.declared.names.Gives.{Gives}
use Rattle.script_model.specs.declared.names.Gives.TheVariants as gives
use Rattle.script_model.specs.declared.expression.IntExpr.{IntExpr}
use Rattle.script_model.specs.declared.expression.IntExpr.TheOpen.{IntExpr-F}
use Rattle.script_model.specs.declared.expression.IntExpr.TheFolds.{fold-IntExpr}
use Rattle.script_model.specs.declared.expression.TextExpr.{TextExpr}
use Rattle.script_model.specs.declared.expression.TextExpr.TheVariants as text
use Rattle.script_model.specs.declared.expression.Expr.{Expr}
use Rattle.script_model.specs.declared.expression.Expr.TheVariants as expr
use Rattle.script_model.specs.declared.expression.Condition.{Condition}
use Rattle.script_model.specs.declared.expression.Condition.TheVariants as test
use Rattle.atomic_types.specs.declared.operation.Arguments.{Arguments}
use Rattle.atomic_types.specs.declared.operation.Arguments.TheVariants as with
use Rattle.atomic_types.specs.declared.operation.Operation.TheVariants as op
use Rattle.atomic_types.specs.Operations.{arguments_of}
use Rattle.script_model.specs.Operations.{Operation}
use Rattle.script_model.specs.declared.statement.Binding.{Binding}
use Rattle.script_model.specs.declared.statement.Binding.TheVariants as binding
use Rattle.script_model.specs.declared.statement.ObjectCall.{ObjectCall}
use Rattle.script_model.specs.declared.statement.HandlerCall.{HandlerCall}
use Rattle.script_model.specs.declared.statement.Statement.{Statement}
use Rattle.script_model.specs.declared.statement.Arm.TheOpen.{Statement-F, Arm-F}
use Rattle.script_model.specs.declared.statement.Arm.TheFolds.{fold-Statement}
use Rattle.script_model.specs.declared.checked.Handler.{Handler}
use Rattle.script_model.specs.declared.checked.Client.{Client}
use Rattle.script_model.specs.declared.checked.Checked.{Checked}
use Rattle.script_model.specs.Reaching.{Reaches}
use Rattle.script_model.specs.OperationReading.{field_kind}

-- ---- frames: how many ints, texts and truths are bound

pub record Frames : Type 0 where
  pub ints : ℕ
  pub texts : ℕ
  pub truths : ℕ

-- whether each variable that an expression or a condition names is bound
abbrev pub int_step : ℕ → IntExpr-F Bool → Bool
int_step bound (IntExpr-F.Literal z) = true
int_step bound (IntExpr-F.Variable place) = nat_lt place bound
int_step bound (IntExpr-F.Sum x y) = x && y
int_step bound (IntExpr-F.Difference x y) = x && y

abbrev pub int_is_bound : ℕ → IntExpr → Bool
int_is_bound bound = fold-IntExpr Bool (int_step bound)

abbrev pub text_is_bound : ℕ → TextExpr → Bool
text_is_bound bound (text.Literal s) = true
text_is_bound bound (text.Variable place) = nat_lt place bound

abbrev pub expr_is_bound : Frames → Expr → Bool
expr_is_bound frames (expr.Int e) = int_is_bound frames.ints e
expr_is_bound frames (expr.Text e) = text_is_bound frames.texts e

abbrev pub condition_is_bound : Frames → Condition → Bool
condition_is_bound frames (test.SameInts x y) =
    int_is_bound frames.ints x && int_is_bound frames.ints y
condition_is_bound frames (test.SameTexts x y) =
    text_is_bound frames.texts x && text_is_bound frames.texts y
condition_is_bound frames (test.Less x y) = int_is_bound frames.ints x && int_is_bound frames.ints y
condition_is_bound frames (test.Truth place) = nat_lt place frames.truths

-- ---- bindings

-- a place is that of a bound variable, or the one that follows the last
abbrev pub is_place : ℕ → Option ℕ → Bool
is_place bound None = true
is_place bound (Some place) = nat_le place bound

abbrev pub binding_is_bound : Frames → Binding → Bool
binding_is_bound frames binding.Nothing = true
binding_is_bound frames (binding.Int place) = is_place frames.ints place
binding_is_bound frames (binding.Text place) = is_place frames.texts place
binding_is_bound frames (binding.Truth place) = is_place frames.truths place

-- how many variables are bound after one is bound at this place
abbrev pub grown : ℕ → Option ℕ → ℕ
grown bound None = bound
grown bound (Some place) = if place == bound then suc bound else bound

abbrev pub frames_after : Frames → Binding → Frames
frames_after frames binding.Nothing = frames
frames_after frames (binding.Int place) = record frames { ints = grown frames.ints place }
frames_after frames (binding.Text place) = record frames { texts = grown frames.texts place }
frames_after frames (binding.Truth place) = record frames { truths = grown frames.truths place }

abbrev pub is_new : ℕ → Option ℕ → Bool
is_new bound None = false
is_new bound (Some place) = place == bound

-- whether a variable is bound that was not bound before
abbrev pub binds_newly : Frames → Binding → Bool
binds_newly frames binding.Nothing = false
binds_newly frames (binding.Int place) = is_new frames.ints place
binds_newly frames (binding.Text place) = is_new frames.texts place
binds_newly frames (binding.Truth place) = is_new frames.truths place

abbrev pub is_int : Binding → Bool
is_int (binding.Int place) = true
is_int _ = false

abbrev pub is_truth : Binding → Bool
is_truth (binding.Truth place) = true
is_truth _ = false

abbrev pub is_nothing : Binding → Bool
is_nothing binding.Nothing = true
is_nothing _ = false

abbrev pub is_of_kind : Kind → Binding → Bool
is_of_kind kind.Int (binding.Int place) = true
is_of_kind kind.Text (binding.Text place) = true
is_of_kind _ _ = false

-- ---- operations

abbrev pub expr_kind : Expr → Kind
expr_kind (expr.Int e) = kind.Int
expr_kind (expr.Text e) = kind.Text

-- whether there is a kind, and the value or the binding is of it
abbrev pub takes_expr : Option Kind → Expr → Bool
takes_expr None e = false
takes_expr (Some k) e = same_kind k (expr_kind e)

abbrev pub gives_kind : Option Kind → Binding → Bool
gives_kind None b = false
gives_kind (Some k) b = is_of_kind k b

-- whether an object has the operation, its values are of the kinds that the object takes, and what is bound is of the
-- kind of its reply
abbrev pub record_has : List Field → Operation → Binding → Bool
record_has fields (op.Get name) b = gives_kind (field_kind fields name) b
record_has fields (op.Set name e) b = takes_expr (field_kind fields name) e && is_nothing b
record_has fields _ b = false

abbrev pub array_has : Kind → Operation → Binding → Bool
array_has k op.Low b = is_int b
array_has k op.High b = is_int b
array_has k op.Size b = is_int b
array_has k (op.Fetch i) b = is_of_kind k b
array_has k (op.Store i e) b = takes_expr (Some k) e && is_nothing b
array_has k (op.AddHigh e) b = takes_expr (Some k) e && is_nothing b
array_has k (op.AddLow e) b = takes_expr (Some k) e && is_nothing b
array_has k op.RemoveHigh b = is_of_kind k b
array_has k op.RemoveLow b = is_of_kind k b
array_has k _ b = false

abbrev pub variant_has : VariantContent → Operation → Binding → Bool
variant_has v (op.Is tag) b = is_some (tag_kind v.tags tag) && is_truth b
variant_has v (op.ValueOf tag) b = gives_kind (tag_kind v.tags tag) b
variant_has v (op.Change tag e) b = takes_expr (tag_kind v.tags tag) e && is_nothing b
variant_has v _ b = false

abbrev pub counter_has : Operation → Binding → Bool
counter_has op.Total b = is_int b
counter_has (op.Put e) b = takes_expr (Some kind.Int) e && is_nothing b
counter_has (op.Add e) b = takes_expr (Some kind.Int) e && is_nothing b
counter_has _ b = false

abbrev pub content_has : Content → Operation → Binding → Bool
content_has (Record fields) o b = record_has fields o b
content_has (Array a) o b = array_has a.kind o b
content_has (Variant v) o b = variant_has v o b
content_has (Counter n) o b = counter_has o b

abbrev pub arguments_are_bound : {W : Type 0} → Frames → Arguments W IntExpr Expr → Bool
arguments_are_bound frames with.Nothing = true
arguments_are_bound frames (with.Word w) = true
arguments_are_bound frames (with.WordValue w e) = expr_is_bound frames e
arguments_are_bound frames (with.Index i) = int_is_bound frames.ints i
arguments_are_bound frames (with.IndexValue i e) =
    int_is_bound frames.ints i && expr_is_bound frames e
arguments_are_bound frames (with.Value e) = expr_is_bound frames e

abbrev pub operation_is_bound : Frames → Operation → Bool
operation_is_bound frames o = arguments_are_bound frames (arguments_of o)

-- ---- statements

-- where a body runs: the objects of its guardian, the handlers of the script, what it may return, and whether it stands
-- in a nested top action
pub record Surroundings : Type 0 where
  pub objects : List Content
  pub handlers : List Handler
  pub gives : Gives
  pub in_top : Bool

abbrev pub in_top_surroundings : Surroundings → Surroundings
in_top_surroundings at = record at { in_top = true }

abbrev pub object_has : Option Content → Operation → Binding → Bool
object_has None o b = false
object_has (Some content) o b = content_has content o b

-- objects are numbered from 1
abbrev pub op_is_resolved : Surroundings → Frames → ObjectCall → Bool
op_is_resolved at frames o =
    nat_le 1 o.object && (object_has (slice_get at.objects (o.object - 1)) o.operation o.binding
    && (operation_is_bound frames o.operation && binding_is_bound frames o.binding))

-- what is bound is of the kind that the handler gives
abbrev pub result_is : Option Kind → Binding → Bool
result_is None b = is_nothing b
result_is (Some k) b = is_of_kind k b

abbrev pub handler_takes : Option Handler → HandlerCall → Bool
handler_takes None c = false
handler_takes (Some h) c =
    (length c.ints == h.ints) && ((length c.texts == h.texts) && result_is h.gives c.binding)

abbrev pub call_is_resolved : Surroundings → Frames → HandlerCall → Bool
call_is_resolved at frames c =
    handler_takes (slice_get at.handlers c.handler) c && (list_all (int_is_bound frames.ints) c.ints
    && (list_all (text_is_bound frames.texts) c.texts && binding_is_bound frames c.binding))

abbrev pub returns_as : Gives → Option Expr → Bool
returns_as gives.Anything e = true
returns_as gives.Nothing e = not (is_some e)
returns_as (gives.Value k) None = false
returns_as (gives.Value k) (Some e) = same_kind k (expr_kind e)

abbrev pub returned_is_bound : Frames → Option Expr → Bool
returned_is_bound frames None = true
returned_is_bound frames (Some e) = expr_is_bound frames e

-- what is asked of a statement, and the frames after it
pub record Asked : Type 0 where
  pub holds : Surroundings → Frames → Bool
  pub after : Frames → Frames

-- a body goes back to the frames before it at its end
abbrev pub body_holds : List Asked → Surroundings → Frames → Bool
body_holds [] at frames = true
body_holds (s ∷ ss) at frames = s.holds at frames && body_holds ss at (s.after frames)

-- a signal binds nothing, so where a body runs on one, nothing is bound newly
abbrev pub signals_hold : Binding → Option (List Asked) → Surroundings → Frames → Bool
signals_hold b None at frames = true
signals_hold b (Some ss) at frames = not (binds_newly frames b) && body_holds ss at frames

abbrev pub all_hold : List (Surroundings → Frames → Bool) → Surroundings → Frames → Bool
all_hold [] at frames = true
all_hold (arm ∷ arms) at frames = arm at frames && all_hold arms at frames

abbrev pub plain : (Surroundings → Frames → Bool) → Asked
plain holds = record { holds = holds; after = λ frames. frames }

abbrev pub asked_step : Statement-F (Surroundings → Frames → Bool) Asked → Asked
asked_step (Statement-F.Op o s) = record {
  holds = λ at frames. op_is_resolved at frames o && signals_hold o.binding s at frames;
  after = λ frames. frames_after frames o.binding;
}
asked_step (Statement-F.Call c s) = record {
  holds = λ at frames. call_is_resolved at frames c && signals_hold c.binding s at frames;
  after = λ frames. frames_after frames c.binding;
}
asked_step (Statement-F.Coenter arms) = plain (all_hold arms)
asked_step (Statement-F.TopAction body s) =
    plain (λ at frames. body_holds body (in_top_surroundings at) frames && body_holds s at frames)
asked_step (Statement-F.If c first second) =
    plain (λ at frames. condition_is_bound frames c
    && (body_holds first at frames && body_holds second at frames))
asked_step (Statement-F.Repeat n body) = plain (body_holds body)
asked_step Statement-F.Abort = plain (λ at frames. true)
asked_step (Statement-F.Return e) =
    plain (λ at frames. not at.in_top && (returns_as at.gives e && returned_is_bound frames e))

abbrev pub asked_arm : Arm-F (Surroundings → Frames → Bool) Asked → Surroundings → Frames → Bool
asked_arm (Arm-F.Sub body) = body_holds body
asked_arm (Arm-F.Top body) = λ at frames. body_holds body (in_top_surroundings at) frames

abbrev pub asked : Statement → Asked
asked = fold-Statement (Surroundings → Frames → Bool) Asked asked_arm asked_step

-- each statement of a body is resolved, with what those before it bound
abbrev pub is_resolved_body : Surroundings → Frames → List Statement → Bool
is_resolved_body at frames [] = true
is_resolved_body at frames (s ∷ ss) =
    (asked s).holds at frames && is_resolved_body at ((asked s).after frames) ss

-- ---- whether a body always ends by a `return` or an `abort`

abbrev pub last_ends : List Bool → Bool
last_ends [] = false
last_ends (b ∷ []) = b
last_ends (b ∷ c ∷ bs) = last_ends (c ∷ bs)

abbrev pub ends_step : Statement-F (Unit {0}) Bool → Bool
ends_step Statement-F.Abort = true
ends_step (Statement-F.Return e) = true
ends_step (Statement-F.If c first second) = last_ends first && last_ends second
ends_step _ = false

abbrev pub statement_ends : Statement → Bool
statement_ends = fold-Statement (Unit {0}) Bool (λ arm. tt) ends_step

abbrev pub body_ends : List Statement → Bool
body_ends [] = false
body_ends (s ∷ []) = statement_ends s
body_ends (s ∷ t ∷ ss) = body_ends (t ∷ ss)

-- ---- scripts

-- the objects of a guardian of this number
abbrev pub objects_at : Checked → ℕ → Option (List Content)
objects_at c guardian = if nat_le 1 guardian then slice_get c.guardians (guardian - 1) else None

abbrev pub what_gives : Option Kind → Gives
what_gives None = gives.Nothing
what_gives (Some k) = gives.Value k

abbrev pub is_resolved_at : Option (List Content) → Checked → Gives → Frames → List Statement → Bool
is_resolved_at None c g frames body = false
is_resolved_at (Some objects) c g frames body =
    is_resolved_body
    (record { objects = objects; handlers = c.handlers; gives = g; in_top = false })
    frames body

-- a handler's frames hold its arguments when its body begins
abbrev pub is_resolved_handler : Checked → Handler → Bool
is_resolved_handler c h =
    is_resolved_at (objects_at c h.guardian) c (what_gives h.gives)
    (record { ints = h.ints; texts = h.texts; truths = 0 }) h.body
    && (if is_some h.gives then body_ends h.body else true)

abbrev pub is_resolved_client : Checked → Client → Bool
is_resolved_client c client =
    is_resolved_at (objects_at c client.home) c gives.Anything
    (record { ints = 0; texts = 0; truths = 0 }) client.body

pub record IsResolved (c : Checked) : Type 0 where
  pub handlers : IsTrue (list_all (is_resolved_handler c) c.handlers)
  pub clients : IsTrue (list_all (is_resolved_client c) c.clients)
  pub ends : (n : ℕ) → Reaches c.handlers n n → ⊥
