-- How statements and bodies are read.
use Rattle.std.specs.Prelude.{ℕ, zero, suc, pos, negsuc, ℤ, List, [], ◌∷◌, Bool, true, false, not, ◌&&◌, nat_le, is_some, is_none, codes, if◌then◌else◌, Option, Some, None, option_and_then}
use Rattle.limits.specs.Limits.{max_arms}
use Rattle.serde_json.specs.Events.{items_len}
use Rattle.serde_json.specs.Data.{Data, null, boolean, Items, no_items, item, Members}
use Rattle.serde_json.specs.Find.{get_member, as_array, as_str}
use Rattle.values.specs.Words.{same_bytes, is_identifier}
use Rattle.values.specs.declared.value.Kind.{Kind}
use Rattle.values.specs.declared.content.Content.{Content}
use Rattle.script_model.specs.declared.fault.FaultKind.TheVariants as is
use Rattle.script_model.specs.declared.names.Gives.{Gives}
use Rattle.script_model.specs.declared.names.Gives.TheVariants.{Anything, Nothing, Value}
use Rattle.script_model.specs.declared.names.Sort.{Sort}
use Rattle.script_model.specs.declared.expression.IntExpr.{IntExpr}
use Rattle.script_model.specs.declared.expression.TextExpr.{TextExpr}
use Rattle.script_model.specs.declared.expression.Expr.{Expr}
use Rattle.script_model.specs.declared.expression.Expr.TheVariants as expr
use Rattle.script_model.specs.declared.statement.Binding.{Binding}
use Rattle.script_model.specs.declared.statement.Binding.TheVariants as binding
use Rattle.script_model.specs.declared.statement.Statement.{Statement}
use Rattle.script_model.specs.declared.statement.Statement.TheVariants.{Op, Call, Coenter, TopAction, If, Repeat, Abort, Return}
use Rattle.script_model.specs.declared.statement.Arm.{Arm}
use Rattle.script_model.specs.declared.statement.Arm.TheVariants as arm
use Rattle.script_model.specs.Reading.{Read, reads, fault, ask, need, at, nth, each, ◌>>=◌, ◌>>◌}
use Rattle.script_model.specs.Shapes.{the_object, the_array, the_string, the_int, the_two, the_pair, the_triple, the_list, has_only, int_of, three_items}
use Rattle.script_model.specs.Scopes.{Scope, Variable, find, count_bound, agree, sort_of_kind, binding_of, binding_again}
use Rattle.script_model.specs.ExpressionReading.{sort_of, expr_of_kind, value_expr, condition}
use Rattle.script_model.specs.OperationReading.{operation, op_gives_nothing}
use Rattle.script_model.specs.Signatures.{handler_found, handler_number, wanted_kind, takes_count, handler_gives, sort_given}

abbrev pub Body : Type 0
Body = List Statement

-- what holds throughout a body: the objects of the guardian where it runs, the documents of all guardians, what the
-- body may return, and whether it stands in a nested top action or in an arm that is one
pub record Context : Type 0 where
  pub objects : List Content
  pub guardians : Items
  pub gives : Gives
  pub in_top : Bool

abbrev pub in_top_action : Context → Context
in_top_action cx = record cx { in_top = true }

-- how bodies that stand in a body are read
abbrev pub BodyReading : Type 0
BodyReading = Context → Scope → Data → Read Body

-- ---- binding a reply

-- a reply that is bound to this name; where a signal may leave the variable as it is, it has to be bound before
abbrev pub bound_to : Scope → Bool → Sort → List ℕ → Option Variable → Read (Binding × Scope)
bound_to scope may_signal sort name (Some v) = do
  ask (agree v.sort sort) is.Rebound
  reads (binding_again sort v, scope)
bound_to scope may_signal sort name None = do
  ask (not may_signal) is.Unbound
  reads
      (binding_of sort (Some (count_bound sort scope)), record { name = name; sort = sort } ∷ scope)

abbrev pub the_name : Data → Read (List ℕ)
the_name d = do
  name ← the_string d
  ask (is_identifier name) is.Shape
  reads name

abbrev pub into_in : Scope → Bool → Option Sort → Option Data → Read (Binding × Scope)
into_in scope may_signal None into = reads (binding.Nothing, scope)
into_in scope may_signal (Some sort) None = reads (binding_of sort None, scope)
into_in scope may_signal (Some sort) (Some d) = at (codes "into") (do
  name ← the_name d
  bound_to scope may_signal sort name (find scope name))

-- the `into` of an operation or a call
abbrev pub bind : Scope → Option Sort → Members → Read (Binding × Scope)
bind scope sort ms =
    into_in scope (is_some (get_member (codes "signals") ms)) sort (get_member (codes "into") ms)

-- a value is bound only where there is one
abbrev pub ask_value : Members → Bool → Read (Unit {0})
ask_value ms gives_nothing =
    ask (not (gives_nothing && is_some (get_member (codes "into") ms))) is.Flow

-- the body that runs on a signal, where there is one
abbrev pub signals_in : (Data → Read Body) → Option Data → Read (Option Body)
signals_in read None = reads None
signals_in read (Some d) = do
  b ← at (codes "signals") (read d)
  reads (Some b)

abbrev pub signals : BodyReading → Context → Scope → Members → Read (Option Body)
signals inner cx scope ms = signals_in (inner cx scope) (get_member (codes "signals") ms)

-- ---- operations

abbrev pub op_statement : BodyReading → Context → Scope → Members → Data → Read (Statement × Scope)
op_statement inner cx scope ms d = do
  ask_value ms (op_gives_nothing d)
  o ← at (codes "op") (operation cx.objects scope d)
  b ← bind scope o.1.1 ms
  s ← signals inner cx b.1 ms
  reads (Op (record { object = o.0; operation = o.1.0; binding = b.0 }) s, b.1)

-- ---- calls

-- the index of a guardian of this number
abbrev pub guardian_index : ℕ → ℤ → Option ℕ
guardian_index count (pos (suc n)) = if nat_le (suc n) count then Some n else None
guardian_index count _ = None

abbrev pub guardian_numbered : ℕ → Data → Read ℕ
guardian_numbered count d = do
  z ← the_int d
  need (guardian_index count z) is.Guardian

abbrev pub the_guardian : Items → Data → Read ℕ
the_guardian guardians = guardian_numbered (items_len guardians)

-- arguments by their kinds, each kind in order
pub record Arguments : Type 0 where
  pub ints : List IntExpr
  pub texts : List TextExpr

abbrev pub with_argument : Expr → Arguments → Arguments
with_argument (expr.Int e) rest = record rest { ints = e ∷ rest.ints }
with_argument (expr.Text e) rest = record rest { texts = e ∷ rest.texts }

abbrev pub argument_in : Scope → Option Kind → Data → Read Expr
argument_in scope None d = value_expr scope d
argument_in scope (Some k) d = expr_of_kind k scope d

abbrev pub arguments_from : Scope → Data → ℕ → Items → Read Arguments
arguments_from scope handler i no_items = reads (record { ints = []; texts = [] })
arguments_from scope handler i (item d ds) = do
  e ← nth i (argument_in scope (wanted_kind handler i) d)
  rest ← arguments_from scope handler (suc i) ds
  reads (with_argument e rest)

abbrev pub arguments_in : Scope → Data → Data → Read Arguments
arguments_in scope handler d = do
  ds ← the_array d
  ask (takes_count handler (items_len ds)) is.Arguments
  arguments_from scope handler 0 ds

-- a call: the number of the handler, its document, and the arguments
abbrev pub call_in : Items → Scope → Data → Read (ℕ × Data × Arguments)
call_in guardians scope d = do
  parts ← the_triple d
  n ← nth 0 (the_guardian guardians parts.0)
  name ← nth 1 (the_string parts.1)
  handler ← nth 1 (need (handler_found guardians n name) is.Handler)
  arguments ← nth 2 (arguments_in scope handler parts.2)
  reads (handler_number guardians n name, handler, arguments)

-- a call, and the sort of what comes back, where a value does
pub record CallParts : Type 0 where
  pub handler : ℕ
  pub arguments : Arguments
  pub sort : Option Sort

abbrev pub call_sorted : Items → Scope → Data → Read CallParts
call_sorted guardians scope d = do
  c ← call_in guardians scope d
  reads (record { handler = c.0; arguments = c.2; sort = sort_given (handler_gives c.1) })

-- the document of the handler that is called, where there is one
abbrev pub callee : Items → Data → Option Data
callee guardians d =
    option_and_then (λ parts. option_and_then
    (λ z. option_and_then (λ n. option_and_then (λ name. handler_found guardians n name)
    (as_str parts.1)) (guardian_index (items_len guardians) z)) (int_of parts.0))
    (option_and_then three_items (as_array d))

abbrev pub call_says_nothing : Option Data → Bool
call_says_nothing None = false
call_says_nothing (Some handler) = is_none (sort_given (handler_gives handler))

abbrev pub call_gives_nothing : Items → Data → Bool
call_gives_nothing guardians d = call_says_nothing (callee guardians d)

abbrev pub call_statement : BodyReading → Context → Scope → Members → Data
    → Read (Statement × Scope)
call_statement inner cx scope ms d = do
  ask_value ms (call_gives_nothing cx.guardians d)
  c ← at (codes "call") (call_sorted cx.guardians scope d)
  b ← bind scope c.sort ms
  s ← signals inner cx b.1 ms
  reads
      (Call (record { handler = c.handler; ints = c.arguments.ints; texts = c.arguments.texts; binding = b.0 }) s, b.1)

-- ---- statements with bodies

-- whether an arm is a nested top action
abbrev pub arm_named : List ℕ → Option Bool
arm_named name = if same_bytes name (codes "sub") then Some false
    else (if same_bytes name (codes "top") then Some true else None)

abbrev pub is_top_arm : Data → Option Bool
is_top_arm d = option_and_then arm_named (as_str d)

abbrev pub arm_of : Bool → Body → Arm
arm_of is_top body = if is_top then arm.Top body else arm.Sub body

abbrev pub arm_in : BodyReading → Context → Scope → Data → Read Arm
arm_in inner cx scope d = do
  parts ← the_two (codes "arm") (codes "body") d
  is_top ← at (codes "arm") (need (is_top_arm parts.0) is.Shape)
  body ← at (codes "body") (inner (if is_top then in_top_action cx else cx) scope parts.1)
  reads (arm_of is_top body)

abbrev pub coenter : BodyReading → Context → Scope → Data → Read Statement
coenter inner cx scope d = do
  ds ← the_list 1 max_arms d
  arms ← each (arm_in inner cx scope) 0 ds
  reads (Coenter arms)

abbrev pub or_empty : Option Body → Body
or_empty None = []
or_empty (Some body) = body

abbrev pub top_action : BodyReading → Context → Scope → Members → Data → Read Statement
top_action inner cx scope ms d = do
  body ← at (codes "topaction") (inner (in_top_action cx) scope d)
  s ← signals inner cx scope ms
  reads (TopAction body (or_empty s))

abbrev pub if_in : BodyReading → Context → Scope → Data → Read Statement
if_in inner cx scope d = do
  parts ← the_triple d
  test ← nth 0 (condition scope parts.0)
  first ← nth 1 (inner cx scope parts.1)
  second ← nth 2 (inner cx scope parts.2)
  reads (If test first second)

-- how often a `repeat` turns at most
abbrev pub max_turns : ℕ
max_turns = 65536

abbrev pub turns_of : ℤ → Option ℕ
turns_of (pos n) = if nat_le n max_turns then Some n else None
turns_of (negsuc n) = None

abbrev pub repeat_in : BodyReading → Context → Scope → Data → Read Statement
repeat_in inner cx scope d = do
  parts ← the_pair d
  z ← nth 0 (the_int parts.0)
  n ← nth 0 (need (turns_of z) is.Limit)
  body ← nth 1 (inner cx scope parts.1)
  reads (Repeat n body)

-- ---- endings

abbrev pub is_true : Data → Bool
is_true (boolean b) = b
is_true _ = false

abbrev pub is_null : Data → Bool
is_null null = true
is_null _ = false

abbrev pub abort_in : Data → Read Statement
abort_in d = do
  ask (is_true d) is.Shape
  reads Abort

-- whether a body that gives this may return a value of this sort, and whether it may return none
abbrev pub may_return : Gives → Sort → Bool
may_return Anything sort = true
may_return Nothing sort = false
may_return (Value k) sort = agree (sort_of_kind k) sort

abbrev pub may_return_nothing : Gives → Bool
may_return_nothing (Value k) = false
may_return_nothing _ = true

abbrev pub returned : Scope → Data → Read (Option Expr)
returned scope null = reads None
returned scope d = do
  e ← value_expr scope d
  reads (Some e)

abbrev pub return_in : Context → Scope → Data → Read Statement
return_in cx scope d = do
  ask (not cx.in_top
      && (if is_null d then may_return_nothing cx.gives else may_return cx.gives (sort_of scope d)))
      is.Flow
  e ← at (codes "return") (returned scope d)
  reads (Return e)

-- ---- one statement

-- a statement after which the same variables are bound
abbrev pub unbinding : Scope → Read Statement → Read (Statement × Scope)
unbinding scope read = do
  s ← read
  reads (s, scope)

-- where there is such a member, the object has no others than these, and is read by it
abbrev pub by_member : List (List ℕ) → Members → Option Data → (Data → Read (Statement × Scope))
    → Read (Statement × Scope) → Read (Statement × Scope)
by_member names ms None read otherwise = otherwise
by_member names ms (Some d) read otherwise = ask (has_only names ms) is.Shape >> read d

-- an object is a statement by one of eight members
abbrev pub plain_statement : BodyReading → Context → Scope → Members → Read (Statement × Scope)
plain_statement inner cx scope ms =
    by_member (codes "if" ∷ []) ms (get_member (codes "if") ms)
    (λ d. unbinding scope (at (codes "if") (if_in inner cx scope d)))
    (by_member (codes "repeat" ∷ []) ms (get_member (codes "repeat") ms)
    (λ d. unbinding scope (at (codes "repeat") (repeat_in inner cx scope d)))
    (by_member (codes "abort" ∷ []) ms (get_member (codes "abort") ms)
    (λ d. unbinding scope (at (codes "abort") (abort_in d)))
    (by_member (codes "return" ∷ []) ms (get_member (codes "return") ms)
    (λ d. unbinding scope (return_in cx scope d)) (fault is.Shape))))

abbrev pub statement_of : BodyReading → Context → Scope → Members → Read (Statement × Scope)
statement_of inner cx scope ms =
    by_member (codes "op" ∷ codes "into" ∷ codes "signals" ∷ []) ms (get_member (codes "op") ms)
    (op_statement inner cx scope ms)
    (by_member (codes "call" ∷ codes "into" ∷ codes "signals" ∷ []) ms
    (get_member (codes "call") ms) (call_statement inner cx scope ms)
    (by_member (codes "coenter" ∷ []) ms (get_member (codes "coenter") ms)
    (λ d. unbinding scope (at (codes "coenter") (coenter inner cx scope d)))
    (by_member (codes "topaction" ∷ codes "signals" ∷ []) ms (get_member (codes "topaction") ms)
    (λ d. unbinding scope (top_action inner cx scope ms d)) (plain_statement inner cx scope ms))))

abbrev pub statement : BodyReading → Context → Scope → Data → Read (Statement × Scope)
statement inner cx scope d = the_object d >>= statement_of inner cx scope

-- ---- bodies

-- statements, the first of which has this index; each is read with the variables that those before it bound
abbrev pub statements : BodyReading → Context → ℕ → Scope → Items → Read Body
statements inner cx i scope no_items = reads []
statements inner cx i scope (item d ds) = do
  s ← nth i (statement inner cx scope d)
  rest ← statements inner cx (suc i) s.1 ds
  reads (s.0 ∷ rest)

-- how deep bodies nest at most
abbrev pub max_nesting : ℕ
max_nesting = 16

-- a body in which others may still nest one less deep; what it binds newly is bound in it alone
abbrev pub body_at : ℕ → BodyReading
body_at zero cx scope d = do
  the_array d
  fault is.Limit
body_at (suc levels) cx scope d = do
  ds ← the_array d
  statements (body_at levels) cx 0 scope ds

abbrev pub body_in : BodyReading
body_in = body_at max_nesting
