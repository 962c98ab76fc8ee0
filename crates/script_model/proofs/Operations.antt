-- What is read as an operation belongs to its object, and takes and gives values of the object's kinds.
use Rattle.std.proofs.Common.{List, None, Ok, Option, Some, ap, is_some, option_map, refl, slice_get, subst, true, suc, zero, pos, negsuc, ℕ, ℤ, ◌+◌, ◌∙◌, ◌≡◌}
use Rattle.std.proofs.lemmas.Bool.{and_from}
use Rattle.std.proofs.lemmas.Option.{none-some, same_Some}
use Rattle.serde_json.specs.Data.{Data, Items}
use Rattle.serde_json.specs.Events.{items_len}
use Rattle.values.specs.declared.value.Kind.{Kind}
use Rattle.values.specs.declared.record.Field.{Field}
use Rattle.values.specs.declared.content.Content.{Content}
use Rattle.values.specs.declared.content.Content.TheVariants.{Record, Array, Variant, Counter}
use Rattle.values.specs.Values.{same_kind}
use Rattle.values.specs.Items.{ArrayContent}
use Rattle.values.specs.declared.value.Kind.TheVariants as kind
use Rattle.values.specs.Tags.{VariantContent, tag_kind}
use Rattle.script_model.specs.declared.fault.FaultKind.TheVariants as is
use Rattle.atomic_types.specs.declared.operation.OpName.{OpName}
use Rattle.atomic_types.specs.declared.operation.OpName.TheVariants as name
use Rattle.script_model.specs.declared.names.Sort.TheVariants.{Int, Truth}
use Rattle.script_model.specs.declared.expression.IntExpr.{IntExpr}
use Rattle.script_model.specs.declared.expression.Expr.{Expr}
use Rattle.script_model.specs.declared.statement.Binding.{Binding}
use Rattle.atomic_types.specs.declared.operation.Operation.TheVariants as op
use Rattle.script_model.specs.Reading.{Read, ask, need, nth, reads, ◌>>=◌, ◌>>◌}
use Rattle.script_model.specs.Shapes.{the_int, the_string}
use Rattle.script_model.specs.Scopes.{Scope, sort_of_kind}
use Rattle.script_model.specs.ExpressionReading.{expr_of_kind, int_expr}
use Rattle.script_model.specs.OperationReading.{Typed, argument, argument_at, array_operation, counter_operation, field_kind, has_arity, known, numbered, object_operation, op_in, op_parts, operation, record_operation, the_object_numbered, the_op_name, variant_operation}
use Rattle.script_model.specs.Resolved.{content_has, expr_kind, gives_kind, operation_is_bound, takes_expr}
use Rattle.script_model.proofs.Steps.{needed_ok, no_fault, same_ok, then_read}
use Rattle.script_model.proofs.Scopes.{frames_of, known_kind}
use Rattle.script_model.proofs.Expressions.{IsBoundExpr, IsBoundInt, expr_bound, int_bound}
use Rattle.script_model.proofs.Bindings.{fits_sort, int_fits, kind_fits, known_if_any}

pub record IsTyped (content : Content) (scope : Scope) (t : Typed) : Type 0 where
  pub has : (b : Binding) → fits_sort t.1 b ≡ true → content_has content t.0 b ≡ true
  pub bound : operation_is_bound (frames_of scope) t.0 ≡ true
  pub known : known_if_any t.1 ≡ true

argument_read : {A : Type 0} (i : ℕ) (read : Data → Read A) (args : Items) (place : List ℕ) (a : A) → argument i read args place ≡ Ok a
    → (d : Data) × (p : List ℕ) × (read d p ≡ Ok a)
argument_read i read args place a h =
    let (d, p, q) = then_read (argument_at i args) (λ d. nth (i + 2) (read d)) place a h in
    (d, _, q)

known_ok : (kind_under : List ℕ → Option Kind) (d : Data) (place : List ℕ) (f : List ℕ × Kind) → known kind_under d place ≡ Ok f
    → kind_under f.0 ≡ Some f.1
known_ok kind_under d place f h =
    let (n, p, q) = then_read (the_string d) (λ n. need (kind_under n) is.Operation >>= λ k. reads (n, k)) place f h in
    let (k, r, s) = then_read (need (kind_under n) is.Operation) (λ k. reads (n, k)) place f q in
    subst (λ (g : List ℕ × Kind). kind_under g.0 ≡ Some g.1) (same_ok (n, k) f s) (needed_ok (kind_under n) is.Operation place k r)

-- an argument that names a field or a tag, an int, and a value of a kind
named : (kind_under : List ℕ → Option Kind) (i : ℕ) (args : Items) (place : List ℕ) (f : List ℕ × Kind)
    → argument i (known kind_under) args place ≡ Ok f → kind_under f.0 ≡ Some f.1
named kind_under i args place f h = let (d, p, q) = argument_read i (known kind_under) args place f h in known_ok kind_under d p f q

int_argument : (scope : Scope) (i : ℕ) (args : Items) (place : List ℕ) (e : IntExpr) → argument i (int_expr scope) args place ≡ Ok e
    → IsBoundInt scope e
int_argument scope i args place e h = let (d, p, q) = argument_read i (int_expr scope) args place e h in int_bound scope d p e q

value_argument : (k : Kind) (scope : Scope) (i : ℕ) (args : Items) (place : List ℕ) (e : Expr)
    → argument i (expr_of_kind k scope) args place ≡ Ok e
    → (expr_kind e ≡ k) × IsBoundExpr scope e
value_argument k scope i args place e h =
    let (d, p, q) = argument_read i (expr_of_kind k scope) args place e h in expr_bound k scope d p e q

same_kind_self : (k : Kind) → same_kind k k ≡ true
same_kind_self kind.Int = refl
same_kind_self kind.Text = refl

gives_known : (o : Option Kind) (k : Kind) (b : Binding) → o ≡ Some k → fits_sort (Some (sort_of_kind k)) b ≡ true → gives_kind o b ≡ true
gives_known o k b is' h = ap (λ x. gives_kind x b) is' ∙ kind_fits k b h

takes_known : (o : Option Kind) (k : Kind) (e : Expr) → o ≡ Some k → expr_kind e ≡ k → takes_expr o e ≡ true
takes_known o k e is' same = ap (λ x. takes_expr x e) is' ∙ ap (λ x. same_kind k x) same ∙ same_kind_self k

-- ---- records

record_typed : (fields : List Field) (scope : Scope) (n : OpName) (args : Items) (place : List ℕ) (t : Typed)
    → record_operation fields scope n args place ≡ Ok t → IsTyped (Record fields) scope t
record_typed fields scope name.Get args place t h =
    let (f, p, q) = then_read (argument 0 (known (field_kind fields)) args) (λ f. reads (op.Get f.0, Some (sort_of_kind f.1))) place t h in
    let is' = named (field_kind fields) 0 args place f p in
    subst (IsTyped (Record fields) scope) (same_ok (op.Get f.0, Some (sort_of_kind f.1)) t q)
    (record { has = λ b fit. gives_known _ f.1 b is' fit; bound = refl; known = known_kind f.1 })
record_typed fields scope name.Set args place t h =
    let (f, p, q) = then_read (argument 0 (known (field_kind fields)) args)
    (λ f. argument 1 (expr_of_kind f.1 scope) args >>= λ e. reads (op.Set f.0 e, None)) place t h in
    let (e, r, s) = then_read (argument 1 (expr_of_kind f.1 scope) args) (λ e. reads (op.Set f.0 e, None)) place t q in
    let is' = named (field_kind fields) 0 args place f p in
    let v = value_argument f.1 scope 1 args place e r in
    subst (IsTyped (Record fields) scope) (same_ok (op.Set f.0 e, None) t s)
    (record { has = λ b fit. and_from _ _ (takes_known _ f.1 e is' v.0) fit; bound = v.1; known = refl })
record_typed fields scope _ args place t h = no_fault h

-- ---- arrays

array_typed : (a : ArrayContent) (scope : Scope) (n : OpName) (args : Items) (place : List ℕ) (t : Typed)
    → array_operation a.kind scope n args place ≡ Ok t → IsTyped (Array a) scope t
array_typed a scope name.Low args place t h =
    subst (IsTyped (Array a) scope) (same_ok (op.Low, Some Int) t h) (record { has = λ b fit. int_fits b fit; bound = refl; known = refl })
array_typed a scope name.High args place t h =
    subst (IsTyped (Array a) scope) (same_ok (op.High, Some Int) t h)
    (record { has = λ b fit. int_fits b fit; bound = refl; known = refl })
array_typed a scope name.Size args place t h =
    subst (IsTyped (Array a) scope) (same_ok (op.Size, Some Int) t h)
    (record { has = λ b fit. int_fits b fit; bound = refl; known = refl })
array_typed a scope name.Fetch args place t h =
    let (i, p, q) = then_read (argument 0 (int_expr scope) args) (λ i. reads (op.Fetch i, Some (sort_of_kind a.kind))) place t h in
    subst (IsTyped (Array a) scope) (same_ok (op.Fetch i, Some (sort_of_kind a.kind)) t q)
    (record { has = λ b fit. kind_fits a.kind b fit; bound = int_argument scope 0 args place i p; known = known_kind a.kind })
array_typed a scope name.Store args place t h =
    let (i, p, q) = then_read (argument 0 (int_expr scope) args)
    (λ i. argument 1 (expr_of_kind a.kind scope) args >>= λ e. reads (op.Store i e, None)) place t h in
    let (e, r, s) = then_read (argument 1 (expr_of_kind a.kind scope) args) (λ e. reads (op.Store i e, None)) place t q in
    let v = value_argument a.kind scope 1 args place e r in
    subst (IsTyped (Array a) scope) (same_ok (op.Store i e, None) t s)
    (record {
      has = λ b fit. and_from _ _ (takes_known (Some a.kind) a.kind e refl v.0) fit;
      bound = and_from _ _ (int_argument scope 0 args place i p) v.1;
      known = refl;
    })
array_typed a scope name.AddHigh args place t h =
    let (e, r, s) = then_read (argument 0 (expr_of_kind a.kind scope) args) (λ e. reads (op.AddHigh e, None)) place t h in
    let v = value_argument a.kind scope 0 args place e r in
    subst (IsTyped (Array a) scope) (same_ok (op.AddHigh e, None) t s)
    (record { has = λ b fit. and_from _ _ (takes_known (Some a.kind) a.kind e refl v.0) fit; bound = v.1; known = refl })
array_typed a scope name.AddLow args place t h =
    let (e, r, s) = then_read (argument 0 (expr_of_kind a.kind scope) args) (λ e. reads (op.AddLow e, None)) place t h in
    let v = value_argument a.kind scope 0 args place e r in
    subst (IsTyped (Array a) scope) (same_ok (op.AddLow e, None) t s)
    (record { has = λ b fit. and_from _ _ (takes_known (Some a.kind) a.kind e refl v.0) fit; bound = v.1; known = refl })
array_typed a scope name.RemoveHigh args place t h =
    subst (IsTyped (Array a) scope) (same_ok (op.RemoveHigh, Some (sort_of_kind a.kind)) t h)
    (record { has = λ b fit. kind_fits a.kind b fit; bound = refl; known = known_kind a.kind })
array_typed a scope name.RemoveLow args place t h =
    subst (IsTyped (Array a) scope) (same_ok (op.RemoveLow, Some (sort_of_kind a.kind)) t h)
    (record { has = λ b fit. kind_fits a.kind b fit; bound = refl; known = known_kind a.kind })
array_typed a scope _ args place t h = no_fault h

-- ---- variants

variant_typed : (v : VariantContent) (scope : Scope) (n : OpName) (args : Items) (place : List ℕ) (t : Typed)
    → variant_operation v scope n args place ≡ Ok t → IsTyped (Variant v) scope t
variant_typed v scope name.Is args place t h =
    let (f, p, q) = then_read (argument 0 (known (tag_kind v.tags)) args) (λ f. reads (op.Is f.0, Some Truth)) place t h in
    let is' = named (tag_kind v.tags) 0 args place f p in
    subst (IsTyped (Variant v) scope) (same_ok (op.Is f.0, Some Truth) t q)
    (record { has = λ b fit. and_from _ _ (ap is_some is') fit; bound = refl; known = refl })
variant_typed v scope name.ValueOf args place t h =
    let (f, p, q) = then_read (argument 0 (known (tag_kind v.tags)) args) (λ f. reads (op.ValueOf f.0, Some (sort_of_kind f.1))) place
    t h in
    let is' = named (tag_kind v.tags) 0 args place f p in
    subst (IsTyped (Variant v) scope) (same_ok (op.ValueOf f.0, Some (sort_of_kind f.1)) t q)
    (record { has = λ b fit. gives_known _ f.1 b is' fit; bound = refl; known = known_kind f.1 })
variant_typed v scope name.Change args place t h =
    let (f, p, q) = then_read (argument 0 (known (tag_kind v.tags)) args)
    (λ f. argument 1 (expr_of_kind f.1 scope) args >>= λ e. reads (op.Change f.0 e, None)) place t h in
    let (e, r, s) = then_read (argument 1 (expr_of_kind f.1 scope) args) (λ e. reads (op.Change f.0 e, None)) place t q in
    let is' = named (tag_kind v.tags) 0 args place f p in
    let w = value_argument f.1 scope 1 args place e r in
    subst (IsTyped (Variant v) scope) (same_ok (op.Change f.0 e, None) t s)
    (record { has = λ b fit. and_from _ _ (takes_known _ f.1 e is' w.0) fit; bound = w.1; known = refl })
variant_typed v scope _ args place t h = no_fault h

-- ---- counters

counter_typed : (z : ℤ) (scope : Scope) (n : OpName) (args : Items) (place : List ℕ) (t : Typed)
    → counter_operation scope n args place ≡ Ok t → IsTyped (Counter z) scope t
counter_typed z scope name.Total args place t h =
    subst (IsTyped (Counter z) scope) (same_ok (op.Total, Some Int) t h)
    (record { has = λ b fit. int_fits b fit; bound = refl; known = refl })
counter_typed z scope name.Put args place t h =
    let (e, r, s) = then_read (argument 0 (expr_of_kind kind.Int scope) args) (λ e. reads (op.Put e, None)) place t h in
    let v = value_argument kind.Int scope 0 args place e r in
    subst (IsTyped (Counter z) scope) (same_ok (op.Put e, None) t s)
    (record { has = λ b fit. and_from _ _ (takes_known (Some kind.Int) kind.Int e refl v.0) fit; bound = v.1; known = refl })
counter_typed z scope name.Add args place t h =
    let (e, r, s) = then_read (argument 0 (expr_of_kind kind.Int scope) args) (λ e. reads (op.Add e, None)) place t h in
    let v = value_argument kind.Int scope 0 args place e r in
    subst (IsTyped (Counter z) scope) (same_ok (op.Add e, None) t s)
    (record { has = λ b fit. and_from _ _ (takes_known (Some kind.Int) kind.Int e refl v.0) fit; bound = v.1; known = refl })
counter_typed z scope _ args place t h = no_fault h

object_typed : (content : Content) (scope : Scope) (n : OpName) (args : Items) (place : List ℕ) (t : Typed)
    → object_operation content scope n args place ≡ Ok t → IsTyped content scope t
object_typed (Record fields) scope n args place t h = record_typed fields scope n args place t h
object_typed (Array a) scope n args place t h = array_typed a scope n args place t h
object_typed (Variant v) scope n args place t h = variant_typed v scope n args place t h
object_typed (Counter z) scope n args place t h = counter_typed z scope n args place t h

-- ---- with the object's number

-- an object of this number, which counts from 1
pub record IsNumbered (objects : List Content) (o : ℕ × Content) : Type 0 where
  pub index : ℕ
  pub number : o.0 ≡ suc index
  pub there : slice_get objects index ≡ Some o.1

numbered_at : (objects : List Content) (z : ℤ) (o : ℕ × Content) → numbered objects z ≡ Some o → IsNumbered objects o
numbered_at objects (pos zero) o h = absurd (none-some o h)
numbered_at objects (pos (suc n)) o h = found (slice_get objects n) refl h
  where
    found : (x : Option Content) → slice_get objects n ≡ x → option_map (λ c. (suc n, c)) x ≡ Some o → IsNumbered objects o
    found None is' h = absurd (none-some o h)
    found (Some c) is' h = subst (IsNumbered objects) (same_Some (suc n, c) o h) (record { index = n; number = refl; there = is' })
numbered_at objects (negsuc n) o h = absurd (none-some o h)

object_numbered : (objects : List Content) (d : Data) (place : List ℕ) (o : ℕ × Content) → the_object_numbered objects d place ≡ Ok o
    → IsNumbered objects o
object_numbered objects d place o h =
    let (z, p, q) = then_read (the_int d) (λ z. need (numbered objects z) is.Object) place o h in
    numbered_at objects z o (needed_ok (numbered objects z) is.Object place o q)

pub record IsOperation (objects : List Content) (scope : Scope) (o : ℕ × Typed) : Type 0 where
  pub content : Content
  pub numbered : IsNumbered objects (o.0, content)
  pub typed : IsTyped content scope o.1

pub operation_typed : (objects : List Content) (scope : Scope) (d : Data) (place : List ℕ) (o : ℕ × Typed)
    → operation objects scope d place ≡ Ok o
    → IsOperation objects scope o
operation_typed objects scope d place o h =
    let (parts, p0, h0) = then_read (need (op_parts d) is.Shape)
    (λ parts. ask (has_arity (op_in parts.1) (items_len parts.2)) is.Arguments >> by_parts parts) place o h in
    let (u, p1, h1) = then_read (ask (has_arity (op_in parts.1) (items_len parts.2)) is.Arguments) (λ _. by_parts parts) place o h0 in
    let (object, p2, h2) = then_read (nth 0 (the_object_numbered objects parts.0))
    (λ object. nth 1 (the_op_name parts.1) >>= λ n. by_name parts object n) place o h1 in
    let (n, p3, h3) = then_read (nth 1 (the_op_name parts.1)) (λ n. by_name parts object n) place o h2 in
    let (typed, p4, h4) = then_read (object_operation object.1 scope n parts.2) (λ typed. reads (object.0, typed)) place o h3 in
    subst (IsOperation objects scope) (same_ok (object.0, typed) o h4)
    (record {
      content = object.1;
      numbered = object_numbered objects parts.0 _ object p2;
      typed = object_typed object.1 scope n parts.2 place typed p4;
    })
  where
    by_name : Data × Data × Items → ℕ × Content → OpName → Read (ℕ × Typed)
    by_name parts object n = object_operation object.1 scope n parts.2 >>= λ typed. reads (object.0, typed)

    by_parts : Data × Data × Items → Read (ℕ × Typed)
    by_parts parts = nth 0 (the_object_numbered objects parts.0) >>= λ object. nth 1 (the_op_name parts.1) >>= λ n. by_name parts object n
