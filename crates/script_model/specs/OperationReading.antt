-- How operations are read.
use Rattle.std.specs.Prelude.{ℕ, suc, List, [], ◌∷◌, ◌+◌, Bool, true, false, not, ◌==◌, codes, if◌then◌else◌, Option, Some, None, option_map, option_and_then, pos, slice_get, ℤ}
use Rattle.serde_json.specs.Events.{items_len}
use Rattle.serde_json.specs.Data.{Data, array, Items, item}
use Rattle.serde_json.specs.Find.{get_item, as_str}
use Rattle.values.specs.Words.{same_bytes}
use Rattle.values.specs.declared.value.Kind.{Kind}
use Rattle.values.specs.declared.value.Kind.TheVariants as kind
use Rattle.values.specs.declared.record.Field.{Field}
use Rattle.values.specs.declared.content.Content.{Content}
use Rattle.values.specs.declared.content.Content.TheVariants.{Record, Array, Variant, Counter}
use Rattle.values.specs.Values.{kind_of}
use Rattle.values.specs.Fields.{field_value}
use Rattle.values.specs.Tags.{VariantContent, tag_kind}
use Rattle.script_model.specs.declared.fault.FaultKind.TheVariants as is
use Rattle.atomic_types.specs.declared.operation.OpName.{OpName}
use Rattle.atomic_types.specs.declared.operation.OpName.TheVariants as name
use Rattle.atomic_types.specs.declared.operation.Form.{Form}
use Rattle.atomic_types.specs.declared.operation.Form.TheVariants as form
use Rattle.atomic_types.specs.declared.operation.Operation.TheVariants as op
use Rattle.atomic_types.specs.Operations as table
use Rattle.script_model.specs.declared.names.Sort.{Sort}
use Rattle.script_model.specs.declared.names.Sort.TheVariants.{Int, Truth}
use Rattle.script_model.specs.Operations.{Operation}
use Rattle.script_model.specs.Reading.{Read, reads, fault, ask, need, nth, ◌>>=◌, ◌>>◌}
use Rattle.script_model.specs.Shapes.{the_int, the_string}
use Rattle.script_model.specs.Scopes.{Scope, sort_of_kind}
use Rattle.script_model.specs.ExpressionReading.{int_expr, expr_of_kind}

-- how many arguments an operation of this form takes
abbrev pub count_of : Form → ℕ
count_of form.Nothing = 0
count_of form.Word = 1
count_of form.WordValue = 2
count_of form.Index = 1
count_of form.IndexValue = 2
count_of form.Value = 1

-- ---- operations of an object

-- an operation and the sort of its reply, where that is a value
abbrev pub Typed : Type 0
Typed = Operation × Option Sort

-- the argument at this index; the name and the object stand before the arguments
abbrev pub argument_at : ℕ → Items → Read Data
argument_at i args = need (get_item i args) is.Arguments

abbrev pub argument : {A : Type 0} → ℕ → (Data → Read A) → Items → Read A
argument i read args = do
  d ← argument_at i args
  nth (i + 2) (read d)

-- the object does not have the operation
abbrev pub no_operation : Read Typed
no_operation = nth 1 (fault is.Operation)

-- a field or a tag, and the kind of its value
abbrev pub known : (List ℕ → Option Kind) → Data → Read (List ℕ × Kind)
known kind_under d = do
  n ← the_string d
  k ← need (kind_under n) is.Operation
  reads (n, k)

abbrev pub field_kind : List Field → List ℕ → Option Kind
field_kind fields n = option_map kind_of (field_value fields n)

abbrev pub record_operation : List Field → Scope → OpName → Items → Read Typed
record_operation fields scope name.Get args = do
  f ← argument 0 (known (field_kind fields)) args
  reads (op.Get f.0, Some (sort_of_kind f.1))
record_operation fields scope name.Set args = do
  f ← argument 0 (known (field_kind fields)) args
  e ← argument 1 (expr_of_kind f.1 scope) args
  reads (op.Set f.0 e, None)
record_operation fields scope _ args = no_operation

abbrev pub array_operation : Kind → Scope → OpName → Items → Read Typed
array_operation k scope name.Low args = reads (op.Low, Some Int)
array_operation k scope name.High args = reads (op.High, Some Int)
array_operation k scope name.Size args = reads (op.Size, Some Int)
array_operation k scope name.Fetch args = do
  i ← argument 0 (int_expr scope) args
  reads (op.Fetch i, Some (sort_of_kind k))
array_operation k scope name.Store args = do
  i ← argument 0 (int_expr scope) args
  e ← argument 1 (expr_of_kind k scope) args
  reads (op.Store i e, None)
array_operation k scope name.AddHigh args = do
  e ← argument 0 (expr_of_kind k scope) args
  reads (op.AddHigh e, None)
array_operation k scope name.AddLow args = do
  e ← argument 0 (expr_of_kind k scope) args
  reads (op.AddLow e, None)
array_operation k scope name.RemoveHigh args = reads (op.RemoveHigh, Some (sort_of_kind k))
array_operation k scope name.RemoveLow args = reads (op.RemoveLow, Some (sort_of_kind k))
array_operation k scope _ args = no_operation

abbrev pub variant_operation : VariantContent → Scope → OpName → Items → Read Typed
variant_operation v scope name.Is args = do
  t ← argument 0 (known (tag_kind v.tags)) args
  reads (op.Is t.0, Some Truth)
variant_operation v scope name.ValueOf args = do
  t ← argument 0 (known (tag_kind v.tags)) args
  reads (op.ValueOf t.0, Some (sort_of_kind t.1))
variant_operation v scope name.Change args = do
  t ← argument 0 (known (tag_kind v.tags)) args
  e ← argument 1 (expr_of_kind t.1 scope) args
  reads (op.Change t.0 e, None)
variant_operation v scope _ args = no_operation

abbrev pub counter_operation : Scope → OpName → Items → Read Typed
counter_operation scope name.Total args = reads (op.Total, Some Int)
counter_operation scope name.Put args = do
  e ← argument 0 (expr_of_kind kind.Int scope) args
  reads (op.Put e, None)
counter_operation scope name.Add args = do
  e ← argument 0 (expr_of_kind kind.Int scope) args
  reads (op.Add e, None)
counter_operation scope _ args = no_operation

abbrev pub object_operation : Content → Scope → OpName → Items → Read Typed
object_operation (Record fields) scope n args = record_operation fields scope n args
object_operation (Array a) scope n args = array_operation a.kind scope n args
object_operation (Variant v) scope n args = variant_operation v scope n args
object_operation (Counter z) scope n args = counter_operation scope n args

-- ---- the list of an operation: the object's number, the name, and the arguments

abbrev pub op_parts : Data → Option (Data × Data × Items)
op_parts (array (item o (item n args))) = Some (o, n, args)
op_parts _ = None

abbrev pub op_in : Data → Option OpName
op_in d = option_and_then table.named (as_str d)

abbrev pub has_arity : Option OpName → ℕ → Bool
has_arity None count = true
has_arity (Some n) count = count == count_of (table.form_of n)

-- a number from 1 on, as the index of what it numbers
abbrev pub numbered : {A : Type 0} → List A → ℤ → Option (ℕ × A)
numbered xs (pos (suc n)) = option_map (λ x. (suc n, x)) (slice_get xs n)
numbered xs _ = None

abbrev pub the_object_numbered : List Content → Data → Read (ℕ × Content)
the_object_numbered objects d = do
  z ← the_int d
  need (numbered objects z) is.Object

abbrev pub the_op_name : Data → Read OpName
the_op_name d = do
  s ← the_string d
  need (table.named s) is.Operation

-- an operation with its object's number
abbrev pub operation : List Content → Scope → Data → Read (ℕ × Typed)
operation objects scope d = do
  parts ← need (op_parts d) is.Shape
  ask (has_arity (op_in parts.1) (items_len parts.2)) is.Arguments
  object ← nth 0 (the_object_numbered objects parts.0)
  n ← nth 1 (the_op_name parts.1)
  typed ← object_operation object.1 scope n parts.2
  reads (object.0, typed)

-- whether no value comes back from an operation of this name
abbrev pub says_nothing : Option OpName → Bool
says_nothing None = false
says_nothing (Some n) = not (table.gives_value n)

abbrev pub op_gives_nothing : Data → Bool
op_gives_nothing d = says_nothing (option_and_then (λ parts. op_in parts.1) (op_parts d))
