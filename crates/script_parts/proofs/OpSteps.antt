-- How an operation is read, step by step.
use Rattle.std.proofs.Common.{◌≡◌, ℕ, List, Bool, Some, Ok, decimal, refl}
use Rattle.serde_json.specs.Data.{Data, Items}
use Rattle.serde_json.specs.Events.{items_len}
use Rattle.values.specs.declared.content.Content.{Content}
use Rattle.script_model.specs.declared.fault.FaultKind.TheVariants as is
use Rattle.script_model.specs.Reading.{and_then, ask, step}
use Rattle.script_model.specs.Scopes.{Scope}
use Rattle.script_model.specs.OperationReading as spec
use Rattle.script_model.specs.OperationReading.{op_parts, op_in, has_arity, the_object_numbered, the_op_name, object_operation}

pub operation_is : (objects : List Content) (scope : Scope) (d : Data) (place : List ℕ) (o n : Data) (args : Items) (fits : Bool)
    → Some (o, n, args) ≡ op_parts d → fits ≡ has_arity (op_in n) (items_len args)
    → spec.operation objects scope d place ≡ and_then (ask fits is.Arguments place) (λ _. and_then (the_object_numbered objects o (step place (decimal 0)))
    (λ object. and_then (the_op_name n (step place (decimal 1))) (λ name. and_then (object_operation object.1 scope name args place) (λ typed. Ok (object.0, typed)))))
operation_is objects scope d place o n args fits parts arity = rw (← parts, arity) refl
