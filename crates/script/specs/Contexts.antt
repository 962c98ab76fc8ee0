-- What surrounds a body, as the reading has it, and what calls answer that bind variables.
use Rattle.std.specs.Prelude.{◌≡◌, ◌≢◌, List, ◌++◌, Option, Ok, Err}
use Rattle.script_model.specs.declared.fault.ScriptFault.TheVariants.{Memory}
use Rattle.script_model.specs.declared.names.Sort.{Sort}
use Rattle.script_model.specs.declared.expression.IntExpr.{IntExpr}
use Rattle.script_model.specs.declared.expression.TextExpr.{TextExpr}
use Rattle.script_model.specs.declared.statement.HandlerCall.{HandlerCall}
use Rattle.script_model.specs.Reading.{Outcome}
use Rattle.script_model.specs.Scopes.{Bound, Scope}
use Rattle.script_model.specs.StatementReading as spec
use Rattle.script_model.specs.StatementReading.{Arguments, CallParts}
use Rattle.script.specs.Handling.{documents_of}
use Rattle.script.specs.declared.statements.Context.{Context}

abbrev pub context_of : Context → spec.Context
context_of cx =
    record { objects = cx.objects.now; guardians = documents_of cx.handlers.now; gives = cx.gives; in_top = cx.in_top }

-- the second scope is the first with variables bound after it
abbrev pub Extends : Scope → Scope → Type 0
Extends old new = (bs : List Bound) × (new ≡ bs ++ old)

-- what a call answers that reads, and leaves the scope that the reading gives
abbrev pub AnswersWith : {A : Type 0} → Scope → Outcome (A × Scope) → Outcome A → Type 0
AnswersWith scope outcome (Ok a) = outcome ≡ Ok (a, scope)
AnswersWith scope outcome (Err e) = e ≢ Memory → outcome ≡ Err e

abbrev pub arguments_of : List IntExpr × List TextExpr → Arguments
arguments_of p = record { ints = p.0; texts = p.1 }

abbrev pub call_of : HandlerCall × Option Sort → CallParts
call_of p =
    record { handler = p.0.handler; arguments = record { ints = p.0.ints; texts = p.0.texts }; sort = p.1 }
