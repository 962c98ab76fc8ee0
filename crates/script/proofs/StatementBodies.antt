-- Statements with bodies, which leave the variables as they were.
use Rattle.std.proofs.Common.{◌≡◌, ◌∷◌, [], ℕ, List, codes, OnOk, Some, Ok, Err, refl}
use Rattle.serde_json.specs.Data.{Data, Members}
use Rattle.serde_json.specs.Find.{get_member}
use Rattle.script_model.specs.declared.fault.FaultKind.TheVariants as is
use Rattle.script_model.specs.declared.statement.Statement.{Statement}
use Rattle.script_model.specs.Reading.{Outcome, Answers, and_then, ask, step}
use Rattle.script_model.specs.Scopes.{Scope}
use Rattle.script_model.specs.Shapes.{has_only}
use Rattle.script_model.specs.StatementReading.{BodyReading, Context, if_in, plain_statement}
use Rattle.script.specs.Contexts.{AnswersWith}

pub unbinding_answers : (scope next : Scope) (read result : Outcome Statement) → Answers read result → OnOk result (next ≡ scope)
    → AnswersWith next (and_then read (λ s. Ok (s, scope))) result
unbinding_answers scope next read (Ok s) is kept = rw (is, kept) refl
unbinding_answers scope next read (Err e) is kept = λ other. rw (is other) refl

pub if_statement : (inner : BodyReading) (cx : Context) (scope next : Scope) (ms : Members) (place inside : List ℕ) (d : Data)
    (result : Outcome Statement) → Some d ≡ get_member (codes "if") ms → ask (has_only (codes "if" ∷ []) ms) is.Shape place ≡ Ok tt
    → inside ≡ step place (codes "if") → Answers (if_in inner cx scope d inside) result → OnOk result (next ≡ scope)
    → AnswersWith next (plain_statement inner cx scope ms place) result
if_statement inner cx scope next ms place inside d result found only at is kept =
    rw (← found, only, ← at) (unbinding_answers scope next (if_in inner cx scope d inside) result is kept)
