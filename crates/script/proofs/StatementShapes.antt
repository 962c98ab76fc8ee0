-- What a statement is by the member that tells its kind, and what a call answers of a part of it.
use Rattle.std.proofs.Common.{◌≡◌, ◌≢◌, ℕ, List, [], ◌∷◌, codes, Option, Some, Ok, Err, OnOk, sym, ap, ◌∙◌, subst}
use Rattle.serde_json.specs.Data.{Data, Items, Members}
use Rattle.serde_json.specs.Find.{get_member}
use Rattle.script_model.specs.declared.fault.FaultKind.TheVariants as is
use Rattle.script_model.specs.declared.fault.ScriptFault.{ScriptFault}
use Rattle.script_model.specs.declared.fault.ScriptFault.TheVariants.{Memory}
use Rattle.script_model.specs.declared.statement.Statement.{Statement}
use Rattle.script_model.specs.declared.statement.Statement.TheVariants.{Coenter}
use Rattle.script_model.specs.declared.statement.Arm.{Arm}
use Rattle.script_model.specs.Reading.{Outcome, Read, Answers, and_then, ask, at, each, fault, step}
use Rattle.script_model.specs.Scopes.{Scope}
use Rattle.script_model.specs.Shapes.{has_only, the_list}
use Rattle.script_model.specs.StatementReading.{BodyReading, Context, arm_in, coenter, unbinding, by_member, if_in, repeat_in, abort_in, return_in, plain_statement}
use Rattle.limits.specs.Limits.{max_arms}
use Rattle.script.specs.Contexts.{AnswersWith}

-- where the fault of a part is that of the whole
pub answers_fault : {A B : Type 0} (whole : Outcome A) (part : Outcome B) (e : ScriptFault) (r : Outcome A) → (e ≢ Memory → part ≡ Err e) → (part ≡ Err e → whole ≡ Err e)
    → r ≡ Err e → Answers whole r
answers_fault whole part e r told led is = rw is (λ known. led (told known))

pub coenter_are : (inner : BodyReading) (cx : Context) (scope : Scope) (d : Data) (place : List ℕ) (ds : Items) (arms : Outcome (List Arm)) → the_list 1 max_arms d place ≡ Ok ds
    → each (arm_in inner cx scope) 0 ds place ≡ arms → coenter inner cx scope d place ≡ and_then arms (λ xs. Ok (Coenter xs))
coenter_are inner cx scope d place ds arms list read =
    ap (λ (r : Outcome Items). and_then r (λ es. and_then (each (arm_in inner cx scope) 0 es place) (λ xs. Ok (Coenter xs)))) list
    ∙ ap (λ (r : Outcome (List Arm)). and_then r (λ xs. Ok (Coenter xs))) read

-- ---- a branching

unbinding_answers : (read : Outcome Statement) (scope new : Scope) (r : Outcome Statement) → Answers read r → OnOk r (new ≡ scope)
    → AnswersWith new (and_then read (λ s. Ok (s, scope))) r
unbinding_answers read scope new (Ok s) reads kept =
    ap (λ (q : Outcome Statement). and_then q (λ t. Ok (t, scope))) reads ∙ ap (λ (n : Scope). Ok (s, n)) (sym kept)
unbinding_answers read scope new (Err e) reads kept = λ told. ap (λ (q : Outcome Statement). and_then q (λ t. Ok (t, scope))) (reads told)

by_member_some : (names : List (List ℕ)) (ms : Members) (o : Option Data) (read : Data → Read (Statement × Scope)) (otherwise : Read (Statement × Scope)) (d : Data) (place : List ℕ)
    → Some d ≡ o → ask (has_only names ms) is.Shape place ≡ Ok tt → by_member names ms o read otherwise place ≡ read d place
by_member_some names ms o read otherwise d place some only =
    ap (λ p. by_member names ms p read otherwise place) (sym some) ∙ ap (λ (r : Outcome (Unit {0})). and_then r (λ _. read d place)) only

abbrev no_branching : BodyReading → Context → Scope → Members → Read (Statement × Scope)
no_branching inner cx scope ms =
    by_member (codes "repeat" ∷ []) ms (get_member (codes "repeat") ms) (λ d. unbinding scope (at (codes "repeat") (repeat_in inner cx scope d)))
    (by_member (codes "abort" ∷ []) ms (get_member (codes "abort") ms) (λ d. unbinding scope (at (codes "abort") (abort_in d)))
    (by_member (codes "return" ∷ []) ms (get_member (codes "return") ms) (λ d. unbinding scope (return_in cx scope d))
    (fault is.Shape)))

pub answers_branching : (inner : BodyReading) (cx : Context) (scope new : Scope) (ms : Members) (place inside : List ℕ) (d : Data) (r : Outcome Statement)
    → Some d ≡ get_member (codes "if") ms → ask (has_only (codes "if" ∷ []) ms) is.Shape place ≡ Ok tt → inside ≡ step place (codes "if")
    → Answers (if_in inner cx scope d inside) r → OnOk r (new ≡ scope) → AnswersWith new (plain_statement inner cx scope ms place) r
answers_branching inner cx scope new ms place inside d r some only under reads kept =
    let whole : plain_statement inner cx scope ms place ≡ and_then (if_in inner cx scope d inside) (λ s. Ok (s, scope)) =
    by_member_some (codes "if" ∷ []) ms (get_member (codes "if") ms) (λ e. unbinding scope (at (codes "if") (if_in inner cx scope e))) (no_branching inner cx scope ms) d place some only
    ∙ ap (λ p. and_then (if_in inner cx scope d p) (λ s. Ok (s, scope))) (sym under) in
    subst (λ (o : Outcome (Statement × Scope)). AnswersWith new o r) (sym whole) (unbinding_answers (if_in inner cx scope d inside) scope new r reads kept)
