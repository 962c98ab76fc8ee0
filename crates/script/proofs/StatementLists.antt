-- Lists of a statement's parts, read one after another.
use Rattle.std.proofs.Common.{◌≡◌, ◌<◌, ◌≤◌, ℕ, suc, ◌+◌, List, [], ◌∷◌, ◌++◌, length, get_or, drop, Bool, Ok, Err, decimal, refl, sym, ap, ap₂, ◌∙◌, append_assoc, append-nil, add-one}
use Rattle.std.proofs.lemmas.List.{drop_more, drop_all}
use Rattle.serde_json.specs.declared.value.Value.{Value}
use Rattle.serde_json.specs.Data.{Data, Items, no_items, item}
use Rattle.serde_json.specs.Events.{items_len}
use Rattle.serde_json.specs.View.{view, items_view}
use Rattle.serde_json.proofs.Views.{items_len-items_view}
use Rattle.script_model.specs.declared.fault.ScriptFault.{ScriptFault}
use Rattle.script_model.specs.declared.fault.FaultKind.TheVariants as is
use Rattle.script_model.specs.declared.expression.IntExpr.{IntExpr}
use Rattle.script_model.specs.declared.expression.TextExpr.{TextExpr}
use Rattle.script_model.specs.declared.expression.Expr.{Expr}
use Rattle.script_model.specs.declared.expression.Expr.TheVariants as expr
use Rattle.script_model.specs.declared.statement.Statement.{Statement}
use Rattle.script_model.specs.Reading.{Read, Outcome, and_then, ask, step, each}
use Rattle.script_model.specs.Scopes.{Scope}
use Rattle.script_model.specs.Shapes.{the_array}
use Rattle.script_model.specs.Signatures.{wanted_kind, takes_count}
use Rattle.script_model.specs.StatementReading.{Body, BodyReading, Context, Arguments, with_argument, argument_in, arguments_from, arguments_in, statement, statements}
use Rattle.script_parts.proofs.Asked.{one_more}

pub items_at : (vs : List Value) (i : ℕ) (v : Value) → i < length vs → v ≡ get_or vs i v → items_view (drop i vs) ≡ item (view v) (items_view (drop (i + 1) vs))
items_at vs i v h is = ap items_view (drop_more vs i v h ∙ ap (λ w. w ∷ drop (i + 1) vs) (sym is))

pub items_past : (vs : List Value) (i : ℕ) → length vs ≤ i → items_view (drop i vs) ≡ no_items
items_past vs i h = ap items_view (drop_all i vs h)

-- ---- elements that are read alone

pub each_step : {A : Type 0} (read : Data → Read A) (vs : List Value) (i : ℕ) (place : List ℕ) (done new : List A) (v : Value) (x : A) → i < length vs → v ≡ get_or vs i v
    → read (view v) (step place (decimal i)) ≡ Ok x → new ≡ done ++ x ∷ []
    → and_then (each read i (items_view (drop i vs)) place) (λ xs. Ok (done ++ xs))
    ≡ and_then (each read (i + 1) (items_view (drop (i + 1) vs)) place) (λ xs. Ok (new ++ xs))
each_step {A} read vs i place done new v x h is gives pushed =
    let rest = items_view (drop (i + 1) vs) in
    ap (λ ds. and_then (each read i ds place) (λ xs. Ok (done ++ xs))) (items_at vs i v h is)
    ∙ ap (λ (r : Outcome A). and_then (and_then r (λ y. and_then (each read (suc i) rest place) (λ ys. Ok (y ∷ ys)))) (λ xs. Ok (done ++ xs))) gives
    ∙ one_more (each read (suc i) rest place) done x
    ∙ ap (λ n. and_then (each read n rest place) (λ xs. Ok ((done ++ x ∷ []) ++ xs))) (sym (add-one i))
    ∙ ap (λ ys. and_then (each read (i + 1) rest place) (λ xs. Ok (ys ++ xs))) (sym pushed)

pub each_fault : {A : Type 0} (read : Data → Read A) (vs : List Value) (i : ℕ) (place : List ℕ) (done : List A) (v : Value) (e : ScriptFault) → i < length vs → v ≡ get_or vs i v
    → read (view v) (step place (decimal i)) ≡ Err e → and_then (each read i (items_view (drop i vs)) place) (λ xs. Ok (done ++ xs)) ≡ Err e
each_fault {A} read vs i place done v e h is gives =
    let rest = items_view (drop (i + 1) vs) in
    ap (λ ds. and_then (each read i ds place) (λ xs. Ok (done ++ xs))) (items_at vs i v h is)
    ∙ ap (λ (r : Outcome A). and_then (and_then r (λ y. and_then (each read (suc i) rest place) (λ ys. Ok (y ∷ ys)))) (λ xs. Ok (done ++ xs))) gives

pub each_end : {A : Type 0} (read : Data → Read A) (vs : List Value) (i : ℕ) (place : List ℕ) (done : List A) → length vs ≤ i
    → and_then (each read i (items_view (drop i vs)) place) (λ xs. Ok (done ++ xs)) ≡ Ok done
each_end read vs i place done h =
    ap (λ ds. and_then (each read i ds place) (λ xs. Ok (done ++ xs))) (items_past vs i h) ∙ ap (λ xs. Ok xs) (append-nil done)

-- ---- statements, each with the variables that those before it bound

pub statements_step : (inner : BodyReading) (cx : Context) (vs : List Value) (i : ℕ) (scope next : Scope) (place : List ℕ) (done new : Body) (v : Value) (s : Statement)
    → i < length vs → v ≡ get_or vs i v → statement inner cx scope (view v) (step place (decimal i)) ≡ Ok (s, next) → new ≡ done ++ s ∷ []
    → and_then (statements inner cx i scope (items_view (drop i vs)) place) (λ xs. Ok (done ++ xs))
    ≡ and_then (statements inner cx (i + 1) next (items_view (drop (i + 1) vs)) place) (λ xs. Ok (new ++ xs))
statements_step inner cx vs i scope next place done new v s h is gives pushed =
    let rest = items_view (drop (i + 1) vs) in
    ap (λ ds. and_then (statements inner cx i scope ds place) (λ xs. Ok (done ++ xs))) (items_at vs i v h is)
    ∙ ap (λ (r : Outcome (Statement × Scope)).
    and_then (and_then r (λ y. and_then (statements inner cx (suc i) y.1 rest place) (λ ys. Ok (y.0 ∷ ys)))) (λ xs. Ok (done ++ xs))) gives
    ∙ one_more (statements inner cx (suc i) next rest place) done s
    ∙ ap (λ n. and_then (statements inner cx n next rest place) (λ xs. Ok ((done ++ s ∷ []) ++ xs))) (sym (add-one i))
    ∙ ap (λ ys. and_then (statements inner cx (i + 1) next rest place) (λ xs. Ok (ys ++ xs))) (sym pushed)

pub statements_fault : (inner : BodyReading) (cx : Context) (vs : List Value) (i : ℕ) (scope : Scope) (place : List ℕ) (done : Body) (v : Value) (e : ScriptFault)
    → i < length vs → v ≡ get_or vs i v → statement inner cx scope (view v) (step place (decimal i)) ≡ Err e
    → and_then (statements inner cx i scope (items_view (drop i vs)) place) (λ xs. Ok (done ++ xs)) ≡ Err e
statements_fault inner cx vs i scope place done v e h is gives =
    let rest = items_view (drop (i + 1) vs) in
    ap (λ ds. and_then (statements inner cx i scope ds place) (λ xs. Ok (done ++ xs))) (items_at vs i v h is)
    ∙ ap (λ (r : Outcome (Statement × Scope)).
    and_then (and_then r (λ y. and_then (statements inner cx (suc i) y.1 rest place) (λ ys. Ok (y.0 ∷ ys)))) (λ xs. Ok (done ++ xs))) gives

pub statements_end : (inner : BodyReading) (cx : Context) (vs : List Value) (i : ℕ) (scope : Scope) (place : List ℕ) (done : Body) → length vs ≤ i
    → and_then (statements inner cx i scope (items_view (drop i vs)) place) (λ xs. Ok (done ++ xs)) ≡ Ok done
statements_end inner cx vs i scope place done h =
    ap (λ ds. and_then (statements inner cx i scope ds place) (λ xs. Ok (done ++ xs))) (items_past vs i h) ∙ ap (λ xs. Ok xs) (append-nil done)

-- ---- arguments, which are kept by their kinds

-- the arguments of the rest, after these
abbrev pub after : List IntExpr → List TextExpr → Arguments → Arguments
after ints texts rest = record { ints = ints ++ rest.ints; texts = texts ++ rest.texts }

after_int : (r : Outcome Arguments) (ints : List IntExpr) (texts : List TextExpr) (e : IntExpr)
    → and_then (and_then r (λ rest. Ok (with_argument (expr.Int e) rest))) (λ rest. Ok (after ints texts rest))
    ≡ and_then r (λ rest. Ok (after (ints ++ e ∷ []) texts rest))
after_int (Ok rest) ints texts e = ap (λ xs. Ok (record { ints = xs; texts = texts ++ rest.texts })) (sym (append_assoc ints (e ∷ []) rest.ints))
after_int (Err f) ints texts e = refl

after_text : (r : Outcome Arguments) (ints : List IntExpr) (texts : List TextExpr) (e : TextExpr)
    → and_then (and_then r (λ rest. Ok (with_argument (expr.Text e) rest))) (λ rest. Ok (after ints texts rest))
    ≡ and_then r (λ rest. Ok (after ints (texts ++ e ∷ []) rest))
after_text (Ok rest) ints texts e = ap (λ xs. Ok (record { ints = ints ++ rest.ints; texts = xs })) (sym (append_assoc texts (e ∷ []) rest.texts))
after_text (Err f) ints texts e = refl

pub arguments_int : (scope : Scope) (handler : Data) (vs : List Value) (i : ℕ) (place : List ℕ) (ints new : List IntExpr) (texts : List TextExpr) (v : Value) (e : IntExpr)
    → i < length vs → v ≡ get_or vs i v → argument_in scope (wanted_kind handler i) (view v) (step place (decimal i)) ≡ Ok (expr.Int e) → new ≡ ints ++ e ∷ []
    → and_then (arguments_from scope handler i (items_view (drop i vs)) place) (λ rest. Ok (after ints texts rest))
    ≡ and_then (arguments_from scope handler (i + 1) (items_view (drop (i + 1) vs)) place) (λ rest. Ok (after new texts rest))
arguments_int scope handler vs i place ints new texts v e h is gives pushed =
    let left = items_view (drop (i + 1) vs) in
    ap (λ ds. and_then (arguments_from scope handler i ds place) (λ rest. Ok (after ints texts rest))) (items_at vs i v h is)
    ∙ ap (λ (r : Outcome Expr).
    and_then (and_then r (λ x. and_then (arguments_from scope handler (suc i) left place) (λ rest. Ok (with_argument x rest)))) (λ rest. Ok (after ints texts rest))) gives
    ∙ after_int (arguments_from scope handler (suc i) left place) ints texts e
    ∙ ap (λ n. and_then (arguments_from scope handler n left place) (λ rest. Ok (after (ints ++ e ∷ []) texts rest))) (sym (add-one i))
    ∙ ap (λ xs. and_then (arguments_from scope handler (i + 1) left place) (λ rest. Ok (after xs texts rest))) (sym pushed)

pub arguments_text : (scope : Scope) (handler : Data) (vs : List Value) (i : ℕ) (place : List ℕ) (ints : List IntExpr) (texts new : List TextExpr) (v : Value) (e : TextExpr)
    → i < length vs → v ≡ get_or vs i v → argument_in scope (wanted_kind handler i) (view v) (step place (decimal i)) ≡ Ok (expr.Text e) → new ≡ texts ++ e ∷ []
    → and_then (arguments_from scope handler i (items_view (drop i vs)) place) (λ rest. Ok (after ints texts rest))
    ≡ and_then (arguments_from scope handler (i + 1) (items_view (drop (i + 1) vs)) place) (λ rest. Ok (after ints new rest))
arguments_text scope handler vs i place ints texts new v e h is gives pushed =
    let left = items_view (drop (i + 1) vs) in
    ap (λ ds. and_then (arguments_from scope handler i ds place) (λ rest. Ok (after ints texts rest))) (items_at vs i v h is)
    ∙ ap (λ (r : Outcome Expr).
    and_then (and_then r (λ x. and_then (arguments_from scope handler (suc i) left place) (λ rest. Ok (with_argument x rest)))) (λ rest. Ok (after ints texts rest))) gives
    ∙ after_text (arguments_from scope handler (suc i) left place) ints texts e
    ∙ ap (λ n. and_then (arguments_from scope handler n left place) (λ rest. Ok (after ints (texts ++ e ∷ []) rest))) (sym (add-one i))
    ∙ ap (λ xs. and_then (arguments_from scope handler (i + 1) left place) (λ rest. Ok (after ints xs rest))) (sym pushed)

pub arguments_fault : (scope : Scope) (handler : Data) (vs : List Value) (i : ℕ) (place : List ℕ) (ints : List IntExpr) (texts : List TextExpr) (v : Value) (e : ScriptFault)
    → i < length vs → v ≡ get_or vs i v → argument_in scope (wanted_kind handler i) (view v) (step place (decimal i)) ≡ Err e
    → and_then (arguments_from scope handler i (items_view (drop i vs)) place) (λ rest. Ok (after ints texts rest)) ≡ Err e
arguments_fault scope handler vs i place ints texts v e h is gives =
    let left = items_view (drop (i + 1) vs) in
    ap (λ ds. and_then (arguments_from scope handler i ds place) (λ rest. Ok (after ints texts rest))) (items_at vs i v h is)
    ∙ ap (λ (r : Outcome Expr).
    and_then (and_then r (λ x. and_then (arguments_from scope handler (suc i) left place) (λ rest. Ok (with_argument x rest)))) (λ rest. Ok (after ints texts rest))) gives

pub arguments_end : (scope : Scope) (handler : Data) (vs : List Value) (i : ℕ) (place : List ℕ) (ints : List IntExpr) (texts : List TextExpr) → length vs ≤ i
    → and_then (arguments_from scope handler i (items_view (drop i vs)) place) (λ rest. Ok (after ints texts rest)) ≡ Ok (record { ints = ints; texts = texts })
arguments_end scope handler vs i place ints texts h =
    ap (λ ds. and_then (arguments_from scope handler i ds place) (λ rest. Ok (after ints texts rest))) (items_past vs i h)
    ∙ ap₂ (λ xs ys. Ok (record { ints = xs; texts = ys })) (append-nil ints) (append-nil texts)

pub none_after : (r : Outcome Arguments) → r ≡ and_then r (λ rest. Ok (after [] [] rest))
none_after (Ok rest) = refl
none_after (Err e) = refl

pub arguments_are : (scope : Scope) (handler d : Data) (place : List ℕ) (vs : List Value) (fits : Bool) → the_array d place ≡ Ok (items_view vs)
    → fits ≡ takes_count handler (length vs)
    → arguments_in scope handler d place ≡ and_then (ask fits is.Arguments place) (λ _. arguments_from scope handler 0 (items_view vs) place)
arguments_are scope handler d place vs fits list counted =
    let read = λ (ds : Items). arguments_from scope handler 0 ds place in
    ap (λ (r : Outcome Items). and_then r (λ ds. and_then (ask (takes_count handler (items_len ds)) is.Arguments place) (λ _. read ds))) list
    ∙ ap (λ n. and_then (ask (takes_count handler n) is.Arguments place) (λ _. read (items_view vs))) (items_len-items_view vs)
    ∙ ap (λ b. and_then (ask b is.Arguments place) (λ _. read (items_view vs))) (sym counted)
