-- Elements of an array that are read in turn, beside the list as it is kept.
use Rattle.std.proofs.Common.{◌≡◌, ◌<◌, ◌≤◌, ℕ, suc, ◌+◌, List, [], ◌∷◌, ◌++◌, length, get_or, drop, decimal, Ok, Err, sym, ap, ◌∙◌, arith}
use Rattle.std.proofs.lemmas.List.{drop_more, drop_all}
use Rattle.serde_json.specs.Data.{Data, Items}
use Rattle.serde_json.specs.View.{view, items_view}
use Rattle.serde_json.specs.declared.value.Value.{Value}
use Rattle.script_model.specs.declared.fault.ScriptFault.{ScriptFault}
use Rattle.script_model.specs.Reading.{Outcome, Read, and_then, step, each}
use Rattle.script_model.specs.Scopes.{Scope}
use Rattle.script_model.specs.ScriptReading.{parameter, parameters_from, Guardians, add_guardian, guardians_from}
use Rattle.script_parts.proofs.Asked.{one_more}

drop_at : (vs : List Value) (i : ℕ) (v : Value) → i < length vs → v ≡ get_or vs i v → drop i vs ≡ v ∷ drop (i + 1) vs
drop_at vs i v less is = drop_more vs i v less ∙ ap (λ w. w ∷ drop (i + 1) vs) (sym is)

-- ---- each by itself

each_at : {A : Type 0} (read : Data → Read A) (vs : List Value) (i : ℕ) (v : Value) (place : List ℕ) → i < length vs → v ≡ get_or vs i v
    → each read i (items_view (drop i vs)) place
    ≡ and_then (read (view v) (step place (decimal i)))
    (λ x. and_then (each read (i + 1) (items_view (drop (i + 1) vs)) place) (λ xs. Ok (x ∷ xs)))
each_at read vs i v place less is =
    let next : suc i ≡ i + 1 = omega arith in
    ap (λ ws. each read i (items_view ws) place) (drop_at vs i v less is)
    ∙ ap (λ j. and_then (read (view v) (step place (decimal i)))
    (λ x. and_then (each read j (items_view (drop (i + 1) vs)) place) (λ xs. Ok (x ∷ xs)))) next

pub each_push : {A : Type 0} (read : Data → Read A) (vs : List Value) (i : ℕ) (v : Value) (place : List ℕ) (done more : List A) (x : A)
    (whole : Outcome (List A)) → i < length vs
    → v ≡ get_or vs i v → whole ≡ and_then (each read i (items_view (drop i vs)) place) (λ xs. Ok (done ++ xs))
    → read (view v) (step place (decimal i)) ≡ Ok x
    → more ≡ done ++ x ∷ [] → whole ≡ and_then (each read (i + 1) (items_view (drop (i + 1) vs)) place) (λ xs. Ok (more ++ xs))
each_push {A} read vs i v place done more x whole less is so_far read_is pushed =
    let rest = each read (i + 1) (items_view (drop (i + 1) vs)) place in
    so_far
    ∙ ap (λ r. and_then r (λ xs. Ok (done ++ xs)))
    (each_at read vs i v place less is ∙ ap (λ r. and_then r (λ y. and_then rest (λ xs. Ok (y ∷ xs)))) read_is)
    ∙ one_more rest done x
    ∙ ap (λ ys. and_then rest (λ xs. Ok (ys ++ xs))) (sym pushed)

pub each_stop : {A : Type 0} (read : Data → Read A) (vs : List Value) (i : ℕ) (v : Value) (place : List ℕ) (done : List A)
    (e : ScriptFault) (whole : Outcome (List A))
    → i < length vs → v ≡ get_or vs i v → whole ≡ and_then (each read i (items_view (drop i vs)) place) (λ xs. Ok (done ++ xs))
    → read (view v) (step place (decimal i)) ≡ Err e → whole ≡ Err e
each_stop read vs i v place done e whole less is so_far read_is =
    let rest = each read (i + 1) (items_view (drop (i + 1) vs)) place in
    so_far
    ∙ ap (λ r. and_then r (λ xs. Ok (done ++ xs)))
    (each_at read vs i v place less is ∙ ap (λ r. and_then r (λ y. and_then rest (λ xs. Ok (y ∷ xs)))) read_is)

-- ---- each with what those before it left

parameters_at : (vs : List Value) (i : ℕ) (v : Value) (scope : Scope) (place : List ℕ) → i < length vs → v ≡ get_or vs i v
    → parameters_from i scope (items_view (drop i vs)) place
    ≡ and_then (parameter scope (view v) (step place (decimal i)))
    (λ after. parameters_from (i + 1) after (items_view (drop (i + 1) vs)) place)
parameters_at vs i v scope place less is =
    let next : suc i ≡ i + 1 = omega arith in
    ap (λ ws. parameters_from i scope (items_view ws) place) (drop_at vs i v less is)
    ∙ ap (λ j. and_then (parameter scope (view v) (step place (decimal i)))
    (λ after. parameters_from j after (items_view (drop (i + 1) vs)) place)) next

pub parameters_stop : (vs : List Value) (i : ℕ) (v : Value) (scope : Scope) (place : List ℕ) (e : ScriptFault) (whole : Outcome Scope)
    → i < length vs → v ≡ get_or vs i v
    → whole ≡ parameters_from i scope (items_view (drop i vs)) place → parameter scope (view v) (step place (decimal i)) ≡ Err e
    → whole ≡ Err e
parameters_stop vs i v scope place e whole less is so_far read_is =
    so_far ∙ parameters_at vs i v scope place less is
    ∙ ap (λ r. and_then r (λ a. parameters_from (i + 1) a (items_view (drop (i + 1) vs)) place)) read_is

guardians_at : (gs : Items) (vs : List Value) (i : ℕ) (v : Value) (so_far : Guardians) (place : List ℕ) → i < length vs
    → v ≡ get_or vs i v
    → guardians_from gs i so_far (items_view (drop i vs)) place
    ≡ and_then (add_guardian gs (i + 1) so_far (view v) (step place (decimal i)))
    (λ after. guardians_from gs (i + 1) after (items_view (drop (i + 1) vs)) place)
guardians_at gs vs i v so_far place less is =
    let next : suc i ≡ i + 1 = omega arith in
    ap (λ ws. guardians_from gs i so_far (items_view ws) place) (drop_at vs i v less is)
    ∙ ap (λ j. and_then (add_guardian gs j so_far (view v) (step place (decimal i)))
    (λ after. guardians_from gs j after (items_view (drop (i + 1) vs)) place)) next

pub guardians_more : (gs : Items) (vs : List Value) (i : ℕ) (v : Value) (before after : Guardians) (place : List ℕ)
    (whole : Outcome Guardians) → i < length vs
    → v ≡ get_or vs i v → whole ≡ guardians_from gs i before (items_view (drop i vs)) place
    → add_guardian gs (i + 1) before (view v) (step place (decimal i)) ≡ Ok after
    → whole ≡ guardians_from gs (i + 1) after (items_view (drop (i + 1) vs)) place
guardians_more gs vs i v before after place whole less is so_far read_is =
    so_far ∙ guardians_at gs vs i v before place less is
    ∙ ap (λ r. and_then r (λ a. guardians_from gs (i + 1) a (items_view (drop (i + 1) vs)) place)) read_is

pub guardians_stop : (gs : Items) (vs : List Value) (i : ℕ) (v : Value) (before : Guardians) (place : List ℕ) (e : ScriptFault)
    (whole : Outcome Guardians) → i < length vs
    → v ≡ get_or vs i v → whole ≡ guardians_from gs i before (items_view (drop i vs)) place
    → add_guardian gs (i + 1) before (view v) (step place (decimal i)) ≡ Err e
    → whole ≡ Err e
guardians_stop gs vs i v before place e whole less is so_far read_is =
    so_far ∙ guardians_at gs vs i v before place less is
    ∙ ap (λ r. and_then r (λ a. guardians_from gs (i + 1) a (items_view (drop (i + 1) vs)) place)) read_is

pub guardians_end : (gs : Items) (vs : List Value) (i : ℕ) (before : Guardians) (place : List ℕ) (whole : Outcome Guardians)
    → length vs ≤ i
    → whole ≡ guardians_from gs i before (items_view (drop i vs)) place → whole ≡ Ok before
guardians_end gs vs i before place whole all so_far =
    so_far ∙ ap (λ ws. guardians_from gs i before (items_view ws) place) (drop_all i vs all)
