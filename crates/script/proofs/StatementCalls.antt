-- A call, read by its three parts.
use Rattle.std.proofs.Common.{◌≡◌, ℕ, List, length, decimal, Option, Some, None, option_map, Ok, Err, refl, sym, ap, ◌∙◌}
use Rattle.serde_json.specs.declared.value.Value.{Value}
use Rattle.serde_json.specs.Data.{Data, Items}
use Rattle.serde_json.specs.Events.{items_len}
use Rattle.serde_json.specs.View.{items_view}
use Rattle.serde_json.proofs.Views.{items_len-items_view}
use Rattle.script_model.specs.declared.fault.FaultKind.TheVariants as is
use Rattle.script_model.specs.declared.fault.ScriptFault.TheVariants.{Bad}
use Rattle.script_model.specs.Reading.{Outcome, and_then, need, step}
use Rattle.script_model.specs.Scopes.{Scope}
use Rattle.script_model.specs.Shapes.{the_string, the_triple}
use Rattle.script_model.specs.Signatures.{handler_found, handler_number, handler_gives, sort_given}
use Rattle.script_model.specs.StatementReading.{Arguments, CallParts, guardian_numbered, arguments_in, call_sorted}
use Rattle.script.specs.Found.{found_in}
use Rattle.script_parts.proofs.Pairs.{some_pair}

abbrev Parts : Type 0
Parts = ℕ × Data × Arguments

abbrev pub sorted : Outcome Parts → Outcome CallParts
sorted r = and_then r (λ c. Ok (record { handler = c.0; arguments = c.2; sort = sort_given (handler_gives c.1) }))

-- what follows the name, and what follows the number of the guardian
abbrev pub by_handler : ℕ → Scope → Data → List ℕ → Option Data → Outcome Parts
by_handler number scope e place found = and_then (need found is.Handler (step place (decimal 1))) (λ handler.
    and_then (arguments_in scope handler e (step place (decimal 2))) (λ arguments. Ok (number, handler, arguments)))

abbrev pub by_name : Items → Scope → Data → Data → List ℕ → ℕ → Outcome Parts
by_name guardians scope b e place n = and_then (the_string b (step place (decimal 1))) (λ name.
    by_handler (handler_number guardians n name) scope e place (handler_found guardians n name))

pub call_are : (hs : List Value) (scope : Scope) (d : Data) (place : List ℕ) (a b e : Data) (count : ℕ) → the_triple d place ≡ Ok (a, b, e) → count ≡ length hs
    → call_sorted (items_view hs) scope d place
    ≡ sorted (and_then (guardian_numbered count a (step place (decimal 0))) (λ n. by_name (items_view hs) scope b e place n))
call_are hs scope d place a b e count parts many =
    let guardians = items_view hs in
    ap (λ (r : Outcome (Data × Data × Data)). sorted (and_then r (λ p.
    and_then (guardian_numbered (items_len guardians) p.0 (step place (decimal 0))) (λ n. by_name guardians scope p.1 p.2 place n)))) parts
    ∙ ap (λ k. sorted (and_then (guardian_numbered k a (step place (decimal 0))) (λ n. by_name guardians scope b e place n))) (items_len-items_view hs ∙ sym many)

-- where the guardian and the name are known
pub call_at : (hs : List Value) (scope : Scope) (d : Data) (place : List ℕ) (a b e : Data) (count n : ℕ) (name : List ℕ) → the_triple d place ≡ Ok (a, b, e) → count ≡ length hs
    → guardian_numbered count a (step place (decimal 0)) ≡ Ok n → the_string b (step place (decimal 1)) ≡ Ok name
    → call_sorted (items_view hs) scope d place ≡ sorted (by_handler (handler_number (items_view hs) n name) scope e place (handler_found (items_view hs) n name))
call_at hs scope d place a b e count n name parts many at named =
    let guardians = items_view hs in
    call_are hs scope d place a b e count parts many
    ∙ ap (λ (r : Outcome ℕ). sorted (and_then r (λ m. by_name guardians scope b e place m))) at
    ∙ ap (λ (r : Outcome (List ℕ)). sorted (and_then r (λ s. by_handler (handler_number guardians n s) scope e place (handler_found guardians n s)))) named

lost : (number : ℕ) (scope : Scope) (e : Data) (place : List ℕ) (found : Option Data) → None ≡ option_map (λ d. (let p : ℕ × Data = (number, d) in p)) found
    → sorted (by_handler number scope e place found) ≡ Err (Bad is.Handler (step place (decimal 1)))
lost number scope e place None none = refl
lost number scope e place (Some d) none = cc

pub call_lost : (hs : List Value) (scope : Scope) (e : Data) (place : List ℕ) (n : ℕ) (name : List ℕ) → None ≡ found_in (items_view hs) n name
    → sorted (by_handler (handler_number (items_view hs) n name) scope e place (handler_found (items_view hs) n name)) ≡ Err (Bad is.Handler (step place (decimal 1)))
call_lost hs scope e place n name none = lost _ scope e place (handler_found (items_view hs) n name) none

found : (number k : ℕ) (h : Data) (scope : Scope) (e : Data) (place : List ℕ) (found : Option Data)
    → ◌≡◌ {A = Option (ℕ × Data)} (Some (k, h)) (option_map (λ d. (number, d)) found)
    → sorted (by_handler number scope e place found) ≡ sorted (and_then (arguments_in scope h e (step place (decimal 2))) (λ arguments. Ok (k, h, arguments)))
found number k h scope e place None some = cc
found number k h scope e place (Some d) some =
    let same = some_pair k number h d some in
    rw (same.0, same.1) refl

pub call_found : (hs : List Value) (scope : Scope) (e : Data) (place : List ℕ) (n : ℕ) (name : List ℕ) (k : ℕ) (h : Data)
    → ◌≡◌ {A = Option (ℕ × Data)} (Some (k, h)) (found_in (items_view hs) n name)
    → sorted (by_handler (handler_number (items_view hs) n name) scope e place (handler_found (items_view hs) n name))
    ≡ sorted (and_then (arguments_in scope h e (step place (decimal 2))) (λ arguments. Ok (k, h, arguments)))
call_found hs scope e place n name k h some = found _ k h scope e place (handler_found (items_view hs) n name) some
