-- A guardian's handlers, read one after another.
use Rattle.std.proofs.Common.{◌≡◌, ℕ, suc, List, [], ◌∷◌, ◌++◌, Ok, Err, string_bytes, ap, ◌∙◌}
use Rattle.serde_json.specs.Data.{Data, Members}
use Rattle.serde_json.specs.View.{view, members_view}
use Rattle.serde_json.proofs.Views.{Entry}
use Rattle.script_model.specs.declared.fault.FaultKind.TheVariants as is
use Rattle.script_model.specs.declared.fault.ScriptFault.{ScriptFault}
use Rattle.script_model.specs.declared.checked.Handler.{Handler}
use Rattle.script_model.specs.Reading.{and_then, ask, step}
use Rattle.script_model.specs.Shapes.{the_object, are_named}
use Rattle.script_model.specs.ScriptReading.{Site, handler, handlers, handlers_from}
use Rattle.script_parts.proofs.Asked.{one_more}

pub handlers_more : (site : Site) (n m : ℕ) (e : Entry) (es : List Entry) (place : List ℕ) (done : List Handler) (h : Handler)
    → handler site n (string_bytes e.0) (view e.1) (step place (string_bytes e.0)) ≡ Ok h → suc n ≡ m
    → and_then (handlers_from site n (members_view (e ∷ es)) place) (λ xs. Ok (done ++ xs))
    ≡ and_then (handlers_from site m (members_view es) place) (λ xs. Ok ((done ++ h ∷ []) ++ xs))
handlers_more site n m e es place done h read next =
    rw read (one_more (handlers_from site (suc n) (members_view es) place) done h)
    ∙ ap (λ k. and_then (handlers_from site k (members_view es) place) (λ xs. Ok ((done ++ h ∷ []) ++ xs))) next

pub handlers_stop : (site : Site) (n : ℕ) (e : Entry) (es : List Entry) (place : List ℕ) (done : List Handler) (x : ScriptFault)
    → handler site n (string_bytes e.0) (view e.1) (step place (string_bytes e.0)) ≡ Err x
    → and_then (handlers_from site n (members_view (e ∷ es)) place) (λ xs. Ok (done ++ xs)) ≡ Err x
handlers_stop site n e es place done x stop = rw stop

pub handlers_at : (site : Site) (n : ℕ) (d : Data) (ms : Members) (place : List ℕ) → the_object d place ≡ Ok ms
    → ask (are_named ms) is.Shape place ≡ Ok tt
    → handlers site n d place ≡ handlers_from site n ms place
handlers_at site n d ms place found named =
    ap (λ r. and_then r (λ m. and_then (ask (are_named m) is.Shape place) (λ _. handlers_from site n m place))) found
    ∙ ap (λ r. and_then r (λ _. handlers_from site n ms place)) named
