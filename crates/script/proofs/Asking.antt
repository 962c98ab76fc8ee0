-- What is told of handlers that can reach themselves.
use Rattle.std.proofs.Common.{◌≡◌, ◌≢◌, ◌<◌, ℕ, List, length, Some, Err}
use Rattle.std.proofs.lemmas.Option.{slice_get_within}
use Rattle.std.specs.List.{slice_get}
use Rattle.script_model.specs.declared.fault.FaultKind.TheVariants.{Recursion}
use Rattle.script_model.specs.declared.fault.ScriptFault.{ScriptFault}
use Rattle.script_model.specs.declared.fault.ScriptFault.TheVariants.{Memory, Bad}
use Rattle.script_model.specs.declared.checked.Handler.{Handler}
use Rattle.script_model.specs.declared.checked.Checked.{Checked}
use Rattle.script_model.specs.Reaching.{Reaches, handler_place}
use Rattle.script.specs.Marks.{IsAsked}
use Rattle.script.proofs.Spreading.{starts_within}

pub none_reaches : (hs : List Handler) → ((m : ℕ) → m < length hs → Reaches hs m m → ⊥) → (n : ℕ) → Reaches hs n n → ⊥
none_reaches hs none n reached =
    let at = starts_within hs reached in
    none n (slice_get_within hs n at.0 at.1) reached

pub tells : (c : Checked) (e : ScriptFault) (n : ℕ) (h : Handler) → (e ≢ Memory → e ≡ Bad Recursion (handler_place h)) → slice_get c.handlers n ≡ Some h
    → Reaches c.handlers n n → ((m : ℕ) → m < n → Reaches c.handlers m m → ⊥) → IsAsked c (Err e)
tells c Memory n h told at reached first = tt
tells c (Bad why place) n h told at reached first =
    let same = told (λ (x : Bad why place ≡ Memory). cc) in
    let kind : why ≡ Recursion = cc in
    let here : place ≡ handler_place h = cc in
    (kind, (n, h, at, reached, first, here))
