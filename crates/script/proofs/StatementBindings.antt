-- A reply that is bound by the name that stands in `into`.
use Rattle.std.proofs.Common.{◌≡◌, ℕ, List, codes, is_some, Some, sym, ap, ◌∙◌}
use Rattle.serde_json.specs.Data.{Data, Members}
use Rattle.serde_json.specs.Find.{get_member}
use Rattle.script_model.specs.declared.names.Sort.{Sort}
use Rattle.script_model.specs.Reading.{and_then, step}
use Rattle.script_model.specs.Scopes.{Scope, find}
use Rattle.script_model.specs.StatementReading.{bind, into_in, bound_to, the_name}

pub bind_into : (scope : Scope) (sort : Sort) (ms : Members) (place inside : List ℕ) (d : Data) → Some d ≡ get_member (codes "into") ms → inside ≡ step place (codes "into")
    → bind scope (Some sort) ms place ≡ and_then (the_name d inside) (λ name. bound_to scope (is_some (get_member (codes "signals") ms)) sort name (find scope name) inside)
bind_into scope sort ms place inside d into at =
    let may_signal = is_some (get_member (codes "signals") ms) in
    ap (λ o. into_in scope may_signal (Some sort) o place) (sym into)
    ∙ ap (λ p. and_then (the_name d p) (λ name. bound_to scope may_signal sort name (find scope name) p)) (sym at)
