use Rattle.std.proofs.Common.{List, ap, subst, ℕ, ◌∙◌, ◌≡◌}
use Rattle.std.specs.Prelude.{IfOk, MatchOption}
use Rattle.run_model.specs.declared.step.Step.TheVariants as steps
use Rattle.packed_history.specs.Plain.{Plains}
use Rattle.packed_history.specs.Steps.{IsKeptStep, Requests}
use Rattle.packed_history.proofs.steps.Steps.keep_request.Goals as goal

pub returns-in-None-clause-ok : goal.returns-in-None-clause-ok
returns-in-None-clause-ok c =
    let inside = c.self.inside in
    let P : Requests → Type 0 =
    λ old. IfOk c.keep_other.result (λ short. MatchOption short (c.keep_other.new.self ≡ old)
    (λ s. (a : List ℕ) → IsKeptStep old c.keep_other.new.self s (steps.Op a c.args.object c.args.operation.now))) in
    let beside : Plains → Requests = λ p. record { kinds = inside.kinds.items; plain = p; requests = inside.requests.items } in
    let same = rw c.in-None.is at c.in_ok-place.ensures.ok in
    subst P (ap beside same ∙ c.self.view_is) c.keep_other.ensures.ok
