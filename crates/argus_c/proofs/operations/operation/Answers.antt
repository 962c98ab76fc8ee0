use Rattle.std.proofs.Common.{ℕ, List, IfSome, subst, sym, ◌∙◌}
use Rattle.argus_c.specs.Sessions.{IsOpText}
use Rattle.argus_c.proofs.operations.operation.Goals as goal

pub returns-in-Some : goal.returns-in-Some
returns-in-Some c =
    subst (λ (t : List ℕ). IfSome c.with_arguments.result (IsOpText t)) (sym c.in-Some.ensures ∙ c.in-Ok.ensures.cases.0) c.with_arguments.ensures

pub returns-in-None : goal.returns-in-None
returns-in-None c = subst (λ (t : List ℕ). IfSome c.bare.result (IsOpText t)) c.in-Ok.ensures.cases.0 c.bare.ensures
