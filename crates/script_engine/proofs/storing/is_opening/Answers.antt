use Rattle.std.proofs.Common.{MatchBool, subst, sym, true≢false, ◌∙◌}
use Rattle.stable_store.specs.Held.{held}
use Rattle.script_engine.specs.Storing.{IsOpening}
use Rattle.script_engine.proofs.Opening.{none_prepared}
use Rattle.script_engine.proofs.storing.is_opening.Goals as goal

pub returns-else-is_empty : goal.returns-else-is_empty
returns-else-is_empty c =
    let can = IsOpening (held c.args.kept.now) c.args.last in
    let none : can → ⊥ =
    λ opening. true≢false (sym (c.is_empty.ensures.1 (none_prepared c.args.kept.now.prepared.entries opening.none_prepared)) ∙ c.if-is_empty.false) in
    subst (λ t. MatchBool t can (can → ⊥)) (sym c.if-is_empty.false) none
