use Rattle.std.proofs.Common.{arith, length, sym, ◌<◌, ◌≤◌, ◌∙◌}
use Rattle.std.proofs.lemmas.List.{at_drop_all}
use Rattle.run_model.specs.LocalReadings.{outcome_in, says_committed}
use Rattle.guardian.proofs.Told.{next_says, this_says}
use Rattle.guardian.proofs.writes.is_committed.Goals as goal

pub returns-then-eq : goal.returns-then-eq
returns-then-eq c =
    let within : c.loop-told.told-index < length c.args.outcomes.now = omega (arith, c.loop-told-test.true) in
    sym (c.loop-told.invariant ∙ this_says c.args.action.now c.args.outcomes.now c.loop-told.told-index c.loop-told-item.result within c.loop-told-item.is
    (sym c.eq.ensures ∙ c.if-eq.true))

pub loop-told-preserved : goal.loop-told-preserved
loop-told-preserved c =
    let within : c.loop-told.told-index < length c.args.outcomes.now = omega (arith, c.loop-told-test.true) in
    c.loop-told.invariant ∙ next_says c.args.action.now c.args.outcomes.now c.loop-told.told-index c.loop-told-item.result within c.loop-told-item.is
    (sym c.eq.ensures ∙ c.if-eq.false)

pub returns : goal.returns
returns c =
    let past : length c.args.outcomes.now ≤ c.loop-told.told-index = omega (arith, c.loop-told-test.false) in
    sym (c.loop-told.invariant ∙ at_drop_all (λ xs. says_committed (outcome_in xs c.args.action.now)) c.args.outcomes.now c.loop-told.told-index past)
