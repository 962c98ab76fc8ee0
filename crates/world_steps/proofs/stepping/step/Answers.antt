use Rattle.std.proofs.Common.{None, ap, sym, ◌∙◌, ◌∷◌}
use Rattle.run_model.specs.Runs.{IsRun, is_accepted}
use Rattle.world_steps.proofs.Naming.{named_are}
use Rattle.world_steps.proofs.Stores.{with_fault}
use Rattle.layer_contracts.specs.Guardians.{event_of}
use Rattle.world_steps.specs.Standings.{Names, StoresLeft, forest_of}
use Rattle.world_steps.proofs.WorldStores.{stores_idle, stores_refused}
use Rattle.world_steps.proofs.stepping.step.Goals as goal

pub returns-in_err-answer-clause-stores : goal.returns-in_err-answer-clause-stores
returns-in_err-answer-clause-stores g c =
    let gs = c.args.guardians.now in
    with_fault c.from_residual.result _ (λ fault. StoresLeft g.G.Guardian.stored g.opening c.args.history.now c.args.step.now gs gs fault)
    c.from_residual.ensures.1 (stores_refused g.G.Guardian.stored g.opening c.args.history.now c.args.step.now gs g.G.Guardian.stands (g.R.Forest.stands c.args.forest.now) c.requires.1.1)

pub returns-then-not-is_accepted-clause-stores : goal.returns-then-not-is_accepted-clause-stores
returns-then-not-is_accepted-clause-stores g c =
    stores_idle g.G.Guardian.stored g.opening c.args.history.now c.args.step.now c.args.guardians.now None
    (ap is_accepted (sym c.in_ok-answer.ensures) ∙ sym c.is_accepted.ensures ∙ c.if-not-is_accepted.true)

pub answer_at-requires : goal.answer_at-requires
answer_at-requires g c = λ κs within.
    let world = c.requires.1.1 in
    let names : Names (forest_of g.opening c.args.history.now) c.args.step.now c.in_order-low.result.0 c.in_order-low.result.1 =
    λ h. named_are c.named-named.ensures (forest_of g.opening c.args.history.now) world.forest h ∙ c.in_order-low.ensures.same h in
    (within.0, (within.1, (world, names)))

pub keep-requires : goal.keep-requires
keep-requires g c = λ κs within.
    let world = c.requires.1.1 in
    let names : Names (forest_of g.opening c.args.history.now) c.args.step.now c.in_order-low.result.0 c.in_order-low.result.1 =
    λ h. named_are c.named-named.ensures (forest_of g.opening c.args.history.now) world.forest h ∙ c.in_order-low.ensures.same h in
    let more : IsRun g.opening (event_of c.args.step.now c.in_ok-answer.answer ∷ c.args.history.now) =
    (c.in_ok-answer.ensures, sym c.is_accepted.ensures ∙ c.if-not-is_accepted.false, world.is_run) in
    (within.0, (within.1, (world, (c.named-named.ensures, (names, (c.in_order-low.ensures.ordered, more))))))
