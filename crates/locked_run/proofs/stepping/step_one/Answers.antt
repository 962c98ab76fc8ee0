use Rattle.std.proofs.Common.{ap, length, refl, sym, ◌∙◌, ◌&&◌}
use Rattle.one_run.specs.Pieces.{seen_of}
use Rattle.layer_contracts.specs.declared.guardian.Fault.TheVariants.{Memory}
use Rattle.world_steps.specs.Standings.{forest_of, standing}
use Rattle.world_steps.proofs.WorldAgreed.{tellable_lent}
use Rattle.world_steps.proofs.Led.{answers_two}
use Rattle.locked_run.specs.Acting.{is_at_most}
use Rattle.locked_run.specs.Acting.Outcome.{elsewhere, failed}
use Rattle.locked_run.proofs.Acted.{moved_only, store_refused}
use Rattle.locked_run.proofs.Named.{covered, counted_is, names_are, one_is}
use Rattle.locked_run.proofs.Together.{lent}
use Rattle.locked_run.proofs.stepping.step_one.Goals as goal

pub returns-then-not-names_one-clause-moved : goal.returns-then-not-names_one-clause-moved
returns-then-not-names_one-clause-moved g c = moved_only elsewhere refl c.requires.locked.registry.seen

pub returns-then-not-names_one-clause-answered : goal.returns-then-not-names_one-clause-answered
returns-then-not-names_one-clause-answered g c =
    let o = g.K.OfRun.opening in
    let past = seen_of c.args.part.token.me.0 in
    let a = c.requires.locked.registry in
    let n = c.named-named.result in
    let count = counted_is o past c.opening.result.now c.setup.result.now c.guardians.result (c.opening.ensures.opening (forest_of o past) a.there) c.setup.ensures c.guardians.ensures.value in
    sym (one_is o past a.run c.named-named.ensures a.there (length o.setup) c.args.number)
    ∙ ap (λ m. is_at_most m c.args.number n.first && is_at_most m c.args.number n.second) (sym count)
    ∙ sym c.names_one.ensures ∙ c.if-not-names_one.true

pub finish_one-requires-clause-names : goal.finish_one-requires-clause-names
finish_one-requires-clause-names g c =
    let o = g.K.OfRun.opening in
    let past = seen_of c.args.part.token.me.0 in
    let a = c.requires.locked.registry in
    let n = c.named-named.result in
    let count = counted_is o past c.opening.result.now c.setup.result.now c.guardians.result (c.opening.ensures.opening (forest_of o past) a.there) c.setup.ensures c.guardians.ensures.value in
    sym (one_is o past a.run c.named-named.ensures a.there (length o.setup) c.args.number)
    ∙ ap (λ m. is_at_most m c.args.number n.first && is_at_most m c.args.number n.second) (sym count)
    ∙ sym c.names_one.ensures ∙ c.if-not-names_one.false

pub finish_one-requires-clause-answered : goal.finish_one-requires-clause-answered
finish_one-requires-clause-answered g c =
    let o = g.K.OfRun.opening in
    let past = seen_of c.args.part.token.me.0 in
    let a = c.requires.locked in
    let n = c.named-named.result in
    let g' = c.args.number in
    let count = counted_is o past c.opening.result.now c.setup.result.now c.guardians.result (c.opening.ensures.opening (forest_of o past) a.registry.there) c.setup.ensures c.guardians.ensures.value in
    let names = names_are o past a.registry.run c.named-named.ensures a.registry.there in
    let cover = covered (length o.setup) g' n.first n.second
    (ap (λ m. is_at_most m g' n.first && is_at_most m g' n.second) (sym count) ∙ sym c.names_one.ensures ∙ c.if-not-names_one.false) in
    c.in-Ok.ensures (forest_of o past) (standing o past g') (standing o past g') (lent a)
    (tellable_lent past o c.args.step.now n.first n.second g' g' (standing o past g') (standing o past g') a.registry.run names refl refl cover)
    ∙ answers_two past o c.args.step.now n.first n.second g' g' (standing o past g') (standing o past g') a.registry.run names refl refl cover

pub returns-in-Err-clause-moved : goal.returns-in-Err-clause-moved
returns-in-Err-clause-moved g c = moved_only (failed Memory) refl c.requires.locked.registry.seen

pub returns-in-Err-clause-store : goal.returns-in-Err-clause-store
returns-in-Err-clause-store g c =
    store_refused g.K.OfRun.opening c.args.step.now (seen_of c.args.part.token.me.0) c.args.number (g.G.Guardian.stored c.args.guardian.now) c.requires.store.1
