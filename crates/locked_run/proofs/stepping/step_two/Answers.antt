use Rattle.std.proofs.Common.{inl, refl, sym, ◌∙◌}
use Rattle.one_run.specs.Pieces.{seen_of}
use Rattle.layer_contracts.specs.declared.guardian.Fault.TheVariants.{Memory}
use Rattle.world_steps.specs.Standings.{forest_of, standing}
use Rattle.world_steps.proofs.WorldAgreed.{tellable_lent}
use Rattle.world_steps.proofs.Led.{answers_two}
use Rattle.locked_run.specs.Acting.Outcome.{elsewhere, failed}
use Rattle.locked_run.proofs.Acted.{moved_only, store_refused}
use Rattle.locked_run.proofs.Named.{names_two_are, two_is}
use Rattle.locked_run.proofs.Together.{lent}
use Rattle.locked_run.proofs.stepping.step_two.Goals as goal

pub returns-then-not-names_two-clause-moved : goal.returns-then-not-names_two-clause-moved
returns-then-not-names_two-clause-moved g c = moved_only elsewhere refl c.requires.locked.registry.seen

pub returns-then-not-names_two-clause-answered : goal.returns-then-not-names_two-clause-answered
returns-then-not-names_two-clause-answered g c =
    let a = c.requires.locked.registry in
    sym (two_is g.K.OfRun.opening (seen_of c.args.part.token.me.0) a.run c.named-named.ensures a.there c.args.low c.args.high)
    ∙ sym c.names_two.ensures ∙ c.if-not-names_two.true

pub finish_two-requires-clause-names : goal.finish_two-requires-clause-names
finish_two-requires-clause-names g c =
    let a = c.requires.locked.registry in
    names_two_are g.K.OfRun.opening (seen_of c.args.part.token.me.0) a.run c.named-named.ensures a.there c.args.low c.args.high
    (sym c.names_two.ensures ∙ c.if-not-names_two.false)

pub finish_two-requires-clause-answered : goal.finish_two-requires-clause-answered
finish_two-requires-clause-answered g c =
    let o = g.K.OfRun.opening in
    let past = seen_of c.args.part.token.me.0 in
    let a = c.requires.locked in
    let low = c.args.low in
    let high = c.args.high in
    let names = names_two_are o past a.registry.run c.named-named.ensures a.registry.there low high (sym c.names_two.ensures ∙ c.if-not-names_two.false) in
    c.in-Ok.ensures (forest_of o past) (standing o past low) (standing o past high) (lent a)
    (tellable_lent past o c.args.step.now low high low high (standing o past low) (standing o past high) a.registry.run names refl refl (λ k h. inl h))
    ∙ answers_two past o c.args.step.now low high low high (standing o past low) (standing o past high) a.registry.run names refl refl (λ k h. inl h)

pub returns-in-Err-clause-moved : goal.returns-in-Err-clause-moved
returns-in-Err-clause-moved g c = moved_only (failed Memory) refl c.requires.locked.registry.seen

pub returns-in-Err-clause-first_store : goal.returns-in-Err-clause-first_store
returns-in-Err-clause-first_store g c =
    store_refused g.K.OfRun.opening c.args.step.now (seen_of c.args.part.token.me.0) c.args.low (g.G.Guardian.stored c.args.one.now) c.requires.first_store.1

pub returns-in-Err-clause-second_store : goal.returns-in-Err-clause-second_store
returns-in-Err-clause-second_store g c =
    store_refused g.K.OfRun.opening c.args.step.now (seen_of c.args.part.token.me.0) c.args.high (g.G.Guardian.stored c.args.other.now) c.requires.second_store.1
