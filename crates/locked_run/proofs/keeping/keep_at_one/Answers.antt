use Rattle.std.proofs.Common.{ap, subst, sym, ◌∷◌}
use Rattle.one_run.specs.Pieces.{seen_of}
use Rattle.one_run.specs.Rules.{Adds, MayAdd}
use Rattle.run_model.specs.declared.history.Event.{Event}
use Rattle.run_model.specs.Runs.{IsRun}
use Rattle.world_steps.specs.Standings.{forest_of, standing}
use Rattle.shared_run.specs.Places.{touches}
use Rattle.locked_run.specs.Acting.{StoreAfter}
use Rattle.locked_run.specs.Acting.Outcome.{failed}
use Rattle.locked_run.proofs.Acted.{first_failed, first_stored}
use Rattle.locked_run.proofs.Together.{answered, have_kept, may_add_it}
use Rattle.locked_run.proofs.keeping.keep_at_one.Goals as goal

pub keep_one-kept-requires-clause-stamp : goal.keep_one-kept-requires-clause-stamp
keep_one-kept-requires-clause-stamp g c =
    let o = g.K.OfRun.opening in
    let v = c.args.part.token.me.0 in
    let e : Event = c.args.event.now in
    let a = c.requires.locked in
    let r : IsRun o (e ∷ seen_of v) = (c.requires.answered, c.requires.accepted, a.registry.run) in (
      c.requires.left,
      subst (λ d. MayAdd (IsRun o) touches d v) (sym c.requires.deed) (may_add_it a e r c.requires.names),
    )

pub keep_one-kept-requires-clause-answered : goal.keep_one-kept-requires-clause-answered
keep_one-kept-requires-clause-answered g c =
    let o = g.K.OfRun.opening in
    let past = seen_of c.args.part.token.me.0 in
    let e : Event = c.args.event.now in
    let a = c.requires.locked in
    let r : IsRun o (e ∷ past) = (c.requires.answered, c.requires.accepted, a.registry.run) in (
      forest_of o past,
      standing o past c.args.number,
      answered a e r c.requires.names,
    )

pub returns-in-Ok-clause-locked : goal.returns-in-Ok-clause-locked
returns-in-Ok-clause-locked g c =
    let o = g.K.OfRun.opening in
    let v = c.args.part.token.me.0 in
    let w = c.keep_one-kept.new.stamp.part.token.me.0 in
    let past = seen_of v in
    let e : Event = c.args.event.now in
    let a = c.requires.locked in
    let r : IsRun o (e ∷ past) = (c.requires.answered, c.requires.accepted, a.registry.run) in
    let adds : Adds (IsRun o) touches e v c.in-Ok.stamp w = subst (λ d. Adds (IsRun o) touches d v c.in-Ok.stamp w) c.requires.deed c.in-Ok.ensures.drawn in
    have_kept a e r c.requires.names adds
    (c.in-Ok.ensures.done (forest_of o past) (standing o past c.args.number) (answered a e r c.requires.names))

pub returns-in-Ok-clause-store : goal.returns-in-Ok-clause-store
returns-in-Ok-clause-store g c =
    let o = g.K.OfRun.opening in
    let v = c.args.part.token.me.0 in
    let w = c.keep_one-kept.new.stamp.part.token.me.0 in
    let past = seen_of v in
    let e : Event = c.args.event.now in
    let a = c.requires.locked in
    let r : IsRun o (e ∷ past) = (c.requires.answered, c.requires.accepted, a.registry.run) in
    let adds : Adds (IsRun o) touches e v c.in-Ok.stamp w = subst (λ d. Adds (IsRun o) touches d v c.in-Ok.stamp w) c.requires.deed c.in-Ok.ensures.drawn in
    first_stored a c.args.event.now.step c.args.event.now.answer r c.requires.names adds _ _
    (c.in-Ok.ensures.store (forest_of o past) (standing o past c.args.number) (answered a e r c.requires.names))

pub returns-clause-store : goal.returns-clause-store
returns-clause-store g c =
    let o = g.K.OfRun.opening in
    let v = c.args.part.token.me.0 in
    let past = seen_of v in
    let e : Event = c.args.event.now in
    let a = c.requires.locked in
    let r : IsRun o (e ∷ past) = (c.requires.answered, c.requires.accepted, a.registry.run) in
    subst (λ l. StoreAfter o c.args.event.now.step (failed c.in-Err.fault) l c.args.number (g.G.Guardian.stored c.args.guardian.now) (g.G.Guardian.stored c.keep_one-kept.new.guardian))
    (ap (λ s. seen_of s.part.token.me.0) (sym c.in-Err.ensures.undrawn))
    (first_failed a c.args.event.now.step c.args.event.now.answer r c.requires.names _ _ c.in-Err.fault
    (c.in-Err.ensures.store (forest_of o past) (standing o past c.args.number) (answered a e r c.requires.names)))
