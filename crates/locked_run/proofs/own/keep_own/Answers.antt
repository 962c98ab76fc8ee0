use Rattle.std.proofs.Common.{ap, subst, sym, ◌∷◌}
use Rattle.one_run.specs.Pieces.{seen_of}
use Rattle.one_run.specs.Rules.{Adds, MayAdd}
use Rattle.run_model.specs.Runs.{IsRun}
use Rattle.world_steps.specs.Standings.{standing}
use Rattle.shared_run.specs.Places.{touches}
use Rattle.locked_run.specs.Acting.{StoreAfter}
use Rattle.locked_run.specs.Acting.Outcome.{failed}
use Rattle.locked_run.proofs.ByItself.{has_kept, may_add_it, next_here, own_begins, own_kind, store_failed, store_kept}
use Rattle.locked_run.proofs.own.keep_own.Goals as goal

pub keep_by_itself-kept-requires-clause-stamp : goal.keep_by_itself-kept-requires-clause-stamp
keep_by_itself-kept-requires-clause-stamp g c =
    let o = g.K.OfRun.opening in
    let v = c.args.part.token.me.0 in
    let h = c.requires.here in
    let r : IsRun o (c.args.event.now ∷ seen_of v) = (c.requires.answered, c.requires.accepted, h.run) in (
      c.requires.left,
      subst (λ d. MayAdd (IsRun o) touches d v) (sym c.requires.deed) (may_add_it h c.args.event.now.step c.args.event.now.answer r c.requires.own),
    )

pub keep_by_itself-kept-requires-clause-next : goal.keep_by_itself-kept-requires-clause-next
keep_by_itself-kept-requires-clause-next g c =
    let o = g.K.OfRun.opening in
    let v = c.args.part.token.me.0 in
    let h = c.requires.here in
    let r : IsRun o (c.args.event.now ∷ seen_of v) = (c.requires.answered, c.requires.accepted, h.run) in
    (standing o (seen_of v) c.args.number, h.here, next_here h c.args.event.now.step c.args.event.now.answer r c.requires.own)

pub keep_by_itself-kept-requires-clause-own : goal.keep_by_itself-kept-requires-clause-own
keep_by_itself-kept-requires-clause-own g c = own_kind c.args.number c.args.event.now.step (seen_of c.args.part.token.me.0) c.requires.own

pub keep_by_itself-kept-requires-clause-begins : goal.keep_by_itself-kept-requires-clause-begins
keep_by_itself-kept-requires-clause-begins g c =
    let past = seen_of c.args.part.token.me.0 in
    own_begins g.K.OfRun.opening c.args.event.now past (c.requires.answered, c.requires.accepted, c.requires.here.run)
    (own_kind c.args.number c.args.event.now.step past c.requires.own)

pub returns-in-Ok-clause-here : goal.returns-in-Ok-clause-here
returns-in-Ok-clause-here g c =
    let o = g.K.OfRun.opening in
    let v = c.args.part.token.me.0 in
    let w = c.keep_by_itself-kept.new.stamp.part.token.me.0 in
    let h = c.requires.here in
    let step = c.args.event.now.step in
    let answer = c.args.event.now.answer in
    let r : IsRun o (c.args.event.now ∷ seen_of v) = (c.requires.answered, c.requires.accepted, h.run) in
    let adds : Adds (IsRun o) touches c.args.event.now v c.in-Ok.stamp w = subst (λ d. Adds (IsRun o) touches d v c.in-Ok.stamp w) c.requires.deed c.in-Ok.ensures.drawn in
    has_kept h step answer r c.requires.own adds (c.in-Ok.ensures.kept (standing o (seen_of v) c.args.number) h.here (next_here h step answer r c.requires.own))

pub returns-in-Ok-clause-store : goal.returns-in-Ok-clause-store
returns-in-Ok-clause-store g c =
    let o = g.K.OfRun.opening in
    let v = c.args.part.token.me.0 in
    let w = c.keep_by_itself-kept.new.stamp.part.token.me.0 in
    let h = c.requires.here in
    let step = c.args.event.now.step in
    let answer = c.args.event.now.answer in
    let r : IsRun o (c.args.event.now ∷ seen_of v) = (c.requires.answered, c.requires.accepted, h.run) in
    let adds : Adds (IsRun o) touches c.args.event.now v c.in-Ok.stamp w = subst (λ d. Adds (IsRun o) touches d v c.in-Ok.stamp w) c.requires.deed c.in-Ok.ensures.drawn in
    store_kept h step answer r c.requires.own adds (g.G.Guardian.stored c.args.guardian.now) (g.G.Guardian.stored c.keep_by_itself-kept.new.guardian)
    (c.in-Ok.ensures.store (standing o (seen_of v) c.args.number) h.here (next_here h step answer r c.requires.own))

pub returns-in-Err-clause-store : goal.returns-in-Err-clause-store
returns-in-Err-clause-store g c =
    let o = g.K.OfRun.opening in
    let v = c.args.part.token.me.0 in
    let h = c.requires.here in
    let step = c.args.event.now.step in
    let answer = c.args.event.now.answer in
    let r : IsRun o (c.args.event.now ∷ seen_of v) = (c.requires.answered, c.requires.accepted, h.run) in
    subst (λ l. StoreAfter o step (failed c.in-Err.fault) l c.args.number (g.G.Guardian.stored c.args.guardian.now) (g.G.Guardian.stored c.keep_by_itself-kept.new.guardian))
    (ap (λ s. seen_of s.part.token.me.0) (sym c.in-Err.ensures.undrawn))
    (store_failed h step answer r c.requires.own (g.G.Guardian.stored c.args.guardian.now) (g.G.Guardian.stored c.keep_by_itself-kept.new.guardian) c.in-Err.fault
    (c.in-Err.ensures.store (standing o (seen_of v) c.args.number) h.here (next_here h step answer r c.requires.own)))
