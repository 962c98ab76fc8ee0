use Rattle.std.proofs.Common.{false}
use Rattle.volatile_state.proofs.Kept.{crashes_within, fits_within, follows_without, kept_follows, may_hear, planned_within, stands_after}
use Rattle.volatile_state.proofs.memory.Memory.keep.Goals as goal

pub hear-requires : goal.hear-requires
hear-requires c = (fits_within c.self.view_is c.requires.fits).heard

pub learn-requires : goal.learn-requires
learn-requires c = (fits_within c.self.view_is c.requires.fits).lesson

pub enter-requires-clause-fits : goal.enter-requires-clause-fits
enter-requires-clause-fits c = (fits_within c.self.view_is c.requires.fits).entry

pub enter-requires-clause-count : goal.enter-requires-clause-count
enter-requires-clause-count c = (fits_within c.self.view_is c.requires.fits).count

pub tell-requires-clause-fits : goal.tell-requires-clause-fits
tell-requires-clause-fits c = (fits_within c.self.view_is c.requires.fits).planned

pub tell-requires-clause-heard : goal.tell-requires-clause-heard
tell-requires-clause-heard c =
    let planned = planned_within c.self.view_is c.requires.planned in
    may_hear planned.2 planned.3

pub invariant_of-self : goal.invariant_of-self
invariant_of-self c =
    stands_after (planned_within c.self.view_is c.requires.planned)
    (kept_follows _ c.args.plan.now c.args.event.now c.args.stamp _ _ _ _ c.requires.other (crashes_within c.args.self.now _ c.args.event.now.step false c.self.view_is c.requires.up)
    c.hear.ensures.told c.hear.ensures.crashes c.learn.ensures.lists c.learn.ensures.own c.enter.ensures c.tell.ensures.told c.tell.ensures.guardian)

pub returns : goal.returns
returns c =
    follows_without c.self.view_is
    (kept_follows _ c.args.plan.now c.args.event.now c.args.stamp _ _ _ _ c.requires.other (crashes_within c.args.self.now _ c.args.event.now.step false c.self.view_is c.requires.up)
    c.hear.ensures.told c.hear.ensures.crashes c.learn.ensures.lists c.learn.ensures.own c.enter.ensures c.tell.ensures.told c.tell.ensures.guardian)
