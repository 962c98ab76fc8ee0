use Rattle.std.proofs.Common.{true}
use Rattle.volatile_state.specs.Plans.{AreRecorded}
use Rattle.volatile_state.proofs.Kept.{crash_follows, crashes_within, fits_within, follows_where, planned_where, stands_after_where, survivors_top}
use Rattle.volatile_state.proofs.Sound.{lists_room, told_room}
use Rattle.volatile_state.proofs.memory.Memory.crash.Goals as goal

pub crash-requires-clause-fits : goal.crash-requires-clause-fits
crash-requires-clause-fits g c = (fits_within c.self.view_is c.requires.fits).heard

pub crash-requires-clause-count : goal.crash-requires-clause-count
crash-requires-clause-count g c = told_room c.self.invariant.1 (fits_within c.self.view_is c.requires.fits).count

pub crash-requires-2 : goal.crash-requires-2
crash-requires-2 g c = lists_room c.self.invariant.1 (fits_within c.self.view_is c.requires.fits).count

pub enter-requires-clause-fits : goal.enter-requires-clause-fits
enter-requires-clause-fits g c = (fits_within c.self.view_is c.requires.fits).entry

pub enter-requires-clause-count : goal.enter-requires-clause-count
enter-requires-clause-count g c = (fits_within c.self.view_is c.requires.fits).count

pub crash-requires-3 : goal.crash-requires-3
crash-requires-3 g c =
    let planned = planned_where (AreRecorded (g.S.Survivors.stays c.args.survivors.now)) c.self.view_is c.requires.planned in
    record { tops = survivors_top planned.2 (g.S.Survivors.stays c.args.survivors.now) planned.5 }

pub invariant_of-self : goal.invariant_of-self
invariant_of-self g c =
    stands_after_where (AreRecorded (g.S.Survivors.stays c.args.survivors.now)) (planned_where (AreRecorded (g.S.Survivors.stays c.args.survivors.now)) c.self.view_is c.requires.planned)
    (crash_follows _ c.args.plan.now c.args.event.now c.args.stamp _ _ _ _ (g.S.Survivors.stays c.args.survivors.now)
    (crashes_within c.args.self.now _ c.args.event.now.step true c.self.view_is c.requires.down)
    c.crash.ensures.told c.crash.ensures.crashes c.crash-2.ensures.lists c.crash-2.ensures.own c.enter.ensures c.crash-3.ensures.crashed c.crash-3.ensures.guardian)

pub returns : goal.returns
returns g c =
    follows_where (AreRecorded (g.S.Survivors.stays c.args.survivors.now)) c.self.view_is
    (crash_follows _ c.args.plan.now c.args.event.now c.args.stamp _ _ _ _ (g.S.Survivors.stays c.args.survivors.now)
    (crashes_within c.args.self.now _ c.args.event.now.step true c.self.view_is c.requires.down)
    c.crash.ensures.told c.crash.ensures.crashes c.crash-2.ensures.lists c.crash-2.ensures.own c.enter.ensures c.crash-3.ensures.crashed c.crash-3.ensures.guardian)
