use Rattle.std.proofs.Common.{None}
use Rattle.layer_contracts.specs.Guardians.{stamped}
use Rattle.layer_contracts.proofs.Stores.{quiet_event}
use Rattle.guardian.proofs.Stores.{alone}
use Rattle.guardian.proofs.Whole.{fits_within, inside, plan_within, planned_within, quiet_in, whole_next}
use Rattle.guardian.proofs.carrying.GuardianGuardian.install.Goals as goal

pub keep-requires-clause-fits : goal.keep-requires-clause-fits
keep-requires-clause-fits g c = fits_within c.self.view_is c.requires.fits

pub keep-requires-clause-planned : goal.keep-requires-clause-planned
keep-requires-clause-planned g c =
    let planned = planned_within g.S.Stable.seen c.args.event.now c.self.view_is c.requires.planned in
    (planned.0, planned.1, planned.2.memory, planned.3, planned.4, λ crash. planned.2.store.stored)

pub invariant_of-self : goal.invariant_of-self
invariant_of-self g c =
    let m = c.self.inside.memory in
    let s = c.self.inside.store in
    let seen = g.S.Stable.seen in
    let planned = planned_within seen c.args.event.now c.self.view_is c.requires.planned in
    let here = inside seen c.self.view_is c.requires.quiet.1 in (
      _,
      whole_next seen m s c.args.stamp planned.0 planned.1 c.keep.new.memory s planned.2 planned.3.next
          (c.keep.ensures planned.0 planned.1 planned.2.memory planned.3 planned.4 (λ crash. planned.2.store.stored))
          (alone planned.0 planned.1 (seen s) None
          (quiet_event planned.0.number (stamped 0 planned.1) (seen s).content (quiet_in planned.2.memory here.memory planned.1 c.args.event.now planned.4 c.requires.quiet.2))),
    )

pub returns-clause-kept : goal.returns-clause-kept
returns-clause-kept g c = λ h news at of same.
    let m = c.self.inside.memory in
    let s = c.self.inside.store in
    let seen = g.S.Stable.seen in
    let whole = inside seen c.self.view_is at in
    let here = inside seen c.self.view_is c.requires.quiet.1 in
    let planned = plan_within c.self.view_is h news of in
    whole_next seen m s c.args.stamp h news c.keep.new.memory s whole planned.next
    (c.keep.ensures h news whole.memory planned same (λ crash. whole.store.stored))
    (alone h news (seen s) None
    (quiet_event h.number (stamped 0 news) (seen s).content (quiet_in whole.memory here.memory news c.args.event.now same c.requires.quiet.2)))
