use Rattle.std.proofs.Common.{refl}
use Rattle.orphans.proofs.Histories.{kept}
use Rattle.orphans.proofs.lists.Lists.plan_lesson.Goals as goal

pub returns-then-is_empty-clause-fits : goal.returns-then-is_empty-clause-fits
returns-then-is_empty-clause-fits c = λ some. absurd (some (c.is_empty.ensures.0 c.if-is_empty.true))

pub returns-in_err-plan_room-clause-same : goal.returns-in_err-plan_room-clause-same
returns-in_err-plan_room-clause-same c = λ here are. kept c.args.self.now _ _ _ c.plan_room.ensures.names refl (λ h life. refl) here are

pub returns-in_err-plan_room-2-clause-same : goal.returns-in_err-plan_room-2-clause-same
returns-in_err-plan_room-2-clause-same c = λ here are. kept c.args.self.now _ _ _ c.plan_room.ensures.names c.plan_room-2.ensures.counts (λ h life. refl) here are

pub returns-clause-same : goal.returns-clause-same
returns-clause-same c = λ here are.
    kept c.args.self.now _ _ _ c.plan_room.ensures.names c.plan_room-2.ensures.counts c.plan_place.ensures.same here are
