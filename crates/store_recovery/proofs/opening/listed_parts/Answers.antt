use Rattle.std.proofs.Common.{ap}
use Rattle.store_recovery.proofs.Said.{listed_more}
use Rattle.store_recovery.proofs.opening.listed_parts.Goals as goal

pub loop-object-preserved : goal.loop-object-preserved
loop-object-preserved c =
    listed_more c.loop-object.listed.items c.push.new.self.items c.loop-object.object-iterator c.next.new.self c.args.parts.now.entries
    (c.in-Some.field-0-0.now, c.in_ok-copy.field-0) (c.in-Some.field-0-0.now, c.in-Some.part.now) c.in_ok-push.ensures.items c.in-Some.ensures.steps
    (ap (λ p. (c.in-Some.field-0-0.now, p)) c.in_ok-copy.ensures) c.loop-object.invariant
