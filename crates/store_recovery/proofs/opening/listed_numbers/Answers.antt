use Rattle.std.proofs.Common.{refl}
use Rattle.store_recovery.proofs.Said.{listed_more}
use Rattle.store_recovery.proofs.opening.listed_numbers.Goals as goal

pub loop-number-preserved : goal.loop-number-preserved
loop-number-preserved c =
    listed_more c.loop-number.listed.items c.push.new.self.items c.loop-number.number-iterator c.next.new.self c.args.numbers.now.keys
    c.in-Some.field-0.now c.in-Some.field-0.now c.in_ok-push.ensures.items c.in-Some.ensures.steps refl c.loop-number.invariant
