use Rattle.values.proofs.Joined.{first_popped}
use Rattle.values.proofs.chunks.Chunks.pop_front.Goals as goal

pub returns-in-Some-clause-changed : goal.returns-in-Some-clause-changed
returns-in-Some-clause-changed c =
    (first_popped c.self.inside.front.items c.self.inside.middle.items c.self.inside.back.items c.refill_front.new.front.items c.refill_front.new.middle.items c.in-Some.item
    c.pop_front.new.self.items c.args.self.now c.in_ok-refill_front.ensures.items c.in-Some.ensures.items c.self.view_is).0

pub returns-in-Some-clause-item : goal.returns-in-Some-clause-item
returns-in-Some-clause-item c =
    (first_popped c.self.inside.front.items c.self.inside.middle.items c.self.inside.back.items c.refill_front.new.front.items c.refill_front.new.middle.items c.in-Some.item
    c.pop_front.new.self.items c.args.self.now c.in_ok-refill_front.ensures.items c.in-Some.ensures.items c.self.view_is).1
