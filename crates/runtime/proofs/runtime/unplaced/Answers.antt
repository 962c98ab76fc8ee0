use Rattle.std.proofs.Common.{arith}
use Rattle.std.proofs.lemmas.Iterator.Adapters.{YieldsList-from_vec}
use Rattle.std.proofs.lemmas.Iterator.Consumers.{YieldsList-end, YieldsList-turn}
use Rattle.runtime.proofs.runtime.unplaced.Goals as goal

pub push_reserved-requires : goal.push_reserved-requires
push_reserved-requires g c =
    let all = c.args.places.items in
    let t = YieldsList-turn (YieldsList-from_vec all (cc) (cc)) c.loop-place.yielded _ c.loop-place.yielded_by _ c.next.new.self c.in-Some.place c.in-Some.is c.next.ensures.steps in
    omega (arith, t.0, c.loop-place.invariant.count, c.loop-place.invariant.room, c.loop-place.held.ok)

pub returns : goal.returns
returns g c =
    let all = c.args.places.items in
    let e = YieldsList-end (YieldsList-from_vec all (cc) (cc)) c.loop-place.yielded _ c.loop-place.yielded_by _ c.next.new.self c.in-None.is c.next.ensures.steps in
    let ok = c.loop-place.held.ok in
    omega (arith, ok, e.1, c.loop-place.invariant.count)
