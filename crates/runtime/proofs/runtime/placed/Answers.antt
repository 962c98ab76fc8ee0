use Rattle.std.proofs.Common.{arith}
use Rattle.std.proofs.lemmas.Iterator.Adapters.{YieldsList-from_vec}
use Rattle.std.proofs.lemmas.Iterator.Consumers.{YieldsList-end, YieldsList-turn}
use Rattle.runtime.proofs.runtime.placed.Goals as goal

pub push_reserved-requires : goal.push_reserved-requires
push_reserved-requires g c =
    let all = c.args.guardians.items in
    let t = YieldsList-turn (YieldsList-from_vec all (cc) (cc)) c.loop-held.yielded _ c.loop-held.yielded_by _ c.next.new.self c.in-Some.held c.in-Some.is c.next.ensures.steps in
    omega (arith, t.0, c.loop-held.invariant.count, c.loop-held.invariant.room, c.loop-held.places.ok)

pub returns : goal.returns
returns g c =
    let all = c.args.guardians.items in
    let e = YieldsList-end (YieldsList-from_vec all (cc) (cc)) c.loop-held.yielded _ c.loop-held.yielded_by _ c.next.new.self c.in-None.is c.next.ensures.steps in
    let ok = c.loop-held.places.ok in
    omega (arith, ok, e.1, c.loop-held.invariant.count)
