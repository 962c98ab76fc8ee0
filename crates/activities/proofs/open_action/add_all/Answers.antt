use Rattle.std.proofs.Common.{ap}
use Rattle.std.proofs.lemmas.Map.Iter.{rest_all, rest_more}
use Rattle.std.specs.Map.Iter.{deref}
use Rattle.activities.specs.Serial.{joined}
use Rattle.activities.proofs.Committing.{join_ends, join_goes}
use Rattle.activities.proofs.open_action.add_all.Goals as goal

pub loop-guardian-init : goal.loop-guardian-init
loop-guardian-init c = ap (joined c.args.to.now.keys) c.into_iter-guardian-iterator.ensures.into_iter_gives.0

pub loop-guardian-preserved : goal.loop-guardian-preserved
loop-guardian-preserved c =
    join_goes c.in-Some.guardian.now _ _ c.args.guardians.now.keys c.args.to.now.keys c.loop-guardian.to.keys c.insert.new.self.keys
    (rest_more deref _ _ _ c.in-Some.guardian c.in-Some.is c.next.ensures.steps) c.in_ok-insert.ensures.keys c.loop-guardian.invariant

pub returns : goal.returns
returns c =
    join_ends _ c.args.guardians.now.keys c.args.to.now.keys c.loop-guardian.to.keys
    (rest_all deref _ _ _ c.in-None.is c.next.ensures.steps) c.loop-guardian.invariant
