use Rattle.guardian.proofs.Whole.{inside, whole_same}
use Rattle.guardian.proofs.carrying.GuardianGuardian.plan_turn.Goals as goal

pub invariant_of-self : goal.invariant_of-self
invariant_of-self g c =
    let whole = c.self.invariant.1 in
    (_, whole_same g.S.Stable.seen c.self.inside.memory c.plan_turn.new.self c.self.inside.store c.self.invariant.0 whole (c.plan_turn.ensures.same c.self.invariant.0 whole.memory))

pub returns-clause-same : goal.returns-clause-same
returns-clause-same g c = λ s at.
    let whole = inside g.S.Stable.seen c.self.view_is at in
    whole_same g.S.Stable.seen c.self.inside.memory c.plan_turn.new.self c.self.inside.store s whole (c.plan_turn.ensures.same s whole.memory)
