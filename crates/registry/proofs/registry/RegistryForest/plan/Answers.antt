use Rattle.registry.proofs.registry.RegistryForest.plan.Goals as goal

pub invariant_of-self : goal.invariant_of-self
invariant_of-self c = (c.self.invariant.0, c.plan.ensures.same _ _ c.self.invariant.1)

pub invariant_of-self-2 : goal.invariant_of-self-2
invariant_of-self-2 c = (c.self.invariant.0, c.plan.ensures.same _ _ c.self.invariant.1)
