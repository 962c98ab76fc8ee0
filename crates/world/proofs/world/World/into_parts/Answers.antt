use Rattle.std.proofs.Common.{subst}
use Rattle.run_model.specs.Openings.{opening_in}
use Rattle.guardian.specs.Guardians.{InParts, IsWhole}
use Rattle.registry.specs.Registries.{StandsIn}
use Rattle.stable_store.specs.Calls.{View}
use Rattle.world_steps.specs.Standings.{IsWorld}
use Rattle.world.specs.Worlds.{seen_of}
use Rattle.world.proofs.world.World.into_parts.Goals as goal

pub returns-clause-standing : goal.returns-clause-standing
returns-clause-standing g c =
    let stored : InParts _ → View = λ x. seen_of g.S.Stable.seen x in
    let gs = c.self.inside.guardians.items in
    subst (λ w. IsWorld (λ x s. IsWhole g.S.Stable.seen x s) stored (λ f. StandsIn c.self.inside.registry f) (opening_in w.run.lists) w.run.past gs)
    c.self.view_is c.self.invariant
