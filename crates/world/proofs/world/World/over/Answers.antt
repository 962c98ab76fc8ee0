use Rattle.std.proofs.Common.{[], subst, sym}
use Rattle.std.specs.Arc.{arc_value}
use Rattle.run_model.specs.Openings.{opening_in}
use Rattle.guardian.specs.Guardians.{IsWhole}
use Rattle.registry.specs.Registries.{StandsIn}
use Rattle.world_steps.specs.Standings.{IsWorld}
use Rattle.world.specs.Worlds.{AreFirst, seen_of}
use Rattle.world.proofs.First.{stands_first}
use Rattle.world.proofs.world.World.over.Goals as goal

pub invariant_of-result : goal.invariant_of-result
invariant_of-result g c =
    let lists = arc_value c.in-Ok.beginning.opening in
    let gs = c.guardians-guardians.result.items in
    subst (λ past. IsWorld (λ x s. IsWhole g.S.Stable.seen x s) (λ x. seen_of g.S.Stable.seen x) (λ f. StandsIn c.in-Ok.beginning.registry f) (opening_in lists) past gs) (sym c.new.ensures)
    (stands_first g.S.Stable.seen (opening_in lists) c.in-Ok.beginning.registry gs
    (subst (λ l. StandsIn c.in-Ok.beginning.registry (record { opening = opening_in l; registry = [] })) (sym c.in-Ok.ensures.opening) c.in-Ok.ensures.registry)
    (subst (λ l. AreFirst g.S.Stable.seen (opening_in l) gs) c.deref.ensures c.guardians-guardians.ensures.first))
