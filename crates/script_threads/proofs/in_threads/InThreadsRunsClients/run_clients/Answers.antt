use Rattle.std.proofs.Common.{◌∙◌}
use Rattle.stable_store.specs.Plain.{plain_view}
use Rattle.registry.specs.Registries.{StandsIn}
use Rattle.world.specs.Worlds.{seen_of}
use Rattle.script_threads.proofs.Kept.{begins_there}
use Rattle.script_threads.proofs.in_threads.InThreadsRunsClients.run_clients.Goals as goal

pub in_run-requires-clause-world : goal.in_run-requires-clause-world
in_run-requires-clause-world g c κs within =
    begins_there (λ x. seen_of plain_view x) (StandsIn c.into_parts-opening.result.1) c.in_ok-world.world.run c.args.setup c.in_ok-start.start.run.table.shared.key
    c.into_parts-opening.result.2.items c.in_ok-world.ensures.new (c.in_ok-start.ensures ∙ c.deref.ensures ∙ c.into_parts-opening.ensures.opening)
    c.into_parts-opening.ensures.standing
