use Rattle.std.proofs.Common.{◌∙◌}
use Rattle.stable_store.specs.Plain.{plain_view}
use Rattle.registry.specs.Registries.{StandsIn}
use Rattle.world.specs.Worlds.{seen_of}
use Rattle.script_threads.proofs.Kept.{begins_there}
use Rattle.thread_rows.proofs.meeting.gate_two_arms.Goals as goal

pub meet_in-requires-clause-world : goal.meet_in-requires-clause-world
meet_in-requires-clause-world g c κs within =
    begins_there (λ x. seen_of plain_view x) (StandsIn c.into_parts-opening.result.1) c.in_ok-world.world.run _ c.in_ok-start.start.run.table.shared.key
    c.into_parts-opening.result.2.items c.in_ok-world.ensures.new (c.in_ok-start.ensures ∙ c.deref.ensures ∙ c.into_parts-opening.ensures.opening)
    c.into_parts-opening.ensures.standing
