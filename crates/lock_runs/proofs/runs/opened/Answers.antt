use Rattle.std.proofs.Common.{[], ap, subst, sym, ◌∙◌, ◌≡◌}
use Rattle.guardian.specs.Guardians.{IsWhole}
use Rattle.world_steps.specs.Standings.{IsWorld}
use Rattle.registry.specs.Registries.{StandsIn}
use Rattle.run_model.specs.Openings.{opening_in}
use Rattle.stable_store.specs.Plain.{plain_view}
use Rattle.world.specs.Worlds.{seen_of}
use Rattle.lock_runs.proofs.runs.opened.Goals as goal

pub returns-clause-world : goal.returns-clause-world
returns-clause-world c =
    let run = c.in_ok-world_of.field-0.run in
    let registry = c.into_parts-opening.result.1 in
    let guardians = c.into_parts-opening.result.2.items in
    let key : c.in_ok-start.start.run.table.shared.key ≡ run.lists = c.in_ok-start.ensures ∙ c.deref.ensures ∙ c.into_parts-opening.ensures.opening in
    subst (λ o. IsWorld (λ g s. IsWhole plain_view g s) (λ g. seen_of plain_view g) (StandsIn registry) o [] guardians) (ap opening_in (sym key))
    (subst (λ past. IsWorld (λ g s. IsWhole plain_view g s) (λ g. seen_of plain_view g) (StandsIn registry) (opening_in run.lists) past guardians) c.in_ok-world_of.ensures
    c.into_parts-opening.ensures.standing)
