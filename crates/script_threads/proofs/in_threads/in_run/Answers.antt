use Rattle.std.proofs.Common.{ap, map, subst, sym, ◌∙◌, ◌≡◌}
use Rattle.std.specs.Arc.{arc_value}
use Rattle.run_model.specs.Openings.{OpeningLists, opening_in}
use Rattle.run_model.specs.Runs.{World}
use Rattle.stable_store.specs.Plain.{plain_view}
use Rattle.registry.specs.Registries.{StandsIn}
use Rattle.world_steps.specs.Standings.{forest_of}
use Rattle.world.specs.Worlds.{seen_of}
use Rattle.script_threads.specs.ThreadRuns.{AreAt, kept_run}
use Rattle.script_threads.proofs.Kept.{all_have_ended, came_of, ends_kept, stand_there}
use Rattle.script_threads.proofs.in_threads.in_run.Goals as goal

pub invariant_of-system : goal.invariant_of-system
invariant_of-system g c = record {
  kept =
      ends_kept c.args.script.now (arc_value c.args.opening) g.K.OfRun.opening (sym c.requires.named ∙ ap opening_in c.requires.opening) (λ x. seen_of plain_view x)
      (λ x. StandsIn x) c.in-Ok.ran.1 c.in-Ok-close_all.closed c.in-Ok-close_all.ensures.closed;
}

pub returns-in-Ok-close_all-clause-came : goal.returns-in-Ok-close_all-clause-came
returns-in-Ok-close_all-clause-came g c =
    let lists = arc_value c.args.opening in
    let closed = c.in-Ok-close_all.closed in
    let same = sym c.requires.named ∙ ap opening_in c.requires.opening in
    let stand =
    stand_there c.args.script.now lists g.K.OfRun.opening same (λ x. seen_of plain_view x) (λ x. StandsIn x) c.in-Ok.ran.1 closed
    c.in-Ok-close_all.ensures.closed in
    let w : World = record { lists = lists; past = kept_run closed } in
    let setup : c.setup.result.now ≡ lists.setup = c.setup.ensures ∙ ap (λ (l : OpeningLists). l.setup) c.deref-in-Ok-close_all.ensures in
    let ended =
    all_have_ended c.args.script.now lists g.K.OfRun.opening same (λ x. seen_of plain_view x) (λ x. StandsIn x) c.in-Ok.ran.1 closed
    c.in-Ok-close_all.ensures.closed
    (sym (c.in_ok-have_all_ended-in-Ok-close_all.ensures (forest_of g.K.OfRun.opening c.in-Ok-close_all.ensures.closed.past)
    c.in-Ok-close_all.ensures.closed.ends.world.forest) ∙ c.if-not-branch.false) in
    let there : AreAt w c.setup.result.now c.as_slice.result.now =
    subst (λ s. AreAt w s c.as_slice.result.now) (sym setup) (subst (λ gs. AreAt w lists.setup gs) (sym c.as_slice.ensures.value) stand) in
    came_of c.args.script.now lists g.K.OfRun.opening same (λ x. seen_of plain_view x) (λ x. StandsIn x) c.in-Ok.ran.1 closed
    c.in-Ok-close_all.ensures.closed c.in-Ok.ran.0.items (map (λ base. base.entries) c.in-Ok-bases_of.bases.items) c.in-Ok.ensures.did
    ended (c.in-Ok-bases_of.ensures.bases w there)
