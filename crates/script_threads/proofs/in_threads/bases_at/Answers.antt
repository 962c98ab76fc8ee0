use Rattle.std.proofs.Common.{ap, refl, subst, sym, ◌+◌, ◌∙◌}
use Rattle.std.specs.Prelude.{IsNone}
use Rattle.run_model.specs.Openings.{opening_in}
use Rattle.world_steps.specs.Standings.{standing}
use Rattle.script_runs.proofs.Bases.{one_more_base}
use Rattle.script_threads.proofs.Standing.{base_where, object_there}
use Rattle.script_threads.proofs.in_threads.bases_at.Goals.{in-Some+in_ok-content+in_ok-insert, in_default}
use Rattle.script_threads.proofs.in_threads.bases_at.Goals as goal

pub loop-index-preserved : goal.loop-index-preserved
loop-index-preserved c w g at count = elim c.match-base.branch [
  | in-Some+in_ok-content+in_ok-insert s ↦
      one_more_base w g c.loop-index.index _ _ s.in_ok-content.field-0 (c.loop-index.invariant w g at count)
      (ap (λ m. m.entries) s.found-is ∙ s.in_ok-insert.ensures.entries)
      (base_where w g (c.loop-index.index + 1) c.args.guardian.now s.in_ok-content.field-0 at
      (s.in_ok-content.ensures ∙ s.in-Some.ensures.base (standing (opening_in w.lists) w.past g) at.stands))
  | in_default s ↦ absurd (object_there w g c.loop-index.index c.args.count c.args.guardian.now _ at count c.loop-index-test.true c.base.ensures.none (subst (λ r. IsNone r) (sym s.in_default.is) refl))
]
