use Rattle.std.proofs.Common.{[], ap, arith, length, map, refl, subst, suc, sym, ◌+◌, ◌++◌, ◌<◌, ◌∙◌, ◌∷◌, ◌≡◌}
use Rattle.std.proofs.lemmas.Option.{slice_get_read}
use Rattle.run_model.specs.Openings.{objects_at}
use Rattle.script_threads.specs.ThreadRuns.{StandsAt}
use Rattle.std.proofs.lemmas.List.{length_push, map-append}
use Rattle.script_runs.specs.SerialRuns.{bases_at, bases_of_first}
use Rattle.script_threads.proofs.in_threads.bases_of.Goals as goal

pub loop-index-preserved : goal.loop-index-preserved
loop-index-preserved c =
    let i = c.loop-index.index in
    let found = c.loop-index.found.items in
    let next : i + 1 ≡ suc i = omega arith in
    record {
      count = ap length c.in_ok-push.ensures.items ∙ length_push found c.in_ok-bases_at.field-0 ∙ ap (λ n. n + 1) c.loop-index.invariant.count;
      bases = λ w at.
          let guardians = c.args.guardians.now in
          let one = c.index-guardians-index.result in
          let lt : i < length guardians = omega (arith, c.requires, c.loop-index-test.true, c.guardians-index-end.ensures.value) in
          let stands = at.each i one (slice_get_read guardians (length guardians) i one refl lt c.index-guardians-index.is) in
          let here = subst (λ x. StandsAt w (i + 1) x.value) c.index-guardians-index.is stands in
          let many = ap length (c.objects.ensures.found (omega arith)) ∙ ap (λ s. length (objects_at s (i + 1))) (sym at.setup_is) in
          let own : c.in_ok-bases_at.field-0.entries ≡ bases_at w (i + 1) = c.in_ok-bases_at.ensures w (i + 1) here many in
          ap (map (λ base. base.entries)) c.in_ok-push.ensures.items ∙ map-append (λ base. base.entries) found (c.in_ok-bases_at.field-0 ∷ [])
          ∙ (λ k. c.loop-index.invariant.bases w at k ++ own k ∷ [])
          ∙ (λ k. bases_of_first w i ++ bases_at w (next k) ∷ []) ∙ ap (bases_of_first w) (sym next);
    }
