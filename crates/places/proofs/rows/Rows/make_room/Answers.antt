use Rattle.std.proofs.Common.{None, [], ap, arith, length, ◌∙◌, ◌∷◌}
use Rattle.std.proofs.lemmas.List.{length-append}
use Rattle.places.specs.Rows.{row_at}
use Rattle.places.proofs.Standing.{at_empty}
use Rattle.places.proofs.rows.Rows.make_room.Goals as goal

pub loop-preserved : goal.loop-preserved
loop-preserved g c = record {
  same = λ i. ap (λ rows. row_at rows i) c.in_ok-push.ensures.items ∙ at_empty c.loop.self-inside.rows.items i ∙ c.loop.invariant.same i;
  count = omega (arith, ap length c.in_ok-push.ensures.items, length-append c.loop.self-inside.rows.items (None ∷ []), c.loop.invariant.count);
  within = omega (arith, ap length c.in_ok-push.ensures.items, length-append c.loop.self-inside.rows.items (None ∷ []), c.loop.invariant.count);
}
