use Rattle.std.proofs.Common.{ap, arith, get_or, length, subst, sym, ◌<◌, ◌≡◌, ◌∙◌}
use Rattle.std.proofs.lemmas.List.{length-take-le}
use Rattle.script_model.specs.Laws.{HasFewObjects}
use Rattle.script_engine.proofs.Limits.{few_at, room_for}
use Rattle.script_engine.proofs.running.setup_of.Goals as goal

pub add_guardian-requires-clause-room : goal.add_guardian-requires-clause-room
add_guardian-requires-clause-room c =
    let i = c.loop-objects.objects-index in
    let items = c.as_slice-objects-items.result.now in
    let same : length items ≡ length c.args.script.now.guardians = ap length c.as_slice-objects-items.ensures in
    let count : length c.loop-objects.setup ≡ i =
    ap length c.loop-objects.invariant ∙ length-take-le i items (omega (arith, c.loop-objects-test.true)) in
    room_for c.args.script.now c.requires c.loop-objects.setup i (omega (arith, c.loop-objects-test.true, same)) count

pub add_guardian-requires-clause-few : goal.add_guardian-requires-clause-few
add_guardian-requires-clause-few c =
    let i = c.loop-objects.objects-index in
    let all = c.as_slice-objects-items.ensures in
    let few =
    few_at c.args.script.now c.requires i c.objects-item.result (subst (λ gs. i < length gs) all (omega (arith, c.loop-objects-test.true)))
    (subst (λ gs. c.objects-item.result ≡ get_or gs i c.objects-item.result) all c.objects-item.is) in
    subst HasFewObjects (sym (c.in_ok-copies.ensures ∙ c.as_slice.ensures)) few
