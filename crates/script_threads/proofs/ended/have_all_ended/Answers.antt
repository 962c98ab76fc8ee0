use Rattle.std.proofs.Common.{arith, length, reverse, ◌<◌}
use Rattle.std.proofs.lemmas.List.{length-reverse}
use Rattle.run_model.specs.LocalHistories.{events_there}
use Rattle.script_threads.proofs.AllEnded.{not_ended, one_more_ended}
use Rattle.script_threads.proofs.ended.have_all_ended.Goals as goal

pub returns-then-not-branch : goal.returns-then-not-branch
returns-then-not-branch g c f stands =
    let history = c.args.registry.now.history in
    let same = length-reverse history in
    let within : c.loop-place.place < length (reverse history) = omega (arith, same, c.loop-place-test.true, c.len-place-end.ensures) in
    not_ended (events_there f.registry) (reverse history) c.loop-place.place within c.in_ok-have_ended_at.field-0
    (λ s at. c.in_ok-have_ended_at.ensures f s stands at) c.if-not-branch.true

pub loop-place-preserved : goal.loop-place-preserved
loop-place-preserved g c f stands =
    let history = c.args.registry.now.history in
    let same = length-reverse history in
    let within : c.loop-place.place < length (reverse history) = omega (arith, same, c.loop-place-test.true, c.len-place-end.ensures) in
    one_more_ended (events_there f.registry) (reverse history) c.loop-place.place within c.in_ok-have_ended_at.field-0
    (λ s at. c.in_ok-have_ended_at.ensures f s stands at) c.if-not-branch.false (c.loop-place.invariant f stands)
