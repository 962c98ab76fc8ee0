use Rattle.std.proofs.Common.{arith, length, sym, ◌<◌, ◌≤◌, ◌∙◌}
use Rattle.std.proofs.lemmas.List.{at_drop_all}
use Rattle.std.specs.Option.{option_copied as name_of}
use Rattle.object_laws.specs.OnceTold.{is_left_below, last_in_front}
use Rattle.atomic_object.proofs.Outcomes.{no_more, one_more}
use Rattle.atomic_object.proofs.staying.last_staying.Goals as goal

pub returns-then-not-stays : goal.returns-then-not-stays
returns-then-not-stays c =
    let stays = is_left_below c.args.staying.now.outcomes.now c.args.staying.now.from.now in
    let within : c.loop-owner.owner-index < length c.args.owners.now = omega (arith, c.loop-owner-test.true) in
    sym (c.loop-owner.invariant ∙ no_more stays (name_of c.loop-owner.last) c.args.owners.now c.loop-owner.owner-index c.owner-item.result within c.owner-item.is
    (sym c.stays.ensures ∙ c.if-not-stays.true))

pub loop-owner-preserved : goal.loop-owner-preserved
loop-owner-preserved c =
    let stays = is_left_below c.args.staying.now.outcomes.now c.args.staying.now.from.now in
    let within : c.loop-owner.owner-index < length c.args.owners.now = omega (arith, c.loop-owner-test.true) in
    c.loop-owner.invariant ∙ one_more stays (name_of c.loop-owner.last) c.args.owners.now c.loop-owner.owner-index c.owner-item.result within c.owner-item.is
    (sym c.stays.ensures ∙ c.if-not-stays.false)

pub returns : goal.returns
returns c =
    let stays = is_left_below c.args.staying.now.outcomes.now c.args.staying.now.from.now in
    let past : length c.args.owners.now ≤ c.loop-owner.owner-index = omega (arith, c.loop-owner-test.false) in
    sym (c.loop-owner.invariant ∙ at_drop_all (last_in_front stays (name_of c.loop-owner.last)) c.args.owners.now c.loop-owner.owner-index past)
