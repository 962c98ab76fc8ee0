use Rattle.std.proofs.Common.{arith, refl, subst, sym, ◌+◌, ◌<◌, ◌^◌, ◌≡◌}
use Rattle.std.specs.Option.{SomeIff}
use Rattle.std.proofs.lemmas.List.{length-map}
use Rattle.std.proofs.lemmas.Option.{slice_get_read}
use Rattle.action_forest.proofs.Adding.{RoomIn, get_written, same_written}
use Rattle.action_forest.proofs.Grown.{within}
use Rattle.action_forest.specs.Trees.{action_in, trees}
use Rattle.action_forest.proofs.forest.Forest.reserve_children.Goals as goal

pub returns-in_default-get_mut-clause-place : goal.returns-in_default-get_mut-clause-place
returns-in_default-get_mut-clause-place c = λ opening registry h.
    let self = c.args.self.now in
    let low = within registry (trees self) h.tree c.components.result.now c.in-Some-place.at (sym c.in-Some-place.ensures) in
    absurd (omega (arith, length-map self.nodes.items action_in, self.nodes.ok.0, c.in_default-get_mut.ensures.item))

pub returns-in_err-reserve-clause-kept : goal.returns-in_err-reserve-clause-kept
returns-in_err-reserve-clause-kept c =
    let self = c.args.self.now in
    let node = c.in-Some-get_mut.node.now in
    let there =
    slice_get_read self.nodes.items self.nodes.len c.in-Some-place.at node self.nodes.ok.0
    (c.in-Some-get_mut.ensures.variant.0 refl) c.in-Some-get_mut.ensures.value in
    let new = record node { children = c.reserve.new.self } in
    let same : action_in new ≡ action_in node = (λ i. record (action_in node) { children = c.reserve.ensures.items i }) in
    λ i. record {
      first_top = self.first_top;
      guardians = self.guardians;
      actions = same_written self.nodes.items c.in-Some-place.at node new there same i;
      tops = self.tops.items;
    }

pub returns-clause-kept : goal.returns-clause-kept
returns-clause-kept c =
    let self = c.args.self.now in
    let node = c.in-Some-get_mut.node.now in
    let there =
    slice_get_read self.nodes.items self.nodes.len c.in-Some-place.at node self.nodes.ok.0
    (c.in-Some-get_mut.ensures.variant.0 refl) c.in-Some-get_mut.ensures.value in
    let new = record node { children = c.reserve.new.self } in
    let same : action_in new ≡ action_in node = (λ i. record (action_in node) { children = c.reserve.ensures.items i }) in
    λ i. record {
      first_top = self.first_top;
      guardians = self.guardians;
      actions = same_written self.nodes.items c.in-Some-place.at node new there same i;
      tops = self.tops.items;
    }

pub returns-clause-room : goal.returns-clause-room
returns-clause-room c =
    let self = c.args.self.now in
    let node = c.in-Some-get_mut.node.now in
    let there =
    slice_get_read self.nodes.items self.nodes.len c.in-Some-place.at node self.nodes.ok.0
    (c.in-Some-get_mut.ensures.variant.0 refl) c.in-Some-get_mut.ensures.value in
    let new = record node { children = c.reserve.new.self } in
    let sum = node.unended + c.args.count in
    let fits = subst (λ o. SomeIff o (sum < 2 ^ 64) sum) c.in_ok-ok_or.ensures.ok_part c.checked_add.ensures in
    subst (RoomIn c.args.count c.args.count) (sym (get_written self.nodes.items c.in-Some-place.at node new there)) (c.in_ok-reserve.ensures.ok, fits.0)
