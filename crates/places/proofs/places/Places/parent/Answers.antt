use Rattle.std.proofs.Common.{Some, ap, arith, length, refl, ◌<◌, ◌≡◌}
use Rattle.std.specs.Prelude.{slice_get}
use Rattle.std.proofs.lemmas.Option.{slice_get_read}
use Rattle.places.proofs.Growing.{names_length}
use Rattle.places.proofs.Walking.{parent_place}
use Rattle.places.proofs.places.Places.parent.Goals as goal

pub index-requires : goal.index-requires
index-requires c = omega (arith, ap length c.self.view_is, names_length c.self.inside.nodes.items)

pub returns : goal.returns
returns c =
    let nodes = c.self.inside.nodes.items in
    let node = c.index.result.now in
    let within : c.args.at < length nodes = omega (arith, ap length c.self.view_is, names_length nodes) in
    let got : slice_get nodes c.args.at ≡ Some node = slice_get_read nodes (length nodes) c.args.at node refl within c.index.ensures in
    rw (← c.self.view_is) (parent_place nodes _ c.args.at node c.self.invariant got)
