use Rattle.std.proofs.Common.{ap, arith, length}
use Rattle.places.proofs.Growing.{names_length}
use Rattle.places.proofs.places.Places.len.Goals as goal

pub returns : goal.returns
returns c = omega (arith, ap length c.self.view_is, names_length c.self.inside.nodes.items, c.len.ensures)
