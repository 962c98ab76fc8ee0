use Rattle.std.proofs.Common.{rules}
use Rattle.std.specs.Prelude.{FitsSigned}
use Rattle.std.specs.Int.{w64}
use Rattle.std.proofs.lemmas.Int.{to_z-of_z}
use Rattle.std.proofs.lemmas.List.Elements.{recursion_from_All}
use Rattle.overlays.proofs.Outside.{tells_last}
use Rattle.overlays.proofs.array_items.reaches.Goals as goal

pub returns-in-Some : goal.returns-in-Some
returns-in-Some c =
    let k = c.in-Some.last.now in
    let fits : FitsSigned w64 k = search rules in
    let end : FitsSigned w64 c.args.end = search rules in
    rw (to_z-of_z w64 c.args.end end, to_z-of_z w64 k fits) (tells_last k c.args.end _ c.args.items.now.entries c.in-Some.ensures.value (recursion_from_All _ _ c.in-Some.ensures.all_up_to))
