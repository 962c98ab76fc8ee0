use Rattle.std.proofs.Common.{rules}
use Rattle.std.specs.Prelude.{FitsSigned}
use Rattle.std.specs.Int.{w64}
use Rattle.std.proofs.lemmas.Int.{to_z-of_z}
use Rattle.std.proofs.lemmas.List.Elements.{recursion_from_All}
use Rattle.overlays.proofs.Outside.{tells_first}
use Rattle.overlays.proofs.array_items.begins_before.Goals as goal

pub returns-in-Some : goal.returns-in-Some
returns-in-Some c =
    let k = c.in-Some.first.now in
    let fits : FitsSigned w64 k = search rules in
    let low : FitsSigned w64 c.args.low = search rules in
    rw (to_z-of_z w64 k fits, to_z-of_z w64 c.args.low low) (tells_first k c.args.low _ c.args.items.now.entries c.in-Some.ensures.value (recursion_from_All _ _ c.in-Some.ensures.all_from))
