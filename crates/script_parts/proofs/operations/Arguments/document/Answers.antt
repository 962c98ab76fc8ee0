use Rattle.std.proofs.Common.{Err, refl, sym, ap, ◌∙◌}
use Rattle.std.proofs.lemmas.Option.{slice_get_past, slice_get_read}
use Rattle.script_model.specs.declared.fault.FaultKind.TheVariants as is
use Rattle.script_model.specs.Reading.{need}
use Rattle.script_parts.specs.Places.{pointer}
use Rattle.script_parts.proofs.Looked.{get_item-found, get_item-lost}
use Rattle.script_parts.proofs.operations.Arguments.document.Goals as goal

pub returns-in-Some : goal.returns-in-Some
returns-in-Some c =
    let at = c.args.self.now in
    let found = slice_get_read at.documents.now _ c.args.index c.in-Some.json.now refl c.in-Some.ensures.lookup.3.0 c.in-Some.ensures.lookup.1 in
    ap (λ o. need o is.Arguments (pointer at.place.now)) (sym (get_item-found at.documents.now c.args.index c.in-Some.json.now found))

pub returns-in-None : goal.returns-in-None
returns-in-None c =
    let at = c.args.self.now in
    let lost = slice_get_past at.documents.now c.args.index c.in-None.ensures.lookup.3 in
    λ told. ap (λ o. need o is.Arguments (pointer at.place.now)) (sym (get_item-lost at.documents.now c.args.index lost)) ∙ ap Err (sym (c.fault.ensures told))
