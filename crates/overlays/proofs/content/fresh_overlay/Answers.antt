use Rattle.std.proofs.Common.{sym, ap, ◌∙◌}
use Rattle.overlays.specs.ContentOverlays.{are_alike}
use Rattle.overlays.proofs.ContentNotes.{fits_record, fits_array, fits_variant}
use Rattle.overlays.proofs.content.fresh_overlay.Goals as goal

pub returns-in-Record-clause-fits : goal.returns-in-Record-clause-fits
returns-in-Record-clause-fits c = λ x alike. fits_record c.nothing.result c.in-Record.field-0 c.nothing.ensures.fits x (sym (ap (are_alike x) c.in-Record.is) ∙ alike)

pub returns-in-Array-clause-fits : goal.returns-in-Array-clause-fits
returns-in-Array-clause-fits c = λ x alike. fits_array c.nothing-in-Array.result c.in-Array.field-0 c.nothing-in-Array.ensures.fits x (sym (ap (are_alike x) c.in-Array.is) ∙ alike)

pub returns-in-Variant-clause-fits : goal.returns-in-Variant-clause-fits
returns-in-Variant-clause-fits c =
    λ x alike. fits_variant c.nothing-in-Variant.result c.in-Variant.field-0 c.nothing-in-Variant.ensures.fits x (sym (ap (are_alike x) c.in-Variant.is) ∙ alike)
