use Rattle.std.proofs.Common.{List, subst, sym}
use Rattle.run_model.specs.LocalHistories.{Stamped}
use Rattle.traces.specs.Reading.{IsKept}
use Rattle.traces.proofs.Kept.{kept_new}
use Rattle.traces.proofs.reader.TraceReader.new.Goals as goal

pub invariant_of-result : goal.invariant_of-result
invariant_of-result c =
    subst (λ (hs : List (List Stamped)). IsKept c.in-Ok.setup hs 0) (sym c.in_ok-histories.ensures) (kept_new c.in-Ok.setup c.in-Ok.ensures.found.fits.within_limit)
