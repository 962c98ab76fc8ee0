use Rattle.std.proofs.Common.{pos, sym, ap}
use Rattle.atomic_types.specs.Counters.{counter_reply}
use Rattle.overlays.specs.CounterOverlays.{laid_number, noted_add}
use Rattle.overlays.proofs.counter.note_number.Goals as goal

pub returns-in-Add-clause-noted : goal.returns-in-Add-clause-noted
returns-in-Add-clause-noted c = λ n.
    let left = (noted_add c.args.op.now c.args.overlay.now c.add.new.overlay n _ c.in-Add.is c.add.ensures c.requires.covers).0 in
    record { replies = ap (λ q. counter_reply (laid_number n c.args.overlay.now) q) (sym c.in-Add.is); leaves = left; fits_still = tt }

pub returns-in-Add-clause-covers : goal.returns-in-Add-clause-covers
returns-in-Add-clause-covers c =
    (noted_add c.args.op.now c.args.overlay.now c.add.new.overlay (pos 0) _ c.in-Add.is c.add.ensures c.requires.covers).1
