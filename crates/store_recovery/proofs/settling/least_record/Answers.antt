use Rattle.std.proofs.Common.{ap, refl, sym, ◌∙◌}
use Rattle.stable_store.specs.Held.{record_of, records_of}
use Rattle.store_recovery.proofs.Reading.{least_is}
use Rattle.store_recovery.proofs.settling.least_record.Goals as goal

pub returns : goal.returns
returns g c =
    let rest = c.next.new.self in
    let record_now = c.in_ok-top.record.now in (
      record_of record_now,
      refl,
      (
        records_of rest,
        least_is _ c.kept_in.result.now.prepared.entries rest (c.in_ok-top.field-0-0.now, record_now)
            (ap (λ s. s.prepared) c.kept_in.ensures) c.iter.ensures.ordered (sym c.iter.ensures.rest ∙ c.in_ok-top.ensures.steps),
      ),
    )
