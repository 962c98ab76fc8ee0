use Rattle.std.proofs.Common.{sym, ◌∙◌, refl}
use Rattle.std.proofs.lemmas.Option.{slice_get_past, slice_get_read}
use Rattle.store_recovery.proofs.Reading.{decided_at, decided_nowhere}
use Rattle.store_recovery.proofs.settling.is_decided.Goals as goal

pub returns-in-Some : goal.returns-in-Some
returns-in-Some g c =
    let found = c.in-Some.ensures.lookup in
    c.has_decided.ensures
    ∙ sym (decided_at g.S.Stable.seen c.args.stores.now c.args.home c.args.top c.in-Some.store.now c.if-home-eq0.false
    (slice_get_read c.args.stores.now _ _ c.in-Some.store.now refl found.3.0 found.1))

pub returns-in-None : goal.returns-in-None
returns-in-None g c =
    sym (decided_nowhere g.S.Stable.seen c.args.stores.now c.args.home c.args.top (slice_get_past c.args.stores.now _ c.in-None.ensures.lookup.3))
