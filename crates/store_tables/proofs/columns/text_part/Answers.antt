use Rattle.std.proofs.Common.{◌≡◌}
use Rattle.stable_store.specs.declared.fault.StoreFault.TheVariants.{NotOurs}
use Rattle.store_tables.proofs.Legible.{reads_text}
use Rattle.store_tables.proofs.columns.text_part.Goals as goal

pub returns-in-Err-clause-told : goal.returns-in-Err-clause-told
returns-in-Err-clause-told c is part spelled =
    let told : c.unread.result ≡ NotOurs = cc in
    reads_text c.args.row.now c.args.at part spelled (c.in-Err.ensures.kind (c.unread.ensures.told told))
