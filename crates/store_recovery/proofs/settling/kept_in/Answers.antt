use Rattle.std.proofs.lemmas.Option.{MatchOption-at_some}
use Rattle.stable_store.specs.Held.{held}
use Rattle.store_recovery.proofs.Reading.{held_is}
use Rattle.store_recovery.proofs.settling.kept_in.Goals as goal

pub returns : goal.returns
returns g c =
    held_is (g.S.Stable.seen c.args.store.now) (held c.unwrap.result.now) c.requires (MatchOption-at_some _ _ c.unwrap.result c.unwrap.ensures c.kept.ensures)
