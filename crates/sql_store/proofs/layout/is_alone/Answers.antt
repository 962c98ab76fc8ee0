use Rattle.std.proofs.Common.{refl, sym, subst, ◌∙◌}
use Rattle.sqlite.specs.Held.{state}
use Rattle.sqlite_catalog.specs.Listing.{IsSound}
use Rattle.store_writing.proofs.Runs.{not_true}
use Rattle.sql_store.proofs.layout.is_alone.Goals as goal

pub returns-then-is_autocommit-clause-alone : goal.returns-then-is_autocommit-clause-alone
returns-then-is_autocommit-clause-alone g c known =
    let schema = sym c.schema.ensures.value ∙ c.is_known.ensures.is known in
    record {
      quiet = λ up. record { schema = schema; mode = not_true _ c.if-is_autocommit.ensures.value; settled = c.if-is_autocommit.ensures.settled refl up };
      sound = λ up. subst (λ s. IsSound s (state g.A.Store c.args.conn.now).now.trees) schema (c.schema.ensures.live up).0;
    }
