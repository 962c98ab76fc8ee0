use Rattle.std.proofs.Common.{Ok, sym, subst, ◌∙◌}
use Rattle.sqlite.specs.Effect.{Database}
use Rattle.sqlite_catalog.specs.Listing.{IsSound}
use Rattle.sqlite.specs.Held.{state}
use Rattle.store_tables.specs.Tables.{stable_schema}
use Rattle.sql_store.proofs.Looking.{clean_before}
use Rattle.sql_store.proofs.ReadBack.{built_runs, built_seen}
use Rattle.sql_store.proofs.building.build.Goals as goal

pub returns-clause-runs : goal.returns-clause-runs
returns-clause-runs g c clean within =
    let a = state g.A.Store c.args.tx.now.conn.now in
    let b = state g.A.Store c.write_tables.new.tx.conn.now in
    let d = state g.A.Store c.read_back.new.tx.conn.now in
    built_runs a b d within (clean_before b d _ c.read_back.ensures.survives clean) c.in_ok-write_tables.field-0 (Ok c.in_ok-found.found)
    c.in_ok-write_tables.ensures.works.runs (c.in_ok-found.ensures.looks clean)

pub returns-clause-made : goal.returns-clause-made
returns-clause-made g c clean within =
    let a = state g.A.Store c.args.tx.now.conn.now in
    let b = state g.A.Store c.write_tables.new.tx.conn.now in
    let d = state g.A.Store c.read_back.new.tx.conn.now in
    built_seen a b d within (clean_before b d _ c.read_back.ensures.survives clean) c.in_ok-write_tables.field-0 (Ok c.in_ok-found.found)
    c.in_ok-write_tables.ensures.works.runs (c.in_ok-found.ensures.looks clean)

pub returns-clause-lays_out : goal.returns-clause-lays_out
returns-clause-lays_out g c clean has =
    let b = state g.A.Store c.write_tables.new.tx.conn.now in
    let d = state g.A.Store c.read_back.new.tx.conn.now in
    c.in_ok-found.ensures.schema clean ∙ c.in_ok-write_tables.ensures.lays_out (clean_before b d _ c.read_back.ensures.survives clean) has

pub returns-clause-sound : goal.returns-clause-sound
returns-clause-sound g c within clean has =
    let b = state g.A.Store c.write_tables.new.tx.conn.now in
    let d = state g.A.Store c.read_back.new.tx.conn.now in
    let before = clean_before b d _ c.read_back.ensures.survives clean in
    let schema = c.in_ok-found.ensures.schema clean ∙ c.in_ok-write_tables.ensures.lays_out before has in
    let same = ((c.in_ok-found.ensures.looks clean ((c.in_ok-write_tables.ensures.works.runs before).within within)).seen schema).0 in
    subst (λ (x : Database). IsSound stable_schema x.trees) (sym same) (c.in_ok-write_tables.ensures.sound before has)
