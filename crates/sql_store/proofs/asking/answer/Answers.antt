use Rattle.sqlite.specs.Held.{state}
use Rattle.sql_store.proofs.Looking.{clean_before, shown_schema}
use Rattle.sql_store.proofs.Queries.{looked_up, not_looked_up}
use Rattle.std.proofs.Common.{◌≡◌, sym, ◌∙◌}
use Rattle.stable_store.specs.declared.fault.StoreFault.TheVariants.{Failed}
use Rattle.sql_store.proofs.asking.answer.Goals as goal

pub returns-in-Ok-clause-looks : goal.returns-in-Ok-clause-looks
returns-in-Ok-clause-looks g c tables text quiet =
    let old = state g.A.Store c.args.conn.now in
    let new = state g.A.Store c.query_all.new.self in
    looked_up tables c.args.query.now old new text quiet c.query_all.ensures.survives c.in-Ok.rows.items _ c.in-Ok.rows (λ clean. c.in-Ok.ensures.ok clean) (λ h. h)

pub returns-in-Err-clause-looks : goal.returns-in-Err-clause-looks
returns-in-Err-clause-looks g c tables text quiet =
    let old = state g.A.Store c.args.conn.now in
    let new = state g.A.Store c.query_all.new.self in
    not_looked_up tables c.args.query.now old new text quiet c.query_all.ensures.survives c.in-Err.error _ _ (λ clean. c.in-Err.ensures.err clean)

pub returns-in-Ok-clause-outside : goal.returns-in-Ok-clause-outside
returns-in-Ok-clause-outside g c =
    let old = state g.A.Store c.args.conn.now in
    let new = state g.A.Store c.query_all.new.self in
    record {
      clean = clean_before old new _ c.query_all.ensures.survives;
      mode = c.query_all.ensures.mode;
      schema = λ clean. shown_schema c.args.query.now old new c.in-Ok.rows.items (c.in-Ok.ensures.ok clean);
    }

pub returns-in-Err-clause-outside : goal.returns-in-Err-clause-outside
returns-in-Err-clause-outside g c =
    let old = state g.A.Store c.args.conn.now in
    let new = state g.A.Store c.query_all.new.self in
    record { clean = clean_before old new _ c.query_all.ensures.survives; mode = c.query_all.ensures.mode; schema = λ clean. tt }

pub returns-in-Err-clause-failed : goal.returns-in-Err-clause-failed
returns-in-Err-clause-failed g c is clean =
    let same : c.fault_of.result ≡ Failed = cc in
    record { error = c.in-Err.error; fails = c.in-Err.ensures.err clean; failure = sym c.fault_of.ensures.fault ∙ same }

pub returns-in-Ok-clause-track : goal.returns-in-Ok-clause-track
returns-in-Ok-clause-track g c = record { counts = c.query_all.ensures.survives.counts; limit = c.query_all.ensures.survives.limit }

pub returns-in-Err-clause-track : goal.returns-in-Err-clause-track
returns-in-Err-clause-track g c = record { counts = c.query_all.ensures.survives.counts; limit = c.query_all.ensures.survives.limit }
