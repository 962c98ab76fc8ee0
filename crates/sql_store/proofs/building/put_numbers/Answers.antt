use Rattle.sqlite.specs.Held.{state}
use Rattle.std.proofs.Common.{Ok}
use Rattle.stable_store.specs.declared.fault.StoreFault.{StoreFault}
use Rattle.sql_store.specs.declared.layout.Layout.TheVariants.{Second}
use Rattle.sql_store.proofs.Looking.{clean_before}
use Rattle.sql_store.proofs.Schemas.{ran_rows, then_laid, ran_sound, then_sound}
use Rattle.sql_store.proofs.TableTexts.{clears_numbers, puts_version, puts_count, puts_next}
use Rattle.sql_store.proofs.building.put_numbers.Goals as goal

pub returns-clause-lays_out : goal.returns-clause-lays_out
returns-clause-lays_out g c =
    let first = state g.A.Store c.args.tx.now.conn.now in
    let one = state g.A.Store c.run.new.tx.conn.now in
    let two = state g.A.Store c.run-2.new.tx.conn.now in
    let three = state g.A.Store c.run-3.new.tx.conn.now in
    let last = state g.A.Store c.run-4.new.tx.conn.now in
    then_laid Second first one last c.run-4.result (λ clean. clean_before one two _ c.run-2.ensures.works.survives (clean_before two three _ c.run-3.ensures.works.survives (clean_before three last _ c.run-4.ensures.works.survives clean)))
    (ran_rows {T = Unit {0}} {E = StoreFault} _ _ first one (Ok tt) clears_numbers c.in_ok-run.ensures.ran)
    (then_laid Second one two last c.run-4.result (λ clean. clean_before two three _ c.run-3.ensures.works.survives (clean_before three last _ c.run-4.ensures.works.survives clean))
    (ran_rows {T = Unit {0}} {E = StoreFault} _ _ one two (Ok tt) puts_version c.in_ok-run-2.ensures.ran)
    (then_laid Second two three last c.run-4.result (clean_before three last _ c.run-4.ensures.works.survives)
    (ran_rows {T = Unit {0}} {E = StoreFault} _ _ two three (Ok tt) puts_count c.in_ok-run-3.ensures.ran)
    (ran_rows _ _ three last c.run-4.result puts_next c.run-4.ensures.ran)))

pub returns-clause-sound : goal.returns-clause-sound
returns-clause-sound g c =
    let first = state g.A.Store c.args.tx.now.conn.now in
    let one = state g.A.Store c.run.new.tx.conn.now in
    let two = state g.A.Store c.run-2.new.tx.conn.now in
    let three = state g.A.Store c.run-3.new.tx.conn.now in
    let last = state g.A.Store c.run-4.new.tx.conn.now in
    then_sound Second first three last c.run-4.result (clean_before three last _ c.run-4.ensures.works.survives)
    (λ clean has.
    let two_clean = clean_before two three _ c.run-3.ensures.works.survives clean in
    let one_clean = clean_before one two _ c.run-2.ensures.works.survives two_clean in
    ran_rows {T = Unit {0}} {E = StoreFault} _ _ two three (Ok tt) puts_count c.in_ok-run-3.ensures.ran clean
    (ran_rows {T = Unit {0}} {E = StoreFault} _ _ one two (Ok tt) puts_version c.in_ok-run-2.ensures.ran two_clean
    (ran_rows {T = Unit {0}} {E = StoreFault} _ _ first one (Ok tt) clears_numbers c.in_ok-run.ensures.ran one_clean has)))
    (ran_sound _ _ three last c.run-4.result puts_next c.run-4.ensures.ran)
