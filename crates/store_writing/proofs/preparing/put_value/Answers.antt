use Rattle.std.proofs.Common.{◌++◌, [], ◌∷◌, refl, subst, arith}
use Rattle.sqlite_value.specs.Value.{owned}
use Rattle.sqlite.specs.Order.{Row}
use Rattle.sqlite.specs.Values.{bound_value}
use Rattle.sqlite.specs.Held.{state}
use Rattle.store_tables.specs.Changes.{with_record}
use Rattle.store_tables.proofs.Tables.{InRange}
use Rattle.store_tables.specs.Texts.{value_text}
use Rattle.store_tables.proofs.Texts.{value_is, value_plain}
use Rattle.store_writing.specs.Steps.{Steps}
use Rattle.store_writing.proofs.Inside.{step_ok, step_err}
use Rattle.store_writing.proofs.Waits.{above_is}
use Rattle.store_writing.proofs.Puts.{writes_values}
use Rattle.store_writing.proofs.preparing.put_value.Goals as goal

pub returns-in-Ok-clause-steps : goal.returns-in-Ok-clause-steps
returns-in-Ok-clause-steps g c home before e k text kind low sorted sees =
    let s = c.args.tx.now.conn.now in
    let t = c.execute.new.self.conn.now in
    let fits : InRange c.args.top = (omega arith, omega arith) in
    let params : Row = bound_value (owned c.number.result) ∷ bound_value (owned c.number-2.result) ∷ bound_value (owned c.words.result) ∷ [] in
    let it : Steps (state g.A.Store s) (state g.A.Store t) (with_record c.args.top home (before ++ e ∷ []) k) c.execute.result =
    writes_values g.A.Store s t (λ h. omega (arith, c.execute.ensures.survives.clean)) c.execute.result c.execute.ensures.ended value_text 1 (c.args.value.now ∷ []) refl params
    value_plain c.execute.ensures.runs (e ∷ []) (text, tt) k c.args.top home before value_is (omega arith) fits (kind, tt) (above_is e.0 low) sorted sees
    (λ i. bound_value (c.number.ensures i) ∷ bound_value (c.number-2.ensures i) ∷ bound_value (c.words.ensures i) ∷ []) in
    step_ok (subst (Steps (state g.A.Store s) (state g.A.Store t) (with_record c.args.top home (before ++ e ∷ []) k)) c.in-Ok.is it)

pub returns-in-Err-clause-steps : goal.returns-in-Err-clause-steps
returns-in-Err-clause-steps g c home before e k text kind low sorted sees =
    let s = c.args.tx.now.conn.now in
    let t = c.execute.new.self.conn.now in
    let fits : InRange c.args.top = (omega arith, omega arith) in
    let params : Row = bound_value (owned c.number.result) ∷ bound_value (owned c.number-2.result) ∷ bound_value (owned c.words.result) ∷ [] in
    let it : Steps (state g.A.Store s) (state g.A.Store t) (with_record c.args.top home (before ++ e ∷ []) k) c.execute.result =
    writes_values g.A.Store s t (λ h. omega (arith, c.execute.ensures.survives.clean)) c.execute.result c.execute.ensures.ended value_text 1 (c.args.value.now ∷ []) refl params
    value_plain c.execute.ensures.runs (e ∷ []) (text, tt) k c.args.top home before value_is (omega arith) fits (kind, tt) (above_is e.0 low) sorted sees
    (λ i. bound_value (c.number.ensures i) ∷ bound_value (c.number-2.ensures i) ∷ bound_value (c.words.ensures i) ∷ []) in
    step_err (subst (Steps (state g.A.Store s) (state g.A.Store t) (with_record c.args.top home (before ++ e ∷ []) k)) c.in-Err.is it)
