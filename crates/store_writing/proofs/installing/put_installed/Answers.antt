use Rattle.std.proofs.Common.{[], ◌∷◌, refl, subst, arith}
use Rattle.sqlite_value.specs.Value.{owned}
use Rattle.sqlite.specs.Order.{Row}
use Rattle.sqlite.specs.Values.{bound_value}
use Rattle.sqlite.specs.Held.{state}
use Rattle.store_tables.specs.Changes.{with_part}
use Rattle.store_tables.specs.Texts.{base_text}
use Rattle.store_tables.proofs.Texts.{base_is, base_plain}
use Rattle.store_writing.specs.Steps.{Steps}
use Rattle.store_writing.proofs.Inside.{step_ok, step_err}
use Rattle.store_writing.proofs.Waits.{above_is}
use Rattle.store_writing.proofs.Puts.{writes_parts}
use Rattle.store_writing.proofs.installing.put_installed.Goals as goal

pub returns-in-Ok-clause-steps : goal.returns-in-Ok-clause-steps
returns-in-Ok-clause-steps g c e k low text sees =
    let s = c.args.tx.now.conn.now in
    let t = c.execute.new.self.conn.now in
    let params : Row = bound_value (owned c.number.result) ∷ bound_value (owned c.words.result) ∷ [] in
    let it : Steps (state g.A.Store s) (state g.A.Store t) (with_part e.0 e.1 k) c.execute.result =
    writes_parts g.A.Store s t (λ h. omega (arith, c.execute.ensures.survives.clean)) c.execute.result c.execute.ensures.ended base_text 1 (c.args.part.now ∷ []) refl params
    base_plain c.execute.ensures.runs (e ∷ []) (text, tt) k base_is (λ clean up. above_is e.0 (low clean up)) sees
    (λ i. bound_value (c.number.ensures i) ∷ bound_value (c.words.ensures i) ∷ []) in
    step_ok (subst (Steps (state g.A.Store s) (state g.A.Store t) (with_part e.0 e.1 k)) c.in-Ok.is it)

pub returns-in-Err-clause-steps : goal.returns-in-Err-clause-steps
returns-in-Err-clause-steps g c e k low text sees =
    let s = c.args.tx.now.conn.now in
    let t = c.execute.new.self.conn.now in
    let params : Row = bound_value (owned c.number.result) ∷ bound_value (owned c.words.result) ∷ [] in
    let it : Steps (state g.A.Store s) (state g.A.Store t) (with_part e.0 e.1 k) c.execute.result =
    writes_parts g.A.Store s t (λ h. omega (arith, c.execute.ensures.survives.clean)) c.execute.result c.execute.ensures.ended base_text 1 (c.args.part.now ∷ []) refl params
    base_plain c.execute.ensures.runs (e ∷ []) (text, tt) k base_is (λ clean up. above_is e.0 (low clean up)) sees
    (λ i. bound_value (c.number.ensures i) ∷ bound_value (c.words.ensures i) ∷ []) in
    step_err (subst (Steps (state g.A.Store s) (state g.A.Store t) (with_part e.0 e.1 k)) c.in-Err.is it)
