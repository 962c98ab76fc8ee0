use Rattle.std.proofs.lemmas.Int.{to_z-of_z}
use Rattle.std.proofs.Common.{◌≡◌, ℤ, w64, [], ◌∷◌, IsTrue, refl, ap, subst, subst₂, ◌∙◌, arith, pos}
use Rattle.sqlite.specs.declared.types.Value.TheVariants.{Int}
use Rattle.sqlite_value.specs.Value.{owned}
use Rattle.sqlite.specs.Values.{bound_value}
use Rattle.sqlite.specs.State.{HasCleanDisk, ExecutesInside}
use Rattle.sqlite.specs.Held.{state}
use Rattle.store_writing.specs.Steps.{Steps}
use Rattle.store_writing.proofs.Inside.{steps, step_ok, step_err}
use Rattle.std.proofs.Common.{rules}
use Rattle.atomic_types.specs.declared.part.Part.TheVariants.{Delta}
use Rattle.store_tables.specs.Changes.{with_record}
use Rattle.store_tables.proofs.Statements.{more}
use Rattle.store_writing.proofs.Runs.{delta_means}
use Rattle.store_tables.proofs.Tables.{InRange}
use Rattle.store_tables.specs.Texts.{delta_text}
use Rattle.store_tables.proofs.Texts.{delta_command}
use Rattle.store_writing.proofs.preparing.put_delta.Goals as goal

pub returns-in-Ok-clause-steps : goal.returns-in-Ok-clause-steps
returns-in-Ok-clause-steps g c low home before k sorted sees =
    let s = c.args.tx.now.conn.now in
    let t = c.execute.new.self.conn.now in
    let fits : InRange c.args.top = (omega arith, omega arith) in
    let object_fits : InRange c.args.object = (low, omega arith) in
    let by : owned c.amount.result ≡ Int c.args.by = c.amount.ensures ∙ ap (λ (z : ℤ). Int z) (to_z-of_z w64 c.args.by (search rules)) in
    let it : Steps (state g.A.Store s) (state g.A.Store t) (with_record c.args.top home (more before c.args.object (Delta c.args.by)) k) c.execute.result =
    steps g.A.Store delta_text delta_command _ (λ _. with_record c.args.top home (more before c.args.object (Delta c.args.by)) k) _ (delta_means c.args.top home c.args.object c.args.by before k fits object_fits sorted (search rules)) s t (with_record c.args.top home before k) (λ _ _. refl) sees
    (λ h. omega (arith, c.execute.ensures.survives.clean)) c.execute.result c.execute.ensures.ended
    (subst (λ v2. HasCleanDisk (state g.A.Store t) → IsTrue (state g.A.Store s).in_transaction → ExecutesInside 0 delta_text (bound_value (Int (pos c.args.top)) ∷ bound_value (Int (pos c.args.object)) ∷ bound_value v2 ∷ []) (state g.A.Store s) (state g.A.Store t) c.execute.result) by (subst₂ (λ v0 v1. HasCleanDisk (state g.A.Store t) → IsTrue (state g.A.Store s).in_transaction → ExecutesInside 0 delta_text (bound_value v0 ∷ bound_value v1 ∷ bound_value (owned c.amount.result) ∷ []) (state g.A.Store s) (state g.A.Store t) c.execute.result) c.number.ensures c.number-2.ensures c.execute.ensures.runs)) in
    step_ok (subst (Steps (state g.A.Store s) (state g.A.Store t) (with_record c.args.top home (more before c.args.object (Delta c.args.by)) k)) c.in-Ok.is it)

pub returns-in-Err-clause-steps : goal.returns-in-Err-clause-steps
returns-in-Err-clause-steps g c low home before k sorted sees =
    let s = c.args.tx.now.conn.now in
    let t = c.execute.new.self.conn.now in
    let fits : InRange c.args.top = (omega arith, omega arith) in
    let object_fits : InRange c.args.object = (low, omega arith) in
    let by : owned c.amount.result ≡ Int c.args.by = c.amount.ensures ∙ ap (λ (z : ℤ). Int z) (to_z-of_z w64 c.args.by (search rules)) in
    let it : Steps (state g.A.Store s) (state g.A.Store t) (with_record c.args.top home (more before c.args.object (Delta c.args.by)) k) c.execute.result =
    steps g.A.Store delta_text delta_command _ (λ _. with_record c.args.top home (more before c.args.object (Delta c.args.by)) k) _ (delta_means c.args.top home c.args.object c.args.by before k fits object_fits sorted (search rules)) s t (with_record c.args.top home before k) (λ _ _. refl) sees
    (λ h. omega (arith, c.execute.ensures.survives.clean)) c.execute.result c.execute.ensures.ended
    (subst (λ v2. HasCleanDisk (state g.A.Store t) → IsTrue (state g.A.Store s).in_transaction → ExecutesInside 0 delta_text (bound_value (Int (pos c.args.top)) ∷ bound_value (Int (pos c.args.object)) ∷ bound_value v2 ∷ []) (state g.A.Store s) (state g.A.Store t) c.execute.result) by (subst₂ (λ v0 v1. HasCleanDisk (state g.A.Store t) → IsTrue (state g.A.Store s).in_transaction → ExecutesInside 0 delta_text (bound_value v0 ∷ bound_value v1 ∷ bound_value (owned c.amount.result) ∷ []) (state g.A.Store s) (state g.A.Store t) c.execute.result) c.number.ensures c.number-2.ensures c.execute.ensures.runs)) in
    step_err (subst (Steps (state g.A.Store s) (state g.A.Store t) (with_record c.args.top home (more before c.args.object (Delta c.args.by)) k)) c.in-Err.is it)
