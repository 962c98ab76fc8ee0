use Rattle.std.proofs.Common.{◌≡◌, ℕ, ◌<◌, List, ◌++◌, [], ◌∷◌, true, sym, subst, arith, rules, nat_cmp, w64, to_z, of_z}
use Rattle.std.proofs.lemmas.Int.{to_z-of_z}
use Rattle.std.specs.FinMap.{is_sorted}
use Rattle.atomic_types.specs.declared.part.Part.{Part}
use Rattle.stable_store.specs.Stored.{Stored}
use Rattle.store_writing.specs.Steps.{Sees, Steps}
use Rattle.sqlite.specs.Held.{state}
use Rattle.atomic_types.specs.declared.part.Part.TheVariants.{Delta}
use Rattle.store_tables.specs.Changes.{with_record}
use Rattle.store_tables.specs.Shown.{IsValue}
use Rattle.store_tables.proofs.Statements.{more, front_rises}
use Rattle.store_writing.specs.Waiting.{Waits}
use Rattle.store_writing.proofs.Inside.{steps_then, step_err, sees_of}
use Rattle.store_writing.proofs.Loops.{first_above}
use Rattle.store_writing.proofs.Waits.{none_wait, zero_parts, when_ok}
use Rattle.store_writing.proofs.preparing.take_delta.Goals as goal

pub returns-in-Ok-clause-steps : goal.returns-in-Ok-clause-steps
returns-in-Ok-clause-steps g c home written all k none sorted waits stays =
    let s = state g.A.Store c.args.tx.now.conn.now in
    let mid = state g.A.Store c.put_rest.new.tx.conn.now in
    let last = state g.A.Store c.put_delta.new.tx.conn.now in
    let next = more all c.args.object (Delta c.args.by) in
    let zero = zero_parts all ((c.args.object, Delta c.args.by) ∷ []) none in
    let low = first_above c.args.object (Delta c.args.by) [] zero.1 in
    let texts = subst (λ ws. Waits IsValue ws written all) (sym c.as_slice.ensures.value) waits in
    let by : to_z w64 (of_z w64 c.args.by) ≡ c.args.by = to_z-of_z w64 c.args.by (search rules) in
    let delta =
    subst (λ z. 0 < c.args.object → (home : ℕ) (before : List (ℕ × Part)) (k : Stored) → is_sorted nat_cmp (before ++ (c.args.object, Delta z) ∷ []) ≡ true
    → Sees mid (with_record c.args.top home before k) → Steps mid last (with_record c.args.top home (before ++ (c.args.object, Delta z) ∷ []) k) c.put_delta.result)
    by c.put_delta.ensures.steps in
    let rest = c.in-Ok.ensures.steps home written all k zero.0 (front_rises all ((c.args.object, Delta c.args.by) ∷ []) sorted) texts stays in
    record {
      written = next;
      waits = when_ok c.put_delta.result (none_wait IsValue c.clear.new.self.items next c.clear.ensures.items);
      steps = steps_then s mid last (with_record c.args.top home all k) (with_record c.args.top home next k) _ c.put_delta.result (λ h. omega (arith, c.put_delta.ensures.survives.clean)) rest
          (λ st. delta low home all k sorted (sees_of mid (with_record c.args.top home all k) st));
    }

pub returns-in-Err-clause-steps : goal.returns-in-Err-clause-steps
returns-in-Err-clause-steps g c home written all k none sorted waits stays =
    let zero = zero_parts all ((c.args.object, Delta c.args.by) ∷ []) none in
    let texts = subst (λ ws. Waits IsValue ws written all) (sym c.as_slice.ensures.value) waits in
    let rest = c.in-Err.ensures.steps home written all k zero.0 (front_rises all ((c.args.object, Delta c.args.by) ∷ []) sorted) texts stays in
    record { written = written; waits = tt; steps = step_err rest }
