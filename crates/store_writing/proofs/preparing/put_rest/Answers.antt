use Rattle.std.proofs.Common.{◌≡◌, ◌+◌, [], ◌∷◌, ◌++◌, Ok, Err, true, false, drop, drop_of_length-le, refl, sym, ap, subst, ◌∙◌, arith, nat_cmp}
use Rattle.std.proofs.lemmas.List.{drop_more}
use Rattle.std.specs.FinMap.{is_sorted}
use Rattle.sqlite.specs.Held.{state}
use Rattle.sqlite.proofs.StateLemmas.{survives_then}
use Rattle.stable_store.specs.Numbers.{has_zero}
use Rattle.store_tables.specs.Changes.{with_record}
use Rattle.store_tables.specs.Shown.{IsValue}
use Rattle.store_tables.proofs.Statements.{front_rises}
use Rattle.store_writing.specs.Waiting.{Waits}
use Rattle.store_writing.proofs.Inside.{steps_then, steps_as, step_ok, step_err, step_same, sees_of, survives_self}
use Rattle.store_writing.proofs.Loops.{first_above}
use Rattle.store_writing.proofs.Waits.{next_waits, all_written, zero_parts}
use Rattle.store_writing.proofs.preparing.put_rest.Goals as goal

pub loop-value-init : goal.loop-value-init
loop-value-init g c = record {
  same = refl;
  survives = survives_self (state g.A.Store c.args.tx.now.conn.now);
  steps = λ home written all k none sorted waits stays.
      (written, waits, step_same (state g.A.Store c.args.tx.now.conn.now) (with_record c.args.top home written k) stays);
}

pub loop-value-preserved : goal.loop-value-preserved
loop-value-preserved g c =
    let first = state g.A.Store c.args.tx.now.conn.now in
    let mid = state g.A.Store c.loop-value.tx.conn.now in
    let last = state g.A.Store c.put_value.new.tx.conn.now in
    let at = c.loop-value.value-index in
    let ws = c.args.waiting.now in
    let w = c.value-item.result in
    let rest = drop (at + 1) ws in
    let taken : drop at ws ≡ w ∷ rest = drop_more ws at w (omega arith) ∙ ap (λ x. x ∷ rest) (sym c.value-item.is) in
    record {
      same = c.put_value.ensures.same ∙ c.loop-value.invariant.same;
      survives = survives_then first mid last _ _ (λ _. ⊥) (λ _ db none. none) (λ _ db none. none) c.loop-value.invariant.survives c.put_value.ensures.survives;
      steps = λ home written all k none sorted waits stays.
          let was = c.loop-value.invariant.steps home written all k none sorted waits stays in
          let one = next_waits IsValue w rest was.0 all (subst (λ l. Waits IsValue l was.0 all) taken was.1) in
          let e = one.0 in
          let done = was.0 ++ e ∷ [] in
          let rises = front_rises done one.3.left (subst (λ es. is_sorted nat_cmp es ≡ true) (sym one.3.whole) sorted) in
          let zero = (zero_parts was.0 (e ∷ []) (zero_parts done one.3.left (subst (λ es. has_zero es ≡ false) (sym one.3.whole) none)).0).1 in (
            done,
            one.3,
            step_ok (steps_then first mid last (with_record c.args.top home was.0 k) (with_record c.args.top home done k) tt (Ok c.in-Ok.field-0) (λ h. omega (arith, c.put_value.ensures.survives.clean)) was.2
                (λ st. c.in-Ok.ensures.steps home was.0 e k one.1 one.2 (first_above e.0 e.1 [] zero) rises (sees_of mid (with_record c.args.top home was.0 k) st))),
          );
    }

pub returns-in-Err-clause-steps : goal.returns-in-Err-clause-steps
returns-in-Err-clause-steps g c home written all k none sorted waits stays =
    let first = state g.A.Store c.args.tx.now.conn.now in
    let mid = state g.A.Store c.loop-value.tx.conn.now in
    let last = state g.A.Store c.put_value.new.tx.conn.now in
    let at = c.loop-value.value-index in
    let ws = c.args.waiting.now in
    let w = c.value-item.result in
    let rest = drop (at + 1) ws in
    let taken : drop at ws ≡ w ∷ rest = drop_more ws at w (omega arith) ∙ ap (λ x. x ∷ rest) (sym c.value-item.is) in
    let was = c.loop-value.invariant.steps home written all k none sorted waits stays in
    let one = next_waits IsValue w rest was.0 all (subst (λ l. Waits IsValue l was.0 all) taken was.1) in
    let e = one.0 in
    let done = was.0 ++ e ∷ [] in
    let rises = front_rises done one.3.left (subst (λ es. is_sorted nat_cmp es ≡ true) (sym one.3.whole) sorted) in
    let zero = (zero_parts was.0 (e ∷ []) (zero_parts done one.3.left (subst (λ es. has_zero es ≡ false) (sym one.3.whole) none)).0).1 in
    step_err (steps_then first mid last (with_record c.args.top home was.0 k) (with_record c.args.top home done k) tt (Err c.in-Err.error) (λ h. omega (arith, c.put_value.ensures.survives.clean)) was.2
    (λ st. c.in-Err.ensures.steps home was.0 e k one.1 one.2 (first_above e.0 e.1 [] zero) rises (sees_of mid (with_record c.args.top home was.0 k) st)))

pub returns-clause-steps : goal.returns-clause-steps
returns-clause-steps g c home written all k none sorted waits stays =
    let first = state g.A.Store c.args.tx.now.conn.now in
    let last = state g.A.Store c.loop-value.tx.conn.now in
    let was = c.loop-value.invariant.steps home written all k none sorted waits stays in
    let done : was.0 ≡ all = all_written IsValue _ was.0 all (drop_of_length-le c.args.waiting.now {i = c.loop-value.value-index} (omega arith)) was.1 in
    steps_as first last (with_record c.args.top home was.0 k) (with_record c.args.top home all k) (Ok tt) (ap (λ es. with_record c.args.top home es k) done) was.2
