use Rattle.std.proofs.Common.{◌≡◌, ℕ, List, ◌++◌, [], ◌∷◌, true, false, length, sym, ap, subst, nat_cmp, arith, length-append}
use Rattle.std.specs.FinMap.{is_sorted}
use Rattle.sqlite.specs.Held.{state}
use Rattle.atomic_types.specs.declared.part.Part.{Part}
use Rattle.stable_store.specs.Numbers.{has_zero}
use Rattle.store_tables.specs.Changes.{with_record}
use Rattle.store_tables.specs.Shown.{IsValue}
use Rattle.store_tables.proofs.Statements.{more}
use Rattle.store_writing.specs.Waiting.{AreTextsOf}
use Rattle.store_writing.proofs.Inside.{step_same, steps_as, step_ok, step_err, sees_of}
use Rattle.store_writing.proofs.Waits.{none_wait, one_more_waits, zero_parts}
use Rattle.store_writing.proofs.preparing.take_value.Goals as goal

pub put_run-requires-clause-full : goal.put_run-requires-clause-full
put_run-requires-clause-full g c =
    omega (arith, ap length c.as_slice.ensures.value, ap length c.in-Ok.ensures.whole, length-append c.args.waiting.now.items (c.in-Ok.ensures.last ∷ []), c.requires.few)

pub returns-then-len-lt-RUN-clause-steps : goal.returns-then-len-lt-RUN-clause-steps
returns-then-len-lt-RUN-clause-steps g c kind home written all k none sorted waits stays =
    let s = state g.A.Store c.args.tx.now.conn.now in
    let one = c.in-Ok.ensures in
    record {
      written = written;
      waits = one_more_waits IsValue c.args.waiting.now.items c.wait.new.waiting.items written all (c.args.object, c.args.part.now) waits kind one;
      steps = step_same s (with_record c.args.top home written k) stays;
    }

pub returns-in-Ok-put_run-clause-steps : goal.returns-in-Ok-put_run-clause-steps
returns-in-Ok-put_run-clause-steps g c kind home written all k none sorted waits stays =
    let s = state g.A.Store c.args.tx.now.conn.now in
    let t = state g.A.Store c.put_run.new.tx.conn.now in
    let one = c.in-Ok.ensures in
    let next = more all c.args.object c.args.part.now in
    let now = one_more_waits IsValue c.args.waiting.now.items c.wait.new.waiting.items written all (c.args.object, c.args.part.now) waits kind one in
    let zero = (zero_parts written now.left (subst (λ es. has_zero es ≡ false) (sym now.whole) none)).1 in
    let rises = subst (λ es. is_sorted nat_cmp es ≡ true) (sym now.whole) sorted in
    let texts = subst (λ ws. AreTextsOf ws now.left) (sym c.as_slice.ensures.value) now.texts in
    let ran = c.in-Ok-put_run.ensures.steps home written now.left k texts now.kinds zero rises (sees_of s (with_record c.args.top home written k) stays) in
    record {
      written = next;
      waits = none_wait IsValue c.clear.new.self.items next c.clear.ensures.items;
      steps = step_ok (steps_as s t (with_record c.args.top home (written ++ now.left) k) (with_record c.args.top home next k) _
          (ap (λ (es : List (ℕ × Part)). with_record c.args.top home es k) now.whole) ran);
    }

pub returns-in-Err-clause-steps : goal.returns-in-Err-clause-steps
returns-in-Err-clause-steps g c kind home written all k none sorted waits stays =
    let s = state g.A.Store c.args.tx.now.conn.now in
    let one = c.in-Ok.ensures in
    let now = one_more_waits IsValue c.args.waiting.now.items c.wait.new.waiting.items written all (c.args.object, c.args.part.now) waits kind one in
    let zero = (zero_parts written now.left (subst (λ es. has_zero es ≡ false) (sym now.whole) none)).1 in
    let rises = subst (λ es. is_sorted nat_cmp es ≡ true) (sym now.whole) sorted in
    let texts = subst (λ ws. AreTextsOf ws now.left) (sym c.as_slice.ensures.value) now.texts in
    let ran = c.in-Err.ensures.steps home written now.left k texts now.kinds zero rises (sees_of s (with_record c.args.top home written k) stays) in
    record { written = written; waits = tt; steps = step_err ran }
