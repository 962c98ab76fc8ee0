use Rattle.std.proofs.Common.{◌≡◌, ℕ, List, [], ◌∷◌, ◌++◌, Ok, Err, false, rules, refl, sym, ap, subst, ◌∙◌, append-nil, arith, nat_cmp}
use Rattle.std.specs.Map.{keys_of}
use Rattle.std.specs.Map.Iter.{deref_pair}
use Rattle.std.specs.List.Sorted.{IsStrictlySortedBy}
use Rattle.std.proofs.lemmas.Map.Iter.{rest_more}
use Rattle.sqlite.specs.Held.{state}
use Rattle.atomic_types.specs.declared.part.Part.{Part}
use Rattle.sqlite.proofs.StateLemmas.{survives_then}
use Rattle.stable_store.specs.Numbers.{has_zero}
use Rattle.store_tables.specs.Changes.{with_record}
use Rattle.store_tables.specs.Shown.{IsValue}
use Rattle.store_tables.proofs.Statements.{more}
use Rattle.store_writing.specs.Waiting.{Waits}
use Rattle.store_writing.proofs.Inside.{steps_then, step_err, step_same, survives_self}
use Rattle.store_writing.proofs.Loops.{all_rise, rising, later}
use Rattle.store_writing.proofs.Waits.{none_wait, zero_parts, takes_then, takes_ok, stays_after}
use Rattle.store_writing.proofs.preparing.put_parts.Goals as goal

pub loop-object-init : goal.loop-object-init
loop-object-init g c = record {
  same = refl;
  survives = survives_self (state g.A.Store c.args.tx.now.conn.now);
  few = search rules;
  steps = λ home k stays.
      let all : [] ++ c.into_iter-object-iterator.result ≡ c.args.parts.now.entries = search rules in (
        [],
        all,
        record {
          written = [];
          waits = none_wait IsValue c.new-waiting.result.items [] c.new-waiting.ensures.items;
          steps = step_same (state g.A.Store c.args.tx.now.conn.now) (with_record c.args.top home [] k) stays;
        },
      );
}

pub loop-object-preserved : goal.loop-object-preserved
loop-object-preserved g c =
    let first = state g.A.Store c.args.tx.now.conn.now in
    let mid = state g.A.Store c.loop-object.tx.conn.now in
    let last = state g.A.Store c.take_part.new.tx.conn.now in
    let object = c.in-Some.field-0-0.now in
    let part = c.in-Some.part.now in
    let taken = rest_more deref_pair _ _ _ (c.in-Some.field-0-0, c.in-Some.part) c.in-Some.is c.next.ensures.steps in
    record {
      same = c.take_part.ensures.same ∙ c.loop-object.invariant.same;
      survives = survives_then first mid last _ _ (λ _. ⊥) (λ _ db none. none) (λ _ db none. none) c.loop-object.invariant.survives c.take_part.ensures.survives;
      few = c.in-Ok.ensures.few;
      steps = λ home k stays.
          let was = c.loop-object.invariant.steps home k stays in
          let next = more was.0 object part in
          let all : was.0 ++ (object, part) ∷ c.next.new.self ≡ c.args.parts.now.entries =
          ap (λ it. was.0 ++ it) (sym taken) ∙ was.1 in
          let sorted = rising was.0 object part c.next.new.self (subst (λ es. IsStrictlySortedBy nat_cmp (keys_of es)) (sym all) c.len-rising.ensures.ordered) in
          let whole = later was.0 object part _ c.next.new.self c.args.parts.now.entries taken was.1 in
          let none = (zero_parts next c.next.new.self (subst (λ es. has_zero es ≡ false) (sym whole) c.requires.objects)).0 in
          let after = λ (es : List (ℕ × Part)). with_record c.args.top home es k in
          let took = c.in-Ok.ensures.steps home was.2.written was.0 k none sorted was.2.waits (stays_after first mid (after was.2.written) tt was.2.steps) in (
            next,
            whole,
            takes_ok (takes_then IsValue first mid last c.loop-object.waiting.items c.take_part.new.waiting.items was.0 next after (Ok c.in-Ok.field-0) (λ h. omega (arith, c.take_part.ensures.survives.clean)) was.2 took),
          );
    }

pub returns-in-Err-clause-steps : goal.returns-in-Err-clause-steps
returns-in-Err-clause-steps g c home k stays =
    let first = state g.A.Store c.args.tx.now.conn.now in
    let mid = state g.A.Store c.loop-object.tx.conn.now in
    let last = state g.A.Store c.take_part.new.tx.conn.now in
    let object = c.in-Some.field-0-0.now in
    let part = c.in-Some.part.now in
    let taken = rest_more deref_pair _ _ _ (c.in-Some.field-0-0, c.in-Some.part) c.in-Some.is c.next.ensures.steps in
    let was = c.loop-object.invariant.steps home k stays in
    let next = more was.0 object part in
    let all : was.0 ++ (object, part) ∷ c.next.new.self ≡ c.args.parts.now.entries = ap (λ it. was.0 ++ it) (sym taken) ∙ was.1 in
    let sorted = rising was.0 object part c.next.new.self (subst (λ es. IsStrictlySortedBy nat_cmp (keys_of es)) (sym all) c.len-rising.ensures.ordered) in
    let whole = later was.0 object part _ c.next.new.self c.args.parts.now.entries taken was.1 in
    let none = (zero_parts next c.next.new.self (subst (λ es. has_zero es ≡ false) (sym whole) c.requires.objects)).0 in
    let after = λ (es : List (ℕ × Part)). with_record c.args.top home es k in
    let took = c.in-Err.ensures.steps home was.2.written was.0 k none sorted was.2.waits (stays_after first mid (after was.2.written) tt was.2.steps) in
    step_err (takes_then IsValue first mid last c.loop-object.waiting.items c.take_part.new.waiting.items was.0 next after (Err c.in-Err.error) (λ h. omega (arith, c.take_part.ensures.survives.clean)) was.2 took).steps

pub returns-clause-steps : goal.returns-clause-steps
returns-clause-steps g c home k stays =
    let first = state g.A.Store c.args.tx.now.conn.now in
    let mid = state g.A.Store c.loop-object.tx.conn.now in
    let last = state g.A.Store c.put_rest.new.tx.conn.now in
    let entries = c.args.parts.now.entries in
    let was = c.loop-object.invariant.steps home k stays in
    let none : c.loop-object.object-iterator ≡ [] = search rules in
    let all : was.0 ≡ entries = sym (append-nil was.0) ∙ (ap (λ it. was.0 ++ it) (sym none) ∙ was.1) in
    let waits = subst (λ es. Waits IsValue c.loop-object.waiting.items was.2.written es) all was.2.waits in
    steps_then first mid last (with_record c.args.top home was.2.written k) (with_record c.args.top home entries k) tt c.put_rest.result (λ h. omega (arith, c.put_rest.ensures.survives.clean)) was.2.steps
    (λ st. c.put_rest.ensures.steps home was.2.written entries k c.requires.objects (all_rise entries c.len-rising.ensures.ordered)
    (subst (λ ws. Waits IsValue ws was.2.written entries) (sym c.deref.ensures.value) waits) st)
