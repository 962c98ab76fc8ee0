use Rattle.std.proofs.Common.{◌≡◌, ◌<◌, ◌+◌, [], ◌∷◌, ◌++◌, Ok, Err, false, drop, drop_of_length-le, refl, sym, ap, subst, ◌∙◌, arith}
use Rattle.std.proofs.lemmas.List.{drop_more}
use Rattle.sqlite.specs.Held.{state}
use Rattle.sqlite.proofs.StateLemmas.{survives_then}
use Rattle.stable_store.specs.Numbers.{has_zero}
use Rattle.store_tables.specs.Changes.{with_base, with_part, all_put}
use Rattle.store_writing.specs.Steps.{While}
use Rattle.store_writing.specs.Waiting.{Waits, IsAny}
use Rattle.store_writing.proofs.Inside.{steps_then, steps_as, step_ok, step_err, step_same, sees_of, survives_self}
use Rattle.store_writing.proofs.Loops.{first_above}
use Rattle.store_writing.proofs.Waits.{next_waits, all_written, zero_parts, put_more}
use Rattle.store_writing.proofs.installing.install_rest.Goals as goal

pub loop-part-init : goal.loop-part-init
loop-part-init g c = record {
  same = refl;
  survives = survives_self (state g.A.Store c.args.tx.now.conn.now);
  steps = λ written all k none waits stays.
      (written, waits, step_same (state g.A.Store c.args.tx.now.conn.now) (with_base (all_put written k.base) k) stays);
}

pub loop-part-preserved : goal.loop-part-preserved
loop-part-preserved g c =
    let first = state g.A.Store c.args.tx.now.conn.now in
    let mid = state g.A.Store c.loop-part.tx.conn.now in
    let last = state g.A.Store c.put_installed.new.tx.conn.now in
    let at = c.loop-part.part-index in
    let ws = c.args.waiting.now in
    let w = c.part-item.result in
    let rest = drop (at + 1) ws in
    let taken : drop at ws ≡ w ∷ rest = drop_more ws at w (omega arith) ∙ ap (λ x. x ∷ rest) (sym c.part-item.is) in
    record {
      same = c.put_installed.ensures.same ∙ c.loop-part.invariant.same;
      survives = survives_then first mid last _ _ (λ _. ⊥) (λ _ db none. none) (λ _ db none. none) c.loop-part.invariant.survives c.put_installed.ensures.survives;
      steps = λ written all k none waits stays.
          let was = c.loop-part.invariant.steps written all k none waits stays in
          let one = next_waits IsAny w rest was.0 all (subst (λ l. Waits IsAny l was.0 all) taken was.1) in
          let e = one.0 in
          let done = was.0 ++ e ∷ [] in
          let d = with_base (all_put was.0 k.base) k in
          let low : While mid (0 < e.0) = λ clean up. first_above e.0 e.1 [] (zero_parts was.0 (e ∷ []) (zero_parts done one.3.left (subst (λ es. has_zero es ≡ false) (sym one.3.whole) (none (omega (arith, c.loop-part.invariant.survives.clean)) (was.2.ok clean).0))).0).1 in (
            done,
            one.3,
            step_ok (steps_as first last (with_part e.0 e.1 d) (with_base (all_put done k.base) k) (Ok c.in-Ok.field-0) (sym (put_more was.0 (e ∷ []) k))
                (steps_then first mid last d (with_part e.0 e.1 d) tt (Ok c.in-Ok.field-0) (λ h. omega (arith, c.put_installed.ensures.survives.clean)) was.2
                (λ st. c.in-Ok.ensures.steps e d low one.1 (sees_of mid d st)))),
          );
    }

pub returns-in-Err-clause-steps : goal.returns-in-Err-clause-steps
returns-in-Err-clause-steps g c written all k none waits stays =
    let first = state g.A.Store c.args.tx.now.conn.now in
    let mid = state g.A.Store c.loop-part.tx.conn.now in
    let last = state g.A.Store c.put_installed.new.tx.conn.now in
    let at = c.loop-part.part-index in
    let ws = c.args.waiting.now in
    let w = c.part-item.result in
    let rest = drop (at + 1) ws in
    let taken : drop at ws ≡ w ∷ rest = drop_more ws at w (omega arith) ∙ ap (λ x. x ∷ rest) (sym c.part-item.is) in
    let was = c.loop-part.invariant.steps written all k none waits stays in
    let one = next_waits IsAny w rest was.0 all (subst (λ l. Waits IsAny l was.0 all) taken was.1) in
    let e = one.0 in
    let done = was.0 ++ e ∷ [] in
    let d = with_base (all_put was.0 k.base) k in
    let low : While mid (0 < e.0) = λ clean up. first_above e.0 e.1 [] (zero_parts was.0 (e ∷ []) (zero_parts done one.3.left (subst (λ es. has_zero es ≡ false) (sym one.3.whole) (none (omega (arith, c.loop-part.invariant.survives.clean)) (was.2.ok clean).0))).0).1 in
    step_err (steps_then first mid last d (with_part e.0 e.1 d) tt (Err c.in-Err.error) (λ h. omega (arith, c.put_installed.ensures.survives.clean)) was.2
    (λ st. c.in-Err.ensures.steps e d low one.1 (sees_of mid d st)))

pub returns-clause-steps : goal.returns-clause-steps
returns-clause-steps g c written all k none waits stays =
    let first = state g.A.Store c.args.tx.now.conn.now in
    let last = state g.A.Store c.loop-part.tx.conn.now in
    let was = c.loop-part.invariant.steps written all k none waits stays in
    let done : was.0 ≡ all = all_written IsAny _ was.0 all (drop_of_length-le c.args.waiting.now {i = c.loop-part.part-index} (omega arith)) was.1 in
    steps_as first last (with_base (all_put was.0 k.base) k) (with_base (all_put all k.base) k) (Ok tt) (ap (λ es. with_base (all_put es k.base) k) done) was.2
