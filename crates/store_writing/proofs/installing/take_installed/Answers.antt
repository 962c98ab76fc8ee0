use Rattle.std.proofs.Common.{◌≡◌, ℕ, List, false, sym, ap, subst, ◌∙◌}
use Rattle.atomic_types.specs.declared.part.Part.{Part}
use Rattle.sqlite.specs.Held.{state}
use Rattle.stable_store.specs.Numbers.{has_zero}
use Rattle.store_tables.specs.Changes.{with_base, all_put}
use Rattle.store_tables.proofs.Statements.{more}
use Rattle.store_writing.specs.Steps.{While}
use Rattle.store_writing.specs.Waiting.{AreTextsOf, IsAny}
use Rattle.store_writing.proofs.Inside.{step_same, steps_as, step_ok, step_err, sees_of}
use Rattle.store_writing.proofs.Waits.{none_wait, one_more_waits, zero_parts, put_more}
use Rattle.store_writing.proofs.installing.take_installed.Goals as goal

pub returns-then-len-lt-RUN-clause-steps : goal.returns-then-len-lt-RUN-clause-steps
returns-then-len-lt-RUN-clause-steps g c written all k none waits stays =
    let s = state g.A.Store c.args.tx.now.conn.now in
    record {
      written = written;
      waits = one_more_waits IsAny c.args.waiting.now.items c.wait.new.waiting.items written all (c.args.object, c.args.part.now) waits tt c.in-Ok.ensures;
      steps = step_same s (with_base (all_put written k.base) k) stays;
    }

pub returns-in-Ok-install_run-clause-steps : goal.returns-in-Ok-install_run-clause-steps
returns-in-Ok-install_run-clause-steps g c written all k none waits stays =
    let s = state g.A.Store c.args.tx.now.conn.now in
    let t = state g.A.Store c.install_run.new.tx.conn.now in
    let next = more all c.args.object c.args.part.now in
    let d = with_base (all_put written k.base) k in
    let now = one_more_waits IsAny c.args.waiting.now.items c.wait.new.waiting.items written all (c.args.object, c.args.part.now) waits tt c.in-Ok.ensures in
    let zero : While s (has_zero now.left ≡ false) = λ clean up. (zero_parts written now.left (subst (λ es. has_zero es ≡ false) (sym now.whole) (none clean up))).1 in
    let texts = subst (λ ws. AreTextsOf ws now.left) (sym c.as_slice.ensures.value) now.texts in
    let ran = c.in-Ok-install_run.ensures.steps now.left d zero texts (sees_of s d stays) in
    record {
      written = next;
      waits = none_wait IsAny c.clear.new.self.items next c.clear.ensures.items;
      steps = step_ok (steps_as s t (with_base (all_put now.left d.base) d) (with_base (all_put next k.base) k) _
          (sym (put_more written now.left k) ∙ ap (λ (es : List (ℕ × Part)). with_base (all_put es k.base) k) now.whole) ran);
    }

pub returns-in-Err-clause-steps : goal.returns-in-Err-clause-steps
returns-in-Err-clause-steps g c written all k none waits stays =
    let s = state g.A.Store c.args.tx.now.conn.now in
    let d = with_base (all_put written k.base) k in
    let now = one_more_waits IsAny c.args.waiting.now.items c.wait.new.waiting.items written all (c.args.object, c.args.part.now) waits tt c.in-Ok.ensures in
    let zero : While s (has_zero now.left ≡ false) = λ clean up. (zero_parts written now.left (subst (λ es. has_zero es ≡ false) (sym now.whole) (none clean up))).1 in
    let texts = subst (λ ws. AreTextsOf ws now.left) (sym c.as_slice.ensures.value) now.texts in
    let ran = c.in-Err.ensures.steps now.left d zero texts (sees_of s d stays) in
    record { written = written; waits = tt; steps = step_err ran }
