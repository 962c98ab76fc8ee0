use Rattle.std.proofs.Common.{IsTrue, Some, ap, arith, length, refl, subst, sym, ◌-◌, ◌∙◌, ◌≡◌}
use Rattle.std.proofs.lemmas.Option.{slice_get_read}
use Rattle.std.specs.Prelude.{slice_get}
use Rattle.action_names.specs.Names.{Name, has_name}
use Rattle.activities.specs.Apart.{AllRunnable, are_subs, begun_names}
use Rattle.activities.specs.Bodies.{sizes}
use Rattle.activities.proofs.ArmsApart.{longer, one_among, one_named, one_runnable, one_sub, runnable_as}
use Rattle.activities.proofs.Resolving.{arm_of}
use Rattle.activities.proofs.apart.begun_arms.Goals as goal

pub loop-arm-preserved : goal.loop-arm-preserved
loop-arm-preserved c =
    let l = c.loop-arm in
    let one = c.in_ok-one.one in
    let arm = c.arm-item.result in
    let arms = c.args.arms.now in
    let frames = c.args.frames.now in
    let waiting = c.args.waiting.now in
    let i = length waiting - 1 - c.len.result in
    let at : slice_get waiting i ≡ Some one.action.name =
    slice_get_read waiting (length waiting) i c.index-waiting-waiting.result refl (omega arith) c.index-waiting-waiting.is ∙ ap Some (sym c.in_ok-one.ensures.name) in
    let there = slice_get_read arms (length arms) l.arm-index arm refl (omega arith) c.arm-item.is in
    record {
      each = let e = ap length c.in_ok-add.ensures in omega (arith, e, longer l.begun.items one, l.invariant.each);
      named = ap begun_names c.in_ok-add.ensures
          ∙ one_named l.begun.items one waiting l.arm-index _ l.invariant.named refl (omega arith)
          (subst (λ n. slice_get waiting (length waiting - 1 - n) ≡ Some one.action.name) (omega (arith, l.invariant.each)) at);
      subs = ap are_subs c.in_ok-add.ensures ∙ one_sub l.begun.items one arms arm l.arm-index _ l.invariant.subs refl c.in_ok-one.ensures.sub there;
      among = subst (λ (all : _). (a : Name) → IsTrue (has_name (begun_names all) a) → IsTrue (has_name waiting a)) (sym c.in_ok-add.ensures)
          (one_among l.begun.items one waiting i l.invariant.among at);
      runnable = λ script are. subst (AllRunnable script) (sym c.in_ok-add.ensures)
          (one_runnable script l.begun.items one (l.invariant.runnable script are)
          (runnable_as script frames arm one c.in_ok-one.ensures.frames c.in_ok-one.ensures.body (arm_of script (sizes frames) arms l.arm-index arm are there)));
    }
