use Rattle.std.proofs.Common.{IfErr, OnOk, ap, refl, reverse, subst, sym, ◌++◌, ◌∙◌, ◌≡◌, [], ◌∷◌}
use Rattle.std.specs.Prelude.{option_to_list}
use Rattle.activities.specs.Serial.{arms_aborted}
use Rattle.activities.proofs.Ending.{both_ok}
use Rattle.activities.proofs.Failing.{cause_of_both, last_ran, none_ran}
use Rattle.activities.proofs.Making.{earlier_waits, last_waits, makes_nowhere, one_quietly}
use Rattle.activities.proofs.Meaning.{last_first}
use Rattle.activities.proofs.open_action.OpenAction.abort_arms.Goals as goal

pub loop-arm-init : goal.loop-arm-init
loop-arm-init g c = record {
  makes = makes_nowhere c.args.arms.items [] (g.W.ActivitySteps.run c.args.world.now);
  among = λ a h. h;
  means = λ alone. refl;
  failed = tt;
  over = none_ran g.W.ActivitySteps.alone g.W.ActivitySteps.fails c.args.arms.items (g.W.ActivitySteps.run c.args.world.now);
}

pub loop-arm-preserved : goal.loop-arm-preserved
loop-arm-preserved g c =
    let l = c.loop-arm in
    let a = c.in-Some.arm in
    let names = c.args.arms.items in
    let waits = l.arms.items in
    let rest = c.pop.new.self.items in
    let is : waits ≡ rest ++ (a ∷ []) = c.pop.ensures.items ∙ ap (λ o. rest ++ option_to_list o) c.in-Some.is in
    let old = g.W.ActivitySteps.run c.args.world.now in
    let mid = g.W.ActivitySteps.run l.world in
    let new = g.W.ActivitySteps.run c.abort_at_home.new.world in
    let home = c.args.self.now.home in
    record {
      makes = one_quietly a names old mid new (l.invariant.among a (last_waits waits rest a is)) l.invariant.makes c.abort_at_home.ensures.makes;
      among = λ b h. l.invariant.among b (earlier_waits waits rest a is b h);
      means =
          subst (λ r. OnOk r (g.W.ActivitySteps.alone → arms_aborted home (reverse rest) new ≡ arms_aborted home (reverse names) old)) (sym c.and-fault.ensures)
          (both_ok l.fault c.abort_at_home.result l.invariant.means c.abort_at_home.ensures.means
          (λ before more alone. ap (arms_aborted home (reverse rest)) (more alone)
          ∙ sym (ap (λ all. arms_aborted home all mid) (last_first waits rest a is)) ∙ before alone));
      failed =
          subst (λ r. IfErr r g.W.ActivitySteps.fails) (sym c.and-fault.ensures)
          (cause_of_both g.W.ActivitySteps.fails l.fault c.abort_at_home.result l.invariant.failed c.abort_at_home.ensures.failed);
      over =
          last_ran g.W.ActivitySteps.alone g.W.ActivitySteps.fails names waits rest a old mid new is l.invariant.over c.abort_at_home.ensures.over;
    }
