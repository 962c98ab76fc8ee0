use Rattle.std.proofs.Common.{[], arith, get_or, sym, subst, take, ◌∷◌}
use Rattle.std.proofs.lemmas.List.{take_more}
use Rattle.guardian_objects.specs.Crashes.{HasCrashed}
use Rattle.guardian_objects.specs.Turns.{AreChanged}
use Rattle.guardian_objects.proofs.Crashed.{crashed_both}
use Rattle.guardian_objects.proofs.crashing.crash_row.Goals as goal

pub loop-number-preserved : goal.loop-number-preserved
loop-number-preserved g c =
    let stays = g.S.Survivors.stays c.args.survivors.now in
    let numbers = c.args.numbers.now in
    let i = c.loop-number.number-index in
    subst (λ ns. AreChanged (HasCrashed stays) ns c.args.objects.now c.crash_at.new.objects) (sym (take_more numbers i 0 (omega (arith, c.loop-number-test.true))))
    (crashed_both stays (take i numbers) (get_or numbers i 0 ∷ []) c.args.objects.now c.loop-number.objects c.crash_at.new.objects c.loop-number.invariant c.crash_at.ensures)
