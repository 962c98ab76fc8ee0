use Rattle.std.proofs.Common.{ap, arith, drop, sym, subst, true, ◌+◌, ◌≡◌}
use Rattle.std.specs.Prelude.{◌↔◌}
use Rattle.std.specs.Map.{values_of}
use Rattle.std.specs.Map.Iter.{deref}
use Rattle.std.proofs.lemmas.List.{drop_all}
use Rattle.std.proofs.lemmas.Map.Iter.{rest_more}
use Rattle.guardian_index.specs.Held.{IsHeld, is_in_row}
use Rattle.guardian_index.proofs.Descendants.{next_left}
use Rattle.guardian_objects.specs.Crashes.{HasCrashed}
use Rattle.guardian_objects.specs.Turns.{AreChanged}
use Rattle.guardian_objects.proofs.Crashed.{all_crashed, row_crashed, rows_crash}
use Rattle.guardian_objects.proofs.crashing.crash_held.Goals as goal

pub loop-numbers-init : goal.loop-numbers-init
loop-numbers-init g c =
    rows_crash (g.S.Survivors.stays c.args.survivors.now) c.args.held.now.rows c.args.objects.now (values_of c.in-Few.few.now) c.in-Few.ensures

pub loop-numbers-preserved : goal.loop-numbers-preserved
loop-numbers-preserved g c =
    let stays = g.S.Survivors.stays c.args.survivors.now in
    let few = c.in-Few.few.now in
    let i = c.loop-numbers.numbers-index in
    let row = c.loop-numbers-item.result in
    let next = next_left few i row c.loop-numbers-item.is (omega (arith, c.loop-numbers-test.true)) in
    row_crashed stays c.args.held.now.rows c.args.objects.now row.1 (values_of (drop i few)) (values_of (drop (i + 1) few)) c.loop-numbers.objects c.crash_row.new.objects
    (ap (λ rs. values_of rs) next) c.loop-numbers.invariant
    (subst (λ ns. AreChanged (HasCrashed stays) ns c.loop-numbers.objects c.crash_row.new.objects) c.deref.ensures.value c.crash_row.ensures)

pub returns-after-loop-numbers : goal.returns-after-loop-numbers
returns-after-loop-numbers g c =
    let few = c.in-Few.few.now in
    let i = c.loop-numbers.numbers-index in
    all_crashed (g.S.Survivors.stays c.args.survivors.now) c.args.held.now.rows c.args.objects.now (values_of (drop i few)) c.loop-numbers.objects
    (ap (λ rs. values_of rs) (drop_all i few (omega (arith, c.loop-numbers-test.false)))) c.loop-numbers.invariant

pub loop-row-init : goal.loop-row-init
loop-row-init g c =
    rows_crash (g.S.Survivors.stays c.args.survivors.now) c.args.held.now.rows c.args.objects.now c.into_iter-row-iterator.result
    (λ n. subst (λ rows. (is_in_row rows n ≡ true) ↔ IsHeld c.args.held.now.rows n) (sym c.into_iter-row-iterator.ensures.into_iter_gives) (c.in-Many.ensures n))

pub loop-row-preserved : goal.loop-row-preserved
loop-row-preserved g c =
    let stays = g.S.Survivors.stays c.args.survivors.now in
    let rows = c.loop-row.row-iterator in
    let left = c.next.new.self in
    row_crashed stays c.args.held.now.rows c.args.objects.now c.in-Some.row.now rows left c.loop-row.objects c.crash_row-in-loop-row.new.objects
    (rest_more deref rows left c.next.result c.in-Some.row c.in-Some.is c.next.ensures.steps) c.loop-row.invariant
    (subst (λ ns. AreChanged (HasCrashed stays) ns c.loop-row.objects c.crash_row-in-loop-row.new.objects) c.deref-in-loop-row.ensures.value c.crash_row-in-loop-row.ensures)
