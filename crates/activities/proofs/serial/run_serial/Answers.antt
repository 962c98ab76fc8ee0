use Rattle.std.proofs.Common.{Ok, [], ap, arith, inl, length, refl, ◌∙◌}
use Rattle.std.proofs.lemmas.List.{take_all}
use Rattle.activities.specs.Ends.{listed}
use Rattle.activities.specs.Failing.{StepFails}
use Rattle.activities.specs.Serial.{clients_ran}
use Rattle.activities.proofs.Failing.{cause_of_ends, over_nowhere, over_through}
use Rattle.activities.proofs.Meaning.{if_ok_then}
use Rattle.activities.proofs.Trying.{all_came, came_by, has_room, if_err_any, next_came, next_is_tried, next_ran, none_tried, on_err, room_left, some_tried}
use Rattle.activities.proofs.serial.run_serial.Goals as goal

pub returns-in_err-room-clause-err : goal.returns-in_err-room-clause-err
returns-in_err-room-clause-err g c =
    on_err _ (some_tried c.as_slice-clients.result.now c.args.script.now.clients 0 (g.W.MakesSteps.run c.args.world.now) (g.W.MakesSteps.run c.args.world.now) c.as_slice-clients.ensures
    (none_tried c.as_slice-clients.result.now (g.W.MakesSteps.run c.args.world.now)))

pub returns-in_err-room-clause-fault : goal.returns-in_err-room-clause-fault
returns-in_err-room-clause-fault g c = if_err_any _ (λ fault. inl refl)

pub loop-client-init : goal.loop-client-init
loop-client-init g c = record {
  tried = none_tried c.as_slice-clients.result.now (g.W.MakesSteps.run c.args.world.now);
  came = record { came = []; in_turn = refl; is_all = ap Ok c.in_ok-room.ensures.items };
  failed = tt;
  over = over_nowhere (Unit {0}) (StepFails g.W.MakesSteps.leaves) (g.W.MakesSteps.run c.args.world.now);
  room = (ap length c.in_ok-room.ensures.items, omega (arith, c.in_ok-room.ensures.exact));
  ran = ap (λ l. record { world = (g.W.MakesSteps.run c.args.world.now); ends = l }) c.in_ok-room.ensures.items;
}

pub with_end-ends-requires : goal.with_end-ends-requires
with_end-ends-requires g c = record {
  room = has_room c.loop-client.ends c.loop-client.client-index (length c.as_slice-clients.result.now) (omega arith) c.loop-client.invariant.room;
}

pub loop-client-preserved : goal.loop-client-preserved
loop-client-preserved g c =
    let l = c.loop-client in
    let clients = c.as_slice-clients.result.now in
    let client = c.client-item.result in
    let one = c.run_client.result in
    let old = g.W.MakesSteps.run c.args.world.now in
    let mid = g.W.MakesSteps.run l.world in
    let new = g.W.MakesSteps.run c.run_client.new.world in
    let came = came_by client.home mid new one c.run_client.ensures.made c.run_client.ensures.top c.run_client.ensures.cut in
    record {
      tried = next_is_tried clients l.client-index client old mid new one (omega arith) c.client-item.is l.invariant.tried came;
      came = next_came clients l.client-index client old mid new (listed l.ends) (listed c.with_end-ends.result) one (omega arith) c.client-item.is
          c.with_end-ends.ensures.ends l.invariant.came came;
      failed = cause_of_ends (StepFails g.W.MakesSteps.leaves) l.ends c.with_end-ends.result one c.with_end-ends.ensures.ends l.invariant.failed c.run_client.ensures.failed;
      over = over_through (Unit {0}) (StepFails g.W.MakesSteps.leaves) old mid new l.invariant.over c.run_client.ensures.over;
      room = room_left l.ends c.with_end-ends.result one l.client-index (length clients) c.with_end-ends.ensures.ends c.with_end-ends.ensures.room
          l.invariant.room;
      ran = next_ran c.args.script.now.handlers clients l.client-index client old mid new l.ends c.with_end-ends.result one (omega arith)
          c.client-item.is c.with_end-ends.ensures.ends l.invariant.ran c.run_client.ensures.ok;
    }

pub returns : goal.returns
returns g c =
    let l = c.loop-client in
    let clients = c.as_slice-clients.result.now in
    let old = g.W.MakesSteps.run c.args.world.now in
    let new = g.W.MakesSteps.run l.world in
    record {
      ok = if_ok_then l.ends l.invariant.ran
          (λ ends e. e ∙ ap (λ x. clients_ran c.args.script.now.handlers x old) (take_all l.client-index clients (omega arith) ∙ c.as_slice-clients.ensures));
      err = on_err l.ends (some_tried clients c.args.script.now.clients l.client-index old new c.as_slice-clients.ensures l.invariant.tried);
      failed = l.invariant.failed;
      over = l.invariant.over;
      fault = all_came clients c.args.script.now.clients l.client-index old new l.ends c.as_slice-clients.ensures (omega arith) l.invariant.came;
    }

pub returns-in_err-room-clause-over : goal.returns-in_err-room-clause-over
returns-in_err-room-clause-over g c = over_nowhere (Unit {0}) (StepFails g.W.MakesSteps.leaves) (g.W.MakesSteps.run c.args.world.now)
