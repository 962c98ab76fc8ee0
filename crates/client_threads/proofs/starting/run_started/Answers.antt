use Rattle.std.proofs.Common.{ap, subst, sym}
use Rattle.activities.specs.Apart.{IsRunnable, begun_name, ended_name}
use Rattle.client_threads.specs.Callers.{run_of}
use Rattle.runtime.specs.Receipts.{events_of}
use Rattle.client_threads.proofs.Running.{made_commits, made_own}
use Rattle.client_threads.proofs.starting.run_started.Goals as goal

pub run_arm-arm-requires-clause-body : goal.run_arm-arm-requires-clause-body
run_arm-arm-requires-clause-body g c = subst (λ s. IsRunnable s c.args.started.arm) (sym c.requires.is_of) c.args.started.runnable

pub into_done-requires-clause-own : goal.into_done-requires-clause-own
into_done-requires-clause-own g c =
    made_own (begun_name c.args.started.arm) (ended_name c.run_arm-arm.result) (run_of c.of_arm-caller.result.calls.now.opening.now c.of_arm-caller.result.receipts)
    (run_of c.run_arm-arm.new.world.calls.now.opening.now c.run_arm-arm.new.world.receipts) (ap events_of c.of_arm-caller.ensures.none)
    c.run_arm-arm.ensures.name c.run_arm-arm.ensures.makes

pub into_done-requires-clause-commits : goal.into_done-requires-clause-commits
into_done-requires-clause-commits g c =
    made_commits (begun_name c.args.started.arm) (ended_name c.run_arm-arm.result) (run_of c.of_arm-caller.result.calls.now.opening.now c.of_arm-caller.result.receipts)
    (run_of c.run_arm-arm.new.world.calls.now.opening.now c.run_arm-arm.new.world.receipts) (ap events_of c.of_arm-caller.ensures.none)
    c.run_arm-arm.ensures.name c.run_arm-arm.ensures.makes
