use Rattle.std.proofs.Common.{subst, sym, ◌≡◌, IfErr}
use Rattle.std.proofs.lemmas.Result.{err_from_is_err_and}
use Rattle.argus_engine.specs.declared.engine.Fault.TheVariants.{Memory}
use Rattle.script_runs.proofs.Outcomes.{count_left, is_run_left, same_lists}
use Rattle.script_runs.proofs.serially.SeriallyRunsClients.run_clients.Goals as goal

pub returns-clause-count : goal.returns-clause-count
returns-clause-count c =
    count_left c.args.script.now c.args.setup c.in_ok-world.world.run c.run_serial.new.world.run c.in-Ok.ends.items c.in_ok-bases.bases.items
    c.in_ok-world.ensures.new c.in-Ok.ensures.ok c.in_ok-bases.ensures

pub returns-clause-begun : goal.returns-clause-begun
returns-clause-begun c =
    same_lists c.args.script.now c.args.setup c.in_ok-world.world.run c.run_serial.new.world.run c.in-Ok.ends.items c.in_ok-world.ensures.new
    c.in-Ok.ensures.ok

pub returns-clause-is_run : goal.returns-clause-is_run
returns-clause-is_run c =
    is_run_left c.args.script.now c.args.setup c.in_ok-world.world.run c.run_serial.new.world.run c.in-Ok.ends.items c.in_ok-world.ensures.new
    c.in-Ok.ensures.ok

-- out of memory for the bases
pub returns-in_err-bases-clause-fault : goal.returns-in_err-bases-clause-fault
returns-in_err-bases-clause-fault c =
    let p = err_from_is_err_and c.from_residual-in_err-bases.result c.from_residual-in_err-bases.ensures.1 in
    subst (λ r. IfErr r (λ fault. fault ≡ Memory)) (sym p.1) p.2
