use Rattle.script_engine.proofs.Bytes.{fault_begun, file_begun, file_ran, file_refused, read_as, refusal_begun, refused_as}
use Rattle.script_engine.proofs.Runs.{silent, silent_later}
use Rattle.script_engine.specs.Running.{known}
use Rattle.script_engine.proofs.files.run_file.Goals as goal

pub returns-in_err-script-clause-begun : goal.returns-in_err-script-clause-begun
returns-in_err-script-clause-begun g c =
    fault_begun g.R.RunsClients.comes c.args.bytes.now _ _ (known g.T.Write.contents c.args.out.now) c.in_err-script.ensures.begun

pub returns-in_default-clause-ok : goal.returns-in_default-clause-ok
returns-in_default-clause-ok g c =
    file_refused g.R.RunsClients.comes c.args.bytes.now _ _ (known g.T.Write.contents c.args.out.now)
    (refused_as c.args.bytes.now _ _ c.in_ok-script.field-0 c.in_default.is c.in_ok-script.ensures.read)

pub returns-in_default-clause-begun : goal.returns-in_default-clause-begun
returns-in_default-clause-begun g c =
    refusal_begun g.R.RunsClients.comes c.args.bytes.now _ _ (known g.T.Write.contents c.args.out.now)
    (refused_as c.args.bytes.now _ _ c.in_ok-script.field-0 c.in_default.is c.in_ok-script.ensures.read)

pub returns-in_err-run_script-clause-begun : goal.returns-in_err-run_script-clause-begun
returns-in_err-run_script-clause-begun g c =
    let read = read_as c.args.bytes.now _ _ c.in_ok-script.field-0 c.in-Some.script c.in-Some.is c.in_ok-script.ensures.read in
    file_begun g.R.RunsClients.comes c.args.bytes.now _ _ _ c.in-Some.script read.0 read.1 _ _ c.run_script.ensures.begun

pub returns-clause-ok : goal.returns-clause-ok
returns-clause-ok g c =
    let read = read_as c.args.bytes.now _ _ c.in_ok-script.field-0 c.in-Some.script c.in-Some.is c.in_ok-script.ensures.read in
    file_ran g.R.RunsClients.comes c.args.bytes.now _ _ _ c.in-Some.script read.0 read.1 _ _ c.in_ok-run_script.ensures.ok

pub returns-clause-begun : goal.returns-clause-begun
returns-clause-begun g c =
    let read = read_as c.args.bytes.now _ _ c.in_ok-script.field-0 c.in-Some.script c.in-Some.is c.in_ok-script.ensures.read in
    file_begun g.R.RunsClients.comes c.args.bytes.now _ _ _ c.in-Some.script read.0 read.1 _ _ c.run_script.ensures.begun

pub returns-in_err-script-clause-untraced : goal.returns-in_err-script-clause-untraced
returns-in_err-script-clause-untraced g c = silent c.from_residual.result (known g.T.Write.contents c.args.out.now)

pub returns-in_err-run_script-clause-silent : goal.returns-in_err-run_script-clause-silent
returns-in_err-run_script-clause-silent g c =
    let read = read_as c.args.bytes.now _ _ c.in_ok-script.field-0 c.in-Some.script c.in-Some.is c.in_ok-script.ensures.read in
    silent_later _ _ _ c.in_err-run_script.field-0.0 c.from_residual-in_err-run_script.result c.from_residual-in_err-run_script.ensures.1 read.1
    c.in_err-run_script.ensures.silent
