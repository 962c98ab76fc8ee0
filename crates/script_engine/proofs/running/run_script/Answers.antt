use Rattle.std.proofs.Common.{refl, string_bytes}
use Rattle.std.proofs.lemmas.Result.{on_ok_weaker}
use Rattle.script_engine.specs.Running.{BeginsRun, known}
use Rattle.script_engine.proofs.Limits.{resolved}
use Rattle.script_engine.proofs.Runs.{lines_begun, never_silent, run_begins, run_not_begun, run_told, silent, told_by, trace_begun, wanted_front, wanted_whole}
use Rattle.script_engine.proofs.running.run_script.Goals as goal

pub run_clients-requires-clause-script : goal.run_clients-requires-clause-script
run_clients-requires-clause-script g c = resolved c.args.script.now c.requires.script

pub returns-in_err-setup_of-clause-begun : goal.returns-in_err-setup_of-clause-begun
returns-in_err-setup_of-clause-begun g c =
    run_not_begun g.R.RunsClients.comes c.args.script.now c.args.script.now.guardians (known g.T.Write.contents c.args.out.now) (g.W.Write.contents c.args.writer.now)

pub returns-in_err-outcome-clause-begun : goal.returns-in_err-outcome-clause-begun
returns-in_err-outcome-clause-begun g c =
    run_not_begun g.R.RunsClients.comes c.args.script.now c.args.script.now.guardians (known g.T.Write.contents c.args.out.now) (g.W.Write.contents c.args.writer.now)

pub returns-in_err-text-clause-begun : goal.returns-in_err-text-clause-begun
returns-in_err-text-clause-begun g c =
    run_not_begun g.R.RunsClients.comes c.args.script.now c.args.script.now.guardians (known g.T.Write.contents c.args.out.now) (g.W.Write.contents c.args.writer.now)

pub returns-in_err-trace-clause-begun : goal.returns-in_err-trace-clause-begun
returns-in_err-trace-clause-begun g c =
    run_not_begun g.R.RunsClients.comes c.args.script.now c.args.script.now.guardians (known g.T.Write.contents c.args.out.now) (g.W.Write.contents c.args.writer.now)

pub returns-in_err-write_wanted-clause-begun : goal.returns-in_err-write_wanted-clause-begun
returns-in_err-write_wanted-clause-begun g c =
    let comes = g.R.RunsClients.comes in
    let script = c.args.script.now in
    let system = g.R.System.Traced.run c.in_ok-outcome.outcome.system in
    let told =
    run_told comes script _ script.guardians system _ c.as_slice.result.now c.in_ok-outcome.outcome.bases.items c.as_slice-2.result.now
    (string_bytes c.in_ok-text.text) _ c.in_ok-setup_of.ensures c.in_ok-outcome.ensures.came c.in_ok-outcome.ensures.begun c.in_ok-outcome.ensures.is_run
    refl c.in_ok-text.ensures c.as_slice.ensures.value c.as_slice-2.ensures.value in
    let out = known g.T.Write.contents c.args.out.now in
    let writer = g.W.Write.contents c.args.writer.now in
    trace_begun (told_by system) (string_bytes c.in_ok-text.text) out (known g.T.Write.contents c.write_wanted.new.out) writer writer
    (BeginsRun comes script script.guardians) (run_begins comes script script.guardians (told_by system) (string_bytes c.in_ok-text.text) told)
    (wanted_front g.T.Write.contents (known g.T.Write.contents c.write_wanted.new.out) c.as_str.result.now _ (told_by system) c.as_str.ensures.value c.args.out.now
    c.in_ok-trace.ensures.trace c.in_err-write_wanted.ensures.front)

pub returns-clause-ok : goal.returns-clause-ok
returns-clause-ok g c =
    let comes = g.R.RunsClients.comes in
    let script = c.args.script.now in
    let system = g.R.System.Traced.run c.in_ok-outcome.outcome.system in
    let told =
    run_told comes script _ script.guardians system _ c.as_slice.result.now c.in_ok-outcome.outcome.bases.items c.as_slice-2.result.now
    c.as_str-2.result.now _ c.in_ok-setup_of.ensures c.in_ok-outcome.ensures.came c.in_ok-outcome.ensures.begun c.in_ok-outcome.ensures.is_run
    c.as_str-2.ensures.value c.in_ok-text.ensures c.as_slice.ensures.value c.as_slice-2.ensures.value in
    let traced =
    wanted_whole g.T.Write.contents (known g.T.Write.contents c.write_wanted.new.out) c.as_str.result.now _ (told_by system) c.as_str.ensures.value c.args.out.now
    c.in_ok-trace.ensures.trace c.in_ok-write_wanted.ensures.ok in
    on_ok_weaker c.finish.result (λ wrote. (told_by system, c.as_str-2.result.now, traced, wrote, told)) c.finish.ensures.ok

pub returns-clause-begun : goal.returns-clause-begun
returns-clause-begun g c =
    let comes = g.R.RunsClients.comes in
    let script = c.args.script.now in
    let system = g.R.System.Traced.run c.in_ok-outcome.outcome.system in
    let told =
    run_told comes script _ script.guardians system _ c.as_slice.result.now c.in_ok-outcome.outcome.bases.items c.as_slice-2.result.now
    c.as_str-2.result.now _ c.in_ok-setup_of.ensures c.in_ok-outcome.ensures.came c.in_ok-outcome.ensures.begun c.in_ok-outcome.ensures.is_run
    c.as_str-2.ensures.value c.in_ok-text.ensures c.as_slice.ensures.value c.as_slice-2.ensures.value in
    let out = known g.T.Write.contents c.args.out.now in
    lines_begun (told_by system) c.as_str-2.result.now out (known g.T.Write.contents c.write_wanted.new.out) (g.W.Write.contents c.args.writer.now)
    (g.W.Write.contents c.finish.new.writer) (BeginsRun comes script script.guardians)
    (run_begins comes script script.guardians (told_by system) c.as_str-2.result.now told)
    (wanted_whole g.T.Write.contents (known g.T.Write.contents c.write_wanted.new.out) c.as_str.result.now _ (told_by system) c.as_str.ensures.value c.args.out.now
    c.in_ok-trace.ensures.trace c.in_ok-write_wanted.ensures.ok)
    c.finish.ensures.front

pub returns-in_err-setup_of-clause-silent : goal.returns-in_err-setup_of-clause-silent
returns-in_err-setup_of-clause-silent g c = silent c.from_residual.result (g.W.Write.contents c.args.writer.now)

pub returns-in_err-setup_of-clause-untraced : goal.returns-in_err-setup_of-clause-untraced
returns-in_err-setup_of-clause-untraced g c = silent c.from_residual.result (known g.T.Write.contents c.args.out.now)

pub returns-in_err-outcome-clause-silent : goal.returns-in_err-outcome-clause-silent
returns-in_err-outcome-clause-silent g c = silent c.from_residual-in_err-outcome.result (g.W.Write.contents c.args.writer.now)

pub returns-in_err-outcome-clause-untraced : goal.returns-in_err-outcome-clause-untraced
returns-in_err-outcome-clause-untraced g c = silent c.from_residual-in_err-outcome.result (known g.T.Write.contents c.args.out.now)

pub returns-in_err-text-clause-silent : goal.returns-in_err-text-clause-silent
returns-in_err-text-clause-silent g c = silent c.from_residual-in_err-text.result (g.W.Write.contents c.args.writer.now)

pub returns-in_err-text-clause-untraced : goal.returns-in_err-text-clause-untraced
returns-in_err-text-clause-untraced g c = silent c.from_residual-in_err-text.result (known g.T.Write.contents c.args.out.now)

pub returns-in_err-trace-clause-silent : goal.returns-in_err-trace-clause-silent
returns-in_err-trace-clause-silent g c = silent c.from_residual-in_err-trace.result (g.W.Write.contents c.args.writer.now)

pub returns-in_err-trace-clause-untraced : goal.returns-in_err-trace-clause-untraced
returns-in_err-trace-clause-untraced g c = silent c.from_residual-in_err-trace.result (known g.T.Write.contents c.args.out.now)

pub returns-clause-silent : goal.returns-clause-silent
returns-clause-silent g c = never_silent _ c.finish.result c.finish.ensures.fault

pub returns-clause-untraced : goal.returns-clause-untraced
returns-clause-untraced g c = never_silent _ c.finish.result c.finish.ensures.fault
