use Rattle.std.proofs.Common.{[], inr, length, map, refl, string_bytes}
use Rattle.argus_engine.specs.declared.engine.Ended.TheVariants.{Done, Stopped}
use Rattle.argus_engine.proofs.Judgements.{on_err}
use Rattle.script_engine.specs.Running.{known}
use Rattle.script_engine.specs.Storing.{BeginsStoredRun, found_in, held_in, refusal_line}
use Rattle.script_engine.proofs.Limits.{resolved}
use Rattle.script_engine.proofs.Runs.{all_saved, always_so, appends_none, both_whole, count_run, done_told, entries_of, lines_begun, never_output, none_told, of_clients, partly_saved, passed_on, silent, stored_begins, stored_not_begun, told_by, trace_begun, wanted_front, wanted_whole, wants_memory, whole_saved}
use Rattle.script_engine.proofs.storing.run_stored.Goals as goal

pub returns-in_err-finish-clause-begun : goal.returns-in_err-finish-clause-begun
returns-in_err-finish-clause-begun g c =
    let comes = g.R.RunsClients.comes in
    let script = c.args.script.now in
    let all = map (found_in g.S.Stable.seen) c.args.stores.now in
    let told = none_told comes script all c.in_ok-setup.field-0 c.in_default.is c.in_ok-setup.ensures in
    let out = known g.T.Write.contents c.args.out.now in
    lines_begun [] refusal_line out out (g.W.Write.contents c.args.writer.now) (g.W.Write.contents c.finish.new.writer) (BeginsStoredRun comes script all)
    (stored_begins comes script all Stopped [] [] refusal_line told) (appends_none out) c.in_err-finish.ensures.front

pub returns-in_default-clause-begun : goal.returns-in_default-clause-begun
returns-in_default-clause-begun g c =
    let comes = g.R.RunsClients.comes in
    let script = c.args.script.now in
    let all = map (found_in g.S.Stable.seen) c.args.stores.now in
    let told = none_told comes script all c.in_ok-setup.field-0 c.in_default.is c.in_ok-setup.ensures in
    let out = known g.T.Write.contents c.args.out.now in
    both_whole [] refusal_line out out (g.W.Write.contents c.args.writer.now) (g.W.Write.contents c.finish.new.writer) (BeginsStoredRun comes script all)
    (stored_begins comes script all Stopped [] [] refusal_line told) (appends_none out) c.in_ok-finish.ensures.ok

pub returns-in_default-clause-ok : goal.returns-in_default-clause-ok
returns-in_default-clause-ok g c =
    let comes = g.R.RunsClients.comes in
    let script = c.args.script.now in
    let all = map (found_in g.S.Stable.seen) c.args.stores.now in
    let told = none_told comes script all c.in_ok-setup.field-0 c.in_default.is c.in_ok-setup.ensures in
    let out = known g.T.Write.contents c.args.out.now in
    ([], refusal_line, appends_none out, c.in_ok-finish.ensures.ok, ([], told, refl))

pub run_clients-requires-clause-script : goal.run_clients-requires-clause-script
run_clients-requires-clause-script g c = resolved c.args.script.now c.requires.script

pub save_all-requires : goal.save_all-requires
save_all-requires g c =
    count_run (map (found_in g.S.Stable.seen) c.args.stores.now) c.args.script.now.guardians c.in_ok-setup.field-0 c.in-Some.setup
    c.in_ok-outcome.outcome.bases.items c.as_slice-3.result.now (length c.args.stores.now) c.in-Some.is c.in_ok-setup.ensures c.in_ok-outcome.ensures.count
    c.as_slice-3.ensures.value c.requires.count

pub returns-in_err-setup-clause-begun : goal.returns-in_err-setup-clause-begun
returns-in_err-setup-clause-begun g c =
    let comes = g.R.RunsClients.comes in
    let script = c.args.script.now in
    let all = map (found_in g.S.Stable.seen) c.args.stores.now in
    stored_not_begun comes script all (known g.T.Write.contents c.args.out.now) (g.W.Write.contents c.args.writer.now)

pub returns-in_err-outcome-clause-begun : goal.returns-in_err-outcome-clause-begun
returns-in_err-outcome-clause-begun g c =
    let comes = g.R.RunsClients.comes in
    let script = c.args.script.now in
    let all = map (found_in g.S.Stable.seen) c.args.stores.now in
    stored_not_begun comes script all (known g.T.Write.contents c.args.out.now) (g.W.Write.contents c.args.writer.now)

pub returns-in_err-text-clause-begun : goal.returns-in_err-text-clause-begun
returns-in_err-text-clause-begun g c =
    let comes = g.R.RunsClients.comes in
    let script = c.args.script.now in
    let all = map (found_in g.S.Stable.seen) c.args.stores.now in
    stored_not_begun comes script all (known g.T.Write.contents c.args.out.now) (g.W.Write.contents c.args.writer.now)

pub returns-in_err-trace-clause-begun : goal.returns-in_err-trace-clause-begun
returns-in_err-trace-clause-begun g c =
    let comes = g.R.RunsClients.comes in
    let script = c.args.script.now in
    let all = map (found_in g.S.Stable.seen) c.args.stores.now in
    stored_not_begun comes script all (known g.T.Write.contents c.args.out.now) (g.W.Write.contents c.args.writer.now)

pub returns-in_err-save_all-clause-begun : goal.returns-in_err-save_all-clause-begun
returns-in_err-save_all-clause-begun g c =
    let comes = g.R.RunsClients.comes in
    let script = c.args.script.now in
    let all = map (found_in g.S.Stable.seen) c.args.stores.now in
    stored_not_begun comes script all (known g.T.Write.contents c.args.out.now) (g.W.Write.contents c.args.writer.now)

pub returns-in_err-write_wanted-clause-begun : goal.returns-in_err-write_wanted-clause-begun
returns-in_err-write_wanted-clause-begun g c =
    let comes = g.R.RunsClients.comes in
    let script = c.args.script.now in
    let all = map (found_in g.S.Stable.seen) c.args.stores.now in
    let system = g.R.System.Traced.run c.in_ok-outcome.outcome.system in
    let told =
    done_told comes script all c.in_ok-setup.field-0 c.in-Some.setup system c.in_ok-outcome.outcome.ends.items c.as_slice.result.now
    c.in_ok-outcome.outcome.bases.items c.as_slice-2.result.now (string_bytes c.in_ok-text.text) _ c.in-Some.is c.in_ok-setup.ensures
    c.in_ok-outcome.ensures.came c.in_ok-outcome.ensures.begun c.in_ok-outcome.ensures.is_run refl c.in_ok-text.ensures
    c.as_slice.ensures.value c.as_slice-2.ensures.value in
    let out = known g.T.Write.contents c.args.out.now in
    let writer = g.W.Write.contents c.args.writer.now in
    trace_begun (told_by system) (string_bytes c.in_ok-text.text) out (known g.T.Write.contents c.write_wanted.new.out) writer writer
    (BeginsStoredRun comes script all)
    (stored_begins comes script all Done (entries_of c.in_ok-outcome.outcome.bases.items) (told_by system) (string_bytes c.in_ok-text.text) told)
    (wanted_front g.T.Write.contents (known g.T.Write.contents c.write_wanted.new.out) c.as_str.result.now _ (told_by system) c.as_str.ensures.value c.args.out.now
    c.in_ok-trace.ensures.trace c.in_err-write_wanted.ensures.front)

pub returns-in_err-write_wanted-clause-err : goal.returns-in_err-write_wanted-clause-err
returns-in_err-write_wanted-clause-err g c =
    let comes = g.R.RunsClients.comes in
    let script = c.args.script.now in
    let all = map (found_in g.S.Stable.seen) c.args.stores.now in
    let system = g.R.System.Traced.run c.in_ok-outcome.outcome.system in
    let told =
    done_told comes script all c.in_ok-setup.field-0 c.in-Some.setup system c.in_ok-outcome.outcome.ends.items c.as_slice.result.now
    c.in_ok-outcome.outcome.bases.items c.as_slice-2.result.now (string_bytes c.in_ok-text.text) _ c.in-Some.is c.in_ok-setup.ensures
    c.in_ok-outcome.ensures.came c.in_ok-outcome.ensures.begun c.in_ok-outcome.ensures.is_run refl c.in_ok-text.ensures
    c.as_slice.ensures.value c.as_slice-2.ensures.value in
    let kept =
    all_saved (map (held_in g.S.Stable.seen) c.args.stores.now) c.in_ok-outcome.outcome.bases.items c.as_slice-3.result.now
    (map (held_in g.S.Stable.seen) c.save_all.new.stores) c.as_slice-3.ensures.value c.in_ok-save_all.ensures.ok in
    on_err c.from_residual-in_err-write_wanted.result
    (inr (entries_of c.in_ok-outcome.outcome.bases.items, told_by system, string_bytes c.in_ok-text.text, told, kept.0, kept.1))

pub returns-in_err-write_wanted-clause-untold : goal.returns-in_err-write_wanted-clause-untold
returns-in_err-write_wanted-clause-untold g c =
    let comes = g.R.RunsClients.comes in
    let script = c.args.script.now in
    let all = map (found_in g.S.Stable.seen) c.args.stores.now in
    let system = g.R.System.Traced.run c.in_ok-outcome.outcome.system in
    let told =
    done_told comes script all c.in_ok-setup.field-0 c.in-Some.setup system c.in_ok-outcome.outcome.ends.items c.as_slice.result.now
    c.in_ok-outcome.outcome.bases.items c.as_slice-2.result.now (string_bytes c.in_ok-text.text) _ c.in-Some.is c.in_ok-setup.ensures
    c.in_ok-outcome.ensures.came c.in_ok-outcome.ensures.begun c.in_ok-outcome.ensures.is_run refl c.in_ok-text.ensures
    c.as_slice.ensures.value c.as_slice-2.ensures.value in
    let saved =
    whole_saved (map (held_in g.S.Stable.seen) c.args.stores.now) c.in_ok-outcome.outcome.bases.items c.as_slice-3.result.now
    (map (held_in g.S.Stable.seen) c.save_all.new.stores) c.as_slice-3.ensures.value c.in_ok-save_all.ensures.ok in
    always_so c.from_residual-in_err-write_wanted.result
    (λ _. (Done, told_by system, string_bytes c.in_ok-text.text, (entries_of c.in_ok-outcome.outcome.bases.items, told, saved)))

pub returns-in_err-finish-2-clause-begun : goal.returns-in_err-finish-2-clause-begun
returns-in_err-finish-2-clause-begun g c =
    let comes = g.R.RunsClients.comes in
    let script = c.args.script.now in
    let all = map (found_in g.S.Stable.seen) c.args.stores.now in
    let system = g.R.System.Traced.run c.in_ok-outcome.outcome.system in
    let told =
    done_told comes script all c.in_ok-setup.field-0 c.in-Some.setup system c.in_ok-outcome.outcome.ends.items c.as_slice.result.now
    c.in_ok-outcome.outcome.bases.items c.as_slice-2.result.now c.as_str-2.result.now _ c.in-Some.is c.in_ok-setup.ensures
    c.in_ok-outcome.ensures.came c.in_ok-outcome.ensures.begun c.in_ok-outcome.ensures.is_run c.as_str-2.ensures.value c.in_ok-text.ensures
    c.as_slice.ensures.value c.as_slice-2.ensures.value in
    let traced =
    wanted_whole g.T.Write.contents (known g.T.Write.contents c.write_wanted.new.out) c.as_str.result.now _ (told_by system) c.as_str.ensures.value c.args.out.now
    c.in_ok-trace.ensures.trace c.in_ok-write_wanted.ensures.ok in
    lines_begun (told_by system) c.as_str-2.result.now (known g.T.Write.contents c.args.out.now) (known g.T.Write.contents c.write_wanted.new.out)
    (g.W.Write.contents c.args.writer.now) (g.W.Write.contents c.finish-2.new.writer) (BeginsStoredRun comes script all)
    (stored_begins comes script all Done (entries_of c.in_ok-outcome.outcome.bases.items) (told_by system) c.as_str-2.result.now told) traced
    c.in_err-finish-2.ensures.front

pub returns-in_err-finish-2-clause-err : goal.returns-in_err-finish-2-clause-err
returns-in_err-finish-2-clause-err g c =
    let comes = g.R.RunsClients.comes in
    let script = c.args.script.now in
    let all = map (found_in g.S.Stable.seen) c.args.stores.now in
    let system = g.R.System.Traced.run c.in_ok-outcome.outcome.system in
    let told =
    done_told comes script all c.in_ok-setup.field-0 c.in-Some.setup system c.in_ok-outcome.outcome.ends.items c.as_slice.result.now
    c.in_ok-outcome.outcome.bases.items c.as_slice-2.result.now c.as_str-2.result.now _ c.in-Some.is c.in_ok-setup.ensures
    c.in_ok-outcome.ensures.came c.in_ok-outcome.ensures.begun c.in_ok-outcome.ensures.is_run c.as_str-2.ensures.value c.in_ok-text.ensures
    c.as_slice.ensures.value c.as_slice-2.ensures.value in
    let kept =
    all_saved (map (held_in g.S.Stable.seen) c.args.stores.now) c.in_ok-outcome.outcome.bases.items c.as_slice-3.result.now
    (map (held_in g.S.Stable.seen) c.save_all.new.stores) c.as_slice-3.ensures.value c.in_ok-save_all.ensures.ok in
    on_err c.from_residual-in_err-finish-2.result
    (inr (entries_of c.in_ok-outcome.outcome.bases.items, told_by system, c.as_str-2.result.now, told, kept.0, kept.1))

pub returns-in_err-finish-2-clause-untold : goal.returns-in_err-finish-2-clause-untold
returns-in_err-finish-2-clause-untold g c =
    let comes = g.R.RunsClients.comes in
    let script = c.args.script.now in
    let all = map (found_in g.S.Stable.seen) c.args.stores.now in
    let system = g.R.System.Traced.run c.in_ok-outcome.outcome.system in
    let told =
    done_told comes script all c.in_ok-setup.field-0 c.in-Some.setup system c.in_ok-outcome.outcome.ends.items c.as_slice.result.now
    c.in_ok-outcome.outcome.bases.items c.as_slice-2.result.now c.as_str-2.result.now _ c.in-Some.is c.in_ok-setup.ensures
    c.in_ok-outcome.ensures.came c.in_ok-outcome.ensures.begun c.in_ok-outcome.ensures.is_run c.as_str-2.ensures.value c.in_ok-text.ensures
    c.as_slice.ensures.value c.as_slice-2.ensures.value in
    let saved =
    whole_saved (map (held_in g.S.Stable.seen) c.args.stores.now) c.in_ok-outcome.outcome.bases.items c.as_slice-3.result.now
    (map (held_in g.S.Stable.seen) c.save_all.new.stores) c.as_slice-3.ensures.value c.in_ok-save_all.ensures.ok in
    always_so c.from_residual-in_err-finish-2.result
    (λ _. (Done, told_by system, c.as_str-2.result.now, (entries_of c.in_ok-outcome.outcome.bases.items, told, saved)))

pub returns-clause-begun : goal.returns-clause-begun
returns-clause-begun g c =
    let comes = g.R.RunsClients.comes in
    let script = c.args.script.now in
    let all = map (found_in g.S.Stable.seen) c.args.stores.now in
    let system = g.R.System.Traced.run c.in_ok-outcome.outcome.system in
    let told =
    done_told comes script all c.in_ok-setup.field-0 c.in-Some.setup system c.in_ok-outcome.outcome.ends.items c.as_slice.result.now
    c.in_ok-outcome.outcome.bases.items c.as_slice-2.result.now c.as_str-2.result.now _ c.in-Some.is c.in_ok-setup.ensures
    c.in_ok-outcome.ensures.came c.in_ok-outcome.ensures.begun c.in_ok-outcome.ensures.is_run c.as_str-2.ensures.value c.in_ok-text.ensures
    c.as_slice.ensures.value c.as_slice-2.ensures.value in
    let traced =
    wanted_whole g.T.Write.contents (known g.T.Write.contents c.write_wanted.new.out) c.as_str.result.now _ (told_by system) c.as_str.ensures.value c.args.out.now
    c.in_ok-trace.ensures.trace c.in_ok-write_wanted.ensures.ok in
    both_whole (told_by system) c.as_str-2.result.now (known g.T.Write.contents c.args.out.now) (known g.T.Write.contents c.write_wanted.new.out)
    (g.W.Write.contents c.args.writer.now) (g.W.Write.contents c.finish-2.new.writer) (BeginsStoredRun comes script all)
    (stored_begins comes script all Done (entries_of c.in_ok-outcome.outcome.bases.items) (told_by system) c.as_str-2.result.now told) traced
    c.in_ok-finish-2.ensures.ok

pub returns-clause-ok : goal.returns-clause-ok
returns-clause-ok g c =
    let comes = g.R.RunsClients.comes in
    let script = c.args.script.now in
    let all = map (found_in g.S.Stable.seen) c.args.stores.now in
    let system = g.R.System.Traced.run c.in_ok-outcome.outcome.system in
    let told =
    done_told comes script all c.in_ok-setup.field-0 c.in-Some.setup system c.in_ok-outcome.outcome.ends.items c.as_slice.result.now
    c.in_ok-outcome.outcome.bases.items c.as_slice-2.result.now c.as_str-2.result.now _ c.in-Some.is c.in_ok-setup.ensures
    c.in_ok-outcome.ensures.came c.in_ok-outcome.ensures.begun c.in_ok-outcome.ensures.is_run c.as_str-2.ensures.value c.in_ok-text.ensures
    c.as_slice.ensures.value c.as_slice-2.ensures.value in
    let traced =
    wanted_whole g.T.Write.contents (known g.T.Write.contents c.write_wanted.new.out) c.as_str.result.now _ (told_by system) c.as_str.ensures.value c.args.out.now
    c.in_ok-trace.ensures.trace c.in_ok-write_wanted.ensures.ok in
    let saved =
    whole_saved (map (held_in g.S.Stable.seen) c.args.stores.now) c.in_ok-outcome.outcome.bases.items c.as_slice-3.result.now
    (map (held_in g.S.Stable.seen) c.save_all.new.stores) c.as_slice-3.ensures.value c.in_ok-save_all.ensures.ok in
    (told_by system, c.as_str-2.result.now, traced, c.in_ok-finish-2.ensures.ok, (entries_of c.in_ok-outcome.outcome.bases.items, told, saved))

pub returns-in_err-outcome-clause-silent : goal.returns-in_err-outcome-clause-silent
returns-in_err-outcome-clause-silent g c =
    silent c.from_residual-in_err-outcome.result (g.W.Write.contents c.args.writer.now)

pub returns-in_err-outcome-clause-untraced : goal.returns-in_err-outcome-clause-untraced
returns-in_err-outcome-clause-untraced g c =
    silent c.from_residual-in_err-outcome.result (known g.T.Write.contents c.args.out.now)

pub returns-in_err-text-clause-silent : goal.returns-in_err-text-clause-silent
returns-in_err-text-clause-silent g c =
    silent c.from_residual-in_err-text.result (g.W.Write.contents c.args.writer.now)

pub returns-in_err-text-clause-untraced : goal.returns-in_err-text-clause-untraced
returns-in_err-text-clause-untraced g c =
    silent c.from_residual-in_err-text.result (known g.T.Write.contents c.args.out.now)

pub returns-in_err-trace-clause-silent : goal.returns-in_err-trace-clause-silent
returns-in_err-trace-clause-silent g c =
    silent c.from_residual-in_err-trace.result (g.W.Write.contents c.args.writer.now)

pub returns-in_err-trace-clause-untraced : goal.returns-in_err-trace-clause-untraced
returns-in_err-trace-clause-untraced g c =
    silent c.from_residual-in_err-trace.result (known g.T.Write.contents c.args.out.now)

pub returns-in_err-setup-clause-untraced : goal.returns-in_err-setup-clause-untraced
returns-in_err-setup-clause-untraced g c =
    silent c.from_residual.result (known g.T.Write.contents c.args.out.now)

pub returns-in_err-save_all-clause-untraced : goal.returns-in_err-save_all-clause-untraced
returns-in_err-save_all-clause-untraced g c =
    silent c.from_residual-in_err-save_all.result (known g.T.Write.contents c.args.out.now)

pub returns-in_err-finish-clause-untold : goal.returns-in_err-finish-clause-untold
returns-in_err-finish-clause-untold g c =
    let comes = g.R.RunsClients.comes in
    let script = c.args.script.now in
    let all = map (found_in g.S.Stable.seen) c.args.stores.now in
    let told = none_told comes script all c.in_ok-setup.field-0 c.in_default.is c.in_ok-setup.ensures in
    always_so c.from_residual-in_err-finish.result (λ _. (Stopped, [], refusal_line, ([], told, refl)))

pub returns-in_err-outcome-clause-untold : goal.returns-in_err-outcome-clause-untold
returns-in_err-outcome-clause-untold g c =
    of_clients _ g.R.RunsClients.faults c.from_residual-in_err-outcome.result c.in_err-outcome.field-0.0 c.from_residual-in_err-outcome.ensures.1
    c.in_err-outcome.ensures.fault

pub returns-in_err-text-clause-untold : goal.returns-in_err-text-clause-untold
returns-in_err-text-clause-untold g c =
    never_output _ c.from_residual-in_err-text.result (wants_memory c.from_residual-in_err-text.result c.from_residual-in_err-text.ensures.1)

pub returns-in_err-trace-clause-untold : goal.returns-in_err-trace-clause-untold
returns-in_err-trace-clause-untold g c =
    never_output _ c.from_residual-in_err-trace.result (wants_memory c.from_residual-in_err-trace.result c.from_residual-in_err-trace.ensures.1)

pub returns-in_err-save_all-clause-untold : goal.returns-in_err-save_all-clause-untold
returns-in_err-save_all-clause-untold g c =
    never_output _ c.from_residual-in_err-save_all.result
    (passed_on c.from_residual-in_err-save_all.result c.in_err-save_all.field-0.0 c.from_residual-in_err-save_all.ensures.1 c.in_err-save_all.ensures.fault)

pub returns-in_err-save_all-clause-err : goal.returns-in_err-save_all-clause-err
returns-in_err-save_all-clause-err g c =
    on_err c.from_residual-in_err-save_all.result
    (partly_saved g.R.RunsClients.comes c.args.script.now (map (found_in g.S.Stable.seen) c.args.stores.now) c.in_ok-setup.field-0 c.in-Some.setup
    (g.R.System.Traced.run c.in_ok-outcome.outcome.system) c.in_ok-outcome.outcome.ends.items c.in_ok-outcome.outcome.bases.items c.as_slice-3.result.now
    (map (held_in g.S.Stable.seen) c.args.stores.now) (map (held_in g.S.Stable.seen) c.save_all.new.stores) c.in-Some.is c.in_ok-setup.ensures
    c.in_ok-outcome.ensures.came c.in_ok-outcome.ensures.begun c.in_ok-outcome.ensures.is_run c.as_slice-3.ensures.value c.in_err-save_all.ensures.err)
