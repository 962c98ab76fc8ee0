use Rattle.std.proofs.Common.{IsNone, Option, refl, sym, subst, ◌∙◌}
use Rattle.std.proofs.lemmas.Result.{err_from_is_err_and}
use Rattle.run_model.specs.Openings.{Setup}
use Rattle.traces.specs.Traces.{AreHistoriesOver, histories_in}
use Rattle.traces.specs.Reading.{Reading}
use Rattle.traces.proofs.Files.{begins_with, fault_behind, no_setup, no_setup_cut, started, trace_read}
use Rattle.traces.proofs.trace.Trace.read.Goals as goal

pub returns-in_default-clause-fault : goal.returns-in_default-clause-fault
returns-in_default-clause-fault c = no_setup_cut c.args.bytes.now c.in_default.ensures

pub returns-in_default-2-clause-fault : goal.returns-in_default-2-clause-fault
returns-in_default-2-clause-fault c =
    no_setup c.args.bytes.now c.in-Some.line.now c.in-Some.rest.now c.in-Some.ensures
    (c.in_ok-reader.ensures.none (subst (λ (o : Option Reading). IsNone o) (sym c.in_default-2.is) refl))

pub returns-in_err-read_lines-clause-fault : goal.returns-in_err-read_lines-clause-fault
returns-in_err-read_lines-clause-fault c =
    let p = err_from_is_err_and c.from_residual-in_err-read_lines.result c.from_residual-in_err-read_lines.ensures.1 in
    let first = started c.in-Some.line.now c.in_ok-reader.field-0 c.in-Some-2.reader c.in-Some-2.is c.in_ok-reader.ensures.found in
    rw (p.1, p.2)
    (fault_behind c.args.bytes.now c.in-Some.rest.now c.in-Some-2.reader.setup _
    (begins_with c.args.bytes.now c.in-Some.line.now c.in-Some.rest.now c.in-Some-2.reader.setup c.in-Some.ensures first.0)
    c.in_err-read_lines.ensures.fault)

pub returns-clause-found : goal.returns-clause-found
returns-clause-found c =
    let first = started c.in-Some.line.now c.in_ok-reader.field-0 c.in-Some-2.reader c.in-Some-2.is c.in_ok-reader.ensures.found in
    let begins = begins_with c.args.bytes.now c.in-Some.line.now c.in-Some.rest.now c.in-Some-2.reader.setup c.in-Some.ensures first.0 in
    trace_read c.args.bytes.now c.in-Some.rest.now c.in-Some-2.reader.setup c.finish.result.setup
    (histories_in c.finish.result.registry.items c.finish.result.guardians.items) c.read_lines.new.reader.lines
    begins (c.finish.ensures.setup ∙ c.in_ok-read_lines.ensures.ok.0) c.in_ok-read_lines.ensures.ok.1 c.finish.ensures.lines c.finish.ensures.each
    (subst (λ (s : Setup). AreHistoriesOver s (histories_in c.finish.result.registry.items c.finish.result.guardians.items).guardians)
    c.in_ok-read_lines.ensures.ok.0 c.finish.ensures.guardians)
