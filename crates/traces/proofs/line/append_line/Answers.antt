use Rattle.std.proofs.Common.{length, sym, ap, ◌∙◌}
use Rattle.action_names.proofs.Growing.{grown_cut, err_holds}
use Rattle.traces.proofs.line.append_line.Goals as goal

pub truncate-requires : goal.truncate-requires
truncate-requires c = λ le.
    grown_cut c.args.text.now c.append_parts-appended.new.text _ (ap length c.as_str-len.ensures.value)
    (err_holds c.append_parts-appended.result (sym c.is_err.ensures.value ∙ c.if-is_err.true) c.append_parts-appended.ensures.err)
