use Rattle.std.proofs.Common.{length, sym, ap, ◌∙◌}
use Rattle.action_names.proofs.Growing.{grown_cut, err_holds}
use Rattle.action_names.proofs.name.Name.write_to.Goals as goal

pub truncate-requires : goal.truncate-requires
truncate-requires c = λ le.
    grown_cut c.args.text.now c.append_to-written.new.text _ (ap length c.as_str-len.ensures.value)
    (err_holds c.append_to-written.result (sym c.is_err.ensures.value ∙ c.if-is_err.true) c.append_to-written.ensures.err)
