use Rattle.std.proofs.Common.{sym, ◌∙◌}
use Rattle.run_model.proofs.Words.{bare_found}
use Rattle.run_model.proofs.reading.bare_operation.Goals as goal

pub returns : goal.returns
returns c = bare_found c.args.word.now c.in_ok-named.field-0 c.of.result (sym c.named.ensures ∙ c.in_ok-named.was) c.of.ensures
