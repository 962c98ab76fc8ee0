use Rattle.std.proofs.Common.{sym, ◌∙◌}
use Rattle.argus_c.proofs.ReadApart.{bare_text}
use Rattle.argus_c.proofs.operations.bare.Goals as goal

pub returns : goal.returns
returns c = bare_text c.args.word.now c.in_ok-read.field-0 c.of.result (sym c.read.ensures ∙ c.in_ok-read.was) c.of.ensures
