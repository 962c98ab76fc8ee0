use Rattle.values.specs.Values.{IsValue, value_text}
use Rattle.run_model.proofs.Utf8.{not_utf8, value_is}
use Rattle.run_model.proofs.reading.ValueArgument.from_text.Goals as goal

pub returns-in_default : goal.returns-in_default
returns-in_default c = not_utf8 IsValue value_text c.args.text.now value_is c.in_default.ensures.cases.0
