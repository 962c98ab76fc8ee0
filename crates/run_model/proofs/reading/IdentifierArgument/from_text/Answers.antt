use Rattle.values.specs.Words.{IsIdentifier}
use Rattle.run_model.specs.Reading.{itself}
use Rattle.run_model.proofs.Utf8.{identifier_is, not_utf8}
use Rattle.run_model.proofs.reading.IdentifierArgument.from_text.Goals as goal

pub returns-in_default : goal.returns-in_default
returns-in_default c = not_utf8 IsIdentifier itself c.args.text.now identifier_is c.in_default.ensures.cases.0
