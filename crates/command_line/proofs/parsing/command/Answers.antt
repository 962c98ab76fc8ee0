use Rattle.std.proofs.Common.{rules}
use Rattle.clap.specs.Words.{app_of}
use Rattle.command_line.proofs.Finding.{command_is, no_command, refused_is}
use Rattle.command_line.proofs.parsing.command.Goals as goal

pub returns-in-Some-clause-found : goal.returns-in-Some-clause-found
returns-in-Some-clause-found c =
    command_is (app_of c.in-Ok.argus) _ c.in_ok-matches-in-Ok.matches c.in-Some.found c.in-Ok.ensures c.in_ok-matches-in-Ok.ensures.matches c.in-Some.ensures.found

pub returns-clause-refused : goal.returns-clause-refused
returns-clause-refused c =
    no_command (app_of c.in-Ok.argus) _ c.in_ok-matches-in-Ok.matches c.in-Ok.ensures c.in_ok-matches-in-Ok.ensures.matches (c.in-None.ensures.none (search rules))

pub returns-in_err-matches-in-Ok-clause-refused : goal.returns-in_err-matches-in-Ok-clause-refused
returns-in_err-matches-in-Ok-clause-refused c =
    refused_is (app_of c.in-Ok.argus) _ c.in_err-matches-in-Ok.field-0.0 c.from_residual.result c.in-Ok.ensures c.in_err-matches-in-Ok.ensures.kinds c.from_residual.ensures.1
