use Rattle.clap.specs.Words.{found_of}
use Rattle.command_line.proofs.Finding.{number_is}
use Rattle.command_line.proofs.parsing.number.Goals as goal

pub returns : goal.returns
returns c = number_is (found_of c.args.found.now) c.args.id.now c.get_one.result c.get_one.ensures.none c.get_one.ensures.value
