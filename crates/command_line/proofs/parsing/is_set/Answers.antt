use Rattle.clap.specs.Words.{found_of}
use Rattle.command_line.proofs.Finding.{flag_is}
use Rattle.command_line.proofs.parsing.is_set.Goals as goal

pub returns : goal.returns
returns c = rw c.unwrap_or.ensures (flag_is _ (found_of c.args.found.now) c.args.id.now c.get_one.result c.get_one.ensures.none c.get_one.ensures.value)
