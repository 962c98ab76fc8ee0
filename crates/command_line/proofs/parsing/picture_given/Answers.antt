use Rattle.std.proofs.Common.{codes, sym, ◌∙◌}
use Rattle.clap.specs.Words.{found_of}
use Rattle.clap.proofs.WalkLemmas.{first_value-rows}
use Rattle.command_line.proofs.parsing.picture_given.Goals as goal

pub returns : goal.returns
returns c =
    let found = found_of c.args.found.now in
    record {
      file = sym (first_value-rows found (codes "picture")) ∙ sym c.get_str-file.ensures;
      from = c.number-from.ensures;
      to = c.number-to.ensures;
    }
