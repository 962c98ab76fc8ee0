use Rattle.std.proofs.Common.{codes, refl, sym, ◌∙◌, Some}
use Rattle.clap.specs.Words.{found_of}
use Rattle.clap.proofs.WalkLemmas.{first_value-rows}
use Rattle.command_line.proofs.Finding.{word_is}
use Rattle.command_line.proofs.parsing.trace_given.Goals as goal

pub returns-clause-found : goal.returns-clause-found
returns-clause-found c =
    let found = found_of c.args.found.now in
    record {
      file = word_is found (codes "FILE") (Some c.in_ok-file.file) c.in_ok-file.file c.in_ok-file.ensures refl;
      explain = sym (first_value-rows found (codes "explain")) ∙ sym c.get_str-explain.ensures;
      picture = c.picture_given-picture.ensures;
    }
