use Rattle.std.proofs.Common.{codes, refl, sym, ◌∙◌, Some}
use Rattle.clap.specs.Words.{found_of}
use Rattle.clap.proofs.WalkLemmas.{first_value-rows}
use Rattle.command_line.proofs.Finding.{word_is}
use Rattle.command_line.proofs.parsing.steps_given.Goals as goal

pub returns-clause-found : goal.returns-clause-found
returns-clause-found c =
    let found = found_of c.args.found.now in
    record {
      setup = word_is found (codes "SETUP") (Some c.in_ok-get_str.field-0) c.in_ok-get_str.field-0 c.in_ok-get_str.ensures refl;
      file = word_is found (codes "FILE") (Some c.in_ok-get_str-2.field-0) c.in_ok-get_str-2.field-0 c.in_ok-get_str-2.ensures refl;
      explain = sym (first_value-rows found (codes "explain")) ∙ sym c.get_str-3.ensures;
      store = sym (first_value-rows found (codes "store")) ∙ sym c.get_str-4.ensures;
      reopen = c.is_set.ensures;
      picture = c.picture_given.ensures;
    }
