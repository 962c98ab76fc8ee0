use Rattle.std.proofs.Common.{codes, refl, sym, ◌∙◌, Some}
use Rattle.clap.specs.Words.{found_of}
use Rattle.clap.proofs.WalkLemmas.{first_value-rows}
use Rattle.command_line.proofs.Finding.{word_is}
use Rattle.command_line.proofs.parsing.run_given.Goals as goal

pub returns-clause-found : goal.returns-clause-found
returns-clause-found c =
    let found = found_of c.args.found.now in
    record {
      script = word_is found (codes "SCRIPT") (Some c.in_ok-get_str.field-0) c.in_ok-get_str.field-0 c.in_ok-get_str.ensures refl;
      store = sym (first_value-rows found (codes "store")) ∙ sym c.get_str-2.ensures;
      serial = c.is_set.ensures;
      trace = sym (first_value-rows found (codes "trace")) ∙ sym c.get_str-3.ensures;
      seconds = sym (first_value-rows found (codes "seconds")) ∙ sym c.get_str-4.ensures;
    }
