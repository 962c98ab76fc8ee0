use Rattle.std.proofs.Common.{rules, length, Some, ◌<◌, ap, sym, ◌∙◌, get_or, pos, w64, FitsSigned}
use Rattle.std.proofs.lemmas.Int.{to_z-of_z}
use Rattle.std.proofs.lemmas.Option.{slice_get-get_or}
use Rattle.frames.specs.Evaluating.{int_value}
use Rattle.frames.proofs.Evaluated.{variable_value, variable_within}
use Rattle.frames.proofs.evaluating.+int_value.Goals as goal

pub returns-in-Variable : goal.returns-in-Variable
returns-in-Variable t c =
    let ints = c.args.ints.now in
    let place = c.in-Variable.place in
    let within : place < length ints = variable_within ints c.args.expr.now place c.in-Variable.is c.requires in
    let fits : FitsSigned w64 (get_or ints place (pos 0)) = search rules in
    ap Some (to_z-of_z w64 (get_or ints place (pos 0)) fits) ∙ sym (slice_get-get_or ints place (pos 0) within)
    ∙ sym (ap (int_value ints) c.in-Variable.is ∙ variable_value ints place)
