use Rattle.std.proofs.Common.{ap, sym, ◌∙◌}
use Rattle.std.specs.Option.{option_copied}
use Rattle.std.proofs.lemmas.Option.{none-some}
use Rattle.run_model.specs.LocalReadings.{standing_here}
use Rattle.run_model.specs.Openings.{first_content}
use Rattle.guardian_objects.specs.Objects.{object_of}
use Rattle.guardian_objects.proofs.Places.{object_there}
use Rattle.guardian_objects.proofs.objects.Objects.base.Goals as goal

pub returns-clause-base : goal.returns-clause-base
returns-clause-base c = λ opening here are.
    c.base.ensures (first_content opening (object_of c.args.self.now c.args.number)) (standing_here here (object_of c.args.self.now c.args.number))
    (are.shown c.args.number c.in_ok-object.field-0.now (sym c.object.ensures ∙ ap (λ o. option_copied o) c.in_ok-object.was))

pub returns-in_err-object-clause-none : goal.returns-in_err-object-clause-none
returns-in_err-object-clause-none c = λ none low high.
    let f = object_there c.args.self.now.objects c.args.number low high in
    none-some f.0 (ap (λ o. option_copied o) (sym c.in_err-object.was) ∙ c.object.ensures ∙ f.1)
