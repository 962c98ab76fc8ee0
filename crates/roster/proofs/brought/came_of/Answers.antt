use Rattle.std.proofs.Common.{Bor, ap, inl, inr, sym, ◌∙◌}
use Rattle.action_names.specs.declared.deps.Deps.{Deps}
use Rattle.action_names.proofs.Ancestry.{same_refl}
use Rattle.run_model.specs.Actions.{names_begun}
use Rattle.run_model.specs.LocalHistories.{dependency_there, entries_of}
use Rattle.run_model.specs.LocalReadings.{least_of}
use Rattle.layer_contracts.specs.Forests.{new_entries}
use Rattle.layer_contracts.specs.Messages.{sent_by}
use Rattle.roster.proofs.Sent.{entries_say, known_says, none_says}
use Rattle.roster.specs.Steps.{tells_of}
use Rattle.roster.proofs.brought.came_of.Goals as goal

pub returns-in-OfKnown : goal.returns-in-OfKnown
returns-in-OfKnown g c = λ f e at commits new h.
    let a = c.args.action.now in
    entries_say (λ (d : Bor Deps). d.now) c.depends.result (entries_of f.opening (λ k. dependency_there a k f.registry)) h (c.depends.ensures f at)
    ∙ sym (known_says f e.step a h (ap (λ s. tells_of s a) commits ∙ same_refl a))
    ∙ ap (λ s. least_of (sent_by f e s) a h) (sym c.in-OfKnown.is)

pub returns-in-Nothing : goal.returns-in-Nothing
returns-in-Nothing g c = λ f e at commits new h.
    let a = c.args.action.now in
    elim c.in-Nothing.is [
      | inl none ↦ ap (λ s. least_of (sent_by f e s) a h) (sym none)
      | inr began ↦
          sym (none_says (new_entries f began.0 began.1) (names_begun e.answer) a h new)
          ∙ ap (λ s. least_of (sent_by f e s) a h) (sym began.2)
    ]
