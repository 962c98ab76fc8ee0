use Rattle.std.proofs.Common.{Bor, sym, ◌∙◌}
use Rattle.action_names.specs.declared.deps.Deps.{Deps}
use Rattle.run_model.specs.LocalHistories.{dependency_there, entries_of}
use Rattle.roster.proofs.Sent.{entries_say, known_says}
use Rattle.roster.proofs.brought.known_of.Goals as goal

pub returns-then-tells_of : goal.returns-then-tells_of
returns-then-tells_of g c = λ f at h.
    let a = c.args.action.now in
    entries_say (λ (d : Bor Deps). d.now) c.depends.result (entries_of f.opening (λ k. dependency_there a k f.registry)) h (c.depends.ensures f at)
    ∙ sym (known_says f c.args.step.now a h (sym c.tells_of.ensures ∙ c.if-tells_of.true))
