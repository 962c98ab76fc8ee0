use Rattle.std.proofs.Common.{[], MatchOption, ◌≡◌}
use Rattle.std.specs.FinMap as map
use Rattle.run_model.specs.LocalHistories.{dependency_there, entries_of}
use Rattle.registry.proofs.Reading.{inside, named}
use Rattle.registry.proofs.registry.RegistryLineage.depends.Goals as goal

pub returns : goal.returns
returns c = λ f at.
    named (λ a.
    let its = entries_of f.opening (λ h. dependency_there a h f.registry) in
    MatchOption c.depends.result (its ≡ []) (λ depends. map.entries depends.now ≡ its))
    c.components.ensures.numbers (c.depends.ensures.entries _ _ (inside c.self.view_is at).actions.forest)
