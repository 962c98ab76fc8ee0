use Rattle.std.proofs.Common.{IfOk, refl, ◌≡◌}
use Rattle.run_model.specs.LocalHistories.{events_there, outcomes_below}
use Rattle.run_model.specs.LocalReadings.{told_here}
use Rattle.registry.proofs.Reading.{inside, named}
use Rattle.registry.proofs.registry.RegistryForest.outcomes_below.Goals as goal

pub returns : goal.returns
returns g c = λ f s at there.
    named (λ a. IfOk c.outcomes_below.result (λ outcomes. outcomes.items ≡ outcomes_below a s.number (events_there f.registry) s.past))
    c.components.ensures.numbers
    (c.outcomes_below.ensures (λ a. told_here s.number a s.past) (s, there, λ a. refl) _ _ (inside c.self.view_is at).actions.forest)
