-- Where a registry stands once the change of an event is made.
use Rattle.std.proofs.Common.{List, subst, sym, ℕ, ◌∷◌, ◌≡◌}
use Rattle.run_model.specs.declared.history.Event.{Event}
use Rattle.run_model.specs.declared.step.Step.{Step}
use Rattle.run_model.specs.LocalHistories.{NewAction}
use Rattle.layer_contracts.specs.Forests.{ForestState, RegistryNews, stamped_there}
use Rattle.registry.specs.Following.{AreActions, AtEachOf, FitsChange, IsEntered, event_after}
use Rattle.registry.specs.Registries.{InRegistry, IsChangeOf, StandsIn}
use Rattle.registry.specs.declared.actions.Actions.{Actions}
use Rattle.registry.specs.declared.change.Change.{Change}
use Rattle.registry.proofs.Reading.{inside}

-- What actions and votes are once they follow an event by this change.
abbrev pub Follow : Change → Actions → Step → Actions → Type 0
Follow ch old step new =
    AtEachOf old (λ opening registry. (stamp : ℕ) (e : Event) (life : ℕ) → IsEntered opening registry e → FitsChange opening registry e life old ch → step ≡ e.step
    → AreActions opening (event_after opening registry stamp e life ∷ registry) new)

pub stands_after : {after : Change} (m old : InRegistry) (f : ForestState) (news : RegistryNews) (step : Step) (stamp : ℕ) (new : Actions) → m ≡ old
    → StandsIn old f → IsChangeOf old f news → news.event.step ≡ step → Follow m.change m.actions step new
    → StandsIn (record { opening = m.opening; actions = new; change = after }) (record f { registry = stamped_there stamp news ∷ f.registry })
stands_after m old f news step stamp new is at of same grows =
    let here : StandsIn m f = inside is at in
    let made : IsChangeOf m f news = subst (λ k. IsChangeOf k f news) (sym is) of in
    record {
      opening = here.opening;
      actions =
          subst (λ (begun : List NewAction). AreActions f.opening (stamped_there stamp (record { event = news.event; begun = begun }) ∷ f.registry) new) (sym made.begun)
          (grows f.opening f.registry here.actions stamp news.event made.life made.entered made.change (sym same));
    }
