-- What is read in a registry, which stands where its actions and votes do.
use Rattle.std.proofs.Common.{subst, sym, ◌≡◌}
use Rattle.action_names.specs.Names.{Name}
use Rattle.layer_contracts.specs.Forests.{ForestState}
use Rattle.registry.specs.Registries.{InRegistry, StandsIn}

-- what is inside stands where the registry does
pub inside : {m old : InRegistry} {f : ForestState} → m ≡ old → StandsIn old f → StandsIn m f
inside {m} {old} {f} is at = subst (λ k. StandsIn k f) (sym is) at

-- what holds of a name's numbers holds of the name
pub named : (P : Name → Type 0) {path a : Name} → path ≡ a → P path → P a
named P same h = subst P same h
