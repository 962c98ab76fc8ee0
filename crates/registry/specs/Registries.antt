-- A registry as contracts see it, where it stands, and for what events its plans are.
use Rattle.std.specs.Prelude.{◌≡◌, ℕ}
use Rattle.run_model.specs.Openings.{OpeningLists, opening_in}
use Rattle.layer_contracts.specs.Forests.{ForestState, RegistryNews, begun_in}
use Rattle.registry.specs.Following.{AreActions, FitsChange, HasRoomFor, IsEntered}
use Rattle.registry.specs.declared.actions.Actions.{Actions}
use Rattle.registry.specs.declared.change.Change.{Change}

-- the opening, the actions with the votes, and what the event changes that was planned last
pub record InRegistry : Type 0 where
  pub opening : OpeningLists
  pub actions : Actions
  pub change : Change

-- The registry stands in this state: the opening is its own, and its actions and votes are those of this history.
pub record StandsIn (m : InRegistry) (f : ForestState) : Type 0 where
  pub opening : f.opening ≡ opening_in m.opening
  pub actions : AreActions f.opening f.registry m.actions

-- The change is what this event changes, which was entered in this state. What it begins begins in one life of its
-- home.
pub record IsChangeOf (m : InRegistry) (f : ForestState) (news : RegistryNews) : Type 0 where
  pub life : ℕ
  pub entered : IsEntered f.opening f.registry news.event
  pub change : FitsChange f.opening f.registry news.event life m.actions m.change
  pub begun : news.begun ≡ begun_in f life news.event

abbrev pub FitsRegistry : InRegistry → Type 0
FitsRegistry m = HasRoomFor m.actions m.change
