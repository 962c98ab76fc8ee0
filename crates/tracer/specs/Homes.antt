-- What is kept of the homes and the makers of actions.
use Rattle.std.specs.Prelude.{ℕ, ◌≡◌, List, [], Option, None, Some}
use Rattle.std.specs.BTreeMap.{get}
use Rattle.action_names.specs.Names.{Name, name_cmp}
use Rattle.run_model.specs.declared.history.Event.{Event}
use Rattle.run_model.specs.Actions.{home_of, maker_of}
use Rattle.tracer.specs.declared.homes.Begun.{Begun}
use Rattle.tracer.specs.declared.homes.Homes.{Homes}

abbrev pub kept_home : Option Begun → ℕ
kept_home None = 0
kept_home (Some b) = b.home

abbrev pub kept_maker : Option Begun → Option Name
kept_maker None = None
kept_maker (Some b) = b.maker

-- what is kept is what the history says; nothing of the empty name was begun
pub record AreHomes (homes : Homes) (past : List Event) : Type 0 where
  pub home : (q : Name) → kept_home (get name_cmp homes.begun q) ≡ home_of q past
  pub maker : (q : Name) → kept_maker (get name_cmp homes.begun q) ≡ maker_of q past
  pub nobody : home_of [] past ≡ 0
