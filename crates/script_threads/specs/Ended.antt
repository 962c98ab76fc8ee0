-- Whether actions have ended, as the registry's events say.
use Rattle.std.specs.Prelude.{◌&&◌, Bool, List}
use Rattle.std.specs.List.{list_all}
use Rattle.action_names.specs.Names.{Name}
use Rattle.run_model.specs.Actions.{is_begun, is_ended, names_begun}
use Rattle.run_model.specs.LocalHistories.{Stamped}
use Rattle.run_model.specs.declared.history.Event.{Event}

-- the action was begun and has ended
abbrev pub has_ended_there : List Event → Name → Bool
has_ended_there there a = is_begun a there && is_ended a there

-- so has each that these events began
abbrev pub have_ended_there : List Event → List Stamped → Bool
have_ended_there there history =
    list_all (λ s. list_all (has_ended_there there) (names_begun s.1.answer)) history
