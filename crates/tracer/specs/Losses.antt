-- Losses that an action sees, and what is kept of one action while a history is gone over for its loss, the oldest
-- event first.
use Rattle.std.specs.Prelude.{◌≡◌, Bool, ◌&&◌, List}
use Rattle.action_names.specs.Names.{Name, same_name, top_of}
use Rattle.run_model.specs.declared.history.Event.{Event}
use Rattle.run_model.specs.Actions.{home_of, is_begun}
use Rattle.run_model.specs.Visibility.{has_prepared, is_lost, is_visible}
use Rattle.tracer.specs.declared.orphans.Standing.{Standing}

-- b is of the tree of a, lost and visible to it
abbrev pub is_seen_loss : Name → List Event → Name → Bool
is_seen_loss a past b = same_name (top_of b) (top_of a) && (is_lost b past && is_visible b a past)

-- how b stands after a history
pub record IsStanding (standing : Standing) (b : Name) (past : List Event) : Type 0 where
  pub of_begin : standing.begun ≡ is_begun b past
  pub of_home : standing.home ≡ home_of b past
  pub of_votes : standing.prepared ≡ has_prepared (home_of b past) (top_of b) past
  pub of_loss : standing.lost ≡ is_lost b past
