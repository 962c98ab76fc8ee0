-- What an event says of actions, beside what the guardian's own history says of them.
use Rattle.std.specs.Prelude.{ℕ, Bool, true, not, ◌&&◌, ◌==◌, List, [], ◌∷◌, IsTrue}
use Rattle.std.specs.List.{list_all, list_any}
use Rattle.std.specs.Ordering.{nat_cmp}
use Rattle.std.specs.FinMap as map
use Rattle.action_names.specs.Names.{Name, has_name, is_ancestor, is_top, parent_of, same_name}
use Rattle.run_model.specs.declared.step.Step.{Step}
use Rattle.run_model.specs.declared.step.Step.TheVariants.{Abort, Arms, Call, Close, Commit, Crash, Decide, NestedTop, Recover}
use Rattle.run_model.specs.declared.history.Event.{Event}
use Rattle.run_model.specs.Actions.{begun, is_begun, names_begun}
use Rattle.run_model.specs.LocalReadings.{LocalEvent, events_here}

-- nothing that was begun here is the action or below it
abbrev pub is_new : Name → List Event → Bool
is_new b past = not (list_any (λ c. is_ancestor b c) (begun past))

-- each of the names is new, and stands once among them
abbrev pub are_new : List Name → List Event → Bool
are_new [] past = true
are_new (b ∷ bs) past = is_new b past && (not (has_name bs b) && are_new bs past)

abbrev pub is_child : Name → Name → Bool
is_child a b = not (is_top b) && same_name (parent_of b) a

-- what a call begins is a child of the action that calls, and whoever makes anything else was begun here
abbrev pub has_maker : Step → List Name → List Event → Bool
has_maker (Call a h) names past = list_all (λ b. is_child a b) names
has_maker (NestedTop a) names past = is_begun a past
has_maker (Arms a kinds) names past = is_begun a past
has_maker _ names past = true

-- whoever closes or ends was begun here
abbrev pub was_begun : Step → List Event → Bool
was_begun (Commit a) past = is_begun a past
was_begun (Close t) past = is_begun t past
was_begun (Decide t) past = is_begun t past
was_begun (Abort a) past = is_begun a past
was_begun _ past = true

-- of crashes and recoveries a guardian keeps its own
abbrev pub is_own : ℕ → Step → Bool
is_own g (Crash h) = h == g
is_own g (Recover h) = h == g
is_own g _ = true

-- each list of dependencies rises by guardian
abbrev pub are_rising : List (Name × List (ℕ × ℕ)) → Bool
are_rising came = list_all (λ (d : Name × List (ℕ × ℕ)). map.is_sorted nat_cmp d.1) came

abbrev pub is_none_or : {X : Type 0} → List X → Bool → Bool
is_none_or [] b = true
is_none_or (x ∷ xs) b = b

-- a commit brings dependencies only where the parent was begun here
abbrev pub reaches_parent : Step → List (Name × List (ℕ × ℕ)) → List Event → Bool
reaches_parent (Commit a) came past = is_none_or came (is_begun (parent_of a) past)
reaches_parent _ came past = true

-- what the roster asks of an event
pub record AgreesOnActions (g : ℕ) (c : LocalEvent) (here : List LocalEvent) : Type 0 where
  pub new : IsTrue (are_new (names_begun c.event.answer) (events_here here))
  pub made : IsTrue (has_maker c.event.step (names_begun c.event.answer) (events_here here))
  pub known : IsTrue (was_begun c.event.step (events_here here))
  pub own : IsTrue (is_own g c.event.step)
  pub rising : IsTrue (are_rising c.carried.dependencies)
  pub reaches : IsTrue (reaches_parent c.event.step c.carried.dependencies (events_here here))
