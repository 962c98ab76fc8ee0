-- How the actions of a history ended, as it is kept for explaining.
use Rattle.std.specs.Prelude.{ℕ, ◌≡◌, List, [], ◌∷◌, ◌++◌, map, Option, Some}
use Rattle.std.specs.BTreeMap.{get}
use Rattle.std.specs.BTreeSet.{contains}
use Rattle.action_names.specs.Names.{Name, ancestors, name_cmp}
use Rattle.run_model.specs.declared.history.Event.{Event}
use Rattle.run_model.specs.Actions.{is_committed, closing_step}
use Rattle.tracer.specs.declared.endings.Endings.{Endings}

-- the place of the operation that an action was granted by the event of a number
abbrev pub place_at : ℕ → Name → List Event → List (Option ℕ)
place_at n a past = map (λ c. closing_step c past) (ancestors a) ++ Some n ∷ []

-- what is kept is what the history says: the names that have committed, and the number of each closing step
pub record AreEndings (endings : Endings) (past : List Event) : Type 0 where
  pub committed : (q : Name) → contains name_cmp endings.committed q ≡ is_committed q past
  pub closing : (q : Name) → get name_cmp endings.closing q ≡ closing_step q past
