-- When an operation that waits sleeps, and is tried again.
use Rattle.std.specs.Prelude.{Bool, false, not, List}
use Rattle.std.specs.List.{list_any}
use Rattle.action_names.specs.Names.{Name, is_ancestor}
use Rattle.run_model.specs.declared.answer.Answer.{Answer}
use Rattle.run_model.specs.declared.answer.Answer.TheVariants.{Waits}

-- the name is an ancestor of one of these, or is one
abbrev pub waits_for_one : Name → List Name → Bool
waits_for_one name starters = list_any (λ starter. is_ancestor name starter) starters

-- one of the names is
abbrev pub waits_for : List Name → List Name → Bool
waits_for names starters = list_any (λ name. waits_for_one name starters) names

-- An operation that waits sleeps, unless it waits for an ancestor of a starter.
abbrev pub sleeps : Answer → List Name → Bool
sleeps (Waits names) starters = not (waits_for names starters)
sleeps _ starters = false
