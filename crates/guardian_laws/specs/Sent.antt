-- The dependencies that an event brings, as contracts read them.
use Rattle.std.specs.Prelude.{ℕ, List}
use Rattle.action_names.specs.Names.{Name}

-- actions with the entries of their dependencies
abbrev pub Sent : Type 0
Sent = List (Name × List (ℕ × ℕ))
