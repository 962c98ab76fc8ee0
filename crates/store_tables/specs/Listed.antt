-- Rows that list things.
use Rattle.std.specs.Prelude.{List}
use Rattle.sqlite.specs.Order.{Row}
use Rattle.sqlite_rules.specs.Lists.{Has}

-- each row shows a thing that is there, and each thing that is there has a row
pub record Lists {X : Type 0} (Shows : Row → X → Type 0) (rows : List Row)
    (Is : X → Type 0) : Type 0 where
  pub each : (r : Row) → Has rows r → (x : X) × Shows r x × Is x
  pub from : (x : X) → Is x → (r : Row) × Has rows r × Shows r x
