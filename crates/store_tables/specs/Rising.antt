-- Integers that rise.
use Rattle.std.specs.Prelude.{◌≡◌, ℤ, ◌<ℤ◌, Option, IfSome}
use Rattle.sqlite.specs.declared.types.Value.TheVariants.{Int}
use Rattle.sqlite.specs.Order.{Row, column}

-- the row has this integer first, which is above the last one
abbrev pub ShowsAbove : Option ℤ → Row → ℤ → Type 0
ShowsAbove last row id = (column row 0 ≡ Int id) × IfSome last (λ n. n <ℤ id)
