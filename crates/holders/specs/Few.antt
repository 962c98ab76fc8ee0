-- Holders in a vector or in a tree.
use Rattle.std.specs.Prelude.{◌≡◌, List}
use Rattle.action_names.specs.Names.{Name}
use Rattle.holders.specs.Held.{Rows, held_in}
use Rattle.holders.specs.declared.holders.Kept.{Kept}
use Rattle.holders.specs.declared.holders.Kept.TheVariants as kept
use Rattle.holders.specs.declared.holders.HolderRows.{HolderRows}
use Rattle.holders.specs.declared.holders.HolderRows.TheVariants as rows

-- what they hold, and for whom there is room, is the same wherever they stand
abbrev pub rows_kept : {V : Type 0} → Kept V → Rows V
rows_kept (kept.Few held) = held
rows_kept (kept.Many held) = held

-- the rows of holders that hold this
abbrev pub AreRows : {V : Type 0} → List (Name × V) → HolderRows V → Type 0
AreRows held (rows.Few few) = held_in few.now ≡ held
AreRows held (rows.Many many) = held_in many ≡ held
