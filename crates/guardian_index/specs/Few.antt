-- What holders hold in a vector or in a tree.
use Rattle.std.specs.Prelude.{ℕ, Bool, true, false}
use Rattle.std.specs.Map.{values_of}
use Rattle.guardian_index.specs.Held.{Index, is_in_row}
use Rattle.guardian_index.specs.declared.objects.Kept.{Kept}
use Rattle.guardian_index.specs.declared.objects.Kept.TheVariants as kept
use Rattle.guardian_index.specs.declared.objects.HeldRows.{HeldRows}
use Rattle.guardian_index.specs.declared.objects.HeldRows.TheVariants as rows

-- what they hold, and their room, is the same wherever their rows stand; in a vector one takes the place of another
abbrev pub index_kept : Kept → Index
index_kept (kept.Few held) = record { rows = held; renames = true }
index_kept (kept.Many held) = record { rows = held; renames = false }

-- whether one of the rows has the number
abbrev pub is_in_rows : HeldRows → ℕ → Bool
is_in_rows (rows.Few few) n = is_in_row (values_of few.now) n
is_in_rows (rows.Many many) n = is_in_row many n
