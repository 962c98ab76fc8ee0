-- How the columns of two tables spell parts.
use Rattle.sqlite.specs.declared.types.Value.{Value as Column}
use Rattle.atomic_types.specs.declared.part.Part.{Part}
use Rattle.store_tables.specs.declared.columns.Spelling.{Spelling}
use Rattle.store_tables.specs.declared.columns.Spelling.TheVariants.{Text, ValueText, AddedBy}
use Rattle.store_tables.specs.Shown.{IsText, IsValueText, IsAddedBy}

abbrev pub Spells : Spelling → Column → Part → Type 0
Spells Text = IsText
Spells ValueText = IsValueText
Spells AddedBy = IsAddedBy
