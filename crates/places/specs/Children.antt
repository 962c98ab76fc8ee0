-- The children of one action, as they are kept.
use Rattle.std.specs.Prelude.{[], ◌∷◌}
use Rattle.action_names.specs.Deps.{Entries}
use Rattle.places.specs.declared.children.Kept.{Kept}
use Rattle.places.specs.declared.children.Kept.TheVariants as kept

-- the numbers of the children with their places, wherever they stand
abbrev pub entries_of : Kept → Entries
entries_of (kept.One alloc number place) = (number, place) ∷ []
entries_of (kept.Listed places) = places.items
