-- What a store may give an object back.
use Rattle.std.specs.Prelude.{◌≡◌, List, [], ◌∷◌, None}
use Rattle.action_names.specs.Names.{Name}
use Rattle.atomic_types.specs.declared.part.Part.{Part}
use Rattle.atomic_types.specs.declared.part.Part.TheVariants.{Value, Delta}
use Rattle.local_laws.specs.Reopened.{MayStand}
use Rattle.object_model.specs.Deltas.{delta_at}
use Rattle.object_model.specs.Objects.{Seen}
use Rattle.object_laws.specs.Laws.{AreApart}
use Rattle.overlays.specs.ContentOverlays.{HaveSameOps}

-- A value may be given back where nobody owns a version, and has the base's operations; a delta where the action adds
-- nothing yet.
abbrev pub MayTake : Seen → Name → Part → Type 0
MayTake object a (Value v) = (object.stack.versions ≡ []) × HaveSameOps object.stack.base v
MayTake object a (Delta z) = delta_at object.deltas a ≡ None

-- one part more may stand with these
abbrev pub MayStandToo : List (Name × Part) → Name → Part → Type 0
MayStandToo parts a part = MayStand ((a, part) ∷ parts) × AreApart ((a, part) ∷ parts)
