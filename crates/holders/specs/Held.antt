-- What holders hold, and for whom there is room.
use Rattle.std.specs.Prelude.{◌≡◌, Bool, true, not, ◌&&◌, ◌||◌, List, [], ◌∷◌, map, filter, Option, Some, None, if◌then◌else◌}
use Rattle.std.specs.BTreeMap.{insert_entry}
use Rattle.action_names.specs.Names.{Name, same_name, has_name, is_ancestor, name_cmp}

-- What holders hold, rising by name, and the names for which there is room: those that hold, and some more, rising.
pub record Rows (V : Type 0) : Type 0 where
  pub held : List (Name × V)
  pub room : List Name

module _ {V : Type 0} where
  -- what a holder holds, if anything
  abbrev pub value_at : List (Name × V) → Name → Option V
  value_at [] a = None
  value_at (h ∷ hs) a = if same_name h.0 a then Some h.1 else value_at hs a

  -- those that hold
  abbrev pub names_of : List (Name × V) → List Name
  names_of hs = map (λ h. h.0) hs

  -- a holder holds this instead of what it held; a new one stands in its place by name
  abbrev pub with_value : List (Name × V) → Name → V → List (Name × V)
  with_value hs a v = insert_entry name_cmp hs a v

  -- all but this holder
  abbrev pub without : List (Name × V) → Name → List (Name × V)
  without hs a = filter (λ h. not (same_name h.0 a)) hs

  -- all but an action and its descendants
  abbrev pub without_below : List (Name × V) → Name → List (Name × V)
  without_below hs a = filter (λ h. not (is_ancestor a h.0)) hs

  -- a row holds its value, if it has one
  abbrev pub with_row : Name → Option V → List (Name × V) → List (Name × V)
  with_row a None hs = hs
  with_row a (Some v) hs = (a, v) ∷ hs

  -- what rows hold that may be empty
  abbrev pub held_in : List (Name × Option V) → List (Name × V)
  held_in [] = []
  held_in (r ∷ rs) = with_row r.0 r.1 (held_in rs)

-- there is room as before, and for this name
abbrev pub HasMoreRoom : List Name → List Name → Name → Type 0
HasMoreRoom old new a = (b : Name) → has_name new b ≡ same_name a b || has_name old b

-- there is room as before, but none for this name
abbrev pub HasLessRoom : List Name → List Name → Name → Type 0
HasLessRoom old new a = (b : Name) → has_name new b ≡ not (same_name a b) && has_name old b

-- a may be handed what others hold: there is room for it, or nobody holds anything
abbrev pub may_be_handed : {X : Type 0} → List X → List Name → Name → Bool
may_be_handed [] room a = true
may_be_handed (h ∷ hs) room a = has_name room a
