-- Versions of one object: a base, and above it the contents that owners made of it, outermost first.
use Rattle.std.specs.Prelude.{ℤ, take_while, Bool, false, not, ◌||◌, List, [], ◌∷◌, map, filter, IsTrue, Option, Some, None, if◌then◌else◌}
use Rattle.action_names.specs.Names.{Name, same_name, is_ancestor, is_proper_ancestor}
use Rattle.values.specs.declared.value.Value.TheVariants.{Int}
use Rattle.atomic_types.specs.Operations.{Op}
use Rattle.atomic_types.specs.declared.operation.Operation.TheVariants.{Add}

pub record Stack (T : Type 0) : Type 0 where
  pub base : T
  pub versions : List (Name × T)

module _ {T : Type 0} where
  abbrev pub last_version : T → List (Name × T) → T
  last_version c [] = c
  last_version c (v ∷ vs) = last_version v.1 vs

  -- the content on top
  abbrev pub top_of : Stack T → T
  top_of s = last_version s.base s.versions

  -- the owner of the version on top, if that is not the base
  abbrev pub last_owner : List (Name × T) → Option Name
  last_owner [] = None
  last_owner (v ∷ []) = Some v.0
  last_owner (v ∷ w ∷ vs) = last_owner (w ∷ vs)

  -- what an owner made of the base
  abbrev pub version_at : List (Name × T) → Name → Option T
  version_at [] a = None
  version_at (v ∷ vs) a = if same_name v.0 a then Some v.1 else version_at vs a

  -- each owner is an ancestor of a
  abbrev pub AreAbove : List (Name × T) → Name → Type 0
  AreAbove [] a = Unit {0}
  AreAbove (v ∷ vs) a = IsTrue (is_ancestor v.0 a) × AreAbove vs a

  -- the versions once the content on top is a's
  abbrev pub with_top : List (Name × T) → Name → T → List (Name × T)
  with_top [] a c = (a, c) ∷ []
  with_top (v ∷ []) a c = if same_name v.0 a then (v.0, c) ∷ [] else v ∷ (a, c) ∷ []
  with_top (v ∷ w ∷ vs) a c = v ∷ with_top (w ∷ vs) a c

  abbrev pub written : Stack T → Name → T → Stack T
  written s a c = record { base = s.base; versions = with_top s.versions a c }

  -- the versions once p has a's: it replaces p's own, which stands right below it
  abbrev pub passed_above : Name × T → List (Name × T) → Name → Name → List (Name × T)
  passed_above v [] a p = v ∷ []
  passed_above v (w ∷ vs) a p =
      if same_name w.0 a then (if same_name v.0 p then (v.0, w.1) ∷ vs else v ∷ (p, w.1) ∷ vs)
      else v ∷ passed_above w vs a p

  abbrev pub passed : List (Name × T) → Name → Name → List (Name × T)
  passed [] a p = []
  passed (v ∷ vs) a p = if same_name v.0 a then (p, v.1) ∷ vs else passed_above v vs a p

  -- a's version once the base has it
  abbrev pub settled : T → List (Name × T) → Name → Stack T
  settled c [] a = record { base = c; versions = [] }
  settled c (v ∷ vs) a = if same_name v.0 a then record { base = v.1; versions = vs }
      else record { base = c; versions = v ∷ vs }

  -- the stack once the next holder has a's version
  abbrev pub inherited : Stack T → Name → Option Name → Stack T
  inherited s a None = settled s.base s.versions a
  inherited s a (Some p) = record { base = s.base; versions = passed s.versions a p }

  -- the versions with a's changed
  abbrev pub changed_at : (T → T) → List (Name × T) → Name → List (Name × T)
  changed_at change [] a = []
  changed_at change (v ∷ vs) a =
      if same_name v.0 a then (v.0, change v.1) ∷ vs else v ∷ changed_at change vs a

  -- the stack once a number was added to a's version, or to the base
  abbrev pub added : (T → Op → T) → Stack T → Option Name → ℤ → Stack T
  added after s None z = record { base = after s.base (Add (Int z)); versions = s.versions }
  added after s (Some a) z =
      record { base = s.base; versions = changed_at (λ c. after c (Add (Int z))) s.versions a }

  -- the stack without the versions of a and its descendants
  abbrev pub dropped_below : Stack T → Name → Stack T
  dropped_below s a =
      record { base = s.base; versions = filter (λ v. not (is_ancestor a v.0)) s.versions }

-- each owner is an ancestor of the next, and another action
abbrev pub RiseByAncestry : List Name → Type 0
RiseByAncestry [] = Unit {0}
RiseByAncestry (a ∷ []) = Unit {0}
RiseByAncestry (a ∷ b ∷ ns) = IsTrue (is_proper_ancestor a b) × RiseByAncestry (b ∷ ns)

abbrev pub owners_of : {T : Type 0} → List (Name × T) → List Name
owners_of vs = map (λ v. v.0) vs

abbrev pub RisesByAncestry : {T : Type 0} → List (Name × T) → Type 0
RisesByAncestry vs = RiseByAncestry (owners_of vs)

-- the last of them is a
abbrev pub is_on_top : List Name → Name → Bool
is_on_top [] a = false
is_on_top (b ∷ []) a = same_name b a
is_on_top (b ∷ c ∷ bs) a = is_on_top (c ∷ bs) a

-- the first of them is a
abbrev pub is_lowest : List Name → Name → Bool
is_lowest [] a = false
is_lowest (b ∷ bs) a = same_name b a

-- those before the first that is a or a descendant
abbrev pub owners_above : List Name → Name → List Name
owners_above ns a = take_while (λ b. not (is_ancestor a b)) ns

-- the owner is no proper ancestor of a, or the next holder or an ancestor of it
abbrev pub is_passed_by : Name → Name → Option Name → Bool
is_passed_by b a None = not (is_proper_ancestor b a)
is_passed_by b a (Some p) = not (is_proper_ancestor b a) || is_ancestor b p

-- the next holder is a proper ancestor
abbrev pub IsNextHolder : Name → Option Name → Type 0
IsNextHolder a None = Unit {0}
IsNextHolder a (Some p) = IsTrue (is_proper_ancestor p a)

-- no owner stands between a and the next holder
abbrev pub HasNoneBetween : {T : Type 0} → List (Name × T) → Name → Option Name → Type 0
HasNoneBetween {T} [] a to = Unit {0}
HasNoneBetween {T} (v ∷ vs) a to = IsTrue (is_passed_by v.0 a to) × HasNoneBetween vs a to
