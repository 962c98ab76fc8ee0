-- When tellings are those of a guardian's history, and what outcomes make of them. Names have places.
use Rattle.std.specs.Prelude.{◌≡◌, ◌≤◌, ◌<◌, ℕ, Bool, false, ◌||◌, ◌==◌, List, [], ◌∷◌, get_or, if◌then◌else◌, length, Option, Some, None, IfSome}
use Rattle.std.specs.List.{AllByRecursion}
use Rattle.action_names.specs.Names.{Name, same_name}
use Rattle.places.specs.Placed.{place_in}
use Rattle.places.specs.Rows.{row_at, row_of}
use Rattle.run_model.specs.LocalReadings.{LocalEvent, told_committed_here, told_here}
use Rattle.tellings.specs.declared.tellings.Heard.{Heard}
use Rattle.tellings.specs.declared.tellings.Tellings.{Tellings}
use Rattle.tellings.specs.declared.tellings.Told.{Told}

-- how often the guardian has crashed
abbrev pub crashes_of : Tellings → ℕ
crashes_of told = told.crashes

-- what was told of an action
abbrev pub told_of : List Name → Tellings → Name → Option Told
told_of names told b = row_of names told.told b

-- it was told in this life
abbrev pub is_in : ℕ → Option Told → Bool
is_in life None = false
is_in life (Some t) = t.life == life

abbrev pub is_told_committed : Option Told → Bool
is_told_committed None = false
is_told_committed (Some t) = t.committed

-- what the guardian was told since its last crash, and of which commits it was ever told; nothing was told in a life
-- to come
pub record AreTold (g : ℕ) (here : List LocalEvent) (names : List Name) (told : Tellings) : Type 0 where
  pub within : length told.told ≤ length names
  pub since : (b : Name) → is_in told.crashes (told_of names told b) ≡ told_here g b here
  pub committed : (b : Name)
      → is_told_committed (told_of names told b) ≡ told_committed_here b here
  pub lives : (b : Name) → IfSome (told_of names told b) (λ t. t.life ≤ told.crashes)

-- nothing is to be heard
abbrev pub AreNone : Heard → Type 0
AreNone heard = heard.told.items ≡ []

-- there is room for each of them
abbrev pub FitsHeard : Tellings → Heard → Type 0
FitsHeard told heard = AllByRecursion (λ (h : ℕ × Told). h.0 < length told.told) heard.told.items

-- What is to be heard of one action, at its place: it was told in this life, and committed, if so the outcome says or
-- it was told before.
pub record IsHeardAs (names : List Name) (told : Tellings) (x : Name × Bool) (h : ℕ × Told) : Type 0 where
  pub place : place_in names x.0 ≡ Some h.0
  pub life : h.1.life ≡ told.crashes
  pub committed : h.1.committed ≡ (x.1 || is_told_committed (row_at told.told h.0))

-- what is to be heard is what these outcomes say, one by one
abbrev pub AreHeard : List Name → Tellings → List (Name × Bool) → List (ℕ × Told) → Type 0
AreHeard names told [] [] = Unit {0}
AreHeard names told [] (h ∷ hs) = ⊥
AreHeard names told (x ∷ xs) [] = ⊥
AreHeard names told (x ∷ xs) (h ∷ hs) = IsHeardAs names told x h × AreHeard names told xs hs

abbrev pub IsHeard : List Name → Tellings → List (Name × Bool) → Heard → Type 0
IsHeard names told outcomes heard = AreHeard names told outcomes heard.told.items

-- of what is to be heard, the first that is of this action
abbrev pub heard_in : List Name → List (ℕ × Told) → Name → Option Told
heard_in names [] b = None
heard_in names (h ∷ hs) b =
    if same_name (get_or names h.0 []) b then Some h.1 else heard_in names hs b

-- each is at a place that is its name's
abbrev pub HavePlaces : List Name → List (ℕ × Told) → Type 0
HavePlaces names hs =
    AllByRecursion (λ (h : ℕ × Told). place_in names (get_or names h.0 []) ≡ Some h.0) hs
