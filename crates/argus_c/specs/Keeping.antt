-- Which stores the caller has to keep, and what it is told of them.
use Rattle.std.specs.Prelude.{◌≡◌, ◌<◌, ◌≤◌, ◌==◌, ◌&&◌, ◌+◌, ◌-◌, ℕ, Bool, true, false, not, List, length, Option, Some, option_map, slice_get, IsUtf8}
use Rattle.std.specs.Ordering.{nat_cmp}
use Rattle.std.specs.BTreeSet.{contains}
use Rattle.run_model.specs.declared.step.Step.{Step}
use Rattle.run_model.specs.Actions.{home_of, is_begun}
use Rattle.run_model.specs.Openings.{opening_in}
use Rattle.stable_store.specs.Plain.{plain_view}
use Rattle.stable_store.specs.Stored.{Stored}
use Rattle.stable_store.specs.declared.plain.PlainStable.{PlainStable}
use Rattle.store_texts.specs.Texts.{IsStoreText}
use Rattle.world.specs.Worlds.{InWorld, seen_of}
use Rattle.world_steps.specs.Standings.{asks_of}
use Rattle.argus_c.specs.declared.changes.Changes.{Changes}
use Rattle.argus_c.specs.declared.session.Session.{Session}

-- the store of the guardian may hold something else than what the caller keeps
abbrev pub is_marked : Changes → ℕ → Bool
is_marked changes guardian = contains nat_cmp changes.changed guardian

abbrev pub is_changed : Session → ℕ → Bool
is_changed session guardian = is_marked session.changes guardian

-- what the store of the guardian with this index contains, from 0 on
abbrev pub content_at : InWorld PlainStable → ℕ → Option Stored
content_at world index =
    option_map (λ g. (seen_of plain_view g).content) (slice_get world.guardians index)

-- the guardian is marked, and none after it
pub record IsLastMarked (changes : Changes) (guardian : ℕ) : Type 0 where
  pub marked : is_marked changes guardian ≡ true
  pub none_after : (g : ℕ) → guardian < g → is_marked changes g ≡ false

-- each of so many guardians is marked
abbrev pub AllMarked : Changes → ℕ → Type 0
AllMarked changes count = (g : ℕ) → 1 ≤ g → g ≤ count → is_marked changes g ≡ true

-- who was marked is so still
abbrev pub StayMarked : Changes → Changes → Type 0
StayMarked old new = (g : ℕ) → is_marked old g ≡ true → is_marked new g ≡ true

-- Who is told as changed is told so until the caller keeps its store; what others' stores contain has not changed.
pub record ChangesAreTold (old new : Session) : Type 0 where
  pub told : StayMarked old.changes new.changes
  pub same : (i : ℕ) (s t : Stored) → content_at old.world i ≡ Some s
      → content_at new.world i ≡ Some t → is_changed new (i + 1) ≡ false → t ≡ s

-- the step calls the store of no guardian of which this is said
abbrev pub CallsNone : InWorld PlainStable → Step → (ℕ → Type 0) → Type 0
CallsNone world step Is = (i : ℕ) (s : Stored) → Is (i + 1) → content_at world i ≡ Some s
    → asks_of (opening_in world.run.lists) step world.run.past (i + 1) s ≡ false

-- the top action, if it has begun, is at home at no guardian of the setup
abbrev pub IsNowhere : InWorld PlainStable → List ℕ → Type 0
IsNowhere world top = is_begun top world.run.past ≡ true → (g : ℕ) → 1 ≤ g
    → g ≤ length world.run.lists.setup → home_of top world.run.past ≡ g → ⊥

-- ---- what the caller is told

-- there is this guardian
abbrev pub IsThere : Session → ℕ → Type 0
IsThere session guardian =
    (1 ≤ guardian) × (guardian ≤ length session.world.run.lists.setup)

-- no store has to be kept
abbrev pub NoneChanged : Session → Type 0
NoneChanged session = (g : ℕ) → is_changed session g ≡ false

-- the text is that of what the guardian's store contains
pub record IsStoreTextOf (guardian : ℕ) (session : Session) (text : List ℕ) : Type 0 where
  pub there : IsThere session guardian
  pub content : Stored
  pub holds : content_at session.world (guardian - 1) ≡ Some content
  pub same : IsStoreText text content
  pub utf8 : IsUtf8 text

-- The caller keeps the guardian's store, so that it is not told as changed any more. All else is as it was.
pub record IsKept (guardian : ℕ) (old new : Session) : Type 0 where
  pub world : new.world ≡ old.world
  pub last : new.last ≡ old.last
  pub changed : (g : ℕ) → is_changed new g ≡ is_changed old g && not (g == guardian)
