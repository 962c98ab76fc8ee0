-- The text of a script that is run over stores, one for each guardian: what they hold takes the place of the script's
-- contents, and at the end the bases are saved.
use Rattle.std.specs.Prelude.{ℕ, suc, ◌≡◌, ◌⊎◌, ◌≤◌, ◌<◌, List, [], ◌∷◌, ◌++◌, length, take, get_or, Option, Some, None, IsSome, MatchOption, map, codes}
use Rattle.std.specs.Ordering.{nat_cmp}
use Rattle.std.specs.FinMap.{FinMap, empty, get}
use Rattle.values.specs.declared.content.Content.{Content}
use Rattle.atomic_types.specs.declared.part.Part.{Part}
use Rattle.atomic_types.specs.Parts.{laid_where}
use Rattle.stable_store.specs.Stored.{Stored, after_save}
use Rattle.stable_store.specs.Calls.{View, found}
use Rattle.script_model.specs.declared.checked.Checked.{Checked}
use Rattle.run_model.specs.declared.history.Event.{Event}
use Rattle.run_model.specs.Openings.{Setup}
use Rattle.run_model.specs.Transcripts.{line_feed}
use Rattle.activities.specs.declared.client.ClientEnd.{ClientEnd}
use Rattle.argus_engine.specs.declared.engine.Ended.{Ended}
use Rattle.argus_engine.specs.declared.engine.Ended.TheVariants.{Done, Stopped}
use Rattle.argus_engine.specs.declared.engine.Fault.{Fault}
use Rattle.argus_engine.specs.declared.engine.Fault.TheVariants.{Memory, Store}
use Rattle.script_engine.specs.Running.{Bases, BeginBoth, Comes, IsOfRun, IsTraced, run_text}

-- a store by what is seen of it
module _ {S : Type 0} (seen : S → View) where
  -- what was found at a store
  abbrev pub found_in : S → Option Stored
  found_in store = found (seen store)

  -- what it holds
  abbrev pub held_in : S → Stored
  held_in store = (seen store).content

  -- at each store
  abbrev pub all_found : List S → List (Option Stored)
  all_found stores = map found_in stores

  abbrev pub all_held : List S → List Stored
  all_held stores = map held_in stores

  -- how many failures it has counted, and each has
  abbrev pub failures_in : S → ℕ
  failures_in store = (seen store).failures

  abbrev pub all_failures : List S → List ℕ
  all_failures stores = map failures_in stores

-- what objects hold under what a store has of them: their own contents where it has nothing, and where it has a delta
-- that on them; the first object has number n
abbrev pub laid_over : FinMap nat_cmp Part → ℕ → List Content → List Content
laid_over base n [] = []
laid_over base n (own ∷ more) = laid_where (get base n) own ∷ laid_over base (suc n) more

-- there are no objects but those from number 1 to this one
abbrev pub HasOnly : FinMap nat_cmp Part → ℕ → Type 0
HasOnly base last = (n : ℕ) → IsSome (get base n) → (1 ≤ n) × (n ≤ last)

-- A store that can open a guardian with so many objects: nothing is prepared there, and it has no others.
pub record IsOpening (stored : Stored) (objects : ℕ) : Type 0 where
  pub none_prepared : stored.prepared ≡ empty
  pub within : HasOnly stored.base objects

-- so can what was found at a guardian
abbrev pub CanOpen : Option Stored → ℕ → Type 0
CanOpen None objects = ⊥
CanOpen (Some stored) objects = IsOpening stored objects

-- it opens a guardian with these objects, and these are then their contents
abbrev pub Opens : Option Stored → List Content → List Content → Type 0
Opens None own contents = ⊥
Opens (Some stored) own contents = IsOpening stored (length own)
    × (contents ≡ laid_over stored.base 1 own)

-- so does what was found at each guardian
pub record AreOpenedBy (found : List (Option Stored)) (own : List (List Content))
    (setup : Setup) : Type 0 where
  pub count : length setup ≡ length own
  pub each : (n : ℕ) → n < length own
      → Opens (get_or found n None) (get_or own n []) (get_or setup n [])

-- the setup that they open, if they open one
abbrev pub IsOpened : List (Option Stored) → List (List Content) → Option Setup → Type 0
IsOpened found own opened =
    MatchOption opened ((setup : Setup) → AreOpenedBy found own setup → ⊥) (AreOpenedBy found own)

-- the stores once these bases were saved, each at its guardian; where there are fewer bases, the stores behind them
-- as they were
abbrev pub saved : Bases → List Stored → List Stored
saved [] stores = stores
saved (base ∷ bases) [] = []
saved (base ∷ bases) (s ∷ stores) = after_save base s ∷ saved bases stores

abbrev pub refusal_line : List ℕ
refusal_line = codes "error store" ++ line_feed ∷ []

module _ (comes : Comes) where
  -- The texts, and the bases that are to be saved: those of an outcome that may come in a new system of what the
  -- stores opened; or that they open none.
  abbrev pub TellsStoredRun : Checked → List (Option Stored) → Ended → Bases
      → List ℕ → List ℕ → Type 0
  TellsStoredRun script found Done bases trace text = (setup : Setup) × (ends : List ClientEnd)
      × (past : List Event) × AreOpenedBy found script.guardians setup
      × comes script setup ends bases past × IsTraced setup past trace
      × (text ≡ run_text ends bases)
  TellsStoredRun script found Stopped bases trace text =
      ((setup : Setup) → AreOpenedBy found script.guardians setup → ⊥) × (text ≡ refusal_line)
      × (bases ≡ []) × (trace ≡ [])

  -- these texts were written, and the bases were saved
  abbrev pub IsStoredRun : Checked → List (Option Stored) → List Stored → List Stored → Ended
      → List ℕ → List ℕ → Type 0
  IsStoredRun script found old new ended trace text =
      (bases : Bases) × TellsStoredRun script found ended bases trace text × (new ≡ saved bases old)

  -- the stores are left as by a run of which less was written
  abbrev pub LeavesStoredRun : Checked → List (Option Stored) → List Stored → List Stored → Type 0
  LeavesStoredRun script found old new =
      (ended : Ended) × (trace : List ℕ) × (text : List ℕ)
      × IsStoredRun script found old new ended trace text

  -- nothing was written, or a beginning of what is to be written
  abbrev pub BeginsStoredRun : Checked → List (Option Stored) → List ℕ → List ℕ → Type 0
  BeginsStoredRun script found part written =
      ((part ≡ []) × (written ≡ []))
      ⊎ ((ended : Ended) × (bases : Bases) × (trace : List ℕ) × (text : List ℕ)
      × TellsStoredRun script found ended bases trace text × BeginBoth trace text part written)

  -- the stores are as they were, or the first so many bases were saved
  abbrev pub ArePartlySaved : Checked → List (Option Stored) → List Stored → List Stored → Type 0
  ArePartlySaved script found old new =
      (new ≡ old) ⊎ ((bases : Bases) × (trace : List ℕ) × (text : List ℕ)
      × TellsStoredRun script found Done bases trace text
      × (count : ℕ) × (new ≡ saved (take count bases) old))

  -- The script, and what was found at the stores, determine the texts of a run, how it ends, and the bases that are
  -- saved.
  abbrev pub OneStoredRun : Type 0
  OneStoredRun =
      (script : Checked) (found : List (Option Stored)) (ended other : Ended) (bases more : Bases)
      (trace traced text said : List ℕ)
      → TellsStoredRun script found ended bases trace text
      → TellsStoredRun script found other more traced said
      → (ended ≡ other) × (bases ≡ more) × (trace ≡ traced) × (text ≡ said)

-- a fault of a store, or out of memory
abbrev pub IsOfStore : Fault → Type 0
IsOfStore fault = (fault ≡ Memory) ⊎ (fault ≡ Store)

-- a fault of the clients' run, of the writer or of a store, or out of memory
abbrev pub IsOfStoredRun : (Fault → Type 0) → Fault → Type 0
IsOfStoredRun faults fault = IsOfRun faults fault ⊎ IsOfStore fault
