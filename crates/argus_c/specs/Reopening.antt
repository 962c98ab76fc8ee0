-- What a session is opened over that goes on from stores.
use Rattle.std.specs.Prelude.{◌≡◌, ℕ, true, List, [], length, map, None}
use Rattle.run_model.specs.Openings.{Setup, opening_in}
use Rattle.run_model.specs.Texts.{IsSetupText}
use Rattle.stable_store.specs.Plain.{plain_view}
use Rattle.stable_store.specs.Stored.{Stored}
use Rattle.stable_store.specs.declared.plain.PlainStable.{PlainStable}
use Rattle.store_recovery.specs.Belonging.{all_belong}
use Rattle.store_recovery.specs.Opened.{AreOpened, IsOpeningOf}
use Rattle.store_recovery.specs.Settling.{contents}
use Rattle.store_texts.specs.Texts.{AreStoresIn}
use Rattle.world.specs.GoingOn.{GoesOnFromStores}
use Rattle.world.specs.Worlds.{InWorld, store_in}
use Rattle.argus_c.specs.Keeping.{AllMarked}
use Rattle.argus_c.specs.declared.session.Session.{Session}

-- The world of the setup over stores of these contents, settled. It goes on from each run that left them.
pub record GoesOn (setup : Setup) (left : List Stored) (world : InWorld PlainStable) : Type 0 where
  pub past : world.run.past ≡ []
  pub stores : List PlainStable
  pub held : contents plain_view stores ≡ left
  pub opened : AreOpened plain_view setup stores (map store_in world.guardians)
  pub opening : IsOpeningOf setup (contents plain_view (map store_in world.guardians))
      (opening_in world.run.lists)
  pub goes_on : GoesOnFromStores setup left (opening_in world.run.lists)

-- The session is one of the setup that the document is, over the stores that the bytes are. No step was made, and all
-- stores are to be kept.
pub record IsReopened (document bytes : List ℕ) (session : Session) : Type 0 where
  pub setup : Setup
  pub left : List Stored
  pub read : IsSetupText document setup
  pub stores : AreStoresIn bytes left
  pub world : GoesOn setup left session.world
  pub none : session.last ≡ None
  pub kept : AllMarked session.changes (length setup)

-- no stores are these bytes
abbrev pub AreNoStores : List ℕ → Type 0
AreNoStores bytes = (contents : List Stored) → AreStoresIn bytes contents → ⊥

-- There is a store for each guardian of the setup, and what it contains may be that of its guardian.
abbrev pub AreOf : Setup → List Stored → Type 0
AreOf setup left = (length left ≡ length setup) × (all_belong setup left ≡ true)

-- The document is a setup and the bytes are stores, but not those of the setup.
pub record AreNotOurs (document bytes : List ℕ) : Type 0 where
  pub setup : Setup
  pub left : List Stored
  pub read : IsSetupText document setup
  pub stores : AreStoresIn bytes left
  pub others : AreOf setup left → ⊥
