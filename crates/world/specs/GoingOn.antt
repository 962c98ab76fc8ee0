-- How a world over stores that were opened again goes on from the run that left them.
use Rattle.std.specs.Prelude.{◌≡◌, List, map as each}
use Rattle.run_model.specs.declared.history.Event.{Event}
use Rattle.run_model.specs.Openings.{Opening, Setup}
use Rattle.run_model.specs.Runs.{IsRun}
use Rattle.stable_store.specs.Stored.{Stored}
use Rattle.store_recovery.specs.Settling.{bases_then}
use Rattle.recovery_laws.specs.Opened.{GoesOnFrom}
use Rattle.recovery_laws.specs.Runs.{AreOfRun}

-- These stores hold as much as the others: the same bases once all records are settled, the same decisions, and the
-- same next top actions. Their counts may differ.
pub record HoldAsMuch (others stores : List Stored) : Type 0 where
  pub bases : bases_then stores ≡ bases_then others
  pub decided : each (λ s. s.decided) stores ≡ each (λ s. s.decided) others
  pub next_tops : each (λ s. s.next_top) stores ≡ each (λ s. s.next_top) others

-- The opening goes on from each run of this setup that left these stores, or some that hold as much.
abbrev pub GoesOnFromStores : Setup → List Stored → Opening → Type 0
GoesOnFromStores setup stores next = (opening : Opening) (past : List Event) (left : List Stored)
    → opening.setup ≡ setup → IsRun opening past
    → AreOfRun opening past left → HoldAsMuch left stores → GoesOnFrom opening past next
