-- The stores of a history of new guardians hold what a new top action would see.
use Rattle.std.proofs.Common.{IsFalse, List, Some, [], length, true, ◌∙◌, ◌≡◌}
use Rattle.action_names.specs.Names.{Name, is_top}
use Rattle.values.specs.declared.content.Content.{Content}
use Rattle.run_model.specs.declared.step.ObjectId.{ObjectId}
use Rattle.run_model.specs.declared.step.Step.{Step}
use Rattle.run_model.specs.Actions.{is_begun}
use Rattle.run_model.specs.Openings.{Setup, first_content, fresh}
use Rattle.run_model.specs.Places.{visible_by_place}
use Rattle.run_model.specs.Replay.{store_after}
use Rattle.run_model.specs.Runs.{IsRun, history_from}
use Rattle.recovery_laws.proofs.Numbers.{fresh_are_numbered}
use Rattle.recovery_laws.specs.StoreExamples.{StoresSettle}
use Rattle.recovery_laws.specs.Following.{new_stores, stores_through}
use Rattle.recovery_laws.proofs.Following.{new_stores_are_empty, stores_follow}
use Rattle.recovery_laws.proofs.OpenedStores.{stores_hold_what_is_seen}
use Rattle.stable_store.specs.Stored.{Stored}
use Rattle.store_recovery.specs.Settling.{settled, store_of}

pub stores_settle : (setup : Setup) (steps : List Step) (x : ObjectId) (content : Content) (t : Name) (s : Stored)
    → IsRun (fresh setup) (history_from (fresh setup) [] steps) → length (history_from (fresh setup) [] steps) ≡ length steps
    → store_of (settled (stores_through (fresh setup) (history_from (fresh setup) [] steps) (new_stores setup))) x.guardian ≡ Some s
    → is_top t ≡ true → IsFalse (is_begun t (history_from (fresh setup) [] steps))
    → store_after (first_content (fresh setup)) (visible_by_place t (history_from (fresh setup) [] steps)) x ≡ content
    → StoresSettle (fresh setup) steps x content
stores_settle setup steps x content t s r count at top new seen =
    let past = history_from (fresh setup) [] steps in
    let stores = stores_through (fresh setup) past (new_stores setup) in (
      count,
      s,
      at,
      stores_hold_what_is_seen (fresh setup) past stores (fresh_are_numbered setup).decided r
          (stores_follow (fresh setup) past (new_stores setup) r (new_stores_are_empty setup)) x s t at top new ∙ seen,
    )
