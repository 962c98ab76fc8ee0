-- The stores of small histories, settled.
use Rattle.std.specs.Prelude.{◌≡◌, List, [], ◌∷◌, Some, length}
use Rattle.std.specs.FinMap as map
use Rattle.values.specs.declared.content.Content.{Content}
use Rattle.atomic_types.specs.declared.part.Part.TheVariants.{Value}
use Rattle.atomic_types.specs.Parts.{laid_where}
use Rattle.run_model.specs.declared.step.ObjectId.{ObjectId}
use Rattle.run_model.specs.declared.step.Step.{Step}
use Rattle.run_model.specs.Openings.{Opening, set_up}
use Rattle.run_model.specs.Runs.{history_from}
use Rattle.recovery_laws.specs.Examples as example
use Rattle.recovery_laws.specs.Following.{new_stores, stores_through}
use Rattle.stable_store.specs.Stored.{Stored, after_decide, after_prepare, empty}
use Rattle.store_recovery.specs.Settling.{settled, settled_store, store_of}

-- All these steps of new guardians are accepted, and what their stores hold then leaves this content of the object,
-- once it is settled.
abbrev pub StoresSettle : Opening → List Step → ObjectId → Content → Type 0
StoresSettle opening steps x content =
    let past = history_from opening [] steps in
    let stores = stores_through opening past (new_stores opening.setup) in
    (length past ≡ length steps) × (s : Stored) × (store_of (settled stores) x.guardian ≡ Some s)
    × (laid_where (map.get s.base x.number) (set_up opening.setup x) ≡ content)

-- The stores of two guardians: the first has decided the first top action, of which both have a record. It holds
-- nothing at the first guardian, and at the second the record of the example.
abbrev pub first_store : Stored
first_store = after_decide 1 (after_prepare 1 1 [] empty)

abbrev pub second_store : Stored
second_store = after_prepare 1 1 ((1, Value (example.record_of 4)) ∷ []) empty

-- These are what the steps of the example make of new stores, and once they are settled that record is installed.
abbrev pub SetAwayByHand : Type 0
SetAwayByHand =
    let stores = first_store ∷ second_store ∷ [] in
    (stores_through example.two_guardians (history_from example.two_guardians [] example.set_away)
    (new_stores example.two_guardians.setup) ≡ stores)
    × (map.get (settled_store stores second_store).base 1 ≡ Some (Value (example.record_of 4)))
