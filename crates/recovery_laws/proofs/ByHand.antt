-- The stores of one example, settled step by step.
use Rattle.std.proofs.Common.{List, Some, [], ap, arith, cond, fold, length, nat_cmp, refl, sym, true, ◌∙◌, ◌∷◌, ◌≡◌}
use Rattle.std.specs.Cmp.{nat_cmp_total}
use Rattle.std.specs.FinMap as map
use Rattle.std.specs.FinMap.Entries.{put}
use Rattle.std.specs.FinSet as set
use Rattle.atomic_types.specs.declared.part.Part.TheVariants.{Value}
use Rattle.atomic_types.specs.Parts.{over}
use Rattle.recovery_laws.specs.Examples as example
use Rattle.recovery_laws.specs.StoreExamples.{first_store, second_store}
use Rattle.stable_store.specs.Stored.{Record, Stored, after_discard, after_install, installed}
use Rattle.store_recovery.specs.Settling.{is_decided, settled_by, settled_store}

abbrev held : Record
held = record { home = 1; parts = (1, Value (example.record_of 4)) ∷ [] }

abbrev both : List Stored
both = first_store ∷ second_store ∷ []

none_in : {A : Type 0} (xs : List A) → length xs ≡ 0 → xs ≡ []
none_in [] h = refl
none_in (x ∷ xs) h = absurd (omega arith)

one_entry : map.entries second_store.prepared ≡ (1, held) ∷ []
one_entry =
    map.entries-insert nat_cmp_total map.empty 1 held
    ∙ ap (λ es. put nat_cmp 1 held es) (none_in (map.entries {R = nat_cmp} map.empty) (sym (map.len-entries {R = nat_cmp} map.empty) ∙ map.len-empty nat_cmp Record))

decided : is_decided both 1 1 ≡ true
decided = set.contains-insert nat_cmp_total set.empty 1 1

pub installed_by_hand : map.get (settled_store both second_store).base 1 ≡ Some (Value (example.record_of 4))
installed_by_hand =
    ap (λ es. map.get (fold (λ t e. settled_by both e t) second_store es).base 1) one_entry
    ∙ ap (λ b. map.get (cond b (after_install 1 second_store) (after_discard 1 second_store)).base 1) decided
    ∙ ap (λ r. map.get (installed r map.empty) 1) (map.get-insert nat_cmp_total map.empty 1 held 1)
    ∙ map.get-insert nat_cmp_total map.empty 1 (over (Value (example.record_of 4)) (map.get {R = nat_cmp} map.empty 1)) 1
