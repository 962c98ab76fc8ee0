-- How many objects a telling changes, by the index.
use Rattle.std.proofs.Common.{List, ap, false, length, true, ℕ, ◌∙◌, ◌≡◌, ◌↔◌}
use Rattle.std.specs.Prelude.{count_by}
use Rattle.action_names.specs.Names.{Name}
use Rattle.run_model.specs.Answers.{is_concerned_by}
use Rattle.run_model.specs.Lists.{up_to}
use Rattle.run_model.specs.LocalReadings.{LocalEvent, count_here, standing_here, told_committed_here}
use Rattle.run_model.specs.Openings.{Opening}
use Rattle.guardian_index.specs.Held.{HoldsBelow, IsRising, has_number, objects_at}
use Rattle.guardian_objects.specs.Objects.{AreObjects, Indexed, object_of}
use Rattle.guardian_objects.proofs.Numbers.{counted}
use Rattle.guardian_objects.proofs.Parted.{below_here}
use Rattle.guardian_objects.proofs.Places.{held_here}

-- a commit changes those at which the action holds something
pub count_held : (o : Indexed) (a : Name) (ns : List ℕ) → IsRising ns → ns ≡ objects_at o.held a → (opening : Opening) (here : List LocalEvent) → AreObjects opening here o
    → length ns ≡ count_here opening o.guardian a true here
count_held o a ns rise is opening here are =
    counted (λ n. is_concerned_by true (standing_here here (object_of o n)) a) (length o.objects) ns rise
    (λ n. ap (λ l. has_number l n) is ∙ held_here opening (λ x. standing_here here x) o are a n)
    ∙ ap (λ m. count_by (λ n. is_concerned_by true (standing_here here (object_of o n)) a) (up_to m)) are.count

-- an abort those at which the action or a descendant does
pub count_below : (o : Indexed) (a : Name) (ns : List ℕ) → IsRising ns → ((n : ℕ) → (has_number ns n ≡ true) ↔ HoldsBelow o.held a n) → (opening : Opening)
    (here : List LocalEvent) → AreObjects opening here o → told_committed_here a here ≡ false → length ns ≡ count_here opening o.guardian a false here
count_below o a ns rise below opening here are untold =
    counted (λ n. is_concerned_by false (standing_here here (object_of o n)) a) (length o.objects) ns rise
    (below_here opening (λ x. standing_here here x) o are a (λ x. untold) ns below)
    ∙ ap (λ m. count_by (λ n. is_concerned_by false (standing_here here (object_of o n)) a) (up_to m)) are.count
