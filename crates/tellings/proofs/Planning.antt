-- Outcomes that are to be heard: one more, with more names, and what they say of each name.
use Rattle.std.proofs.Common.{Bool, List, Some, [], ap, arith, cond, false, get_or, length, refl, sym, true, ℕ, ◌++◌, ◌<◌, ◌∙◌, ◌∷◌, ◌≡◌, ◌||◌, ◌≤◌}
use Rattle.std.specs.List.{AllByRecursion}
use Rattle.std.specs.Option.{option_and_then}
use Rattle.std.specs.Prelude.{IfSome, is_some}
use Rattle.action_names.specs.Names.{Name, same_name}
use Rattle.action_names.proofs.Ancestry.{same_is}
use Rattle.places.specs.Placed.{AreMore, place_in}
use Rattle.places.specs.Rows.{row_at}
use Rattle.places.proofs.Looking.{place_at, place_stays}
use Rattle.run_model.specs.LocalReadings.{outcome_in, says_committed}
use Rattle.tellings.specs.Hearing.{AreHeard, HavePlaces, IsHeardAs, heard_in, is_told_committed, told_of}
use Rattle.tellings.specs.declared.tellings.Tellings.{Tellings}
use Rattle.tellings.specs.declared.tellings.Told.{Told}

-- with more names, and with tellings that have the same rows, the same is heard
pub heard_kept : (old new : List Name) (before after : Tellings) → AreMore old new → after.crashes ≡ before.crashes
    → ((i : ℕ) → row_at after.told i ≡ row_at before.told i) → (xs : List (Name × Bool)) (hs : List (ℕ × Told))
    → AreHeard old before xs hs → AreHeard new after xs hs
heard_kept old new before after more crashes rows [] [] are = tt
heard_kept old new before after more crashes rows [] (h ∷ hs) are = absurd are
heard_kept old new before after more crashes rows (x ∷ xs) [] are = absurd are
heard_kept old new before after more crashes rows (x ∷ xs) (h ∷ hs) are = (
  record {
    place = ap (λ ns. place_in ns x.0) more.behind ∙ place_stays old more.added x.0 h.0 are.0.place;
    life = are.0.life ∙ sym crashes;
    committed = are.0.committed ∙ ap (λ o. x.1 || is_told_committed o) (sym (rows h.0));
  },
  heard_kept old new before after more crashes rows xs hs are.1,
)

-- one more outcome
pub heard_more : (names : List Name) (told : Tellings) (xs : List (Name × Bool)) (hs : List (ℕ × Told)) (x : Name × Bool) (h : ℕ × Told)
    → AreHeard names told xs hs → IsHeardAs names told x h → AreHeard names told (xs ++ x ∷ []) (hs ++ h ∷ [])
heard_more names told [] [] x h are is = (is, tt)
heard_more names told [] (k ∷ hs) x h are is = absurd are
heard_more names told (y ∷ xs) [] x h are is = absurd are
heard_more names told (y ∷ xs) (k ∷ hs) x h are is = (are.0, heard_more names told xs hs x h are.1 is)

-- each place is a name's
pub heard_places : (names : List Name) (told : Tellings) (xs : List (Name × Bool)) (hs : List (ℕ × Told)) → AreHeard names told xs hs → HavePlaces names hs
heard_places names told [] [] are = tt
heard_places names told [] (h ∷ hs) are = absurd are
heard_places names told (x ∷ xs) [] are = absurd are
heard_places names told (x ∷ xs) (h ∷ hs) are =
    (ap (place_in names) (place_at names x.0 h.0 are.0.place).1 ∙ are.0.place, heard_places names told xs hs are.1)

-- there is room for each, where there is room for each place
pub heard_fits : (names : List Name) (told : Tellings) (room : ℕ) → length names ≤ room → (xs : List (Name × Bool)) (hs : List (ℕ × Told))
    → AreHeard names told xs hs → AllByRecursion (λ (h : ℕ × Told). h.0 < room) hs
heard_fits names told room enough [] [] are = tt
heard_fits names told room enough [] (h ∷ hs) are = absurd are
heard_fits names told room enough (x ∷ xs) [] are = absurd are
heard_fits names told room enough (x ∷ xs) (h ∷ hs) are =
    (omega (arith, (place_at names x.0 h.0 are.0.place).0), heard_fits names told room enough xs hs are.1)

-- ---- what is heard of a name

pub heard_named : (names : List Name) (told : Tellings) (xs : List (Name × Bool)) (hs : List (ℕ × Told)) → AreHeard names told xs hs → (b : Name)
    → is_some (heard_in names hs b) ≡ is_some (outcome_in xs b)
heard_named names told [] [] are b = refl
heard_named names told [] (h ∷ hs) are b = absurd are
heard_named names told (x ∷ xs) [] are b = absurd are
heard_named names told (x ∷ xs) (h ∷ hs) are b =
    ap (λ n. is_some (cond (same_name n b) (Some h.1) (heard_in names hs b))) (place_at names x.0 h.0 are.0.place).1
    ∙ step (same_name x.0 b) (heard_named names told xs hs are.1 b)
  where
    step : (t : Bool) → is_some (heard_in names hs b) ≡ is_some (outcome_in xs b)
        → is_some (cond t (Some h.1) (heard_in names hs b)) ≡ is_some (cond t (Some x.1) (outcome_in xs b))
    step true later = refl
    step false later = later

pub heard_lives : (names : List Name) (told : Tellings) (xs : List (Name × Bool)) (hs : List (ℕ × Told)) → AreHeard names told xs hs → (b : Name)
    → IfSome (heard_in names hs b) (λ t. t.life ≡ told.crashes)
heard_lives names told [] [] are b = tt
heard_lives names told [] (h ∷ hs) are b = absurd are
heard_lives names told (x ∷ xs) [] are b = absurd are
heard_lives names told (x ∷ xs) (h ∷ hs) are b = step (same_name (get_or names h.0 []) b) (heard_lives names told xs hs are.1 b)
  where
    step : (t : Bool) → IfSome (heard_in names hs b) (λ t. t.life ≡ told.crashes) → IfSome (cond t (Some h.1) (heard_in names hs b)) (λ t. t.life ≡ told.crashes)
    step true later = are.0.life
    step false later = later

pub heard_committed : (names : List Name) (told : Tellings) (xs : List (Name × Bool)) (hs : List (ℕ × Told)) → AreHeard names told xs hs → (b : Name)
    → is_some (outcome_in xs b) ≡ true
    → is_told_committed (heard_in names hs b) ≡ (says_committed (outcome_in xs b) || is_told_committed (told_of names told b))
heard_committed names told [] [] are b brought = absurd (cc)
heard_committed names told [] (h ∷ hs) are b brought = absurd are
heard_committed names told (x ∷ xs) [] are b brought = absurd are
heard_committed names told (x ∷ xs) (h ∷ hs) are b brought =
    ap (λ n. is_told_committed (cond (same_name n b) (Some h.1) (heard_in names hs b))) (place_at names x.0 h.0 are.0.place).1
    ∙ step (heard_committed names told xs hs are.1 b) (same_name x.0 b) refl brought
  where
    step : (is_some (outcome_in xs b) ≡ true → is_told_committed (heard_in names hs b) ≡ (says_committed (outcome_in xs b) || is_told_committed (told_of names told b)))
        → (t : Bool) → same_name x.0 b ≡ t → is_some (cond t (Some x.1) (outcome_in xs b)) ≡ true
        → is_told_committed (cond t (Some h.1) (heard_in names hs b)) ≡ (says_committed (cond t (Some x.1) (outcome_in xs b)) || is_told_committed (told_of names told b))
    step rest false other k = rest k
    step rest true same k =
        let there : place_in names b ≡ Some h.0 = ap (place_in names) (sym (same_is x.0 b same)) ∙ are.0.place in
        are.0.committed ∙ ap (λ o. x.1 || is_told_committed o) (sym (ap (option_and_then (λ i. row_at told.told i)) there))
