-- What a world reads of its guardians.
use Rattle.std.proofs.Common.{IfSome, List, MatchOption, None, Option, Some, [], ap, arith, get_or, length, refl, slice_get, suc, sym, take, zero, ℕ, ◌++◌, ◌+◌, ◌-◌, ◌<◌, ◌∙◌, ◌∷◌, ◌≡◌, ◌≤◌}
use Rattle.std.proofs.lemmas.Option.{slice_get-get_or}
use Rattle.std.specs.Option.{unwrap_or}
use Rattle.values.specs.declared.content.Content.{Content}
use Rattle.run_model.specs.declared.history.Event.{Event}
use Rattle.run_model.specs.declared.step.ObjectId.{ObjectId}
use Rattle.run_model.specs.Keeping.{standing_of}
use Rattle.run_model.specs.LocalHistories.{numbered}
use Rattle.run_model.specs.LocalReadings.{standing_here}
use Rattle.run_model.specs.Openings.{Opening, Setup, first_content, objects_at}
use Rattle.run_model.specs.Runs.{IsRun}
use Rattle.run_model.specs.Versions.{base_by, base_of}
use Rattle.local_laws.proofs.Bare.{objects_alike}
use Rattle.volatile_state.specs.Memories.{own_object}
use Rattle.layer_contracts.specs.Guardians.{GuardianState}
use Rattle.world_steps.specs.Standings.{standing}
use Rattle.world_steps.proofs.Led.{numbered_events, runs}

-- what was lent whole comes back whole
pub back_is : {X : Type 0} (n : ℕ) (xs rest : List X) → n ≡ length xs → take n (xs ++ rest) ≡ xs
back_is n xs rest e = ap (λ k. take k (xs ++ rest)) e ∙ front xs rest
  where
    front : {X : Type 0} (xs rest : List X) → take (length xs) (xs ++ rest) ≡ xs
    front [] rest = refl
    front (x ∷ xs) rest = ap (λ l. x ∷ l) (front xs rest)

-- what holds of the element at a place holds of what is found there
pub found_at : {R X : Type 0} (r : Option R) (now : R → X) (xs : List X) (i : ℕ) (P : R → Type 0) (Q : X → Type 0) → IfSome r (λ x. now x ≡ get_or xs i (now x))
    → MatchOption r (length xs ≤ i) (λ x. (i < length xs) × P x) → ((x : X) → slice_get xs i ≡ Some x → Q x) → MatchOption r (Unit {0}) (λ x. Q (now x))
found_at None now xs i P Q item there each = tt
found_at (Some x) now xs i P Q item there each = each (now x) (slice_get-get_or xs i (now x) there.0 ∙ ap (λ y. Some y) (sym item))

-- a guardian that has an object is in the setup
pub has_place : (setup : Setup) (g n : ℕ) → 1 ≤ n → n ≤ length (objects_at setup g) → g - 1 < length setup
has_place setup g n low high = of setup (g - 1) low high
  where
    of : (setup : Setup) (i : ℕ) → 1 ≤ n → n ≤ length (unwrap_or (slice_get setup i) []) → i < length setup
    of [] i low high = absurd (omega arith)
    of (objects ∷ setup) zero low high = omega arith
    of (objects ∷ setup) (suc i) low high = let rest : i < length setup = of setup i low high in omega arith

-- the base of the object of this number, by its guardian's own history
abbrev base_there : GuardianState → ℕ → Content
base_there s n = base_by (first_content s.opening (own_object s n)) (standing_here s.past (own_object s n))

-- is that of the run
pub base_is : (opening : Opening) (past : List Event) (x : ObjectId) (base : Content) → IsRun opening past → 1 ≤ x.guardian
    → base ≡ base_there (standing opening past (x.guardian - 1 + 1)) x.number → base ≡ base_of opening x past
base_is opening past x base r low b =
    let number : x.guardian - 1 + 1 ≡ x.guardian = omega arith in
    b ∙ ap (λ g. base_there (standing opening past g) x.number) number
    ∙ (objects_alike opening (numbered past) x (runs opening past r)).base (first_content opening x)
    ∙ ap (λ l. base_by (first_content opening x) (standing_of x l)) (numbered_events past)
