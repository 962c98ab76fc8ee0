-- The beginning of a run: each guardian with the part of its number.
use Rattle.std.proofs.Common.{List, None, Some, false, [], ap, ap₂, arith, length, refl, suc, zero, ℕ, ◌++◌, ◌+◌, ◌-◌, ◌<◌, ◌≤◌, ◌∙◌, ◌∷◌, ◌≡◌}
use Rattle.atomic_table.specs.Seated.{TableId}
use Rattle.one_run.specs.declared.piece.Piece.{Piece}
use Rattle.one_run.specs.declared.run.Part.{Part}
use Rattle.one_run.specs.Pieces.{places_from, seen_of}
use Rattle.one_run.specs.Rules.{first_of, others_of}
use Rattle.run_model.specs.declared.history.Event.{Event}
use Rattle.run_model.specs.LocalHistories.{Stamped}
use Rattle.run_model.specs.Openings.{Opening}
use Rattle.layer_contracts.specs.Guardians.{GuardianState}
use Rattle.world_steps.specs.Standings.{standing}
use Rattle.locked_run.specs.Beginning.{held_first, held_from, stamps}
use Rattle.locked_run.specs.Parts.{IsHeld, guardian_part, number_of, registry_part}

-- the first place, and the others
cut : (p n : ℕ) → 0 < n → places_from {E = Event} p n ≡ record { place = Some p; left = stamps; seen = []; event = None; owns = false } ∷ places_from (suc p) (n - 1)
cut p zero h = absurd (omega arith)
cut p (suc n) h = ap (λ m. record { place = Some p; left = stamps; seen = []; event = None; owns = false } ∷ places_from {E = Event} (suc p) m) (omega arith)

module _ (k n : ℕ) (v : List (Piece Event)) (is : v ≡ places_from (k + 2) (n - k)) (lt : k < n) where
  whole : v ≡ record { place = Some (k + 2); left = stamps; seen = []; event = None; owns = false } ∷ places_from (suc (k + 2)) ((n - k) - 1)
  whole = is ∙ cut (k + 2) (n - k) (omega arith)

  pub first_place : first_of v ≡ guardian_part (k + 1) stamps [] ∷ []
  first_place =
      let same : k + 2 ≡ suc (k + 1) = omega arith in
      ap first_of whole ∙ ap (λ p. record { place = Some p; left = stamps; seen = []; event = None; owns = false } ∷ []) same

  pub other_places : others_of v ≡ places_from (k + 1 + 2) (n - (k + 1))
  other_places =
      let p : suc (k + 2) ≡ k + 1 + 2 = omega arith in
      let m : (n - k) - 1 ≡ n - (k + 1) = omega arith in
      ap others_of whole ∙ ap₂ (λ x y. places_from {E = Event} x y) p m

-- a guardian with the part of its number
pub held_at : {opening : Opening} {table : TableId} {stands : GuardianState → Type 0} {part : Part Event} {history : List Stamped} (number : ℕ)
    → 1 ≤ number → number ≤ length opening.setup → history ≡ [] → part.token.table_id ≡ table → part.token.me.0 ≡ guardian_part number stamps [] ∷ []
    → stands (standing opening [] number) → IsHeld opening table stands part stamps history
held_at number first last kept table parts here = record {
  number = number;
  past = [];
  allowed = stamps;
  of_table = table;
  parts = parts;
  enough = omega arith;
  run = tt;
  here = here;
  first = first;
  last = last;
  kept = kept;
}

pub held_count : {G : Type 0} (number : ℕ) (xs : List G) → length (held_from number xs) ≡ length xs
held_count number [] = refl
held_count number (x ∷ xs) = ap suc (held_count (suc number) xs)

pub held_more : {G : Type 0} (number : ℕ) (xs : List G) (x : G) → held_from number (xs ++ x ∷ []) ≡ held_from number xs ++ held_first (number + length xs) x ∷ []
held_more number [] x = ap (λ n. held_first n x ∷ []) (omega arith)
held_more {G} number (y ∷ xs) x =
    let same : suc number + length xs ≡ number + suc (length xs) = omega arith in
    ap (λ l. held_first number y ∷ l) (held_more (suc number) xs x ∙ ap (λ n. held_from (suc number) xs ++ held_first n x ∷ []) same)

-- what contracts see of it
pub seen_first : {G : Type 0} (number : ℕ) (guardian : G) (v : List (Piece Event)) → v ≡ guardian_part number stamps [] ∷ []
    → record { guardian = guardian; number = number_of v; seen = seen_of v; left = stamps } ≡ held_first number guardian
seen_first {G} number guardian v is =
    let same : suc number - 1 ≡ number = omega arith in
    ap (λ u. record { guardian = guardian; number = number_of u; seen = seen_of u; left = stamps }) is
    ∙ ap (λ n. held_first n guardian) same

-- the registry's part has seen nothing
pub registry_first : (n : ℕ) → seen_of (first_of (places_from {E = Event} 0 (n + 2))) ≡ []
registry_first n =
    let more : n + 2 ≡ suc (suc n) = omega arith in
    ap (λ m. seen_of (first_of (places_from {E = Event} 0 m))) more

pub registry_place : (n : ℕ) → first_of (places_from {E = Event} 0 (n + 2)) ≡ registry_part stamps [] ∷ []
registry_place n =
    let more : n + 2 ≡ suc (suc n) = omega arith in
    ap (λ m. first_of (places_from {E = Event} 0 m)) more

-- the guardians' parts, behind that of the number 0, which none has
pub guardian_places : (n : ℕ) → others_of (others_of (places_from {E = Event} 0 (n + 2))) ≡ places_from 2 n
guardian_places n =
    let more : n + 2 ≡ suc (suc n) = omega arith in
    ap (λ m. others_of (others_of (places_from {E = Event} 0 m))) more
