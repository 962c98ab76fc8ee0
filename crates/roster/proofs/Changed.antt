-- A table in which one row is changed.
use Rattle.std.proofs.Common.{Bool, List, [], None, Option, Some, ap, arith, cond, false, inl, inr, length, option_map, refl, set, subst, suc, sym, true, zero, ℕ, ◌<◌, ◌∙◌, ◌∷◌, ◌≡◌, ◌≢◌, ◌≤◌, ◌⊎◌}
use Rattle.std.specs.Prelude.{is_some, slice_get}
use Rattle.std.specs.Option.{option_and_then}
use Rattle.std.proofs.lemmas.Bool.{cases_eq}
use Rattle.std.proofs.lemmas.Option.{same_Some}
use Rattle.action_names.specs.Names.{Name, same_name}
use Rattle.action_names.proofs.Ancestry.{same_is, same_refl}
use Rattle.run_model.specs.Actions.{is_exactly}
use Rattle.roster.proofs.Names.{clash}
use Rattle.roster.specs.Rosters.{IsIndexed}
use Rattle.roster.specs.Tables.{Table, changed_at, merged, place_of, placed, row_at, row_of, said, turned, updated, with_depends}
use Rattle.roster.specs.declared.entry.Turn.{Turn}
use Rattle.roster.specs.declared.entry.Turn.TheVariants.{Crashes, Recovers, Stays}
use Rattle.action_names.specs.Deps.{Deps}
use Rattle.roster.specs.declared.entry.Row.{Row}

length-updated : (f : Row → Row) (i : ℕ) (xs : List Row) → length (updated f i xs) ≡ length xs
length-updated f i [] = refl
length-updated f zero (x ∷ xs) = refl
length-updated f (suc i) (x ∷ xs) = ap suc (length-updated f i xs)

get_same : (f : Row → Row) (i : ℕ) (xs : List Row) → slice_get (updated f i xs) i ≡ option_map f (slice_get xs i)
get_same f i [] = refl
get_same f zero (x ∷ xs) = refl
get_same f (suc i) (x ∷ xs) = get_same f i xs

get_other : (f : Row → Row) (i j : ℕ) (xs : List Row) → j ≢ i → slice_get (updated f i xs) j ≡ slice_get xs j
get_other f i j [] h = refl
get_other f zero zero (x ∷ xs) h = absurd (h refl)
get_other f zero (suc j) (x ∷ xs) h = refl
get_other f (suc i) zero (x ∷ xs) h = refl
get_other f (suc i) (suc j) (x ∷ xs) h = get_other f i j xs (λ e. h (ap suc e))

-- a row within the others is there
pub got_within : (xs : List Row) (i : ℕ) → i < length xs → is_some (slice_get xs i) ≡ true
got_within [] i h = absurd (omega arith)
got_within (x ∷ xs) zero h = refl
got_within (x ∷ xs) (suc i) h = got_within xs i (omega arith)

-- a row that is written, changed so
pub written : (f : Row → Row) (items : List Row) (at : ℕ) (old new : Row) → slice_get items at ≡ Some old → new ≡ f old
    → set items at new ≡ updated f at items
written f [] at old new got e = refl
written f (x ∷ items) zero old new got e = ap (λ r. r ∷ items) (e ∙ ap f (sym (same_Some x old got)))
written f (x ∷ items) (suc at) old new got e = ap (λ rows. x ∷ rows) (written f items at old new got e)

-- past the end nothing is changed
pub written_past : (f : Row → Row) (items : List Row) (at : ℕ) → length items ≤ at → updated f at items ≡ items
written_past f [] at h = refl
written_past f (x ∷ items) zero h = absurd (omega arith)
written_past f (x ∷ items) (suc at) h = ap (λ rows. x ∷ rows) (written_past f items at (omega arith))

-- places stay
pub place_changed : (f : Row → Row) (at : Option ℕ) (t : Table) (a : Name) → place_of (changed_at f at t) a ≡ place_of t a
place_changed f None t a = refl
place_changed f (Some i) t a = refl

pub placed_changed : (f : Row → Row) (at : Option ℕ) (t : Table) (a : Option Name) → placed (changed_at f at t) a ≡ placed t a
placed_changed f None t a = refl
placed_changed f (Some i) t a = refl

pub indexed_changed : (f : Row → Row) (at : Option ℕ) (t : Table) → IsIndexed t → IsIndexed (changed_at f at t)
indexed_changed f None t h = h
indexed_changed f (Some i) t h = record {
  within = λ a j at. subst (λ n. j < n) (sym (length-updated f i t.rows)) (h.within a j at);
  apart = h.apart;
  room = h.room;
}

kept_at : {B : Type 0} (field : Row → B) (missing : B) (f : Row → Row) (i j : ℕ) (xs : List Row) → ((x : Row) → field (f x) ≡ field x)
    → said field missing (slice_get (updated f i xs) j) ≡ said field missing (slice_get xs j)
kept_at field missing f i j xs keeps = of (cases_eq j i)
  where
    mapped : (o : Option Row) → said field missing (option_map f o) ≡ said field missing o
    mapped None = refl
    mapped (Some x) = keeps x

    of : (j ≡ i) ⊎ (j ≢ i) → said field missing (slice_get (updated f i xs) j) ≡ said field missing (slice_get xs j)
    of (inl same) =
        subst (λ k. said field missing (slice_get (updated f i xs) k) ≡ said field missing (slice_get xs k)) (sym same)
        (ap (said field missing) (get_same f i xs) ∙ mapped (slice_get xs i))
    of (inr other) = ap (said field missing) (get_other f i j xs other)

-- what the change keeps of each row is said as before
pub kept : {B : Type 0} (field : Row → B) (missing : B) (f : Row → Row) (at : Option ℕ) (t : Table) → ((x : Row) → field (f x) ≡ field x) → (a : Name)
    → said field missing (row_of (changed_at f at t) a) ≡ said field missing (row_of t a)
kept field missing f None t keeps a = refl
kept field missing f (Some i) t keeps a = of (place_of t a)
  where
    of : (p : Option ℕ) → said field missing (option_and_then (λ j. slice_get (updated f i t.rows) j) p)
        ≡ said field missing (option_and_then (λ j. slice_get t.rows j) p)
    of None = refl
    of (Some j) = kept_at field missing f i j t.rows keeps

-- The row of the one action is changed, and no other.
pub struck : (t : Table) → IsIndexed t → (f : Row → Row) (o : Option Name) (a : Name)
    → row_of (changed_at f (placed t o) t) a ≡ cond (is_exactly o a) (option_map f (row_of t a)) (row_of t a)
struck t h f None a = refl
struck t h f (Some d) a = of (place_of t d) refl (same_name d a) refl
  where
    of : (p : Option ℕ) → place_of t d ≡ p → (b : Bool) → same_name d a ≡ b
        → row_of (changed_at f p t) a ≡ cond b (option_map f (row_of t a)) (row_of t a)
    of None at true same =
        let none : row_of t a ≡ None = subst (λ n. row_of t n ≡ None) (same_is d a same) (ap (row_at t) at) in
        none ∙ sym (ap (option_map f) none)
    of None at false differ = refl
    of (Some i) at true same =
        let here : place_of t a ≡ Some i = subst (λ n. place_of t n ≡ Some i) (same_is d a same) at in
        ap (option_and_then (λ j. slice_get (updated f i t.rows) j)) here ∙ get_same f i t.rows ∙ ap (option_map f) (sym (ap (row_at t) here))
    of (Some i) at false differ = other (place_of t a) refl
      where
        other : (q : Option ℕ) → place_of t a ≡ q
            → option_and_then (λ j. slice_get (updated f i t.rows) j) q ≡ option_and_then (λ j. slice_get t.rows j) q
        other None e = refl
        other (Some j) e =
            get_other f i j t.rows (λ same. clash (subst (λ n. same_name d n ≡ true) (h.apart d a i at (e ∙ ap Some same)) (same_refl d)) differ)

-- ---- the parent of an action that commits is left with dependencies

pub place_merged : (m : Option (ℕ × Deps)) (t : Table) (a : Name) → place_of (merged m t) a ≡ place_of t a
place_merged None t a = refl
place_merged (Some x) t a = refl

pub indexed_merged : (m : Option (ℕ × Deps)) (t : Table) → IsIndexed t → IsIndexed (merged m t)
indexed_merged None t h = h
indexed_merged (Some x) t h = indexed_changed (with_depends x.1) (Some x.0) t h

pub kept_merged : {B : Type 0} (field : Row → B) (missing : B) (m : Option (ℕ × Deps)) (t : Table)
    → ((depends : Deps) (x : Row) → field (with_depends depends x) ≡ field x) → (a : Name)
    → said field missing (row_of (merged m t) a) ≡ said field missing (row_of t a)
kept_merged field missing None t keeps a = refl
kept_merged field missing (Some x) t keeps a = kept field missing (with_depends x.1) (Some x.0) t (keeps x.1) a

-- ---- the guardian

pub row_turned : (turn : Turn) (t : Table) (a : Name) → row_of (turned turn t) a ≡ row_of t a
row_turned Stays t a = refl
row_turned Crashes t a = refl
row_turned Recovers t a = refl

pub place_turned : (turn : Turn) (t : Table) (a : Name) → place_of (turned turn t) a ≡ place_of t a
place_turned Stays t a = refl
place_turned Crashes t a = refl
place_turned Recovers t a = refl

pub indexed_turned : (turn : Turn) (t : Table) → IsIndexed t → IsIndexed (turned turn t)
indexed_turned Stays t h = h
indexed_turned Crashes t h = record { within = h.within; apart = h.apart; room = h.room }
indexed_turned Recovers t h = record { within = h.within; apart = h.apart; room = h.room }

-- which guardian it is, and how it stands
abbrev pub standing : Table → ℕ × ℕ × Bool
standing t = (t.guardian, t.crashes, t.down)

pub standing_changed : (f : Row → Row) (at : Option ℕ) (t : Table) → standing (changed_at f at t) ≡ standing t
standing_changed f None t = refl
standing_changed f (Some i) t = refl

pub standing_merged : (m : Option (ℕ × Deps)) (t : Table) → standing (merged m t) ≡ standing t
standing_merged None t = refl
standing_merged (Some x) t = refl
