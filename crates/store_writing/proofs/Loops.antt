-- Entries that are written one after the other.
use Rattle.std.proofs.Common.{◌≡◌, ℕ, zero, suc, ◌<◌, ◌||◌, ◌==◌, List, [], ◌∷◌, ◌++◌, Bool, true, false, Option, None, Some, cond, refl, sym, ap}
use Rattle.std.proofs.Common.{◌∙◌, nat_cmp, Less, append_assoc, arith, true≢false}
use Rattle.std.specs.List.{AllByRecursion}
use Rattle.std.specs.List.Sorted.{IsStrictlySortedBy}
use Rattle.std.specs.Ordering.{is_eq, is_lt, eq_by_cmp}
use Rattle.std.proofs.lemmas.Cmp.{tied_itself}
use Rattle.std.specs.Map.{keys_of}
use Rattle.std.specs.Cmp.{nat_cmp_total}
use Rattle.std.specs.FinMap as map
use Rattle.std.specs.FinMap.Entries.{below_all}
use Rattle.std.proofs.lemmas.Bool.{and_from}
use Rattle.std.proofs.lemmas.Map.Keys.{sorted_head, sorted_tail}
use Rattle.atomic_types.specs.declared.part.Part.{Part}
use Rattle.stable_store.specs.Stored.{Stored, Record, after_discard}
use Rattle.stable_store.specs.Numbers.{has_zero}
use Rattle.store_tables.specs.Changes.{with_record}
use Rattle.store_tables.proofs.Statements.{more, front_rises}

below_keys : (es : List (ℕ × Part)) (x : ℕ) → AllByRecursion (λ y. nat_cmp x y ≡ Less) (keys_of es) → below_all nat_cmp x es ≡ true
below_keys [] x h = refl
below_keys (e ∷ es) x h = and_from _ _ (ap is_lt h.0) (below_keys es x h.1)

-- the entries of a map rise
pub all_rise : (es : List (ℕ × Part)) → IsStrictlySortedBy nat_cmp (keys_of es) → map.is_sorted nat_cmp es ≡ true
all_rise [] h = refl
all_rise (e ∷ es) h = and_from _ _ (below_keys es e.0 (sorted_head nat_cmp e.0 _ h)) (all_rise es (sorted_tail nat_cmp e.0 _ h))

-- and so do those up to one of them
pub rising : (es : List (ℕ × Part)) (o : ℕ) (v : Part) (rest : List (ℕ × Part))
    → IsStrictlySortedBy nat_cmp (keys_of (es ++ (o, v) ∷ rest)) → map.is_sorted nat_cmp (more es o v) ≡ true
rising es o v rest h =
    front_rises (more es o v) rest (ap (map.is_sorted nat_cmp) (append_assoc es ((o, v) ∷ []) rest) ∙ all_rise (es ++ (o, v) ∷ rest) h)

pub later : (es : List (ℕ × Part)) (o : ℕ) (v : Part) (left rest all : List (ℕ × Part)) → left ≡ (o, v) ∷ rest → es ++ left ≡ all
    → more es o v ++ rest ≡ all
later es o v left rest all next so_far = append_assoc es ((o, v) ∷ []) rest ∙ (ap (λ l. es ++ l) (sym next) ∙ so_far)

-- a record in place of one that was taken away
pub in_place : (n home : ℕ) (parts : List (ℕ × Part)) (c : Stored)
    → with_record n home parts (after_discard n c) ≡ with_record n home parts c
in_place n home parts c =
    let r : Option Record = Some (record { home = home; parts = parts }) in
    ap (λ p. record c { prepared = p }) (map.same_map nat_cmp_total map.nat_cmp-IsAntisymmetric _ _ (λ q.
    map.get-insert nat_cmp_total (map.remove c.prepared n) n _ q
    ∙ (ap (cond (eq_by_cmp nat_cmp q n) r) (map.get-remove nat_cmp_total c.prepared n q)
    ∙ (twice (eq_by_cmp nat_cmp q n) r (map.get c.prepared q) ∙ sym (map.get-insert nat_cmp_total c.prepared n _ q)))))
  where
    twice : {X : Type 0} (b : Bool) (x y : Option X) → cond b x (cond b None y) ≡ cond b x y
    twice true x y = refl
    twice false x y = refl

pub taken_away : (n : ℕ) (c : Stored) → map.get (after_discard n c).prepared n ≡ None
taken_away n c =
    map.get-remove nat_cmp_total c.prepared n n ∙ ap (λ b. cond b None (map.get c.prepared n)) (ap is_eq (tied_itself nat_cmp_total n))

-- ---- numbers from 1

pub or_false : (a b : Bool) → (a || b) ≡ false → (a ≡ false) × (b ≡ false)
or_false false b h = (refl, h)
or_false true b h = absurd (true≢false h)

above_zero : (n : ℕ) → (n == 0) ≡ false → 0 < n
above_zero zero h = absurd (true≢false h)
above_zero (suc n) h = omega arith

-- no object of these has the number 0
pub first_above : (o : ℕ) (v : Part) (rest : List (ℕ × Part)) → has_zero ((o, v) ∷ rest) ≡ false → 0 < o
first_above o v rest h = above_zero o (or_false _ _ h).0

pub rest_above : (o : ℕ) (v : Part) (rest : List (ℕ × Part)) → has_zero ((o, v) ∷ rest) ≡ false → has_zero rest ≡ false
rest_above o v rest h = (or_false _ _ h).1
