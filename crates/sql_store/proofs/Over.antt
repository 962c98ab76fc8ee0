-- What objects have once parts are installed.
use Rattle.std.proofs.Common.{◌≡◌, ◌≢◌, inl, inr, ℕ, List, [], ◌∷◌, ◌++◌, true, false, ◌||◌, ◌==◌, Some, None, Option, is_some, refl, sym, ap, subst, ◌∙◌, nat_cmp, Less, Greater, true≢false, arith, ◌≤◌}
use Rattle.std.specs.List.{AllByRecursion}
use Rattle.std.specs.List.Sorted.{IsStrictlySortedBy}
use Rattle.std.specs.Ordering.{match_ordering, ordering_reverse}
use Rattle.std.specs.Map.{keys_of, lookup}
use Rattle.std.specs.BTreeMap.{insert_entry, is_at}
use Rattle.std.specs.Cmp.{nat_cmp_total}
use Rattle.std.specs.FinMap as map
use Rattle.std.proofs.lemmas.Bool.{cases_Bool}
use Rattle.std.proofs.lemmas.Cmp.{tied_itself}
use Rattle.std.proofs.lemmas.List.{map-append, append_assoc}
use Rattle.std.proofs.lemmas.Map.Keys.{sorted_head, sorted_tail}
use Rattle.sqlite.specs.Tree.{Trees}
use Rattle.values.specs.declared.content.Content.{Content}
use Rattle.atomic_types.specs.declared.part.Part.{Part}
use Rattle.atomic_types.specs.declared.part.Part.TheVariants.{Value, Delta}
use Rattle.atomic_types.specs.Parts.{over}
use Rattle.stable_store.specs.Stored.{Stored, Record, laid, values_of}
use Rattle.stable_store.specs.Numbers.{has_zero}
use Rattle.stable_store.proofs.Maps.{get_is, zero_found}
use Rattle.store_tables.specs.Parts.{Base, HasPart, part_in}
use Rattle.store_tables.specs.Holds.{IsStore}
use Rattle.store_tables.specs.Changes.{all_put}
use Rattle.store_tables.proofs.Numbers.{put_other}
use Rattle.sql_store.specs.Mirror.{over_each}

keys_over : (es : List (ℕ × Part)) (base : Base) → keys_of (over_each es base) ≡ keys_of es
keys_over [] base = refl
keys_over (e ∷ es) base = ap (λ ks. e.0 ∷ ks) (keys_over es base)

-- an entry whose key is above the others is put last
put_last : (es : List (ℕ × Part)) (k : ℕ) (v : Part) (later : List ℕ) → IsStrictlySortedBy nat_cmp (keys_of es ++ k ∷ later)
    → insert_entry nat_cmp es k v ≡ es ++ (k, v) ∷ []
put_last [] k v later sorted = refl
put_last (e ∷ es) k v later sorted =
    let below : nat_cmp e.0 k ≡ Less = in_midst (λ y. nat_cmp e.0 y ≡ Less) (keys_of es) k later (sorted_head nat_cmp e.0 _ sorted) in
    let above : nat_cmp k e.0 ≡ Greater = nat_cmp_total.antisymm k e.0 ∙ ap ordering_reverse below in
    ap (λ o. match_ordering o ((k, v) ∷ e ∷ es) ((e.0, v) ∷ es) (e ∷ insert_entry nat_cmp es k v)) above
    ∙ ap (λ fs. e ∷ fs) (put_last es k v later (sorted_tail nat_cmp e.0 _ sorted))
  where
    in_midst : (P : ℕ → Type 0) (xs : List ℕ) (x : ℕ) (ys : List ℕ) → AllByRecursion P (xs ++ x ∷ ys) → P x
    in_midst P [] x ys h = h.0
    in_midst P (y ∷ xs) x ys h = in_midst P xs x ys h.1

-- one more was laid over what its object has, of those that were left
pub one_over : (base : Base) (all left rest before after : List (ℕ × Part)) (k : ℕ) (v w : Part) → IsStrictlySortedBy nat_cmp (keys_of all)
    → before ++ over_each left base ≡ over_each all base → left ≡ (k, v) ∷ rest → after ≡ insert_entry nat_cmp before k w
    → w ≡ over v (map.get base k) → after ++ over_each rest base ≡ over_each all base
one_over base all left rest before after k v w sorted so_far next put same =
    let parts : before ++ (k, over v (map.get base k)) ∷ over_each rest base ≡ over_each all base =
    ap (λ l. before ++ over_each l base) (sym next) ∙ so_far in
    let keys : keys_of before ++ k ∷ keys_of (over_each rest base) ≡ keys_of all =
    sym (map-append (λ e. e.0) before _) ∙ (ap keys_of parts ∙ keys_over all base) in
    let last : insert_entry nat_cmp before k w ≡ before ++ (k, w) ∷ [] =
    put_last before k w _ (subst (IsStrictlySortedBy nat_cmp) (sym keys) sorted) in
    ap (λ es. es ++ over_each rest base) (put ∙ last)
    ∙ (append_assoc before _ (over_each rest base)
    ∙ (ap (λ y. before ++ (k, y) ∷ over_each rest base) same ∙ parts))

-- ---- what is put is what is laid

less_apart : (a b : ℕ) → nat_cmp a b ≡ Less → b ≢ a
less_apart a b less same = let e : nat_cmp a a ≡ Less = ap (nat_cmp a) (sym same) ∙ less in not_below a e
  where
    not_below : (n : ℕ) → nat_cmp n n ≡ Less → ⊥
    not_below n e = absurd (let q = sym (tied_itself nat_cmp_total n) ∙ e in cc)

still_same : (base now : Base) (k : ℕ) (p : Part) (es : List (ℕ × Part)) → AllByRecursion (λ y. nat_cmp k y ≡ Less) (keys_of es)
    → AllByRecursion (λ e. map.get now e.0 ≡ map.get base e.0) es → AllByRecursion (λ e. map.get (map.insert now k p) e.0 ≡ map.get base e.0) es
still_same base now k p [] low same = tt
still_same base now k p (e ∷ es) low same =
    (put_other now k p e.0 (less_apart k e.0 low.0) ∙ same.0, still_same base now k p es low.1 same.1)

laid_over : (base now : Base) (es : List (ℕ × Part)) → IsStrictlySortedBy nat_cmp (keys_of es) → AllByRecursion (λ e. map.get now e.0 ≡ map.get base e.0) es
    → all_put (over_each es base) now ≡ laid es now
laid_over base now [] sorted same = refl
laid_over base now (e ∷ es) sorted same =
    let part : over e.1 (map.get base e.0) ≡ over e.1 (map.get now e.0) = ap (over e.1) (sym same.0) in
    ap (λ p. all_put (over_each es base) (map.insert now e.0 p)) part
    ∙ laid_over base (map.insert now e.0 (over e.1 (map.get now e.0))) es (sorted_tail nat_cmp e.0 _ sorted)
    (still_same base now e.0 (over e.1 (map.get now e.0)) es (sorted_head nat_cmp e.0 _ sorted) same.1)

all_same : (base : Base) (es : List (ℕ × Part)) → AllByRecursion (λ e. map.get base e.0 ≡ map.get base e.0) es
all_same base [] = tt
all_same base (e ∷ es) = (refl, all_same base es)

pub put_is_laid : (base : Base) (es : List (ℕ × Part)) → IsStrictlySortedBy nat_cmp (keys_of es) → all_put (over_each es base) base ≡ laid es base
put_is_laid base es sorted = laid_over base base es sorted (all_same base es)

pub values_are_laid : (es : List (ℕ × Content)) (base : Base) → all_put (values_of es) base ≡ laid (values_of es) base
values_are_laid [] base = refl
values_are_laid (e ∷ es) base = values_are_laid es (map.insert base e.0 (Value e.1))

-- ---- numbers from 1

pub zero_over : (es : List (ℕ × Part)) (base : Base) → has_zero (over_each es base) ≡ has_zero es
zero_over [] base = refl
zero_over (e ∷ es) base = ap (λ b. (e.0 == 0) || b) (zero_over es base)

pub zero_values : (es : List (ℕ × Content)) → has_zero (values_of es) ≡ has_zero es
zero_values [] = refl
zero_values (e ∷ es) = ap (λ b. (e.0 == 0) || b) (zero_values es)

some_value : {X : Type 0} (o : Option X) → is_some o ≡ true → (x : X) × (o ≡ Some x)
some_value None h = absurd (true≢false (sym h))
some_value (Some x) h = (x, refl)

-- a record of a store has no object of number 0
pub record_above : (db : Trees) (c : Stored) (top : ℕ) (r : Record) → IsStore db c → map.get c.prepared top ≡ Some r → has_zero r.parts ≡ false
record_above db c top r store found = elim (cases_Bool (has_zero r.parts)) [
  | inl zero_ ↦
      let there = some_value (lookup (is_at (nat_cmp 0)) r.parts) (zero_found r.parts ∙ zero_) in
      let has : map.find nat_cmp 0 r.parts ≡ Some there.0 =
      sym (map.get-from_entries nat_cmp_total r.parts 0) ∙ (get_is r.parts 0 ∙ there.1) in
      absurd (never there.0 (ap (λ x. part_in x 0) found ∙ has))
  | inr none ↦ none
]
  where
    low : (n : ℕ) → n ≡ 0 → 1 ≤ n → ⊥
    low n e h = omega arith

    never : (p : Part) → HasPart c.prepared (top, (0, p)) → ⊥
    never (Value k) h = let f = store.holds.values.from (top, (0, Value k)) (h, tt) in low 0 refl f.2.object.low
    never (Delta z) h = let f = store.holds.deltas.from (top, (0, Delta z)) (h, tt) in low 0 refl f.2.object.low
