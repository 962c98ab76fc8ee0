-- An array that is given other bounds and items: its form.
use Rattle.std.proofs.Common.{◌≡◌, ℕ, zero, suc, ◌+◌, ◌-◌, ◌≤◌, min, ℤ, pos, ◌+ℤ◌, ◌≤ℤ◌, List, [], ◌∷◌, ◌++◌, length, take, drop, replicate, refl, sym, ap, ◌∙◌, subst, arith, length-append, length-take, length-drop}
use Rattle.std.specs.Prelude.{◌-ℤ◌, Bool, true, false, int_le, unsigned_abs, slice_set, if◌then◌else◌}
use Rattle.std.proofs.lemmas.List.{length-replicate}
use Rattle.std.specs.List.{AllByRecursion}
use Rattle.values.specs.declared.value.Value.{Value}
use Rattle.values.specs.declared.value.Kind.{Kind}
use Rattle.values.specs.declared.value.Kind.TheVariants as kind
use Rattle.values.specs.Values.{kind_of}
use Rattle.values.specs.Items.{ArrayContent, HasArrayForm, max_items, least_index, greatest_index, set_item}
use Rattle.values.specs.Bounds.{steps_up, plain_value, items_below, new_below, items_kept, new_above, with_bounds, stored_over, AreOfKind}
use Rattle.values.specs.Chunks.{cut_items, item_stored, items_stored}
use Rattle.values.proofs.Items.{each-set}
use Rattle.values.proofs.Joined.{many_set}

kind_plain : (k : Kind) → kind_of (plain_value k) ≡ k
kind_plain kind.Int = refl
kind_plain kind.Text = refl

all_repeated : {X : Type 0} (P : X → Type 0) (n : ℕ) (x : X) → P x → AllByRecursion P (replicate n x)
all_repeated P zero x h = tt
all_repeated P (suc n) x h = (h, all_repeated P n x h)

all_append : {X : Type 0} (P : X → Type 0) (xs ys : List X) → AllByRecursion P xs → AllByRecursion P ys → AllByRecursion P (xs ++ ys)
all_append P [] ys h k = k
all_append P (x ∷ xs) ys h k = (h.0, all_append P xs ys h.1 k)

all_take : {X : Type 0} (P : X → Type 0) (n : ℕ) (xs : List X) → AllByRecursion P xs → AllByRecursion P (take n xs)
all_take P zero xs h = tt
all_take P (suc n) [] h = tt
all_take P (suc n) (x ∷ xs) h = (h.0, all_take P n xs h.1)

all_drop : {X : Type 0} (P : X → Type 0) (n : ℕ) (xs : List X) → AllByRecursion P xs → AllByRecursion P (drop n xs)
all_drop P zero xs h = h
all_drop P (suc n) [] h = tt
all_drop P (suc n) (x ∷ xs) h = all_drop P n xs h.1

many_of : {X : Type 0} (x : X) (xs : List X) (dropped below kept above : ℕ) → dropped + kept ≤ length xs
    → length (replicate below x ++ (take kept (drop dropped xs) ++ replicate above x)) ≡ below + (kept + above)
many_of x xs dropped below kept above h =
    simp (length-append, length-replicate, length-take, length-drop) (omega arith)

-- there are just so many items as was asked
pub size_with_bounds : (a : ArrayContent) (low : ℤ) (size : ℕ) → length (with_bounds a low size).items ≡ size
unfolding with_bounds
size_with_bounds a low size =
    many_of (plain_value a.kind) a.items (items_below a low) (new_below a low size) (items_kept a low size) (new_above a low size) (omega arith) ∙ omega arith

-- an array within its limits stays so, where the bounds are within them
pub form_with_bounds : (a : ArrayContent) (low : ℤ) (size : ℕ) → HasArrayForm a → size ≤ max_items → least_index ≤ℤ low
    → ((low +ℤ pos size) -ℤ pos 1) ≤ℤ greatest_index → HasArrayForm (with_bounds a low size)
unfolding with_bounds
form_with_bounds a low size form many least greatest =
    let P : Value → Type 0 = λ v. kind_of v ≡ a.kind in
    record {
      within_limit = subst (λ n. n ≤ max_items) (sym (size_with_bounds a low size)) many;
      of_kind = all_append P (replicate (new_below a low size) (plain_value a.kind)) _
          (all_repeated P (new_below a low size) (plain_value a.kind) (kind_plain a.kind))
          (all_append P (take (items_kept a low size) (drop (items_below a low) a.items)) (replicate (new_above a low size) (plain_value a.kind))
          (all_take P (items_kept a low size) _ (all_drop P (items_below a low) a.items form.of_kind))
          (all_repeated P (new_above a low size) (plain_value a.kind) (kind_plain a.kind)));
      low = least;
      high = subst (λ n. ((low +ℤ pos n) -ℤ pos 1) ≤ℤ greatest_index) (sym (size_with_bounds a low size)) greatest;
    }

-- an array with so many items dropped, kept and added, as they are counted, has the bounds
pub has_bounds : (a : ArrayContent) (low : ℤ) (size : ℕ) (l o : ℤ) (up down count dropped below kept : ℕ) (xs ys : List Value)
    → l ≡ low → o ≡ a.low → count ≡ length a.items → up ≡ steps_up o l → down ≡ steps_up l o
    → dropped ≡ min up count → below ≡ min down size → kept ≡ min (size - below) (count - dropped) → xs ≡ take kept (drop dropped a.items)
    → ys ≡ replicate below (plain_value a.kind) ++ (xs ++ replicate ((size - below) - kept) (plain_value a.kind))
    → (let b : ArrayContent = record { kind = a.kind; low = l; items = ys } in b) ≡ with_bounds a low size
unfolding with_bounds
has_bounds a low size l o up down count dropped below kept xs ys lows own many ups downs drops news keeps e f =
    let d : dropped ≡ items_below a low =
    drops ∙ ap (λ n. min n count) (ups ∙ ap (λ i. steps_up i l) own ∙ ap (steps_up a.low) lows) ∙ ap (min (steps_up a.low low)) many in
    let b : below ≡ new_below a low size = news ∙ ap (λ n. min n size) (downs ∙ ap (λ i. steps_up i o) lows ∙ ap (steps_up low) own) in
    let k : kept ≡ items_kept a low size =
    keeps ∙ ap (λ n. min (size - n) (count - dropped)) b ∙ ap (λ n. min (size - new_below a low size) (n - dropped)) many
    ∙ ap (λ n. min (size - new_below a low size) (length a.items - n)) d in
    let v = plain_value a.kind in
    let items : ys ≡ replicate (new_below a low size) v ++ (take (items_kept a low size) (drop (items_below a low) a.items) ++ replicate (new_above a low size) v) =
    f ∙ ap (λ zs. replicate below v ++ (zs ++ replicate ((size - below) - kept) v)) (e ∙ ap (λ n. take kept (drop n a.items)) d)
    ∙ ap (λ n. replicate below v ++ (take n (drop (items_below a low) a.items) ++ replicate ((size - below) - n) v)) k
    ∙ ap (λ n. replicate n v ++ (take (items_kept a low size) (drop (items_below a low) a.items) ++ replicate ((size - n) - items_kept a low size) v)) b in
    λ i. (let c : ArrayContent = record { kind = a.kind; low = lows i; items = items i } in c)

-- ---- and then items

-- the items alone change
stored_is : (a : ArrayContent) (es : List (ℤ × Value)) → stored_over a es ≡ record a { items = items_stored a.low a.items es }
stored_is a [] = refl
stored_is a (e ∷ es) = ap (λ b. set_item b e.0 e.1) (stored_is a es)

many_put : (low : ℤ) (xs : List Value) (i : ℤ) (v : Value) → length (item_stored low xs i v) ≡ length xs
many_put low xs i v = by_test (int_le low i) where
  by_test : (t : Bool) → length (if t then slice_set xs (unsigned_abs (i -ℤ low)) v else xs) ≡ length xs
  by_test true = many_set xs (unsigned_abs (i -ℤ low)) v
  by_test false = refl

many_stored : (low : ℤ) (xs : List Value) (es : List (ℤ × Value)) → length (items_stored low xs es) ≡ length xs
many_stored low xs [] = refl
many_stored low xs (e ∷ es) = many_put low (items_stored low xs es) e.0 e.1 ∙ many_stored low xs es

each_put : (P : Value → Type 0) (low : ℤ) (xs : List Value) (i : ℤ) (v : Value) → AllByRecursion P xs → P v → AllByRecursion P (item_stored low xs i v)
each_put P low xs i v all h = by_test (int_le low i) where
  by_test : (t : Bool) → AllByRecursion P (if t then slice_set xs (unsigned_abs (i -ℤ low)) v else xs)
  by_test true = each-set P xs (unsigned_abs (i -ℤ low)) v all h
  by_test false = all

each_stored : (P : Value → Type 0) (low : ℤ) (xs : List Value) (es : List (ℤ × Value)) → AllByRecursion P xs → AllByRecursion (λ (e : ℤ × Value). P e.1) es
    → AllByRecursion P (items_stored low xs es)
each_stored P low xs [] all h = all
each_stored P low xs (e ∷ es) all h = each_put P low (items_stored low xs es) e.0 e.1 (each_stored P low xs es all h.1) h.0

-- an array within its limits stays so
pub form_stored : (a : ArrayContent) (es : List (ℤ × Value)) → HasArrayForm a → AreOfKind a es → HasArrayForm (stored_over a es)
form_stored a es form kinds =
    let b : ArrayContent = record { kind = a.kind; low = a.low; items = items_stored a.low a.items es } in
    let many = many_stored a.low a.items es in
    subst HasArrayForm (sym (stored_is a es)) (let h : HasArrayForm b = record {
      within_limit = subst (λ n. n ≤ max_items) (sym many) form.within_limit;
      of_kind = each_stored (λ v. kind_of v ≡ a.kind) a.low a.items es form.of_kind kinds;
      low = form.low;
      high = subst (λ n. ((a.low +ℤ pos n) -ℤ pos 1) ≤ℤ greatest_index) (sym many) form.high;
    } in h)

-- items that are stored over those of an array, and what they make of the array
pub stored_from_items : (a b : ArrayContent) (es : List (ℤ × Value)) (xs : List Value) → a ≡ b → xs ≡ items_stored a.low a.items es
    → (let c : ArrayContent = record { kind = a.kind; low = a.low; items = xs } in c) ≡ stored_over b es
stored_from_items a b es xs same e =
    ap (λ ys. (let c : ArrayContent = record { kind = a.kind; low = a.low; items = ys } in c)) e ∙ sym (stored_is a es) ∙ ap (λ (c : ArrayContent). stored_over c es) same

pub kind_with_bounds : (a : ArrayContent) (low : ℤ) (size : ℕ) → (with_bounds a low size).kind ≡ a.kind
unfolding with_bounds
kind_with_bounds a low size = refl

pub many_changed : (low : ℤ) (dropped kept below above : ℕ) (v : Value) (xs ys : List Value) (es : List (ℤ × Value)) → below + kept + above ≤ max_items
    → ys ≡ items_stored low (cut_items dropped kept below above v xs) es → length ys ≤ max_items
many_changed low dropped kept below above v xs ys es room e =
    let cut : length (cut_items dropped kept below above v xs) ≡ below + (min kept (length xs - dropped) + above) = simp (length-append, length-replicate, length-take, length-drop) refl in
    omega (arith, ap (λ zs. length zs) e, many_stored low (cut_items dropped kept below above v xs) es, cut, room)
