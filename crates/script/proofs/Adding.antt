-- The marks of a row are added to others, one after another.
use Rattle.std.proofs.Common.{◌≡◌, ◌≢◌, ◌<◌, ◌≤◌, ◌⊎◌, inl, inr, ⊎_elim, ℕ, zero, suc, ◌+◌, List, [], ◌∷◌, length, set, Bool, true, false, ◌||◌, refl, sym, ap, ◌∙◌, arith, below_more, get_or-set_same, get_or-set_other, length-set, true≢false}
use Rattle.std.proofs.lemmas.List.{get_or_past}
use Rattle.script.specs.Marks.{marked, unmarked, AddsRow}

pub unmarked-set : (marks : List Bool) (i : ℕ) → i < length marks → marked marks i ≡ false → unmarked (set marks i true) < unmarked marks
unmarked-set [] i h off = absurd (omega arith)
unmarked-set (true ∷ marks) zero h off = absurd (true≢false off)
unmarked-set (false ∷ marks) zero h off = omega arith
unmarked-set (true ∷ marks) (suc i) h off = unmarked-set marks i (omega arith) off
unmarked-set (false ∷ marks) (suc i) h off = omega (arith, unmarked-set marks i (omega arith) off)

-- the marks after so many of the row
pub record AddsUpTo (i : ℕ) (row old now : List Bool) (grew : Bool) : Type 0 where
  pub same_length : length now ≡ length old
  pub below : (n : ℕ) → n < i → marked now n ≡ (marked old n || marked row n)
  pub above : (n : ℕ) → i ≤ n → marked now n ≡ marked old n
  pub most : unmarked now ≤ unmarked old
  pub more : grew ≡ true → unmarked now < unmarked old
  pub same : grew ≡ false → now ≡ old

pub adds_none : (row old : List Bool) → AddsUpTo 0 row old old false
adds_none row old = record {
  same_length = refl;
  below = λ n h. absurd (omega arith);
  above = λ n h. refl;
  most = omega arith;
  more = λ e. absurd (true≢false (sym e));
  same = λ e. refl;
}

or_false : (b : Bool) → b ≡ (b || false)
or_false true = refl
or_false false = refl

or_true : (b : Bool) → true ≡ (b || true)
or_true true = refl
or_true false = refl

-- a number that the row does not mark, or that is marked already
pub adds_nothing : (i : ℕ) (row old now : List Bool) (grew : Bool) → AddsUpTo i row old now grew → marked old i ≡ (marked old i || marked row i) → AddsUpTo (i + 1) row old now grew
adds_nothing i row old now grew before none = record {
  same_length = before.same_length;
  below = below_more (λ n. marked now n ≡ (marked old n || marked row n)) i before.below (before.above i (omega arith) ∙ none);
  above = λ n h. before.above n (omega arith);
  most = before.most;
  more = before.more;
  same = before.same;
}

pub adds_unmarked : (i : ℕ) (row old now : List Bool) (grew : Bool) → AddsUpTo i row old now grew → marked row i ≡ false → AddsUpTo (i + 1) row old now grew
adds_unmarked i row old now grew before off = adds_nothing i row old now grew before (or_false (marked old i) ∙ ap (λ b. marked old i || b) (sym off))

pub adds_marked : (i : ℕ) (row old now : List Bool) (grew : Bool) → AddsUpTo i row old now grew → marked now i ≡ true → AddsUpTo (i + 1) row old now grew
adds_marked i row old now grew before on =
    let was : marked old i ≡ true = sym (before.above i (omega arith)) ∙ on in
    adds_nothing i row old now grew before (was ∙ ap (λ b. b || marked row i) (sym was))

pub adds_one : (i : ℕ) (row old now : List Bool) (grew : Bool) → AddsUpTo i row old now grew → i < length now → marked row i ≡ true → marked now i ≡ false
    → AddsUpTo (i + 1) row old (set now i true) true
adds_one i row old now grew before h on off = record {
  same_length = length-set now i true ∙ before.same_length;
  below = below_more (λ n. marked (set now i true) n ≡ (marked old n || marked row n)) i
      (λ n less. let other : n ≢ i = omega arith in get_or-set_other now i n true false other ∙ before.below n less)
      (get_or-set_same now i true false h ∙ or_true (marked old i) ∙ ap (λ b. marked old i || b) (sym on));
  above = λ n least. let other : n ≢ i = omega arith in get_or-set_other now i n true false other ∙ before.above n (omega arith);
  most = omega (arith, unmarked-set now i h off, before.most);
  more = λ e. omega (arith, unmarked-set now i h off, before.most);
  same = λ e. absurd (true≢false e);
}

at_or_below : (n i : ℕ) → (n < i) ⊎ (i ≤ n)
at_or_below n zero = inr (omega arith)
at_or_below zero (suc i) = inl (omega arith)
at_or_below (suc n) (suc i) = ⊎_elim (λ (h : n < i). inl (omega arith)) (λ (h : i ≤ n). inr (omega arith)) (at_or_below n i)

union_at : (i n : ℕ) (row old now : List Bool) (grew : Bool) → AddsUpTo i row old now grew → length row ≤ i → (n < i) ⊎ (i ≤ n) → marked now n ≡ (marked old n || marked row n)
union_at i n row old now grew before all (inl h) = before.below n h
union_at i n row old now grew before all (inr h) =
    before.above n h ∙ or_false (marked old n) ∙ ap (λ b. marked old n || b) (sym (get_or_past row n false (omega arith)))

pub adds_row : (i : ℕ) (row old now : List Bool) (grew : Bool) → AddsUpTo i row old now grew → length row ≤ i → AddsRow row old now grew
adds_row i row old now grew before all = record {
  same_length = before.same_length;
  union = λ n. union_at i n row old now grew before all (at_or_below n i);
  more = before.more;
  same = before.same;
}
