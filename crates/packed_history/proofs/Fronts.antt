-- Lists that go on where others end.
use Rattle.std.proofs.Common.{◌≡◌, ℕ, ◌<◌, ◌≤◌, ◌-◌, List, [], ◌∷◌, ◌++◌, length, zero, suc, refl, ap, ap₂, sym, ◌∙◌, ◌+◌, take, drop, append_assoc, arith, Some}
use Rattle.std.specs.Prelude.{slice_get, slice_range}
use Rattle.std.proofs.lemmas.List.{append-nil, drop-append-le, take-append-drop, take-append-le}
use Rattle.std.proofs.Math.ListN.{length-append, length-drop}

-- ys goes on where xs ends
pub record IsFront {X : Type 0} (xs ys : List X) : Type 0 where
  pub rest : List X
  pub joined : xs ++ rest ≡ ys

module _ {X : Type 0} where
  pub front_same : (xs : List X) → IsFront xs xs
  front_same xs = record { rest = []; joined = append-nil xs }

  pub front_take : (n : ℕ) (xs : List X) → IsFront (take n xs) xs
  front_take n xs = record { rest = drop n xs; joined = take-append-drop n xs }

  pub front_then : (xs ys zs : List X) → IsFront xs ys → IsFront ys zs → IsFront xs zs
  front_then xs ys zs f g = record {
    rest = f.rest ++ g.rest;
    joined = sym (append_assoc xs f.rest g.rest) ∙ ap (λ l. l ++ g.rest) f.joined ∙ g.joined;
  }

  pub front_length : (xs ys : List X) → IsFront xs ys → length xs ≤ length ys
  front_length xs ys f = omega (arith, length-append xs f.rest, ap length f.joined)

  get_front : (xs ys : List X) (i : ℕ) → i < length xs → slice_get (xs ++ ys) i ≡ slice_get xs i
  get_front [] ys i l = absurd (omega arith)
  get_front (x ∷ xs) ys zero l = refl
  get_front (x ∷ xs) ys (suc i) l = get_front xs ys i (omega arith)

  pub front_get : (xs ys : List X) → IsFront xs ys → (i : ℕ) → i < length xs → slice_get ys i ≡ slice_get xs i
  front_get xs ys f i l = ap (λ l. slice_get l i) (sym f.joined) ∙ get_front xs f.rest i l

  range_front : (xs ys : List X) (i j : ℕ) → i ≤ j → j ≤ length xs → slice_range (xs ++ ys) i j ≡ slice_range xs i j
  range_front xs ys i j l m =
      ap (take (j - i)) (drop-append-le i xs ys (omega arith))
      ∙ take-append-le (j - i) (drop i xs) ys (omega (arith, length-drop i xs))

  pub front_range : (xs ys : List X) → IsFront xs ys → (i j : ℕ) → i ≤ j → j ≤ length xs → slice_range ys i j ≡ slice_range xs i j
  front_range xs ys f i j l m = ap (λ l. slice_range l i j) (sym f.joined) ∙ range_front xs f.rest i j l m

  -- what lies behind xs
  take_front : (xs ys : List X) → take (length xs) (xs ++ ys) ≡ xs
  take_front [] ys = refl
  take_front (x ∷ xs) ys = ap (λ l. x ∷ l) (take_front xs ys)

  drop_front : (xs ys : List X) → drop (length xs) (xs ++ ys) ≡ ys
  drop_front [] ys = refl
  drop_front (x ∷ xs) ys = drop_front xs ys

  take_whole : (xs : List X) → take (length xs) xs ≡ xs
  take_whole [] = refl
  take_whole (x ∷ xs) = ap (λ l. x ∷ l) (take_whole xs)

  pub take_before : (xs ys all : List X) (n : ℕ) → all ≡ xs ++ ys → n ≡ length xs → take n all ≡ xs
  take_before xs ys all n e l = ap₂ (λ k zs. take k zs) l e ∙ take_front xs ys

  pub range_behind : (xs ys all : List X) (i n : ℕ) → all ≡ xs ++ ys → i ≡ length xs → n ≡ length ys → slice_range all i (i + n) ≡ ys
  range_behind xs ys all i n e l m =
      let many : (i + n) - i ≡ length ys = omega (arith, m) in
      ap₂ (λ k zs. take k zs) many (ap₂ (λ k zs. drop k zs) l e ∙ drop_front xs ys) ∙ take_whole ys

  get_last : (xs : List X) (x : X) → slice_get (xs ++ x ∷ []) (length xs) ≡ Some x
  get_last [] x = refl
  get_last (y ∷ xs) x = get_last xs x

  pub get_behind : (xs all : List X) (x : X) (n : ℕ) → all ≡ xs ++ x ∷ [] → n ≡ length xs → slice_get all n ≡ Some x
  get_behind xs all x n e l = ap₂ (λ zs k. slice_get zs k) e l ∙ get_last xs x

  pub length_behind : (xs ys all : List X) → all ≡ xs ++ ys → length all ≡ length xs + length ys
  length_behind xs ys all e = ap (λ l. length l) e ∙ length-append xs ys
