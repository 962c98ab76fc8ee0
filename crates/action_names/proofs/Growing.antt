-- A text that grows keeps its beginning.
use Rattle.std.proofs.Common.{◌≡◌, ℕ, ◌≤◌, true, List, ◌++◌, length, take, String, Global, string_bytes, Result, Ok, Err, sym, ap, subst, refl, ◌∙◌, arith}
use Rattle.std.specs.Prelude.{IsUtf8, OnErr, is_err}
use Rattle.std.specs.String.Boundary.{IsSplitPoint}
use Rattle.std.proofs.lemmas.Bool.{false≢true}
use Rattle.std.proofs.lemmas.List.{take_all, take_at, take-take, length-append, length-take}
use Rattle.std.proofs.lemmas.Str.{IsUtf8-string_bytes, IsCharBoundary-from_take}
use Rattle.action_names.specs.Writing.{IsGrown}

pub grown_same : (old new : List ℕ) → new ≡ old → IsGrown old new
grown_same old new e = ap (take (length old)) e ∙ take_all (length old) old (omega arith)

pub grown_then : (old more mid new : List ℕ) → mid ≡ old ++ more → IsGrown mid new → IsGrown old new
grown_then old more mid new e h =
    sym (take-take (length old) (length mid) new (omega (arith, ap length e, length-append old more))) ∙ ap (take (length old)) (h ∙ e)
    ∙ take_at old more (length old) refl

-- a text that grew may be cut where it ended before
pub grown_cut : (old new : String Global) (n : ℕ) → n ≡ length (string_bytes old) → IsGrown (string_bytes old) (string_bytes new) → IsSplitPoint (string_bytes new) n
grown_cut old new n len grown =
    let front : take n (string_bytes new) ≡ string_bytes old = ap (λ k. take k (string_bytes new)) len ∙ grown in
    let le : n ≤ length (string_bytes new) = omega (arith, ap length front, length-take n (string_bytes new)) in
    let b = IsCharBoundary-from_take (string_bytes new) n (IsUtf8-string_bytes new) le (subst IsUtf8 (sym front) (IsUtf8-string_bytes old)) in
    (le, λ some. b.1)

pub err_holds : {T E P : Type 0} (r : Result T E) → is_err r ≡ true → OnErr r P → P
err_holds (Ok x) e h = absurd (false≢true e)
err_holds (Err d) e h = h
