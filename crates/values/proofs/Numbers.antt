-- Reading the spelling of a whole number with no document.
use Rattle.std.proofs.Common.{◌≡◌, ℕ, ℤ, zero, suc, pos, negsuc, ◌≤◌, ◌^◌, List, [], ◌∷◌, get_or, IfSome, Result, Ok, Err, sym, ap, ◌∙◌, subst, arith}
use Rattle.std.specs.Prelude.{decimal, neg_ℤ}
use Rattle.std.specs.Int.{w64}
use Rattle.std.specs.Result.{result_ok}
use Rattle.std.specs.Str.Parse.{ParsesSigned, AllDigits, digits_value}
use Rattle.std.proofs.lemmas.Str.Parse.{IsNumeralModel, numerals_by_value, tells_digits, parse_signed_minus, parse_signed_plain}
use Rattle.std.proofs.lemmas.Fmt.{decimal_digit, decimal-digits_value}
use Rattle.values.specs.declared.value.Value.TheVariants.{Int}
use Rattle.values.specs.Values.{IsValue, value_text}

-- what std says of digits
digits : IsNumeralModel (AllDigits 10) (digits_value 10)
digits = numerals_by_value (AllDigits 10) tells_digits

-- a number that is read from a text that begins with 1 to 9 is spelled so
pub number_found : {E : Type 0} (bs : List ℕ) (r : Result ℤ E) → ParsesSigned w64 10 bs r → 49 ≤ get_or bs 0 0 → get_or bs 0 0 ≤ 57
    → IfSome (result_ok r) (λ z. IsValue (Int z) × (bs ≡ value_text (Int z)))
number_found {E} bs (Err e) h low high = tt
number_found {E} bs (Ok z) h low high =
    let read = parse_signed_plain digits {E = E} w64 bs (Ok z) h (omega arith) (omega arith) in
    let text : decimal (digits_value 10 bs) ≡ bs = decimal-digits_value digits bs read.0.0 read.0.1 (λ zero. absurd (omega arith)) (omega (arith, read.0.2)) in
    let fits : IsValue (Int (pos (digits_value 10 bs))) = omega (arith, read.0.2) in
    subst (λ y. IsValue (Int y) × (bs ≡ value_text (Int y))) (sym read.1) (fits, sym text)

-- likewise behind a minus
pub negative_found : {E : Type 0} (bs : List ℕ) (r : Result ℤ E) → ParsesSigned w64 10 bs r → get_or bs 0 0 ≡ 45 → 49 ≤ get_or bs 1 0 → get_or bs 1 0 ≤ 57
    → IfSome (result_ok r) (λ z. IsValue (Int z) × (bs ≡ value_text (Int z)))
negative_found {E} bs (Err e) h minus low high = tt
negative_found {E} [] (Ok z) h minus low high = absurd (omega arith)
negative_found {E} (c ∷ ds) (Ok z) h minus low high =
    let read = parse_signed_minus digits {E = E} w64 (c ∷ ds) (Ok z) h minus in
    let text : decimal (digits_value 10 ds) ≡ ds = decimal-digits_value digits ds read.0.0 read.0.1 (λ zero. absurd (omega arith)) (omega (arith, read.0.2)) in
    of (digits_value 10 ds) text (omega (arith, read.0.2)) read.1
  where
    of : (n : ℕ) → decimal n ≡ ds → n ≤ 2 ^ 63 → z ≡ neg_ℤ (pos n) → IsValue (Int z) × (c ∷ ds ≡ value_text (Int z))
    of zero text most is = let first : get_or ds 0 0 ≡ 48 = ap (λ t. get_or t 0 0) (sym text ∙ decimal_digit 0 (omega arith)) in absurd (omega arith)
    of (suc m) text most is =
        let fits : IsValue (Int (negsuc m)) = omega arith in
        subst (λ y. IsValue (Int y) × (c ∷ ds ≡ value_text (Int y))) (sym is) (fits, ap (λ d. d ∷ ds) minus ∙ ap (λ t. 45 ∷ t) (sym text))
