-- A number or a name at the front of bytes: reading goes on digit by digit, and number by number.
use Rattle.std.proofs.Common.{◌≡◌, ℕ, suc, ◌+◌, ◌-◌, ◌*◌, ◌/◌, ◌%◌, ◌<◌, ◌≤◌, ◌≢◌, ◌^◌, List, [], ◌∷◌, ◌++◌, length, get_or, take, drop, refl, sym, ap, ◌∙◌, append-nil, append_assoc, decimal, arith}
use Rattle.std.specs.List.{AllByRecursion}
use Rattle.std.specs.Str.Parse.{AllDigits, digits_value}
use Rattle.std.proofs.lemmas.List.{take_all}
use Rattle.std.proofs.lemmas.Str.Parse.{numerals_by_value, tells_digits, digit_at, digits_value-take-le}
use Rattle.std.proofs.lemmas.Fmt.{decimal_is_IsNumeral, decimal_digit, decimal_step, decimal_injective, digits_value-decimal, first_decimal}
use Rattle.action_names.specs.Names.{Name, IsName, IsComponent, name_text}
use Rattle.action_names.specs.Fronts.{EndsNumber, EndsName, BeginsWithNumber, BeginsWithName, dotted}

-- ---- digits

AreDigits : List ℕ → Type 0
AreDigits xs = (i : ℕ) → i < length xs → (48 ≤ get_or xs i 0) × (get_or xs i 0 ≤ 57)

digits_tail : (c : ℕ) (xs : List ℕ) → AreDigits (c ∷ xs) → AreDigits xs
unfolding AreDigits
digits_tail c xs h i l = h (suc i) (omega arith)

number_digits : (n : ℕ) → n < 2 ^ 64 → AreDigits (decimal n)
unfolding AreDigits
number_digits n small i l = let d = digit_at (decimal n) i (decimal_is_IsNumeral n small).0.1 l in (d.0, d.1)

-- digits before something are a beginning of the digits before which no digit follows
digits_begin : (xs ys a b : List ℕ) → AreDigits xs → EndsNumber b → xs ++ a ≡ ys ++ b → take (length xs) ys ≡ xs
unfolding AreDigits
digits_begin [] ys a b h end e = refl
digits_begin (c ∷ xs) [] a b h end e =
    let first = ap (λ t. get_or t 0 0) e in
    let digit = h 0 (omega arith) in
    absurd (end (omega (arith, first, digit.0)) (omega (arith, first, digit.1)))
digits_begin (c ∷ xs) (d ∷ ys) a b h end e =
    let same : c ≡ d = cc in
    let others : xs ++ a ≡ ys ++ b = cc in
    let rest : take (length xs) ys ≡ xs = digits_begin xs ys a b (digits_tail c xs h) end others in
    cc

-- where no digit follows either of two lists of digits, they are one
same_digits : (xs ys a b : List ℕ) → AreDigits xs → AreDigits ys → EndsNumber a → EndsNumber b → xs ++ a ≡ ys ++ b → (xs ≡ ys) × (a ≡ b)
unfolding AreDigits
same_digits [] [] a b f g p q e = (refl, e)
same_digits [] (d ∷ ys) a b f g p q e =
    let first = ap (λ t. get_or t 0 0) e in
    let digit = g 0 (omega arith) in
    absurd (p (omega (arith, first, digit.0)) (omega (arith, first, digit.1)))
same_digits (c ∷ xs) [] a b f g p q e =
    let first = ap (λ t. get_or t 0 0) e in
    let digit = f 0 (omega arith) in
    absurd (q (omega (arith, first, digit.0)) (omega (arith, first, digit.1)))
same_digits (c ∷ xs) (d ∷ ys) a b f g p q e =
    let same : c ≡ d = cc in
    let others : xs ++ a ≡ ys ++ b = cc in
    let rest = same_digits xs ys a b (digits_tail c xs f) (digits_tail d ys g) p q others in
    let front : xs ≡ ys = rest.0 in
    (cc, rest.1)

-- ---- a number

-- what stands behind the first byte
abbrev behind : List ℕ → List ℕ
behind left = take (length left - 1) (drop 1 left)

behind_first : (left : List ℕ) → 1 ≤ length left → left ≡ get_or left 0 0 ∷ behind left
behind_first [] some = absurd (omega arith)
behind_first (d ∷ rest) some = ap (λ (t : List ℕ). d ∷ t) (sym (take_all (length (d ∷ rest) - 1) rest (omega arith)))

-- a number below ten has one digit
pub number_first : (bytes : List ℕ) (n : ℕ) → 1 ≤ length bytes → 49 ≤ get_or bytes 0 0 → get_or bytes 0 0 ≤ 57 → n ≡ get_or bytes 0 0 - 48 → decimal n ++ behind bytes ≡ bytes
number_first bytes n some low high is =
    let digit : 48 + n ≡ get_or bytes 0 0 = omega arith in
    let text : decimal n ≡ get_or bytes 0 0 ∷ [] = decimal_digit n (omega arith) ∙ ap (λ (c : ℕ). c ∷ []) digit in
    ap (λ (t : List ℕ). t ++ behind bytes) text ∙ sym (behind_first bytes some)

-- one digit more behind a number
with_digit : (n m c : ℕ) → 1 ≤ n → m < 2 ^ 64 → 48 ≤ c → c ≤ 57 → m ≡ 10 * n + (c - 48) → decimal m ≡ decimal n ++ c ∷ []
with_digit n m c some small low high is =
    let quotient : m / 10 ≡ n = omega arith in
    let last : 48 + m % 10 ≡ c = omega arith in
    decimal_step m (omega arith) small ∙ ap (λ (q : ℕ). decimal q ++ (48 + m % 10) ∷ []) quotient ∙ ap (λ (d : ℕ). decimal n ++ d ∷ []) last

digit_more : (bytes left : List ℕ) (n m : ℕ) → 1 ≤ n → m < 2 ^ 64 → bytes ≡ decimal n ++ left → 1 ≤ length left → 48 ≤ get_or left 0 0 → get_or left 0 0 ≤ 57
    → m ≡ 10 * n + (get_or left 0 0 - 48) → bytes ≡ decimal m ++ behind left
digit_more bytes left n m some small so_far long low high is =
    so_far ∙ ap (λ (t : List ℕ). decimal n ++ t) (behind_first left long) ∙ sym (append_assoc (decimal n) (get_or left 0 0 ∷ []) (behind left))
    ∙ ap (λ (t : List ℕ). t ++ behind left) (sym (with_digit n m (get_or left 0 0) some small low high is))

pub number_more : (bytes left : List ℕ) (n m : ℕ) → 1 ≤ n → m < 2 ^ 32 → bytes ≡ decimal n ++ left → 1 ≤ length left → 48 ≤ get_or left 0 0 → get_or left 0 0 ≤ 57
    → m ≡ 10 * n + (get_or left 0 0 - 48) → bytes ≡ decimal m ++ behind left
number_more bytes left n m some small so_far long low high is = digit_more bytes left n m some (omega arith) so_far long low high is

-- a number is no less than one whose digits it begins with
begins_le : (bytes rest : List ℕ) (m k : ℕ) (after : List ℕ) → m < 2 ^ 64 → k < 2 ^ 64 → bytes ≡ decimal m ++ after → bytes ≡ decimal k ++ rest → EndsNumber rest → m ≤ k
begins_le bytes rest m k after small fits long whole end =
    let begins = digits_begin (decimal m) (decimal k) after rest (number_digits m small) end (sym long ∙ whole) in
    let own = numerals_by_value (AllDigits 10) tells_digits in
    let below = digits_value-take-le 10 (decimal k) (length (decimal m)) (omega arith) in
    omega (arith, below, ap (digits_value 10) begins, digits_value-decimal own m small, digits_value-decimal own k fits)

-- where a further digit passes the bound, no number stands in front
pub number_too_large : (bytes left : List ℕ) (n : ℕ) → 1 ≤ n → n < 2 ^ 32 → bytes ≡ decimal n ++ left → 1 ≤ length left → 48 ≤ get_or left 0 0 → get_or left 0 0 ≤ 57
    → 2 ^ 32 ≤ 10 * n + (get_or left 0 0 - 48) → (k : ℕ) (rest : List ℕ) → BeginsWithNumber bytes k rest → ⊥
number_too_large bytes left n some small so_far long low high large k rest begins =
    let longer = digit_more bytes left n (10 * n + (get_or left 0 0 - 48)) some (omega arith) so_far long low high refl in
    let le = begins_le bytes rest (10 * n + (get_or left 0 0 - 48)) k (behind left) (omega arith) (omega (arith, begins.fits.1)) longer begins.parts begins.ended in
    omega (arith, le, large, begins.fits.1)

-- what does not begin with 1 to 9 begins with no number
pub no_number : (bytes : List ℕ) → (49 ≤ get_or bytes 0 0 → get_or bytes 0 0 ≤ 57 → ⊥) → (n : ℕ) (rest : List ℕ) → BeginsWithNumber bytes n rest → ⊥
no_number bytes other n rest begins =
    let small : n < 2 ^ 64 = omega (arith, begins.fits.1) in
    let numeral = (decimal_is_IsNumeral n small).0 in
    let digit = digit_at (decimal n) 0 numeral.1 numeral.0 in
    let first : get_or bytes 0 0 ≡ get_or (decimal n) 0 0 = ap (λ t. get_or t 0 0) begins.parts ∙ in_front (decimal n) rest numeral.0 in
    other (omega (arith, first, first_decimal n (omega (arith, begins.fits.0)) small)) (omega (arith, first, digit.1))
  where
    in_front : (a b : List ℕ) → 0 < length a → get_or (a ++ b) 0 0 ≡ get_or a 0 0
    in_front [] b some = absurd (omega arith)
    in_front (c ∷ a) b some = refl

-- ---- a name

pub dotted_push : (a : Name) (n : ℕ) (rest : List ℕ) → dotted (a ++ n ∷ []) rest ≡ dotted a (decimal n ++ 46 ∷ rest)
dotted_push [] n rest = refl
dotted_push (m ∷ a) n rest = ap (λ (t : List ℕ). decimal m ++ 46 ∷ t) (dotted_push a n rest)

pushed : (a : Name) (n : ℕ) → 1 ≤ length (a ++ n ∷ [])
pushed [] n = omega arith
pushed (m ∷ a) n = omega arith

name_text-dot : (m : ℕ) (a : Name) → 1 ≤ length a → name_text (m ∷ a) ≡ decimal m ++ 46 ∷ name_text a
name_text-dot m [] some = absurd (omega arith)
name_text-dot m (n ∷ a) some = refl

name_text-push : (a : Name) (n : ℕ) (rest : List ℕ) → dotted a (decimal n ++ rest) ≡ name_text (a ++ n ∷ []) ++ rest
name_text-push [] n rest = refl
name_text-push (m ∷ a) n rest =
    ap (λ (t : List ℕ). decimal m ++ 46 ∷ t) (name_text-push a n rest) ∙ sym (append_assoc (decimal m) (46 ∷ name_text (a ++ n ∷ [])) rest)
    ∙ ap (λ (t : List ℕ). t ++ rest) (sym (name_text-dot m (a ++ n ∷ []) (pushed a n)))

dot_ends : (rest : List ℕ) → EndsNumber (46 ∷ rest)
dot_ends rest low high = omega arith

-- what stands behind numbers in front of a name is the rest of that name
pub record GoesOn (left : List ℕ) (count : ℕ) (a : Name) (rest : List ℕ) : Type 0 where
  pub others : Name
  pub some : 1 ≤ length others
  pub fit : AllByRecursion IsComponent others
  pub counted : length a ≡ count + length others
  pub text : left ≡ name_text others ++ rest

digits_of : (n : ℕ) → IsComponent n → AreDigits (decimal n)
digits_of n fits = number_digits n (omega (arith, fits.1))

name_behind : (parts a : Name) (left rest : List ℕ) → AllByRecursion IsComponent parts → AllByRecursion IsComponent a → 1 ≤ length a → EndsName rest
    → dotted parts left ≡ name_text a ++ rest → GoesOn left (length parts) a rest
name_behind [] a left rest f g some end e = record { others = a; some = some; fit = g; counted = omega arith; text = e }
name_behind (m ∷ parts) [] left rest f g some end e = absurd (omega arith)
name_behind (m ∷ parts) (n ∷ []) left rest f g some end e =
    let same = same_digits (decimal m) (decimal n) (46 ∷ dotted parts left) rest (digits_of m f.0) (digits_of n g.0) (dot_ends (dotted parts left)) end.no_digit e in
    absurd (end.no_dot (sym (ap (λ t. get_or t 0 0) same.1)))
name_behind (m ∷ parts) (n ∷ k ∷ a) left rest f g some end e =
    let text : decimal m ++ 46 ∷ dotted parts left ≡ decimal n ++ 46 ∷ (name_text (k ∷ a) ++ rest) = e ∙ append_assoc (decimal n) (46 ∷ name_text (k ∷ a)) rest in
    let same = same_digits (decimal m) (decimal n) (46 ∷ dotted parts left) (46 ∷ (name_text (k ∷ a) ++ rest)) (digits_of m f.0) (digits_of n g.0) (dot_ends (dotted parts left))
    (dot_ends (name_text (k ∷ a) ++ rest)) text in
    let others : dotted parts left ≡ name_text (k ∷ a) ++ rest = ap (drop 1) same.1 in
    let goes = name_behind parts (k ∷ a) left rest f.1 g.1 (omega arith) end others in
    record { others = goes.others; some = goes.some; fit = goes.fit; counted = omega (arith, goes.counted); text = goes.text }

pub name_goes_on : (bytes left : List ℕ) (parts : Name) → bytes ≡ dotted parts left → AllByRecursion IsComponent parts → (a : Name) (rest : List ℕ) → BeginsWithName bytes a rest → GoesOn left (length parts) a rest
name_goes_on bytes left parts so_far fit a rest begins = name_behind parts a left rest fit begins.fits.components begins.fits.not_empty begins.ended (sym so_far ∙ begins.parts)

-- a name begins with a number
number_of_name : (left : List ℕ) (a : Name) (rest : List ℕ) → 1 ≤ length a → AllByRecursion IsComponent a → EndsName rest → left ≡ name_text a ++ rest → (n : ℕ) × (after : List ℕ) × BeginsWithNumber left n after
number_of_name left [] rest some fit end e = absurd (omega arith)
number_of_name left (n ∷ []) rest some fit end e = (n, rest, record { fits = fit.0; parts = e; ended = end.no_digit })
number_of_name left (n ∷ m ∷ a) rest some fit end e =
    let after : List ℕ = 46 ∷ (name_text (m ∷ a) ++ rest) in
    (n, after, record { fits = fit.0; parts = e ∙ append_assoc (decimal n) (46 ∷ name_text (m ∷ a)) rest; ended = dot_ends (name_text (m ∷ a) ++ rest) })

-- where no number follows, there is no name
pub no_name : (bytes left : List ℕ) (parts : Name) → bytes ≡ dotted parts left → AllByRecursion IsComponent parts → ((n : ℕ) (rest : List ℕ) → BeginsWithNumber left n rest → ⊥) → (a : Name) (rest : List ℕ)
    → BeginsWithName bytes a rest → ⊥
no_name bytes left parts so_far fit none a rest begins =
    let goes = name_goes_on bytes left parts so_far fit a rest begins in
    let number = number_of_name left goes.others rest goes.some goes.fit begins.ended goes.text in
    none number.0 number.1 number.2

pub components_push : (a : Name) (n : ℕ) → AllByRecursion IsComponent a → IsComponent n → AllByRecursion IsComponent (a ++ n ∷ [])
components_push [] n f g = (g, tt)
components_push (m ∷ a) n f g = (f.0, components_push a n f.1 g)

-- one number more, and a dot
pub name_more : (bytes left rest : List ℕ) (parts : Name) (n : ℕ) → bytes ≡ dotted parts left → BeginsWithNumber left n rest → 1 ≤ length rest → get_or rest 0 0 ≡ 46 → bytes ≡ dotted (parts ++ n ∷ []) (behind rest)
name_more bytes left rest parts n so_far number long dot =
    so_far ∙ ap (dotted parts) (number.parts ∙ ap (λ (t : List ℕ). decimal n ++ t) (behind_first rest long ∙ ap (λ (c : ℕ). c ∷ behind rest) dot)) ∙ sym (dotted_push parts n (behind rest))

-- one number more, and no dot
pub name_found : (bytes left rest : List ℕ) (parts : Name) (n : ℕ) → bytes ≡ dotted parts left → BeginsWithNumber left n rest → get_or rest 0 0 ≢ 46 → AllByRecursion IsComponent (parts ++ n ∷ [])
    → length (parts ++ n ∷ []) ≤ 32 → BeginsWithName bytes (parts ++ n ∷ []) rest
name_found bytes left rest parts n so_far number other fit shallow = record {
  fits = record { not_empty = pushed parts n; not_too_deep = shallow; components = fit };
  parts = so_far ∙ ap (dotted parts) number.parts ∙ name_text-push parts n rest;
  ended = record { no_digit = number.ended; no_dot = other };
}

-- ---- one name at most

same_number : (m n : ℕ) → IsComponent m → IsComponent n → decimal m ≡ decimal n → m ≡ n
same_number m n f g e = decimal_injective m n (omega (arith, f.1)) (omega (arith, g.1)) e

pub same_numbers : (m n : ℕ) (a b : List ℕ) → IsComponent m → IsComponent n → EndsNumber a → EndsNumber b → decimal m ++ a ≡ decimal n ++ b → (m ≡ n) × (a ≡ b)
same_numbers m n a b f g p q e =
    let same = same_digits (decimal m) (decimal n) a b (digits_of m f) (digits_of n g) p q e in
    (same_number m n f g same.0, same.1)

same_names : (a b : Name) (r s : List ℕ) → AllByRecursion IsComponent a → AllByRecursion IsComponent b → 1 ≤ length a → 1 ≤ length b → EndsName r → EndsName s → name_text a ++ r ≡ name_text b ++ s
    → (a ≡ b) × (r ≡ s)
same_names [] b r s f g some others p q e = absurd (omega arith)
same_names (m ∷ a) [] r s f g some others p q e = absurd (omega arith)
same_names (m ∷ []) (n ∷ []) r s f g some others p q e =
    let same = same_numbers m n r s f.0 g.0 p.no_digit q.no_digit e in
    (ap (λ (k : ℕ). k ∷ []) same.0, same.1)
same_names (m ∷ []) (n ∷ k ∷ b) r s f g some others p q e =
    let same = same_numbers m n r (46 ∷ (name_text (k ∷ b) ++ s)) f.0 g.0 p.no_digit (dot_ends (name_text (k ∷ b) ++ s)) (e ∙ append_assoc (decimal n) (46 ∷ name_text (k ∷ b)) s) in
    absurd (p.no_dot (ap (λ t. get_or t 0 0) same.1))
same_names (m ∷ k ∷ a) (n ∷ []) r s f g some others p q e =
    let same = same_numbers m n (46 ∷ (name_text (k ∷ a) ++ r)) s f.0 g.0 (dot_ends (name_text (k ∷ a) ++ r)) q.no_digit (sym (append_assoc (decimal m) (46 ∷ name_text (k ∷ a)) r) ∙ e) in
    absurd (q.no_dot (sym (ap (λ t. get_or t 0 0) same.1)))
same_names (m ∷ k ∷ a) (n ∷ l ∷ b) r s f g some others p q e =
    let same = same_numbers m n (46 ∷ (name_text (k ∷ a) ++ r)) (46 ∷ (name_text (l ∷ b) ++ s)) f.0 g.0 (dot_ends (name_text (k ∷ a) ++ r)) (dot_ends (name_text (l ∷ b) ++ s))
    (sym (append_assoc (decimal m) (46 ∷ name_text (k ∷ a)) r) ∙ e ∙ append_assoc (decimal n) (46 ∷ name_text (l ∷ b)) s) in
    let more = same_names (k ∷ a) (l ∷ b) r s f.1 g.1 (omega arith) (omega arith) p q (ap (drop 1) same.1) in
    (ap (λ (c : ℕ). c ∷ k ∷ a) same.0 ∙ ap (λ (c : Name). n ∷ c) more.0, more.1)

-- bytes begin with one name at most
pub one_name : (bytes : List ℕ) (a b : Name) (r s : List ℕ) → BeginsWithName bytes a r → BeginsWithName bytes b s → (a ≡ b) × (r ≡ s)
one_name bytes a b r s f g = same_names a b r s f.fits.components g.fits.components f.fits.not_empty g.fits.not_empty f.ended g.ended (sym f.parts ∙ g.parts)

-- a name alone
pub name_alone : (text : List ℕ) (a : Name) → IsName a → text ≡ name_text a → BeginsWithName text a []
name_alone text a fits e =
    record { fits = fits; parts = e ∙ sym (append-nil (name_text a)); ended = record { no_digit = λ low high. omega arith; no_dot = λ h. omega arith } }
