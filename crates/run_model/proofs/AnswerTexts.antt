-- Reading a line as an answer: a count, and names with a space before each.
use Rattle.std.proofs.Common.{◌≡◌, ◌≢◌, ℕ, zero, suc, ◌-◌, ◌<◌, ◌≤◌, List, [], ◌∷◌, ◌++◌, length, get_or, take, drop, Option, Some, None, MatchOption, codes, Result, Ok, Err, refl, sym, ap, subst, ◌∙◌, append_assoc, arith, ◌⊎◌, inl, inr, decimal}
use Rattle.std.specs.List.{AllByRecursion}
use Rattle.std.specs.Result.{result_ok}
use Rattle.std.specs.Str.Parse.{ParsesUnsigned, digits_value}
use Rattle.std.proofs.lemmas.List.{append-nil, take_all}
use Rattle.std.proofs.lemmas.Fmt.{decimal_digit, decimal_injective, decimal_nonempty, decimal-digits_value, digits_decimal, first_decimal, parse-decimal}
use Rattle.std.proofs.lemmas.Str.Parse.{digit_at, parse_plain}
use Rattle.action_names.specs.Names.{Name, IsName, IsComponent, name_text}
use Rattle.action_names.specs.Fronts.{EndsName, BeginsWithName}
use Rattle.action_names.proofs.Fronts.{one_name}
use Rattle.values.specs.declared.value.Value.{Value}
use Rattle.values.specs.Values.{IsValue, value_text}
use Rattle.run_model.specs.declared.answer.Refusal.{Refusal}
use Rattle.run_model.specs.Texts.{AreNames, IsCount, names_text, refusal_number}
use Rattle.run_model.specs.Reading.{Reads}
use Rattle.run_model.specs.Spaces.{numerals}
use Rattle.run_model.proofs.Growing.{names_push}
use Rattle.run_model.proofs.OneAnswer.{refusal_small, value_first}

-- ---- a count

-- what std reads from a text that begins with 1 to 9
pub count_found : {E : Type 0} (bs : List ℕ) (r : Result ℕ E) → ParsesUnsigned 64 10 bs r → 49 ≤ get_or bs 0 0 → get_or bs 0 0 ≤ 57 → Reads IsCount decimal bs (result_ok r)
count_found {E} bs (Ok n) h low high =
    let read = parse_plain numerals {E = E} 64 bs (Ok n) h (omega arith) in
    let text : decimal (digits_value 10 bs) ≡ bs = decimal-digits_value numerals bs read.0.0 read.0.1 (λ zero. absurd (omega arith)) read.0.2 in
    (omega (arith, read.0.2, read.1), sym text ∙ ap decimal (sym read.1))
count_found {E} bs (Err e) h low high = λ n fits is.
    let h : Err e ≡ Ok n = parse-decimal {E = E} 64 n bs (Err e) fits fits is h in
    cc

-- a text that begins with no digit from 1 to 9 is the spelling of 0, or of no count
pub no_count : (bs : List ℕ) → bs ≢ 48 ∷ [] → (49 ≤ get_or bs 0 0 → get_or bs 0 0 ≤ 57 → ⊥) → Reads IsCount decimal bs None
no_count bs other unfit zero fits e = other (e ∙ decimal_digit 0 (omega arith))
no_count bs other unfit (suc n) fits e =
    let d = digit_at (decimal (suc n)) 0 (digits_decimal numerals (suc n) fits) (decimal_nonempty (suc n) fits) in
    let first = ap (λ t. get_or t 0 0) e in
    unfit (omega (arith, first, first_decimal (suc n) (omega arith) fits)) (omega (arith, first, d.1))

pub no_empty_count : (bs : List ℕ) → length bs < 1 → Reads IsCount decimal bs None
no_empty_count bs short n fits e = omega (arith, ap length e, decimal_nonempty n fits)

-- ---- a reply

-- what begins with the word of signals is no value
pub no_signals : (text word : List ℕ) (v : Value) → text ≡ codes "signals " ++ word → IsValue v → text ≢ value_text v
no_signals text word v is fits e = omega (arith, value_first v fits, ap (λ t. get_or t 0 0) (sym e ∙ is))

-- ---- a refusal

-- the refusal whose number a text spells
pub refusal_read : (text : List ℕ) (n : ℕ) (o : Option Refusal) → IsComponent n → text ≡ decimal n → MatchOption o ((why : Refusal) → n ≢ refusal_number why) (λ why. n ≡ refusal_number why)
    → MatchOption o ((why : Refusal) → text ≢ decimal (refusal_number why)) (λ why. text ≡ decimal (refusal_number why))
refusal_read text n (Some why) fits e h = e ∙ ap decimal h
refusal_read text n None fits e h = λ why is. h why (decimal_injective n (refusal_number why) (omega (arith, fits.1)) (omega (arith, refusal_small why)) (sym e ∙ is))

-- ---- names

-- what follows the first byte, as a slice
abbrev behind : List ℕ → List ℕ
behind rest = take (length rest - 1) (drop 1 rest)

behind_space : (rest : List ℕ) → 1 ≤ length rest → get_or rest 0 0 ≡ 32 → rest ≡ 32 ∷ behind rest
behind_space [] long space = absurd (omega arith)
behind_space (c ∷ rest) long space = ap (λ (d : ℕ). d ∷ rest) space ∙ ap (λ (t : List ℕ). 32 ∷ t) (sym (take_all _ rest (omega arith)))

-- the text is these names and the rest: so each list of names that it spells begins with them
pub record ReadsNames (text : List ℕ) (names : List Name) (rest : List ℕ) : Type 0 where
  pub each : AllByRecursion IsName names
  pub parts : text ≡ names_text names ++ rest
  pub only : (all : List Name) → AllByRecursion IsName all → text ≡ names_text all → (more : List Name) × AllByRecursion IsName more × (rest ≡ names_text more)

pub no_names_yet : (text : List ℕ) (names : List Name) → names ≡ [] → ReadsNames text names text
no_names_yet text names none = subst (λ (ns : List Name). ReadsNames text ns text) (sym none) (record { each = tt; parts = refl; only = λ all fits e. (all, fits, e) })

-- names end where names follow
names_end : (names : List Name) → EndsName (names_text names)
names_end [] = record { no_digit = λ low high. omega arith; no_dot = λ h. omega arith }
names_end (a ∷ names) = record { no_digit = λ low high. omega arith; no_dot = λ h. omega arith }

-- what follows a space in a text of names begins with a name
pub record NameAfterSpace (rest : List ℕ) (more : List Name) : Type 0 where
  pub name : Name
  pub others : List Name
  pub fit : AllByRecursion IsName others
  pub begins : BeginsWithName (behind rest) name (names_text others)

after_space : (rest : List ℕ) (more : List Name) → 1 ≤ length rest → get_or rest 0 0 ≡ 32 → AllByRecursion IsName more → rest ≡ names_text more → NameAfterSpace rest more
after_space rest [] long space fits e = absurd (omega (arith, ap length e))
after_space rest (b ∷ bs) long space fits e =
    let h : 32 ∷ behind rest ≡ 32 ∷ (name_text b ++ names_text bs) = sym (behind_space rest long space) ∙ e in
    let t : behind rest ≡ name_text b ++ names_text bs = cc in
    record { name = b; others = bs; fit = fits.1; begins = record { fits = fits.0; parts = t; ended = names_end bs } }

each_push : (names : List Name) (a : Name) → AllByRecursion IsName names → IsName a → AllByRecursion IsName (names ++ a ∷ [])
each_push [] a fits here = (here, tt)
each_push (b ∷ names) a fits here = (fits.0, each_push names a fits.1 here)

-- one name more
pub one_name_more : (text rest left : List ℕ) (names more : List Name) (a : Name) → ReadsNames text names rest → 1 ≤ length rest → get_or rest 0 0 ≡ 32 → BeginsWithName (behind rest) a left
    → more ≡ names ++ a ∷ [] → ReadsNames text more left
one_name_more text rest left names more a so_far long space begins pushed = subst (λ (ns : List Name). ReadsNames text ns left) (sym pushed) (record {
  each = each_push names a so_far.each begins.fits;
  parts = so_far.parts ∙ ap (λ (t : List ℕ). names_text names ++ t) (behind_space rest long space ∙ ap (λ (t : List ℕ). 32 ∷ t) begins.parts)
      ∙ sym (append_assoc (names_text names) (32 ∷ name_text a) left) ∙ ap (λ (t : List ℕ). t ++ left) (sym (names_push names a));
  only = λ all fits e.
      let r = so_far.only all fits e in
      let next = after_space rest r.0 long space r.1 r.2 in
      let same = one_name (behind rest) a next.name left (names_text next.others) begins next.begins in
      (next.others, next.fit, same.1);
})

-- a space and no name after it
pub no_name_after : (text rest : List ℕ) (names : List Name) → ReadsNames text names rest → 1 ≤ length rest → get_or rest 0 0 ≡ 32 → ((a : List ℕ) (left : List ℕ) → BeginsWithName (behind rest) a left → ⊥)
    → Reads AreNames names_text text None
no_name_after text rest names so_far long space none = λ all fits e.
    let r = so_far.only all fits.1 e in
    let next = after_space rest r.0 long space r.1 r.2 in
    none next.name (names_text next.others) next.begins

-- no space where names end: something else follows, or there are no names
pub no_names : (text rest : List ℕ) (names : List Name) → ReadsNames text names rest → (1 ≤ length rest → get_or rest 0 0 ≢ 32) → (1 ≤ length rest) ⊎ (length names ≡ 0) → Reads AreNames names_text text None
no_names text rest names so_far other why = λ all fits e. elim why [
  | inl more ↦ (let r = so_far.only all fits.1 e in follows r.0 r.2 more)
  | inr none ↦ by_rest rest refl all fits.0 e (no_text names none)
]
  where
    follows : (more : List Name) → rest ≡ names_text more → 1 ≤ length rest → ⊥
    follows [] is long = omega (arith, ap length is)
    follows (b ∷ bs) is long = other long (ap (λ t. get_or t 0 0) is)

    no_text : (ns : List Name) → length ns ≡ 0 → names_text ns ≡ []
    no_text [] none = refl
    no_text (b ∷ bs) none = absurd (omega arith)

    by_rest : (r : List ℕ) → rest ≡ r → (all : List Name) → 1 ≤ length all → text ≡ names_text all → names_text names ≡ [] → ⊥
    by_rest r is [] some e none = omega arith
    by_rest [] is (b ∷ bs) some e none =
        let h : [] ≡ names_text (b ∷ bs) = sym (so_far.parts ∙ ap (λ (t : List ℕ). t ++ rest) none ∙ is) ∙ e in
        cc
    by_rest (c ∷ r) is (b ∷ bs) some e none =
        let all_of_it : rest ≡ names_text (b ∷ bs) = sym (so_far.parts ∙ ap (λ (t : List ℕ). t ++ rest) none) ∙ e in
        follows (b ∷ bs) all_of_it (omega (arith, ap length is))

-- nothing follows the names
pub all_names : (text rest : List ℕ) (names : List Name) → ReadsNames text names rest → length rest ≡ 0 → 1 ≤ length names → AreNames names × (text ≡ names_text names)
all_names text [] names so_far ended some = ((some, so_far.each), so_far.parts ∙ append-nil (names_text names))
all_names text (c ∷ rest) names so_far ended some = absurd (omega arith)
