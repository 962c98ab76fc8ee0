-- Answers that are told apart have different texts.
use Rattle.std.proofs.Common.{◌≡◌, ◌≢◌, ℕ, ℤ, pos, negsuc, not, bytes_eq, eq-eqb, zero, suc, ◌+◌, ◌<◌, ◌≤◌, ◌/◌, ◌%◌, ◌^◌, Bool, true, false, cond, eqb, List, [], ◌∷◌, ◌++◌, length, get_or, take, drop, codes, decimal, Some, refl, sym, ap, subst, ◌∙◌, append_assoc, length-append, arith}
use Rattle.std.specs.Prelude.{◌==◌, FitsSigned}
use Rattle.std.specs.Int.{w64}
use mir.Val.{of_z}
use Rattle.run_model.proofs.Numbers.{int_text}
use Rattle.std.specs.Fmt.{signed_decimal, digit_glyph, digits, digits_onto}
use Rattle.std.specs.List.{AllByRecursion}
use Rattle.std.proofs.lemmas.Bool.{eqb-false, eqb-true, true≢false}
use Rattle.std.proofs.lemmas.Bool.Decides.{nat_tests}
use Rattle.std.proofs.lemmas.Slice.Eq.{bytes_eq-Decides}
use Rattle.std.proofs.lemmas.List.{append_cancel_left, take-append-drop, take_all, take_more}
use Rattle.std.proofs.lemmas.Fmt.{decimal_injective, signed_decimal_injective}
use Rattle.std.proofs.Math.Seq.{drop-cons}
use Rattle.json.specs.Print.{escape, quoted}
use Rattle.json.specs.Text.{content, plain}
use Rattle.json.proofs.Printed.Strings.{content-escape}
use Rattle.action_names.specs.Names.{Name, IsName, name_text}
use Rattle.values.specs.declared.value.Value.{Value}
use Rattle.values.specs.declared.value.Value.TheVariants.{Int, Text}
use Rattle.values.specs.Values.{value_text}
use Rattle.atomic_types.specs.declared.op.Reply.{Reply}
use Rattle.atomic_types.specs.declared.op.Reply.TheVariants.{Gives, Truth, Signals}
use Rattle.atomic_types.specs.declared.op.Reply.TheVariants as replies
use Rattle.atomic_types.specs.declared.op.Signal.{Signal}
use Rattle.run_model.specs.declared.answer.Answer.{Answer}
use Rattle.run_model.specs.declared.answer.Answer.TheVariants.{Began, Done, Granted, Refused, Waits}
use Rattle.run_model.specs.declared.answer.Refusal.{Refusal}
use Rattle.run_model.specs.Gathering.{same_answer}
use Rattle.run_model.specs.Spaces.{name_lacks_space}
use Rattle.run_model.specs.Texts.{answer_text, names_text, refusal_number, reply_text}
use Rattle.run_model.proofs.OneAnswer.{names_head, refusal_small, same_refusal}
use Rattle.run_model.proofs.OneSpelling.{same_front, same_name}

-- ---- digits

abbrev AreDigits : List ℕ → Type 0
AreDigits xs = (i : ℕ) → i < length xs → (48 ≤ get_or xs i 0) × (get_or xs i 0 ≤ 57)

digits_cons : (d : ℕ) (xs : List ℕ) → 48 ≤ d → d ≤ 57 → AreDigits xs → AreDigits (d ∷ xs)
digits_cons d xs low high all zero lt = (low, high)
digits_cons d xs low high all (suc i) lt = all i (omega arith)

glyph_low : (d : ℕ) → d < 10 → 48 ≤ digit_glyph false d
glyph_low d small = grind (arith, nat_tests)

glyph_high : (d : ℕ) → d < 10 → digit_glyph false d ≤ 57
glyph_high d small = grind (arith, nat_tests)

either : (b : Bool) (xs ys : List ℕ) → AreDigits xs → AreDigits ys → AreDigits (cond b xs ys)
either true xs ys f g = f
either false xs ys f g = g

onto_digits : (k n : ℕ) (acc : List ℕ) → AreDigits acc → AreDigits (digits_onto k 10 false n acc)
onto_digits zero n acc all = all
onto_digits (suc k) n acc all =
    let here = digits_cons (digit_glyph false (n % 10)) acc (glyph_low (n % 10) (omega arith)) (glyph_high (n % 10) (omega arith)) all in
    either (n / 10 == 0) (digit_glyph false (n % 10) ∷ acc) (digits_onto k 10 false (n / 10) (digit_glyph false (n % 10) ∷ acc)) here
    (onto_digits k (n / 10) (digit_glyph false (n % 10) ∷ acc) here)

-- digits are digits, however large the number is
decimal_digits : (n : ℕ) → AreDigits (decimal n)
unfolding digits
decimal_digits n = onto_digits 64 n [] (λ i lt. absurd (omega arith))

-- an int begins with a digit or a minus, and a text with a quote
pub value_apart : (v : Value) (word : List ℕ) → 1 ≤ length word → 57 < get_or word 0 0 → value_text v ≢ word
value_apart (Int (pos n)) word some letter e =
    let d = decimal_digits n 0 (omega (arith, ap length e)) in omega (arith, d.1, ap (λ l. get_or l 0 0) e)
value_apart (Int (negsuc n)) word some letter e = omega (arith, ap (λ l. get_or l 0 0) e)
value_apart (Text bytes) word some letter e = omega (arith, ap (λ l. get_or l 0 0) e)

int_no_text : (z : ℤ) (bytes : List ℕ) → value_text (Int z) ≢ value_text (Text bytes)
int_no_text (pos n) bytes e =
    let d = decimal_digits n 0 (omega (arith, ap length e)) in omega (arith, d.0, ap (λ l. get_or l 0 0) e)
int_no_text (negsuc n) bytes e = omega (arith, ap (λ l. get_or l 0 0) e)

-- ---- values

pub int_apart : (v w : Value) (z : ℤ) (bytes : List ℕ) → v ≡ Int z → w ≡ Text bytes → value_text v ≢ value_text w
int_apart v w z bytes first second e = int_no_text z bytes (ap value_text (sym first) ∙ e ∙ ap value_text second)

pub text_apart : (v w : Value) (bytes : List ℕ) (z : ℤ) → v ≡ Text bytes → w ≡ Int z → value_text v ≢ value_text w
text_apart v w bytes z first second e = int_no_text z bytes (ap value_text (sym second) ∙ sym e ∙ ap value_text first)

pub texts_apart : (v w : Value) (s t : List ℕ) → v ≡ Text s → w ≡ Text t → s ≢ t → value_text v ≢ value_text w
texts_apart v w s t f g other e =
    let whole : quoted s ≡ quoted t = ap value_text (sym f) ∙ e ∙ ap value_text g in
    let inner : escape s ++ 34 ∷ [] ≡ escape t ++ 34 ∷ [] = cc in
    let found : Some s ≡ Some t = sym (content-escape s []) ∙ ap (content plain) inner ∙ content-escape t [] in
    other cc

-- ---- replies

pub gives_apart : (r s : Reply) (v : Value) → r ≡ Gives v → ((w : Value) → s ≢ Gives w) → reply_text r ≢ reply_text s
gives_apart r (Gives w) v is other e = other w refl
gives_apart r (Truth true) v is other e = value_apart v (codes "true") (omega arith) (omega arith) (ap reply_text (sym is) ∙ e)
gives_apart r (Truth false) v is other e = value_apart v (codes "false") (omega arith) (omega arith) (ap reply_text (sym is) ∙ e)
gives_apart r replies.Done v is other e = value_apart v (codes "done") (omega arith) (omega arith) (ap reply_text (sym is) ∙ e)
gives_apart r (Signals s) v is other e = value_apart v (reply_text (Signals s)) (omega arith) (omega arith) (ap reply_text (sym is) ∙ e)

truth_apart : (b : Bool) (s : Reply) → ((c : Bool) → s ≢ Truth c) → reply_text (Truth b) ≢ reply_text s
truth_apart true (Gives v) other e = value_apart v (codes "true") (omega arith) (omega arith) (sym e)
truth_apart false (Gives v) other e = value_apart v (codes "false") (omega arith) (omega arith) (sym e)
truth_apart b (Truth c) other e = other c refl
truth_apart true replies.Done other e = omega (arith, ap (λ l. get_or l 0 0) e)
truth_apart false replies.Done other e = omega (arith, ap (λ l. get_or l 0 0) e)
truth_apart true (Signals s) other e = omega (arith, ap (λ l. get_or l 0 0) e)
truth_apart false (Signals s) other e = omega (arith, ap (λ l. get_or l 0 0) e)

pub is_truth_apart : (r s : Reply) (b : Bool) → r ≡ Truth b → ((c : Bool) → s ≢ Truth c) → reply_text r ≢ reply_text s
is_truth_apart r s b is other e = truth_apart b s other (ap reply_text (sym is) ∙ e)

pub truths_apart : (r s : Reply) (b c : Bool) → r ≡ Truth b → s ≡ Truth c → b ≢ c → reply_text r ≢ reply_text s
truths_apart r s b c f g other e = go b c other (ap reply_text (sym f) ∙ e ∙ ap reply_text g)
  where
    go : (x y : Bool) → x ≢ y → reply_text (Truth x) ≡ reply_text (Truth y) → ⊥
    go true true ne h = ne refl
    go false false ne h = ne refl
    go true false ne h = omega (arith, ap (λ l. get_or l 0 0) h)
    go false true ne h = omega (arith, ap (λ l. get_or l 0 0) h)

pub done_apart : (r s : Reply) → r ≡ replies.Done → s ≢ replies.Done → reply_text r ≢ reply_text s
done_apart r (Gives v) is other e = value_apart v (codes "done") (omega arith) (omega arith) (sym e ∙ ap reply_text is)
done_apart r (Truth true) is other e = omega (arith, ap (λ l. get_or l 0 0) (ap reply_text (sym is) ∙ e))
done_apart r (Truth false) is other e = omega (arith, ap (λ l. get_or l 0 0) (ap reply_text (sym is) ∙ e))
done_apart r replies.Done is other e = other refl
done_apart r (Signals s) is other e = omega (arith, ap (λ l. get_or l 0 0) (ap reply_text (sym is) ∙ e))

pub signals_apart : (r s : Reply) (t : Signal) → r ≡ Signals t → ((u : Signal) → s ≢ Signals u) → reply_text r ≢ reply_text s
signals_apart r (Gives v) t is other e = value_apart v (reply_text (Signals t)) (omega arith) (omega arith) (sym e ∙ ap reply_text is)
signals_apart r (Truth true) t is other e = omega (arith, ap (λ l. get_or l 0 0) (ap reply_text (sym is) ∙ e))
signals_apart r (Truth false) t is other e = omega (arith, ap (λ l. get_or l 0 0) (ap reply_text (sym is) ∙ e))
signals_apart r replies.Done t is other e = omega (arith, ap (λ l. get_or l 0 0) (ap reply_text (sym is) ∙ e))
signals_apart r (Signals u) t is other e = other u refl

-- ---- names

names_text-append : (xs ys : List Name) → names_text (xs ++ ys) ≡ names_text xs ++ names_text ys
names_text-append [] ys = refl
names_text-append (a ∷ xs) ys = ap (λ (t : List ℕ). (32 ∷ name_text a) ++ t) (names_text-append xs ys) ∙ sym (append_assoc (32 ∷ name_text a) (names_text xs) (names_text ys))

-- so many names of both are the same
pub record AreSameTo (i : ℕ) (xs ys : List Name) : Type 0 where
  pub within : i ≤ length ys
  pub same : take i xs ≡ take i ys
  pub fit : AllByRecursion IsName (take i xs)

pub none_compared : (xs ys : List Name) → AreSameTo 0 xs ys
none_compared xs ys = record { within = omega arith; same = take_none xs ∙ sym (take_none ys); fit = subst (AllByRecursion IsName) (sym (take_none xs)) tt }
  where
    take_none : (zs : List Name) → take 0 zs ≡ []
    take_none [] = refl
    take_none (z ∷ zs) = refl

all_push : (names : List Name) (a : Name) → AllByRecursion IsName names → IsName a → AllByRecursion IsName (names ++ a ∷ [])
all_push [] a all fits = (fits, tt)
all_push (b ∷ names) a all fits = (all.0, all_push names a all.1 fits)

pub one_compared : (i : ℕ) (xs ys : List Name) (a b : Name) → AreSameTo i xs ys → i < length xs → i < length ys → a ≡ get_or xs i a → b ≡ get_or ys i b → IsName a → a ≡ b
    → AreSameTo (i + 1) xs ys
one_compared i xs ys a b so_far short long first second fits same =
    let mine : take (i + 1) xs ≡ take i xs ++ a ∷ [] = take_more xs i a short ∙ ap (λ (x : Name). take i xs ++ x ∷ []) (sym first) in
    let others : take (i + 1) ys ≡ take i ys ++ b ∷ [] = take_more ys i b long ∙ ap (λ (x : Name). take i ys ++ x ∷ []) (sym second) in
    record {
      within = omega arith;
      same = mine ∙ ap (λ (l : List Name). l ++ a ∷ []) so_far.same ∙ ap (λ (x : Name). take i ys ++ x ∷ []) same ∙ sym others;
      fit = subst (AllByRecursion IsName) (sym mine) (all_push (take i xs) a so_far.fit fits);
    }

parts : (i : ℕ) (xs : List Name) (a : Name) → i < length xs → a ≡ get_or xs i a → names_text xs ≡ names_text (take i xs) ++ (32 ∷ (name_text a ++ names_text (drop (suc i) xs)))
parts i xs a lt item =
    ap names_text (sym (take-append-drop i xs)) ∙ names_text-append (take i xs) (drop i xs)
    ∙ ap (λ (l : List Name). names_text (take i xs) ++ names_text l) (drop-cons xs i a lt ∙ ap (λ (x : Name). x ∷ drop (suc i) xs) (sym item))

-- the others end before
pub shorter_apart : (i : ℕ) (xs ys : List Name) (a : Name) → AreSameTo i xs ys → i < length xs → length ys ≤ i → a ≡ get_or xs i a → names_text xs ≢ names_text ys
shorter_apart i xs ys a so_far lt past item e =
    let same : take i xs ≡ ys = so_far.same ∙ take_all i ys past in
    omega (arith, ap length (sym (parts i xs a lt item) ∙ e), ap length (ap names_text same), length-append (names_text (take i xs)) (32 ∷ (name_text a ++ names_text (drop (suc i) xs))))

-- a name differs
pub name_apart : (i : ℕ) (xs ys : List Name) (a b : Name) → AreSameTo i xs ys → i < length xs → i < length ys → a ≡ get_or xs i a → b ≡ get_or ys i b → IsName a → IsName b → a ≢ b
    → names_text xs ≢ names_text ys
name_apart i xs ys a b so_far short long first second f g other e =
    let whole : names_text (take i ys) ++ (32 ∷ (name_text a ++ names_text (drop (suc i) xs))) ≡ names_text (take i ys) ++ (32 ∷ (name_text b ++ names_text (drop (suc i) ys))) =
    ap (λ (l : List Name). names_text l ++ (32 ∷ (name_text a ++ names_text (drop (suc i) xs)))) (sym so_far.same) ∙ sym (parts i xs a short first) ∙ e ∙ parts i ys b long second in
    let rest = append_cancel_left (names_text (take i ys)) (32 ∷ (name_text a ++ names_text (drop (suc i) xs))) (32 ∷ (name_text b ++ names_text (drop (suc i) ys))) whole in
    let fronts : name_text a ++ names_text (drop (suc i) xs) ≡ name_text b ++ names_text (drop (suc i) ys) = cc in
    let same = same_front (name_text a) (name_text b) (names_text (drop (suc i) xs)) (names_text (drop (suc i) ys)) (name_lacks_space a f) (name_lacks_space b g)
    (names_head (drop (suc i) xs)) (names_head (drop (suc i) ys)) fronts in
    other (same_name a b f g same.0)

-- all names of the one are the others' first names
pub all_same : (i : ℕ) (xs ys : List Name) → AreSameTo i xs ys → length xs ≤ i → length xs ≡ length ys → xs ≡ ys
all_same i xs ys so_far past long = sym (take_all i xs past) ∙ so_far.same ∙ take_all i ys (omega arith)

pub longer_apart : (i : ℕ) (xs ys : List Name) → AreSameTo i xs ys → length xs ≤ i → i ≤ length xs → length xs ≢ length ys → names_text xs ≢ names_text ys
longer_apart i xs ys so_far past within other e =
    let same : xs ≡ take i ys = sym (take_all i xs past) ∙ so_far.same in
    let text = parts i ys (get_or ys i []) (omega (arith, so_far.within, other)) (sym (get_or_self ys i)) in
    omega (arith, ap length (sym e ∙ ap names_text same), ap length text, length-append (names_text (take i ys)) (32 ∷ (name_text (get_or ys i []) ++ names_text (drop (suc i) ys))))
  where
    get_or_self : (zs : List Name) (n : ℕ) → get_or zs n (get_or zs n []) ≡ get_or zs n []
    get_or_self [] n = refl
    get_or_self (z ∷ zs) zero = refl
    get_or_self (z ∷ zs) (suc n) = get_or_self zs n

-- ---- tests of the code

pub components_differ : (xs ys a b : List ℕ) (r : Bool) → r ≡ not (bytes_eq xs ys) → r ≡ true → xs ≡ a → ys ≡ b → a ≢ b
components_differ xs ys a b r is ne first second e =
    true≢false (sym ((bytes_eq-Decides xs ys).1 (first ∙ e ∙ sym second)) ∙ not_true (bytes_eq xs ys) (sym is ∙ ne))
  where
    not_true : (t : Bool) → not t ≡ true → t ≡ false
    not_true true h = absurd (true≢false (sym h))
    not_true false h = refl

pub components_same : (xs ys a b : List ℕ) (r : Bool) → r ≡ not (bytes_eq xs ys) → r ≡ false → xs ≡ a → ys ≡ b → a ≡ b
components_same xs ys a b r is eq first second =
    sym first ∙ (bytes_eq-Decides xs ys).0 (not_false (bytes_eq xs ys) (sym is ∙ eq)) ∙ second
  where
    not_false : (t : Bool) → not t ≡ false → t ≡ true
    not_false true h = refl
    not_false false h = absurd (true≢false h)

pub bytes_differ : (xs ys a b : List ℕ) (r : Bool) → r ≡ bytes_eq xs ys → r ≡ false → xs ≡ a → ys ≡ b → a ≢ b
bytes_differ xs ys a b r is ne first second e = true≢false (sym ((bytes_eq-Decides xs ys).1 (first ∙ e ∙ sym second)) ∙ sym is ∙ ne)

pub ints_apart : (v w : Value) (m n : ℤ) → v ≡ Int m → w ≡ Int n → FitsSigned w64 m → FitsSigned w64 n → eqb (of_z w64 m) (of_z w64 n) ≡ false → value_text v ≢ value_text w
ints_apart v w m n first second f g ne e =
    let texts : signed_decimal m ≡ signed_decimal n = sym (int_text m) ∙ ap value_text (sym first) ∙ e ∙ ap value_text second ∙ int_text n in
    let same : m ≡ n = signed_decimal_injective m n (omega arith) (omega arith) texts in
    true≢false (sym (eq-eqb (of_z w64 m) (of_z w64 n) (ap (of_z w64) same)) ∙ ne)

-- ---- answers

value_by : (one other : Answer) (r : Bool) → (r ≡ true → one ≡ other) → (r ≡ false → answer_text one ≢ answer_text other) → r ≡ same_answer one other
value_by one other true equal differ = sym ((bytes_eq-Decides (answer_text one) (answer_text other)).1 (ap answer_text (equal refl)))
value_by one other false equal differ = sym (go (same_answer one other) refl)
  where
    go : (b : Bool) → same_answer one other ≡ b → b ≡ false
    go true e = absurd (differ refl ((bytes_eq-Decides (answer_text one) (answer_text other)).0 e))
    go false e = refl

-- answers of one kind, told apart by what they hold
value_at : (X : Type 0) (made : X → Answer) (text : X → List ℕ) (front : List ℕ) → ((x : X) → answer_text (made x) ≡ front ++ text x) → (one other : Answer) (x y : X) (r : Bool)
    → one ≡ made x → other ≡ made y → (r ≡ true → x ≡ y) → (r ≡ false → text x ≢ text y) → r ≡ same_answer one other
value_at X made text front spelled one other x y r first second equal differ =
    value_by one other r (λ yes. first ∙ ap made (equal yes) ∙ sym second)
    (λ no e. differ no (append_cancel_left front (text x) (text y) (sym (spelled x) ∙ ap answer_text (sym first) ∙ e ∙ ap answer_text second ∙ spelled y)))

pub began_value : (one other : Answer) (xs ys : List Name) (r : Bool) → one ≡ Began xs → other ≡ Began ys → (r ≡ true → xs ≡ ys) → (r ≡ false → names_text xs ≢ names_text ys) → r ≡ same_answer one other
began_value = value_at (List Name) (λ xs. Began xs) names_text (codes "began") (λ x. refl)

pub waits_value : (one other : Answer) (xs ys : List Name) (r : Bool) → one ≡ Waits xs → other ≡ Waits ys → (r ≡ true → xs ≡ ys) → (r ≡ false → names_text xs ≢ names_text ys) → r ≡ same_answer one other
waits_value = value_at (List Name) (λ xs. Waits xs) names_text (codes "waits") (λ x. refl)

pub granted_value : (one other : Answer) (x y : Reply) (r : Bool) → one ≡ Granted x → other ≡ Granted y → (r ≡ true → x ≡ y) → (r ≡ false → reply_text x ≢ reply_text y) → r ≡ same_answer one other
granted_value = value_at Reply (λ x. Granted x) reply_text (codes "granted ") (λ x. refl)

pub done_value : (one other : Answer) (m n : ℕ) → one ≡ Done m → other ≡ Done n → m < 2 ^ 64 → n < 2 ^ 64 → eqb m n ≡ same_answer one other
done_value one other m n first second f g =
    value_at ℕ (λ x. Done x) decimal (codes "done ") (λ x. refl) one other m n (eqb m n) first second (eqb-true m n)
    (λ no e. eqb-false m n no (decimal_injective m n f g e))

pub refused_value : (one other : Answer) (x y : Refusal) (m n : ℕ) → one ≡ Refused x → other ≡ Refused y → m ≡ refusal_number x → n ≡ refusal_number y → eqb m n ≡ same_answer one other
refused_value one other x y m n first second f g =
    value_at Refusal (λ z. Refused z) (λ z. decimal (refusal_number z)) (codes "refused ") (λ z. refl) one other x y (eqb m n) first second
    (λ yes. same_refusal x y (sym f ∙ eqb-true m n yes ∙ g))
    (λ no e. eqb-false m n no (f ∙ decimal_injective (refusal_number x) (refusal_number y) (omega (arith, refusal_small x)) (omega (arith, refusal_small y)) e ∙ sym g))
