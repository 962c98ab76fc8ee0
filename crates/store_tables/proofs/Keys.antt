-- Numbers and words as keys of rows.
use Rattle.std.proofs.Common.{◌≡◌, ℕ, ℤ, pos, Bool, true, false, List, refl, sym, ap, ◌∙◌, true≢false, Ordering, Less, Equal}
use Rattle.std.proofs.Common.{Greater, nat_cmp, int_cmp}
use Rattle.std.specs.Ordering.{is_eq, eq_by_cmp}
use Rattle.std.specs.Cmp.{nat_cmp_total}
use Rattle.std.proofs.lemmas.Cmp.{tied_back, tied_itself}
use Rattle.std.proofs.lemmas.Map.Lookups.{exact_signed, exact_unsigned}
use Rattle.sqlite.specs.declared.types.Value.{Value}
use Rattle.sqlite.specs.declared.types.Value.TheVariants.{Null, Int, Real, Text, Blob}
use Rattle.sqlite.specs.Order.{value_cmp}
use Rattle.sqlite.specs.Collation.TheVariants.{Binary}
use Rattle.sqlite_value.proofs.OrderLemmas.{value_cmp_total, value_cmp-Int, value_cmp-Null}
use Rattle.sqlite.specs.Ops.{binary, is_true, from_truth}
use Rattle.std.proofs.Common.{Some, ◌&&◌, ◌||◌}
use Rattle.sqlite.specs.Edit.{id_in}
use Rattle.sqlite_schema.specs.Rules.{equal}

pub equal_is : (o : Ordering) → is_eq o ≡ true → o ≡ Equal
equal_is Less h = absurd (true≢false (sym h))
equal_is Equal h = refl
equal_is Greater h = absurd (true≢false (sym h))

pos_same : (a b : ℕ) → int_cmp (pos a) (pos b) ≡ Equal → a ≡ b
pos_same a b h = let same = exact_signed (pos a) (pos b) h in cc

-- a value that is two numbers is one
pub one_key : (v : Value) (a b : ℕ) → is_eq (value_cmp v (Int (pos a))) ≡ true → is_eq (value_cmp v (Int (pos b))) ≡ true → a ≡ b
one_key v a b h k =
    pos_same a b (sym (value_cmp-Int (pos a) (pos b)) ∙ (sym (value_cmp_total.congr v (Int (pos a)) (Int (pos b)) (equal_is _ h)) ∙ equal_is _ k))

same_truth : (a b : Bool) → (a ≡ true → b ≡ true) → (b ≡ true → a ≡ true) → a ≡ b
same_truth true b h k = sym (h refl)
same_truth false true h k = absurd (true≢false (sym (k refl)))
same_truth false false h k = refl

-- a number as the key of a row, in the words of a finite map
pub key_is : (v : Value) (n q : ℕ) → v ≡ Int (pos n) → is_eq (value_cmp v (Int (pos q))) ≡ eq_by_cmp nat_cmp q n
key_is v n q is = same_truth (is_eq (value_cmp v (Int (pos q)))) (eq_by_cmp nat_cmp q n)
    (λ h. let same : q ≡ n = pos_same q n (sym (value_cmp-Int (pos q) (pos n)) ∙ tied_back value_cmp_total (Int (pos n)) (Int (pos q)) (sym (ap (λ w. value_cmp w (Int (pos q))) is) ∙ equal_is _ h)) in
    ap (λ k. eq_by_cmp nat_cmp k n) same ∙ ap is_eq (tied_itself nat_cmp_total n))
    (λ h. let same : q ≡ n = exact_unsigned q n (equal_is _ h) in
    ap (λ w. is_eq (value_cmp w (Int (pos q)))) (is ∙ ap (λ k. Int (pos k)) (sym same))
    ∙ ap is_eq (tied_itself value_cmp_total (Int (pos q))))

truth_is : (b : Bool) → is_true (from_truth (Some b)) ≡ b
truth_is true = refl
truth_is false = refl

-- a comparison with a number, and one with a word
pub equal_number : (v : Value) (n : ℤ) → equal Binary v (Int n) ≡ is_eq (value_cmp v (Int n))
unfolding binary
equal_number Null n = sym (ap is_eq (value_cmp-Null (Int n)))
equal_number (Int m) n = truth_is _
equal_number (Real x) n = truth_is _
equal_number (Text t) n = truth_is _
equal_number (Blob b) n = truth_is _

pub equal_word : (v : Value) (word : List ℕ) → equal Binary v (Text word) ≡ is_eq (value_cmp v (Text word))
unfolding binary
equal_word Null word = sym (ap is_eq (value_cmp-Null (Text word)))
equal_word (Int m) word = truth_is _
equal_word (Real x) word = truth_is _
equal_word (Text t) word = truth_is _
equal_word (Blob b) word = truth_is _

-- an integer that compares equal to a number is the number
pub int_key : (v : Value) (n : ℕ) → v ≡ Int (id_in v) → is_eq (value_cmp v (Int (pos n))) ≡ true → id_in v ≡ pos n
int_key v n is h =
    exact_signed (id_in v) (pos n) (sym (value_cmp-Int (id_in v) (pos n)) ∙ (ap (λ w. value_cmp w (Int (pos n))) (sym is) ∙ equal_is _ h))

pub plainly : (b : Bool) → ((b && true) || false) ≡ true → b ≡ true
plainly true h = refl
plainly false h = absurd (true≢false (sym h))

-- a row has its rowid
pub tied_id : (v : Value) → v ≡ Int (id_in v) → is_eq (value_cmp v (Int (id_in v))) ≡ true
tied_id v is = ap (λ w. is_eq (value_cmp v w)) (sym is) ∙ ap is_eq (tied_itself value_cmp_total v)
