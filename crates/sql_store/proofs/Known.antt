-- A number that was added to a set, and then removed.
use Rattle.std.proofs.Common.{◌≡◌, ℕ, List, Bool, true, false, not, ◌||◌, cond, refl, sym, ap, ◌∙◌, nat_cmp}
use Rattle.std.specs.List.{list_any}
use Rattle.std.proofs.Common.{true≢false, Ordering, Less, Equal, Greater}
use Rattle.std.specs.Ordering.{is_eq}
use Rattle.std.proofs.lemmas.Map.Lookups.{exact_unsigned}
use Rattle.std.proofs.lemmas.Cmp.{eq_by_cmp_equiv}
use Rattle.std.specs.BTreeMap.{is_at}
use Rattle.std.specs.Cmp.{nat_cmp_total}
use Rattle.std.specs.FinSet.{from_list, same_set, contains-from_list}
use Rattle.std.specs.FinSet.{nat_cmp-IsAntisymmetric}

pub known_same : (xs ys : List ℕ) → ((q : ℕ) → list_any (is_at (nat_cmp q)) ys ≡ list_any (is_at (nat_cmp q)) xs) → from_list {R = nat_cmp} ys ≡ from_list {R = nat_cmp} xs
known_same xs ys h =
    same_set nat_cmp_total nat_cmp-IsAntisymmetric _ _ (λ q. contains-from_list nat_cmp_total ys q ∙ h q ∙ sym (contains-from_list nat_cmp_total xs q))

as_or : (a b : Bool) → cond a true b ≡ (a || b)
as_or true b = refl
as_or false b = refl

back : (n q : ℕ) → is_at (nat_cmp n) q ≡ is_at (nat_cmp q) n
back n q = (eq_by_cmp_equiv nat_cmp_total).symm n q

same_at : (b x y : Bool) → (b ≡ true → x ≡ false) → y ≡ cond b true x → cond b false y ≡ x
same_at true x y h e = sym (h refl)
same_at false x y h e = e

-- an insertion that added the number, and then its removal
pub undone : (xs ys zs : List ℕ) (n : ℕ) → list_any (is_at (nat_cmp n)) xs ≡ false
    → ((q : ℕ) → list_any (is_at (nat_cmp q)) ys ≡ cond (is_at (nat_cmp n) q) true (list_any (is_at (nat_cmp q)) xs))
    → ((q : ℕ) → list_any (is_at (nat_cmp q)) zs ≡ cond (is_at (nat_cmp n) q) false (list_any (is_at (nat_cmp q)) ys))
    → from_list {R = nat_cmp} zs ≡ from_list xs
undone xs ys zs n absent added removed = known_same xs zs (λ q. removed q
    ∙ same_at (is_at (nat_cmp n) q) _ _ (λ at. let same : n ≡ q = exact_unsigned n q (tied at) in ap (λ k. list_any (is_at (nat_cmp k)) xs) (sym same) ∙ absent) (added q))
  where
    tied : {o : Ordering} → is_eq o ≡ true → o ≡ Equal
    tied {o = Less} h = absurd (true≢false (sym h))
    tied {o = Equal} h = refl
    tied {o = Greater} h = absurd (true≢false (sym h))

pub not_false : (a b : Bool) → a ≡ not b → a ≡ true → b ≡ false
not_false a true e t = absurd (true≢false (sym t ∙ e))
not_false a false e t = refl
