-- The tables of version 1 hold one content.
use Rattle.std.proofs.Common.{◌≡◌, ◌⊎◌, inl, inr, ℕ, ◌+◌, pos, List, Bool, true, false, Option, Some, None, option_map, IfSome, refl, sym, ap, subst, ◌∙◌, nat_cmp, true≢false, arith}
use lib.Dec.{T}
use Rattle.std.specs.Cmp.{nat_cmp_total}
use Rattle.std.specs.FinMap as map
use Rattle.std.specs.FinSet as set
use Rattle.sqlite.specs.declared.types.Value.{Value as Column}
use Rattle.sqlite.specs.declared.types.Value.TheVariants.{Int, Text}
use Rattle.sqlite.specs.Order.{Row, column}
use Rattle.atomic_types.specs.declared.part.Part.{Part}
use Rattle.store_tables.specs.PartTexts.{IsStoredPart, part_text}
use Rattle.stable_store.specs.Stored.{Stored, Record}
use Rattle.store_tables.specs.Listed.{Lists}
use Rattle.store_tables.specs.Shown.{IsNumber, IsText, ShowsPart, ShowsHome, ShowsRecord, ShowsTop}
use Rattle.store_tables.specs.Parts.{Records, HasBase, HasHome, HasPart, part_in, IsDecided}
use Rattle.store_tables.specs.First.{FirstTables, HoldsFirst, IsGreatest, IsPrepared}
use Rattle.store_tables.proofs.Numbers.{not_some, same_some}

-- ---- a row shows one thing

-- what rows list is what they list
only : {X : Type 0} (Shows : Row → X → Type 0) → ((r : Row) (x y : X) → Shows r x → Shows r y → x ≡ y) → (rows : List Row) (A B : X → Type 0)
    → Lists Shows rows A → Lists Shows rows B → (x : X) → A x → B x
only Shows one rows A B a b x is = let f = a.from x is in let e = b.each f.0 f.1 in subst B (one f.0 e.0 x e.1 f.2) e.2

ints_same : (n m : ℕ) → Int (pos n) ≡ Int (pos m) → n ≡ m
ints_same n m e = cc

texts_same : (s t : List ℕ) → Text s ≡ Text t → s ≡ t
texts_same s t e = cc

one_number : (v : Column) (n m : ℕ) → IsNumber v n → IsNumber v m → n ≡ m
one_number v n m a b = ints_same n m (sym a.is ∙ b.is)

one_home : (first : ℕ) (r : Row) (x y : ℕ × ℕ) → ShowsHome first r x → ShowsHome first r y → x ≡ y
one_home first r x y a b =
    let top = one_number _ x.0 y.0 a.top b.top in
    let home = one_number _ x.1 y.1 a.home b.home in
    λ i. (top i, home i)

-- parts that are spelled alike are equal
abbrev pub OneSpelling : Type 0
OneSpelling = (p q : Part) → IsStoredPart p → IsStoredPart q → part_text p ≡ part_text q → p ≡ q

module _ (spelling : OneSpelling) (first : ℕ) where
  one_text : (v : Column) (p q : Part) → IsText v p → IsText v q → p ≡ q
  one_text v p q a b = spelling p q a.stored b.stored (texts_same _ _ (sym a.is ∙ b.is))

  one_shown : (r : Row) (x y : ℕ × Part) → ShowsPart first r x → ShowsPart first r y → x ≡ y
  one_shown r x y a b =
      let object = one_number _ x.0 y.0 a.object b.object in
      let part = one_text _ x.1 y.1 a.part b.part in
      λ i. (object i, part i)

  one_record : (r : Row) (x y : ℕ × (ℕ × Part)) → ShowsRecord IsText first r x → ShowsRecord IsText first r y → x ≡ y
  one_record r x y a b =
      let top = one_number _ x.0 y.0 a.top b.top in
      let object = one_number _ x.1.0 y.1.0 a.object b.object in
      let part = one_text _ x.1.1 y.1.1 a.part b.part in
      λ i. (top i, (object i, part i))

-- ---- the parts of a content

option_same : {X : Type 0} (o p : Option X) → ((x : X) → o ≡ Some x → p ≡ Some x) → ((x : X) → p ≡ Some x → o ≡ Some x) → o ≡ p
option_same None None h k = refl
option_same None (Some y) h k = absurd (not_some y (k y refl))
option_same (Some x) p h k = sym (h x refl)

sorted : (es : List (ℕ × Part)) → map.is_sorted nat_cmp es ≡ true → T (map.is_sorted nat_cmp es)
sorted es e = subst T (sym e) tt

record_same : (o p : Option Record) → IfSome o (λ r. map.is_sorted nat_cmp r.parts ≡ true) → IfSome p (λ r. map.is_sorted nat_cmp r.parts ≡ true)
    → option_map (λ (r : Record). r.home) o ≡ option_map (λ (r : Record). r.home) p
    → ((k : ℕ) → part_in o k ≡ part_in p k) → o ≡ p
record_same None None s t h v = refl
record_same None (Some r) s t h v = absurd (not_some r.home h)
record_same (Some q) None s t h v = absurd (not_some q.home (sym h))
record_same (Some q) (Some r) s t h v =
    let home : q.home ≡ r.home = same_some q.home r.home h in
    let parts : q.parts ≡ r.parts =
    sym (map.entries-from_sorted nat_cmp q.parts (sorted q.parts s))
    ∙ (ap map.entries (map.same_map nat_cmp_total map.nat_cmp-IsAntisymmetric (map.from_sorted q.parts) (map.from_sorted r.parts) (λ k.
    map.get-from_sorted nat_cmp q.parts k (sorted q.parts s)
    ∙ (v k ∙ sym (map.get-from_sorted nat_cmp r.parts k (sorted r.parts t)))))
    ∙ map.entries-from_sorted nat_cmp r.parts (sorted r.parts t)) in
    λ i. Some (record { home = home i; parts = parts i })

bool_same : (a b : Bool) → (a ≡ true → b ≡ true) → (b ≡ true → a ≡ true) → a ≡ b
bool_same true b h k = sym (h refl)
bool_same false true h k = absurd (true≢false (sym (k refl)))
bool_same false false h k = refl

-- ---- the greatest number

same_greatest : (Is : ℕ → Type 0) (m n : ℕ) → IsGreatest Is m → IsGreatest Is n → m ≡ n
same_greatest Is m n a b = between a.is b.is
  where
    between : (m ≡ 0) ⊎ Is m → (n ≡ 0) ⊎ Is n → m ≡ n
    between (inl zero_m) (inl zero_n) = zero_m ∙ sym zero_n
    between (inl zero_m) (inr is) = omega (arith, zero_m, a.above n is)
    between (inr is) (inl zero_n) = omega (arith, zero_n, b.above m is)
    between (inr is) (inr also) = omega (arith, a.above n also, b.above m is)

-- ---- one content

abbrev Top : Records → set.FinSet nat_cmp → ℕ → Type 0
Top prepared decided top = IsPrepared prepared top ⊎ IsDecided decided top

module _ (spelling : OneSpelling) (first : ℕ) (t : FirstTables) (m n : ℕ) (same : m ≡ n) (c d : Stored) (a : HoldsFirst first t m c) (b : HoldsFirst first t n d) where
  pub one_first : c ≡ d
  one_first =
      let base : c.base ≡ d.base = map.same_map nat_cmp_total map.nat_cmp-IsAntisymmetric c.base d.base (λ k. option_same _ _
      (λ p is. only (ShowsPart first) (one_shown spelling first) t.base (HasBase c.base) (HasBase d.base) a.base b.base (k, p) is)
      (λ p is. only (ShowsPart first) (one_shown spelling first) t.base (HasBase d.base) (HasBase c.base) b.base a.base (k, p) is)) in
      let prepared : c.prepared ≡ d.prepared = map.same_map nat_cmp_total map.nat_cmp-IsAntisymmetric c.prepared d.prepared (λ k.
      record_same (map.get c.prepared k) (map.get d.prepared k) (a.rising k) (b.rising k)
      (option_same _ _
      (λ h is. only (ShowsHome first) (one_home first) t.homes (HasHome c.prepared) (HasHome d.prepared) a.homes b.homes (k, h) is)
      (λ h is. only (ShowsHome first) (one_home first) t.homes (HasHome d.prepared) (HasHome c.prepared) b.homes a.homes (k, h) is))
      (λ o. option_same _ _
      (λ p is. only (ShowsRecord IsText first) (one_record spelling first) t.parts (HasPart c.prepared) (HasPart d.prepared) a.parts b.parts (k, (o, p)) is)
      (λ p is. only (ShowsRecord IsText first) (one_record spelling first) t.parts (HasPart d.prepared) (HasPart c.prepared) b.parts a.parts (k, (o, p)) is))) in
      let decided : c.decided ≡ d.decided = set.same_set nat_cmp_total set.nat_cmp-IsAntisymmetric c.decided d.decided (λ k. bool_same _ _
      (λ is. only ShowsTop (λ r x y. one_number (column r 0) x y) t.decided (IsDecided c.decided) (IsDecided d.decided) a.decided b.decided k is)
      (λ is. only ShowsTop (λ r x y. one_number (column r 0) x y) t.decided (IsDecided d.decided) (IsDecided c.decided) b.decided a.decided k is)) in
      let count : c.count ≡ d.count = a.counted ∙ (same ∙ sym b.counted) in
      let mine : IsGreatest (Top d.prepared d.decided) a.last =
      subst (λ p. IsGreatest (Top p d.decided) a.last) prepared (subst (λ s. IsGreatest (Top c.prepared s) a.last) decided a.greatest) in
      let next : c.next_top ≡ d.next_top = a.next ∙ (ap (λ k. k + 1) (same_greatest (Top d.prepared d.decided) a.last b.last mine b.greatest) ∙ sym b.next) in
      λ i. record { base = base i; prepared = prepared i; decided = decided i; count = count i; next_top = next i }
