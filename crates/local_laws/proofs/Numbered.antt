-- Parts by the numbers of objects: collected number by number, and looked up.
use Rattle.std.proofs.Common.{Bool, List, None, Option, Some, [], ap, ap₂, arith, cond, false, filter_map, inl, inr, option_map, refl, subst, suc, sym, true, zero, ℕ, ◌++◌, ◌+◌, ◌<◌, ◌==◌, ◌∙◌, ◌∷◌, ◌≡◌, ◌≤◌}
use Rattle.std.specs.Prelude.{find}
use Rattle.std.proofs.lemmas.Bool.{cases_eq, cases_lt, eq-eqb, ne_eqb}
use Rattle.std.proofs.lemmas.List.{reverse-append}
use Rattle.std.specs.List.{AllByRecursion, cons_option}
use Rattle.run_model.specs.Lists.{down_from, up_to}
use Rattle.run_model.specs.Openings.{part_at}
use Rattle.atomic_types.specs.declared.part.Part.{Part}
use Rattle.local_laws.specs.Reopened.{AreRising}

-- the k numbers above n
abbrev above : ℕ → ℕ → List ℕ
above n zero = []
above n (suc k) = suc n ∷ above (suc n) k

above_more : (n k : ℕ) → above n (suc k) ≡ above n k ++ suc (n + k) ∷ []
above_more n zero = let e : n ≡ n + 0 = omega arith in ap (λ m. suc m ∷ []) e
above_more n (suc k) = let e : suc n + k ≡ n + suc k = omega arith in
    ap (λ ns. suc n ∷ ns) (above_more (suc n) k ∙ ap (λ m. above (suc n) k ++ suc m ∷ []) e)

above_none : (k : ℕ) → up_to k ≡ above 0 k
above_none zero = refl
above_none (suc k) =
    let e : k ≡ 0 + k = omega arith in
    reverse-append (suc k ∷ []) (down_from k) ∙ ap₂ (λ ns m. ns ++ suc m ∷ []) (above_none k) e ∙ sym (above_more 0 k)

-- of each number what f gives there
abbrev collected : (ℕ → Option Part) → List ℕ → List (ℕ × Part)
collected f ns = filter_map (λ n. option_map (λ p. (n, p)) (f n)) ns

collected_same : (f g : ℕ → Option Part) (n k : ℕ) → ((m : ℕ) → n < m → f m ≡ g m) → collected f (above n k) ≡ collected g (above n k)
collected_same f g n zero h = refl
collected_same f g n (suc k) h =
    ap₂ (λ o ps. cons_option (option_map (λ p. (suc n, p)) o) ps) (h (suc n) (omega arith)) (collected_same f g (suc n) k (λ m l. h m (omega arith)))

-- one part more in front
part_more : (p : ℕ × Part) (parts : List (ℕ × Part)) (m : ℕ) → part_at (p ∷ parts) m ≡ cond (p.0 == m) (Some p.1) (part_at parts m)
part_more p parts m = of (p.0 == m)
  where
    of : (t : Bool) → option_map (λ q. q.1) (cond t (Some p) (find (λ q. q.0 == m) parts)) ≡ cond t (Some p.1) (part_at parts m)
    of true = refl
    of false = refl

pub part_here : (p : ℕ × Part) (parts : List (ℕ × Part)) (m : ℕ) → p.0 ≡ m → part_at (p ∷ parts) m ≡ Some p.1
part_here p parts m e = part_more p parts m ∙ ap (λ t. cond t (Some p.1) (part_at parts m)) (eq-eqb p.0 m e)

pub part_behind : (p : ℕ × Part) (parts : List (ℕ × Part)) (m : ℕ) → (p.0 ≡ m → ⊥) → part_at (p ∷ parts) m ≡ part_at parts m
part_behind p parts m e = part_more p parts m ∙ ap (λ t. cond t (Some p.1) (part_at parts m)) (ne_eqb p.0 m e)

-- nothing stands below the least
part_low : (n m : ℕ) (parts : List (ℕ × Part)) → AreRising n parts → m ≤ n → part_at parts m ≡ None
part_low n m [] h l = refl
part_low n m (p ∷ parts) h l =
    let less = h.0 in
    part_behind p parts m (λ e. omega arith) ∙ part_low p.0 m parts h.1 (omega arith)

-- what is collected of rising parts are the parts
collected_again : (n k : ℕ) (parts : List (ℕ × Part)) → AreRising n parts → AllByRecursion (λ p. p.0 ≤ n + k) parts
    → collected (part_at parts) (above n k) ≡ parts
collected_again n zero [] h w = refl
collected_again n zero (p ∷ parts) h w = let low = h.0 in let high = w.0 in absurd (omega arith)
collected_again n (suc k) [] h w = collected_again (suc n) k [] tt tt
collected_again n (suc k) (p ∷ parts) h w = elim (cases_eq p.0 (suc n)) [
  | inl e ↦
      ap₂ (λ o ps. cons_option (option_map (λ q. (suc n, q)) o) ps) (part_here p parts (suc n) e)
      (collected_same (part_at (p ∷ parts)) (part_at parts) (suc n) k (λ m l. part_behind p parts m (λ q. omega arith))
      ∙ collected_again (suc n) k parts (subst (λ m. AreRising m parts) e h.1) (subst (λ m. AllByRecursion (λ q. q.0 ≤ m) parts) sum w.1))
      ∙ ap (λ m. (m, p.1) ∷ parts) (sym e)
  | inr e ↦
      let low = h.0 in
      let higher : suc n < p.0 = omega arith in
      ap₂ (λ o ps. cons_option (option_map (λ q. (suc n, q)) o) ps) (part_low (suc n) (suc n) (p ∷ parts) (higher, h.1) (omega arith))
      (collected_again (suc n) k (p ∷ parts) (higher, h.1) (subst (λ m. AllByRecursion (λ q. q.0 ≤ m) (p ∷ parts)) sum w))
]
  where
    sum : n + suc k ≡ suc n + k
    sum = omega arith

-- the parts that rise are those collected of what stands at each number
pub read_again : (n : ℕ) (parts : List (ℕ × Part)) → AreRising 0 parts → AllByRecursion (λ p. p.0 ≤ n) parts
    → filter_map (λ m. option_map (λ p. (m, p)) (part_at parts m)) (up_to n) ≡ parts
read_again n parts h w = ap (λ ns. collected (part_at parts) ns) (above_none n) ∙ collected_again 0 n parts h (subst (λ m. AllByRecursion (λ p. p.0 ≤ m) parts) e w)
  where
    e : n ≡ 0 + n
    e = omega arith

-- what stands in what was collected
collected_low : (f : ℕ → Option Part) (n k m : ℕ) → m ≤ n → part_at (collected f (above n k)) m ≡ None
collected_low f n zero m l = refl
collected_low f n (suc k) m l = of (f (suc n)) (collected_low f (suc n) k m (omega arith))
  where
    of : (o : Option Part) → part_at (collected f (above (suc n) k)) m ≡ None
        → part_at (cons_option (option_map (λ p. (suc n, p)) o) (collected f (above (suc n) k))) m ≡ None
    of None ih = ih
    of (Some p) ih = part_behind (suc n, p) (collected f (above (suc n) k)) m (λ e. omega arith) ∙ ih

collected_high : (f : ℕ → Option Part) (n k m : ℕ) → n + k < m → part_at (collected f (above n k)) m ≡ None
collected_high f n zero m l = refl
collected_high f n (suc k) m l = of (f (suc n)) (collected_high f (suc n) k m (omega arith))
  where
    of : (o : Option Part) → part_at (collected f (above (suc n) k)) m ≡ None
        → part_at (cons_option (option_map (λ p. (suc n, p)) o) (collected f (above (suc n) k))) m ≡ None
    of None ih = ih
    of (Some p) ih = part_behind (suc n, p) (collected f (above (suc n) k)) m (λ e. omega arith) ∙ ih

collected_at : (f : ℕ → Option Part) (n k m : ℕ) → n < m → m ≤ n + k → part_at (collected f (above n k)) m ≡ f m
collected_at f n zero m l h = absurd (omega arith)
collected_at f n (suc k) m l h = elim (cases_eq (suc n) m) [
  | inl e ↦ here e (f (suc n)) refl ∙ ap f e
  | inr e ↦ there e (f (suc n)) (collected_at f (suc n) k m (omega arith) (omega arith))
]
  where
    here : suc n ≡ m → (o : Option Part) → f (suc n) ≡ o
        → part_at (cons_option (option_map (λ p. (suc n, p)) (f (suc n))) (collected f (above (suc n) k))) m ≡ f (suc n)
    here e None q =
        ap (λ o. part_at (cons_option (option_map (λ p. (suc n, p)) o) (collected f (above (suc n) k))) m) q
        ∙ collected_low f (suc n) k m (omega arith) ∙ sym q
    here e (Some p) q =
        ap (λ o. part_at (cons_option (option_map (λ p. (suc n, p)) o) (collected f (above (suc n) k))) m) q
        ∙ part_here (suc n, p) (collected f (above (suc n) k)) m e ∙ sym q

    there : (suc n ≡ m → ⊥) → (o : Option Part) → part_at (collected f (above (suc n) k)) m ≡ f m
        → part_at (cons_option (option_map (λ p. (suc n, p)) o) (collected f (above (suc n) k))) m ≡ f m
    there e None ih = ih
    there e (Some p) ih = part_behind (suc n, p) (collected f (above (suc n) k)) m e ∙ ih

-- of numbers up to n what f gives, and nothing else, where f gives nothing else
pub read_at : (f : ℕ → Option Part) (n m : ℕ) → ((0 < m → m ≤ n → ⊥) → f m ≡ None)
    → part_at (filter_map (λ k. option_map (λ p. (k, p)) (f k)) (up_to n)) m ≡ f m
read_at f n m h = ap (λ ns. part_at (collected f ns) m) (above_none n) ∙ elim (cases_lt 0 m) [
  | inr l ↦ collected_low f 0 n m l ∙ sym (h (λ a b. omega arith))
  | inl l ↦ elim (cases_lt n m) [
    | inl k ↦ collected_high f 0 n m (omega arith) ∙ sym (h (λ a b. omega arith))
    | inr k ↦ collected_at f 0 n m l (omega arith)
  ]
]
