-- A record's parts, laid one after another, leave at each number what is installed over what was there.
use Rattle.std.proofs.Common.{List, None, Option, Some, [], ap, ap₂, arith, cond, filter_map, inl, inr, option_map, refl, subst, suc, sym, zero, ℕ, ◌++◌, ◌==◌, ◌∙◌, ◌∷◌, ◌≡◌, ◌≤◌}
use Rattle.std.proofs.lemmas.Bool.{cases_eq, eq-eqb, ne_eqb}
use Rattle.std.proofs.lemmas.List.{append-nil, reverse-append}
use Rattle.std.proofs.lemmas.List.Elements.{filter_map-append}
use Rattle.std.specs.Cmp.{nat_cmp_total, unsigned_tied}
use Rattle.std.specs.FinMap as map
use Rattle.std.specs.List.{AllByRecursion, cons_option}
use Rattle.std.specs.Ordering.{nat_cmp}
use Rattle.atomic_types.specs.declared.part.Part.{Part}
use Rattle.atomic_types.specs.Parts.{over}
use Rattle.run_model.specs.Lists.{down_from, up_to}
use Rattle.run_model.specs.Openings.{part_at}
use Rattle.run_model.specs.StableContent.{installed_over}
use Rattle.stable_store.specs.Stored.{laid, put_over}
use Rattle.local_laws.specs.Reopened.{AreRising}
use Rattle.local_laws.proofs.Numbered.{part_behind, part_here}

-- each number with what f gives there
abbrev numbered : (ℕ → Option Part) → ℕ → Option (ℕ × Part)
numbered f m = option_map (λ p. (m, p)) (f m)

-- the parts rise, and none stands above n
record RiseTo (n : ℕ) (parts : List (ℕ × Part)) : Type 0 where
  rising : AreRising 0 parts
  within : AllByRecursion (λ p. p.0 ≤ n) parts

within_still : (n : ℕ) (parts : List (ℕ × Part)) → AllByRecursion (λ p. p.0 ≤ n) parts → AllByRecursion (λ p. p.0 ≤ suc n) parts
within_still n [] w = tt
within_still n (p ∷ parts) w = let low = w.0 in (omega arith, within_still n parts w.1)

within_more : (n : ℕ) (q : Part) (parts : List (ℕ × Part)) → AllByRecursion (λ p. p.0 ≤ n) parts
    → AllByRecursion (λ p. p.0 ≤ suc n) (parts ++ (suc n, q) ∷ [])
within_more n q [] w = (omega arith, tt)
within_more n q (p ∷ parts) w = let low = w.0 in (omega arith, within_more n q parts w.1)

rising_more : (l n : ℕ) (q : Part) (parts : List (ℕ × Part)) → AreRising l parts → AllByRecursion (λ p. p.0 ≤ n) parts → l ≤ n
    → AreRising l (parts ++ (suc n, q) ∷ [])
rising_more l n q [] h w low = (omega arith, tt)
rising_more l n q (p ∷ parts) h w low = (h.0, rising_more p.0 n q parts h.1 w.1 w.0)

-- one number more
one_more : (n : ℕ) (o : Option Part) (parts : List (ℕ × Part)) → RiseTo n parts
    → RiseTo (suc n) (parts ++ cons_option (option_map (λ p. (suc n, p)) o) [])
one_more n None parts h = subst (RiseTo (suc n)) (sym (append-nil parts)) (record { rising = h.rising; within = within_still n parts h.within })
one_more n (Some q) parts h =
    record { rising = rising_more 0 n q parts h.rising h.within (omega arith); within = within_more n q parts h.within }

collected_rise : (f : ℕ → Option Part) (n : ℕ) → RiseTo n (filter_map (numbered f) (up_to n))
collected_rise f zero = record { rising = tt; within = tt }
collected_rise f (suc n) =
    subst (RiseTo (suc n))
    (sym (ap (λ ns. filter_map (numbered f) ns) (reverse-append (suc n ∷ []) (down_from n)) ∙ filter_map-append (numbered f) (up_to n) (suc n ∷ [])))
    (one_more n (f (suc n)) (filter_map (numbered f) (up_to n)) (collected_rise f n))

-- what is collected number by number rises
pub read_rises : (f : ℕ → Option Part) (n : ℕ) → AreRising 0 (filter_map (λ m. option_map (λ p. (m, p)) (f m)) (up_to n))
read_rises f n = (collected_rise f n).rising

pub turned : (m n : ℕ) → (m == n) ≡ (n == m)
turned m n = elim (cases_eq m n) [
  | inl e ↦ eq-eqb m n e ∙ sym (eq-eqb n m (sym e))
  | inr e ↦ ne_eqb m n e ∙ sym (ne_eqb n m (λ q. e (sym q)))
]

-- nothing stands at a number above which the parts are
none_low : (n m : ℕ) (parts : List (ℕ × Part)) → AreRising n parts → m ≤ n → part_at parts m ≡ None
none_low n m [] h l = refl
none_low n m (p ∷ parts) h l =
    let less = h.0 in
    part_behind p parts m (λ e. omega arith) ∙ none_low p.0 m parts h.1 (omega arith)

-- one key put, and one taken away
pub put_at : {X : Type 0} (m : map.FinMap nat_cmp X) (k n : ℕ) (x : X) → map.get (map.insert m k x) n ≡ cond (k == n) (Some x) (map.get m n)
put_at m k n x = map.get-insert nat_cmp_total m k x n ∙ ap (λ t. cond t (Some x) (map.get m n)) (unsigned_tied n k ∙ turned n k)

pub taken_at : {X : Type 0} (m : map.FinMap nat_cmp X) (k n : ℕ) → map.get (map.remove m k) n ≡ cond (k == n) None (map.get m n)
taken_at m k n = map.get-remove nat_cmp_total m k n ∙ ap (λ t. cond t None (map.get m n)) (unsigned_tied n k ∙ turned n k)

pub laid_at : (parts : List (ℕ × Part)) (l : ℕ) (base : map.FinMap nat_cmp Part) (n : ℕ) → AreRising l parts
    → map.get (laid parts base) n ≡ installed_over (part_at parts n) (map.get base n)
laid_at [] l base n h = refl
laid_at (p ∷ parts) l base n h = laid_at parts p.0 (put_over p.0 p.1 base) n h.1 ∙ elim (cases_eq p.0 n) [
  | inl e ↦
      ap₂ installed_over (none_low p.0 n parts h.1 (omega arith))
      (put_at base p.0 n (over p.1 (map.get base p.0)) ∙ ap (λ t. cond t (Some (over p.1 (map.get base p.0))) (map.get base n)) (eq-eqb p.0 n e))
      ∙ ap (λ m. Some (over p.1 (map.get base m))) e
      ∙ ap (λ o. installed_over o (map.get base n)) (sym (part_here p parts n e))
  | inr e ↦
      ap₂ installed_over (sym (part_behind p parts n e))
      (put_at base p.0 n (over p.1 (map.get base p.0)) ∙ ap (λ t. cond t (Some (over p.1 (map.get base p.0))) (map.get base n)) (ne_eqb p.0 n e))
]
