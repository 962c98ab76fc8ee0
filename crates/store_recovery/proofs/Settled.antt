-- One record settled leaves what is settled as it is.
use Rattle.std.proofs.Common.{◌≡◌, ℕ, zero, suc, Bool, true, false, List, ◌∷◌, ◌++◌, fold, map as each, Option, Some, None, option_map, slice_get, if◌then◌else◌, nat_cmp, refl, sym, ap, ◌∙◌}
use Rattle.std.specs.FinMap as map
use Rattle.std.specs.FinSet as set
use Rattle.std.proofs.lemmas.List.{map-append}
use Rattle.std.proofs.lemmas.Option.{slice_get-map}
use Rattle.stable_store.specs.Stored.{Record, Stored, after_discard, after_install}
use Rattle.store_recovery.specs.Settling.{has_decided, is_decided, settled, settled_by}
use Rattle.store_recovery.specs.Steps.{HasFirst}
use Rattle.store_recovery.proofs.Entries.{first_removed}

-- what a top action's record makes of a store, by what homes decided
abbrev pub by : (ℕ → ℕ → Bool) → ℕ × Record → Stored → Stored
by decided e s = if decided e.1.home e.0 then after_install e.0 s else after_discard e.0 s

abbrev pub settled_with : (ℕ → ℕ → Bool) → Stored → Stored
settled_with decided s = fold (λ t e. by decided e t) s (map.entries s.prepared)

either : {X : Type 0} (f : Stored → X) (b : Bool) (s t : Stored) (x : X) → f s ≡ x → f t ≡ x → f (if b then s else t) ≡ x
either f true s t x at_s at_t = at_s
either f false s t x at_s at_t = at_t

module _ (decided : ℕ → ℕ → Bool) (e : ℕ × Record) (s : Stored) where
  abbrev next : Stored
  next = by decided e s

  pub same_decided : next.decided ≡ s.decided
  same_decided = either (λ t. t.decided) (decided e.1.home e.0) _ _ s.decided refl refl

  pub same_count : next.count ≡ s.count
  same_count = either (λ t. t.count) (decided e.1.home e.0) _ _ s.count refl refl

  pub same_next_top : next.next_top ≡ s.next_top
  same_next_top = either (λ t. t.next_top) (decided e.1.home e.0) _ _ s.next_top refl refl

  pub one_less : next.prepared ≡ map.remove s.prepared e.0
  one_less = either (λ t. t.prepared) (decided e.1.home e.0) _ _ (map.remove s.prepared e.0) refl refl

  -- the rest is settled as before
  pub settled_on : HasFirst s e → settled_with decided next ≡ settled_with decided s
  settled_on first =
      ap (λ es. fold (λ t r. by decided r t) next es) (ap map.entries one_less ∙ first_removed s.prepared e first.0 first.1)
      ∙ sym (ap (λ es. fold (λ t r. by decided r t) s es) first.1)

-- ---- the decisions alone

abbrev decided_in : List Stored → List (set.FinSet nat_cmp)
decided_in stores = each (λ s. s.decided) stores

abbrev says : Option (set.FinSet nat_cmp) → ℕ → Bool
says None top = false
says (Some d) top = set.contains d top

abbrev says_at : List (set.FinSet nat_cmp) → ℕ → ℕ → Bool
says_at ds zero top = false
says_at ds (suc n) top = says (slice_get ds n) top

says_so : (o : Option Stored) (top : ℕ) → has_decided o top ≡ says (option_map (λ s. s.decided) o) top
says_so None top = refl
says_so (Some s) top = refl

decided_says : (stores : List Stored) (home top : ℕ) → is_decided stores home top ≡ says_at (decided_in stores) home top
decided_says stores zero top = refl
decided_says stores (suc n) top = says_so (slice_get stores n) top ∙ ap (λ o. says o top) (sym (slice_get-map (λ s. s.decided) stores n))

-- stores with the same decisions decide alike
pub decided_alike : (xs ys : List Stored) → each (λ s. s.decided) ys ≡ each (λ s. s.decided) xs → is_decided ys ≡ is_decided xs
decided_alike xs ys same =
    λ i home top. (decided_says ys home top ∙ ap (λ ds. says_at ds home top) same ∙ sym (decided_says xs home top)) i

pub settled_alike : (xs ys : List Stored) → each (λ s. s.decided) ys ≡ each (λ s. s.decided) xs → settled ys ≡ each (λ s. settled_with (is_decided xs) s) ys
settled_alike xs ys same = ap (λ d. each (λ s. settled_with d s) ys) (decided_alike xs ys same)

-- ---- one store among others

module _ (before : List Stored) (s : Stored) (behind : List Stored) where
  abbrev among : Stored → List Stored
  among t = before ++ t ∷ behind

  each_among : {X : Type 0} (f : Stored → X) (t : Stored) → f t ≡ f s → each f (among t) ≡ each f (among s)
  each_among f t same =
      map-append f before (t ∷ behind) ∙ ap (λ x. each f before ++ x ∷ each f behind) same ∙ sym (map-append f before (s ∷ behind))

  -- what is settled, once the first record of this one is
  pub settled_among : (e : ℕ × Record) → HasFirst s e → settled (among (settled_by (among s) e s)) ≡ settled (among s)
  settled_among e first =
      let d = is_decided (among s) in
      settled_alike (among s) (among (by d e s)) (each_among (λ t. t.decided) (by d e s) (same_decided d e s))
      ∙ each_among (λ t. settled_with d t) (by d e s) (settled_on d e s first)
