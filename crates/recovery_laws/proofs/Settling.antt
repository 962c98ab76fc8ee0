-- What the records of one store leave of it, from the least top action on.
use Rattle.std.proofs.Common.{Bool, List, None, Option, Some, T, [], ap, cond, false, fold, nat_cmp, refl, sym, true, ℕ, ◌∙◌, ◌∷◌, ◌≡◌}
use Rattle.std.specs.Cmp.{nat_cmp_total}
use Rattle.std.specs.FinMap as map
use Rattle.std.specs.FinMap.{nat_cmp-IsAntisymmetric}
use Rattle.std.specs.Ordering.{eq_by_cmp}
use Rattle.atomic_types.specs.declared.part.Part.{Part}
use Rattle.run_model.specs.Openings.{part_at}
use Rattle.run_model.specs.StableContent.{installed_over}
use Rattle.run_laws.proofs.Each.{Each}
use Rattle.local_laws.specs.Reopened.{AreRising}
use Rattle.stable_store.specs.Stored.{Record, Stored, after_discard, after_install, installed}
use Rattle.guardian_laws.proofs.Laid.{laid_at}
use Rattle.store_recovery.specs.Settling.{is_decided, settled_by}
use Rattle.recovery_laws.proofs.Entries.{at_first, first, second, without_first}

module _ (stores : List Stored) where
  -- what is installed of object n once this record has come to rest
  abbrev pub rests : ℕ → ℕ × Record → Option Part → Option Part
  rests n e part = cond (is_decided stores e.1.home e.0) (installed_over (part_at e.1.parts n) part) part

  -- a store with these records settled
  abbrev pub after_all : List (ℕ × Record) → Stored → Stored
  after_all es s = fold (λ t e. settled_by stores e t) s es

  -- the store has these records, and no others
  abbrev pub HasRecords : List (ℕ × Record) → Stored → Type 0
  HasRecords es s = (q : ℕ) → map.get s.prepared q ≡ map.find nat_cmp q es

  -- ---- one record

  one_base : (e : ℕ × Record) (s : Stored) (n : ℕ) → map.get s.prepared e.0 ≡ Some e.1 → AreRising 0 e.1.parts
      → map.get (settled_by stores e s).base n ≡ rests n e (map.get s.base n)
  one_base e s n has rise = of (is_decided stores e.1.home e.0)
    where
      of : (b : Bool) → map.get (cond b (after_install e.0 s) (after_discard e.0 s)).base n
          ≡ cond b (installed_over (part_at e.1.parts n) (map.get s.base n)) (map.get s.base n)
      of true = ap (λ r. map.get (installed r s.base) n) has ∙ laid_at e.1.parts 0 s.base n rise
      of false = refl

  -- what a call that settles leaves alike
  alike : {X : Type 0} (f : Stored → X) (e : ℕ × Record) (s : Stored) (x : X) → f (after_install e.0 s) ≡ x → f (after_discard e.0 s) ≡ x
      → f (settled_by stores e s) ≡ x
  alike f e s x at_install at_discard = of (is_decided stores e.1.home e.0)
    where
      of : (b : Bool) → f (cond b (after_install e.0 s) (after_discard e.0 s)) ≡ x
      of true = at_install
      of false = at_discard

  one_less : (e : ℕ × Record) (s : Stored) → (settled_by stores e s).prepared ≡ map.remove s.prepared e.0
  one_less e s = alike (λ t. t.prepared) e s (map.remove s.prepared e.0) refl refl

  has_behind : (e : ℕ × Record) (es : List (ℕ × Record)) (s : Stored) → T (map.is_sorted nat_cmp (e ∷ es)) → HasRecords (e ∷ es) s
      → HasRecords es (settled_by stores e s)
  has_behind e es s rise has q =
      ap (λ m. map.get m q) (one_less e s) ∙ map.get-remove nat_cmp_total s.prepared e.0 q
      ∙ ap (λ o. cond (eq_by_cmp nat_cmp q e.0) None o) (has q) ∙ without_first e es q (first _ _ rise)

  -- ---- all records

  pub all_bases : (n : ℕ) (es : List (ℕ × Record)) (s : Stored) → T (map.is_sorted nat_cmp es) → HasRecords es s
      → Each (λ e. AreRising 0 e.1.parts) es → map.get (after_all es s).base n ≡ fold (λ part e. rests n e part) (map.get s.base n) es
  all_bases n [] s rise has parts = refl
  all_bases n (e ∷ es) s rise has parts =
      all_bases n es (settled_by stores e s) (second _ _ rise) (has_behind e es s rise has) parts.1
      ∙ ap (λ part. fold (λ p f. rests n f p) part es) (one_base e s n (has e.0 ∙ at_first e es) parts.0)

  pub none_left : (es : List (ℕ × Record)) (s : Stored) → T (map.is_sorted nat_cmp es) → HasRecords es s → (after_all es s).prepared ≡ map.empty
  none_left [] s rise has = map.same_map nat_cmp_total nat_cmp-IsAntisymmetric s.prepared map.empty (λ q. has q ∙ sym (map.get-empty nat_cmp q))
  none_left (e ∷ es) s rise has = none_left es (settled_by stores e s) (second _ _ rise) (has_behind e es s rise has)

  -- what each call leaves as it is
  same_by_all : {X : Type 0} (f : Stored → X) → ((e : ℕ × Record) (s : Stored) → f (settled_by stores e s) ≡ f s)
      → (es : List (ℕ × Record)) (s : Stored) → f (after_all es s) ≡ f s
  same_by_all f same [] s = refl
  same_by_all f same (e ∷ es) s = same_by_all f same es (settled_by stores e s) ∙ same e s

  pub same_decided : (es : List (ℕ × Record)) (s : Stored) → (after_all es s).decided ≡ s.decided
  same_decided = same_by_all (λ t. t.decided) (λ e s. alike (λ t. t.decided) e s s.decided refl refl)

  pub same_count : (es : List (ℕ × Record)) (s : Stored) → (after_all es s).count ≡ s.count
  same_count = same_by_all (λ t. t.count) (λ e s. alike (λ t. t.count) e s s.count refl refl)

  pub same_next_top : (es : List (ℕ × Record)) (s : Stored) → (after_all es s).next_top ≡ s.next_top
  same_next_top = same_by_all (λ t. t.next_top) (λ e s. alike (λ t. t.next_top) e s s.next_top refl refl)
