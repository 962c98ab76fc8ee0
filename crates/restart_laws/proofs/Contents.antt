-- What belongs to a guardian's store, by its maps; and settling keeps it so.
use Rattle.std.proofs.Common.{Bool, List, None, Option, Some, [], ap, cond, eqb-true, false, fold, nat_cmp, refl, subst, sym, true, ℕ, ◌∙◌, ◌∷◌, ◌≡◌}
use Rattle.std.specs.Cmp.{nat_cmp_total, unsigned_tied}
use Rattle.std.specs.FinMap as map
use Rattle.std.specs.List.{list_all}
use Rattle.std.specs.Ordering.{eq_by_cmp}
use Rattle.std.proofs.lemmas.Bool.{and_from, and_parts}
use Rattle.std.proofs.lemmas.Option.{none-some, same_Some}
use Rattle.values.specs.declared.content.Content.{Content}
use Rattle.atomic_types.specs.declared.part.Part.{Part}
use Rattle.atomic_types.specs.Parts.{over}
use Rattle.run_model.specs.Openings.{Setup, objects_at}
use Rattle.run_laws.proofs.Each.{Each, each_map}
use Rattle.stable_store.specs.Stored.{Record, Stored, after_discard, after_install, installed, laid, put_over}
use Rattle.recovery_laws.proofs.Entries.{all_found}
use Rattle.store_recovery.specs.Belonging.{all_suit, belongs, object_at, record_belongs, suits}
use Rattle.store_recovery.specs.Settling.{IsSettledInPart, is_decided, settled_by, settled_store}
use Rattle.restart_laws.proofs.Parts.{SuitsWhere, over_suits}

-- ---- maps

module _ {X : Type 0} (test : ℕ → X → Bool) where
  all_pass : (es : List (ℕ × X)) → Each (λ e. test e.0 e.1 ≡ true) es → list_all (λ e. test e.0 e.1) es ≡ true
  all_pass [] h = refl
  all_pass (e ∷ es) h = and_from _ _ h.0 (all_pass es h.1)

  -- each entry passes where each number's does
  entries_pass : (m : map.FinMap nat_cmp X) → ((n : ℕ) (x : X) → map.get m n ≡ Some x → test n x ≡ true)
      → list_all (λ e. test e.0 e.1) (map.entries m) ≡ true
  entries_pass m each =
      all_pass (map.entries m)
      (each_map _ _ (map.entries m) (λ e found. each e.0 e.1 (map.get-entries m e.0 ∙ found))
      (all_found (map.entries m) (map.entries_sorted m)))

  found_passes : (es : List (ℕ × X)) → list_all (λ e. test e.0 e.1) es ≡ true
      → (n : ℕ) (x : X) → map.find nat_cmp n es ≡ Some x → test n x ≡ true
  found_passes [] h n x at = absurd (none-some x at)
  found_passes (e ∷ es) h n x at = of (eq_by_cmp nat_cmp n e.0) refl at (found_passes es (and_parts _ _ h).1 n x)
    where
      of : (b : Bool) → eq_by_cmp nat_cmp n e.0 ≡ b → cond b (Some e.1) (map.find nat_cmp n es) ≡ Some x
          → (map.find nat_cmp n es ≡ Some x → test n x ≡ true) → test n x ≡ true
      of true is k ih =
          let number = eqb-true n e.0 (sym (unsigned_tied n e.0) ∙ is) in
          ap (λ m. test m x) number ∙ ap (test e.0) (sym (same_Some e.1 x k)) ∙ (and_parts _ _ h).0
      of false is k ih = ih k

  -- and back
  entry_passes : (m : map.FinMap nat_cmp X) → list_all (λ e. test e.0 e.1) (map.entries m) ≡ true
      → (n : ℕ) (x : X) → map.get m n ≡ Some x → test n x ≡ true
  entry_passes m h n x at = found_passes (map.entries m) h n x (sym (map.get-entries m n) ∙ at)

-- each part suits its object
abbrev pub BaseSuits : List Content → map.FinMap nat_cmp Part → Type 0
BaseSuits objects base = (n : ℕ) → SuitsWhere (object_at objects n) (map.get base n)

suiting : (object : Option Content) (o : Option Part) → ((part : Part) → o ≡ Some part → suits object part ≡ true) → SuitsWhere object o
suiting object None h = tt
suiting object (Some part) h = h part refl

suiting_one : (object : Option Content) (o : Option Part) (part : Part) → SuitsWhere object o → o ≡ Some part → suits object part ≡ true
suiting_one object None part h e = absurd (none-some part e)
suiting_one object (Some old) part h e = subst (λ p. suits object p ≡ true) (same_Some old part e) h

-- what the store of guardian g may contain
pub record Fits (setup : Setup) (g : ℕ) (s : Stored) : Type 0 where
  pub base : BaseSuits (objects_at setup g) s.base
  pub prepared : (top : ℕ) (r : Record) → map.get s.prepared top ≡ Some r → record_belongs setup (objects_at setup g) r ≡ true

module _ (setup : Setup) (g : ℕ) where
  abbrev objects : List Content
  objects = objects_at setup g

  pub belongs_from : (s : Stored) → Fits setup g s → belongs setup g s ≡ true
  belongs_from s f =
      and_from _ _
      (entries_pass (λ n part. suits (object_at objects n) part) s.base
      (λ n part at. suiting_one (object_at objects n) (map.get s.base n) part (f.base n) at))
      (entries_pass (λ top r. record_belongs setup objects r) s.prepared f.prepared)

  pub fits_from : (s : Stored) → belongs setup g s ≡ true → Fits setup g s
  fits_from s h =
      let both = and_parts _ _ h in
      record {
        base = λ n. suiting (object_at objects n) (map.get s.base n)
            (λ part at. entry_passes (λ m p. suits (object_at objects m) p) s.base both.0 n part at);
        prepared = entry_passes (λ top r. record_belongs setup objects r) s.prepared both.1;
      }

  -- ---- settling

  put_suits : (object : ℕ) (part : Part) (base : map.FinMap nat_cmp Part) → suits (object_at objects object) part ≡ true
      → BaseSuits objects base → BaseSuits objects (put_over object part base)
  put_suits object part base h k n =
      subst (λ o. SuitsWhere (object_at objects n) o) (sym (map.get-insert nat_cmp_total base object put n))
      (of (eq_by_cmp nat_cmp n object) refl)
    where
      put : Part
      put = over part (map.get base object)

      of : (b : Bool) → eq_by_cmp nat_cmp n object ≡ b → SuitsWhere (object_at objects n) (cond b (Some put) (map.get base n))
      of true is =
          let number = eqb-true n object (sym (unsigned_tied n object) ∙ is) in
          subst (λ m. suits (object_at objects m) put ≡ true) (sym number)
          (over_suits (object_at objects object) part (map.get base object) h (k object))
      of false is = k n

  laid_suits : (parts : List (ℕ × Part)) (base : map.FinMap nat_cmp Part) → all_suit objects parts ≡ true → BaseSuits objects base
      → BaseSuits objects (laid parts base)
  laid_suits [] base h k = k
  laid_suits (p ∷ parts) base h k =
      let both = and_parts _ _ h in
      laid_suits parts (put_over p.0 p.1 base) both.1 (put_suits p.0 p.1 base both.0 k)

  -- what a record installs
  record_suits : (s : Stored) (top : ℕ) → Fits setup g s → BaseSuits objects (installed (map.get s.prepared top) s.base)
  record_suits s top f = of (map.get s.prepared top) refl
    where
      of : (o : Option Record) → map.get s.prepared top ≡ o → BaseSuits objects (installed o s.base)
      of None e = f.base
      of (Some r) e = laid_suits r.parts s.base (and_parts _ _ (and_parts _ _ (f.prepared top r e)).1).1 f.base

  -- the records that are left
  left_belong : (s : Stored) (top : ℕ) → Fits setup g s → (q : ℕ) (r : Record) → map.get (map.remove s.prepared top) q ≡ Some r
      → record_belongs setup objects r ≡ true
  left_belong s top f q r at = of (eq_by_cmp nat_cmp q top) (sym (map.get-remove nat_cmp_total s.prepared top q) ∙ at)
    where
      of : (b : Bool) → cond b None (map.get s.prepared q) ≡ Some r → record_belongs setup objects r ≡ true
      of true k = absurd (none-some r k)
      of false k = f.prepared q r k

  one_fits : (stores : List Stored) (e : ℕ × Record) (s : Stored) → Fits setup g s → Fits setup g (settled_by stores e s)
  one_fits stores e s f = of (is_decided stores e.1.home e.0)
    where
      of : (b : Bool) → Fits setup g (cond b (after_install e.0 s) (after_discard e.0 s))
      of true = record { base = record_suits s e.0 f; prepared = left_belong s e.0 f }
      of false = record { base = f.base; prepared = left_belong s e.0 f }

  all_fit : (stores : List Stored) (es : List (ℕ × Record)) (s : Stored) → Fits setup g s
      → Fits setup g (fold (λ t e. settled_by stores e t) s es)
  all_fit stores [] s f = f
  all_fit stores (e ∷ es) s f = all_fit stores es (settled_by stores e s) (one_fits stores e s f)

  -- some of the records
  pub in_part_belongs : (stores : List Stored) (s t : Stored) → IsSettledInPart stores s t → belongs setup g s ≡ true
      → belongs setup g t ≡ true
  in_part_belongs stores s t p h =
      let f = all_fit stores p.records s (fits_from s h) in
      belongs_from t (record {
        base = subst (BaseSuits objects) (sym p.base) f.base;
        prepared = subst AreRecords (sym p.prepared) f.prepared;
      })
    where
      AreRecords : map.FinMap nat_cmp Record → Type 0
      AreRecords m = (top : ℕ) (r : Record) → map.get m top ≡ Some r → record_belongs setup objects r ≡ true

  pub settled_belongs : (stores : List Stored) (s : Stored) → belongs setup g s ≡ true → belongs setup g (settled_store stores s) ≡ true
  settled_belongs stores s h = belongs_from (settled_store stores s) (all_fit stores (map.entries s.prepared) s (fits_from s h))
