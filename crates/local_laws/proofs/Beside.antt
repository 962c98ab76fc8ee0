-- Who holds an operation, by which of its ancestors were told committed; and beside a top action's write no other top action holds anything.
use Rattle.std.proofs.Common.{Bool, List, None, Option, Some, [], ap, cond, false, inl, inr, is_none, map, not, refl, sym, true, ◌++◌, ◌∙◌, ◌∷◌, ◌≡◌, ◌⊎◌}
use Rattle.std.proofs.lemmas.Bool.{false≢true, not-false, or_cases}
use Rattle.std.specs.List.{AllByRecursion, list_any}
use Rattle.action_names.specs.Names.{Name, is_ancestor, is_top, same_name, top_of}
use Rattle.atomic_types.specs.declared.op.Class.{Class}
use Rattle.atomic_types.specs.declared.op.Class.TheVariants.{Read, Write}
use Rattle.atomic_types.specs.declared.op.Class.TheVariants as class
use Rattle.atomic_types.specs.Operations.{class_of, classes_conflict, is_write, is_write_class}
use Rattle.run_model.specs.Actions.{is_exactly}
use Rattle.run_model.specs.Keeping.{Performed}
use Rattle.run_model.specs.Telling.{holder_by}
use Rattle.run_laws.proofs.Each.{Each}
use Rattle.run_laws.proofs.Names.{clash, same_name_self, same_name_true}
use Rattle.run_laws.proofs.Seen.{last_facts}
use Rattle.local_laws.specs.Orderly.{AreOrderly, IsUnder}
use Rattle.local_laws.proofs.Orderly.{holder_is, writes_conflict}
use Rattle.local_laws.proofs.Prepared.{above_top, one_top}
use Rattle.local_laws.proofs.Ruled.{of_kept}
use Rattle.local_laws.proofs.Written.{held_by, is_held}

-- the holder of this name
pub exactly : (h : Option Name) (t : Name) → is_exactly h t ≡ true → h ≡ Some t
exactly None t k = absurd (false≢true k)
exactly (Some d) t k = ap (λ c. Some c) (same_name_true d t k)

-- an untold ancestor, or none
untold_above : (told : Name → Bool) (b c : Name) → is_ancestor c b ≡ true
    → (told c ≡ true) ⊎ ((d : Name) × (holder_by told b ≡ Some d) × (is_ancestor c d ≡ true))
untold_above told b c k = elim (last_facts (λ a. not (told a)) b c k) [ inl x ↦ inl (not-false _ x) | inr x ↦ inr x ]

-- what belongs to the base: all above it was told committed
pub all_told : (told : Name → Bool) (b : Name) → is_none (holder_by told b) ≡ true → (c : Name) → is_ancestor c b ≡ true → told c ≡ true
all_told told b h c k = elim (untold_above told b c k) [ inl x ↦ x | inr x ↦ absurd (false≢true (sym (ap (λ o. is_none o) x.1) ∙ h)) ]

pub told_all : (told : Name → Bool) (b : Name) → ((c : Name) → is_ancestor c b ≡ true → told c ≡ true) → is_none (holder_by told b) ≡ true
told_all told b h = of (holder_by told b) refl
  where
    of : (o : Option Name) → holder_by told b ≡ o → is_none o ≡ true
    of None e = refl
    of (Some d) e = let q = holder_is told b d e in absurd (clash (h d q.0) q.1)

-- what a top action holds: all above it but the top action was told committed
pub record IsHeld (told : Name → Bool) (t b : Name) : Type 0 where
  pub above : is_ancestor t b ≡ true
  pub untold : told t ≡ false
  pub others : (c : Name) → is_ancestor c b ≡ true → is_top c ≡ false → told c ≡ true

pub held_facts : (told : Name → Bool) (t b : Name) → is_top t ≡ true → is_exactly (holder_by told b) t ≡ true → IsHeld told t b
held_facts told t b k h =
    let e = exactly (holder_by told b) t h in
    let q = holder_is told b t e in
    record {
      above = q.0;
      untold = q.1;
      others = λ c l u. elim (untold_above told b c l) [
        | inl x ↦ x
        | inr x ↦
            let same : Some x.0 ≡ Some t = sym x.1 ∙ e in
            let is : x.0 ≡ t = cc in
            absurd (clash k (ap is_top (sym (same_name_true c t (sym (above_top c t k) ∙ ap (λ d. is_ancestor c d) (sym is) ∙ x.2))) ∙ u))
      ];
    }

pub held_from : (told : Name → Bool) (t b : Name) → is_top t ≡ true → IsHeld told t b → is_exactly (holder_by told b) t ≡ true
held_from told t b k h = elim (untold_above told b t h.above) [
  | inl x ↦ absurd (clash x h.untold)
  | inr x ↦
      let q = holder_is told b x.0 x.1 in
      ap (λ o. is_exactly o t) x.1 ∙ of x.0 q.0 q.1 (is_top x.0) refl
]
  where
    of : (d : Name) → is_ancestor d b ≡ true → told d ≡ false → (u : Bool) → is_top d ≡ u → same_name d t ≡ true
    of d l n true u = ap (λ c. same_name c t) (one_top d t b u k l h.above) ∙ same_name_self t
    of d l n false u = absurd (clash (h.others d l u) n)

-- ---- beside a write

-- its top action was told committed, or is t
abbrev pub IsBeside : (Name → Bool) → Name → Performed → Type 0
IsBeside told t o = told (top_of o.action) ≡ false → is_ancestor (top_of o.action) o.action ≡ true → top_of o.action ≡ t

top_is_top : (b : Name) → is_ancestor (top_of b) b ≡ true → is_top (top_of b) ≡ true
top_is_top [] h = absurd (false≢true h)
top_is_top (n ∷ b) h = refl

conflicts_write : (c d : Class) → is_write_class d ≡ true → classes_conflict c d ≡ true
conflicts_write Read Write h = refl
conflicts_write class.Add Write h = refl
conflicts_write Write d h = refl
conflicts_write c Read h = absurd (false≢true h)
conflicts_write c class.Add h = absurd (false≢true h)

module _ (told : Name → Bool) (t : Name) (top : is_top t ≡ true) where
  -- what is under t is of t's tree
  under_it : (o : Performed) → is_ancestor t o.action ≡ true → IsBeside told t o
  under_it o k n l = one_top (top_of o.action) t o.action (top_is_top o.action l) top l k

  -- older than t's write
  older : (q : Performed) (os : List Performed) → is_ancestor t q.action ≡ true → is_write q.operation ≡ true
      → AllByRecursion (λ e. IsUnder told (of_kept q) e) (map of_kept os ++ []) → Each (IsBeside told t) os
  older q [] k w h = tt
  older q (o ∷ os) k w h = (
    (λ n l. one_top (top_of o.action) t q.action (top_is_top o.action l) top (h.0 (conflicts_write (class_of o.operation) (class_of q.operation) w) (top_of o.action) l n) k),
    older q os k w h.1,
  )

  -- newer than t's write
  newer : (q : Performed) (os : List Performed) → AllByRecursion (λ e. IsUnder told (of_kept q) e) (map of_kept os ++ [])
      → list_any (λ o. is_write o.operation) (held_by told t os) ≡ true → is_ancestor t q.action ≡ true
  newer q [] h w = absurd (false≢true w)
  newer q (o ∷ os) h w = of (is_held told t o) refl w (newer q os h.1)
    where
      of : (s : Bool) → is_held told t o ≡ s → list_any (λ p. is_write p.operation) (cond s (o ∷ held_by told t os) (held_by told t os)) ≡ true
          → (list_any (λ p. is_write p.operation) (held_by told t os) ≡ true → is_ancestor t q.action ≡ true) → is_ancestor t q.action ≡ true
      of false e k ih = ih k
      of true e k ih = elim (or_cases _ _ k) [
        | inl x ↦
            let held = held_facts told t o.action top e in
            h.0 (writes_conflict (class_of o.operation) (class_of q.operation) x) t held.above held.untold
        | inr x ↦ ih x
      ]

  -- So where t holds a write, no other top action that was not told committed holds anything.
  pub alone_beside : (os : List Performed) → AreOrderly told (map of_kept os ++ []) → list_any (λ o. is_write o.operation) (held_by told t os) ≡ true
      → Each (IsBeside told t) os
  alone_beside [] h w = tt
  alone_beside (q ∷ os) h w = of (is_held told t q) refl w (λ k. alone_beside os h.1 k)
    where
      of : (s : Bool) → is_held told t q ≡ s → list_any (λ p. is_write p.operation) (cond s (q ∷ held_by told t os) (held_by told t os)) ≡ true
          → (list_any (λ p. is_write p.operation) (held_by told t os) ≡ true → Each (IsBeside told t) os) → Each (IsBeside told t) (q ∷ os)
      of false e k ih = (under_it q (newer q os h.0 k), ih k)
      of true e k ih = elim (or_cases _ _ k) [
        | inl x ↦ let held = held_facts told t q.action top e in (under_it q held.above, older q os held.above x h.0)
        | inr x ↦ (under_it q (newer q os h.0 x), ih x)
      ]
