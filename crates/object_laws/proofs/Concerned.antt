-- Whether a telling of an outcome concerns what is held of an object: its locks say it.
use Rattle.std.proofs.Common.{Bool, List, Option, [], ap, ap₂, false, inl, inr, map, not, refl, sym, true, ◌&&◌, ◌∙◌, ◌∷◌, ◌≡◌, ◌||◌}
use Rattle.std.proofs.lemmas.Bool.{false≢true, or_cases, or_left, or_right}
use Rattle.std.specs.List.{list_any}
use Rattle.action_names.specs.Names.{Name, has_name, is_ancestor, same_name}
use Rattle.atomic_types.specs.declared.op.Class.{Class}
use Rattle.atomic_types.specs.declared.op.Class.TheVariants.{Read, Write}
use Rattle.atomic_types.specs.declared.op.Class.TheVariants as class
use Rattle.atomic_types.specs.declared.part.Part.{Part}
use Rattle.atomic_types.specs.Operations.{is_add_class, is_read_class, is_write_class}
use Rattle.run_model.specs.Actions.{is_exactly}
use Rattle.run_model.specs.Keeping.{Performed, Standing}
use Rattle.run_model.specs.Telling.{holder_by}
use Rattle.run_laws.proofs.Names.{ancestor_trans, any_name}
use Rattle.local_laws.proofs.Acts.{Act, acts_by, deed_of}
use Rattle.local_laws.proofs.Orderly.{holder_is}
use Rattle.object_model.specs.Locks.{Locks, has_below}
use Rattle.object_laws.specs.Laws.{ConcernedShown}
use Rattle.object_laws.proofs.Choosing.{above_holder, exactly, exactly_self}
use Rattle.object_laws.proofs.Held.{any_append, held, holds, or_turned, to_acts}

-- ---- over acts

any_kept : (p : Name → Bool) (os : List Performed) → list_any (λ (x : Act). p (deed_of x).0) (map (λ o. inl o) os) ≡ list_any (λ (o : Performed). p o.action) os
any_kept p [] = refl
any_kept p (o ∷ os) = ap (λ t. p o.action || t) (any_kept p os)

any_back : (p : Name → Bool) (rs : List (Name × Part)) → list_any (λ (x : Act). p (deed_of x).0) (map (λ r. inr r) rs) ≡ list_any (λ (r : Name × Part). p r.0) rs
any_back p [] = refl
any_back p (r ∷ rs) = ap (λ t. p r.0 || t) (any_back p rs)

-- of whom what is kept or was given back, by acts
any_acts : (p : Name → Bool) (s : Standing)
    → (list_any (λ (r : Name × Part). p r.0) s.restored || list_any (λ (o : Performed). p o.action) s.kept) ≡ list_any (λ (x : Act). p (deed_of x).0) (acts_by s)
any_acts p s =
    ap₂ (λ t u. t || u) (sym (any_back p s.restored)) (sym (any_kept p s.kept))
    ∙ or_turned (list_any (λ (x : Act). p (deed_of x).0) (map (λ r. inr r) s.restored)) (list_any (λ (x : Act). p (deed_of x).0) (map (λ o. inl o) s.kept))
    ∙ sym (any_append (λ (x : Act). p (deed_of x).0) (map (λ o. inl o) s.kept) (map (λ r. inr r) s.restored))

-- whoever holds an act holds one that reads, writes or adds
any_class : (hold : Act → Option Name) (a : Name) (xs : List Act)
    → list_any (λ x. is_exactly (hold x) a) xs ≡ (holds hold is_read_class a xs || (holds hold is_write_class a xs || holds hold is_add_class a xs))
any_class hold a [] = refl
any_class hold a (x ∷ xs) =
    ap (λ t. is_exactly (hold x) a || t) (any_class hold a xs)
    ∙ of (is_exactly (hold x) a) (deed_of x).1 (holds hold is_read_class a xs) (holds hold is_write_class a xs) (holds hold is_add_class a xs)
  where
    of : (e : Bool) (k : Class) (r w d : Bool)
        → (e || (r || (w || d))) ≡ (((e && is_read_class k) || r) || (((e && is_write_class k) || w) || ((e && is_add_class k) || d)))
    of false k r w d = refl
    of true Read r w d = refl
    of true Write true w d = refl
    of true Write false w d = refl
    of true class.Add true w d = refl
    of true class.Add false true d = refl
    of true class.Add false false d = refl

-- two tests that imply one another
alike : (t u : Bool) → (t ≡ true → u ≡ true) → (u ≡ true → t ≡ true) → t ≡ u
alike true u f g = sym (f refl)
alike false true f g = g refl
alike false false f g = refl

-- ---- by the locks

module _ (told : Name → Bool) (xs : List Act) (locks : Locks)
    (readers : (a : Name) → has_name locks.readers a ≡ holds (λ x. held told x) is_read_class a xs)
    (writers : (a : Name) → has_name locks.writers a ≡ holds (λ x. held told x) is_write_class a xs)
    (adders : (a : Name) → (has_name locks.adders a && not (has_name locks.writers a))
    ≡ (holds (λ x. held told x) is_add_class a xs && not (holds (λ x. held told x) is_write_class a xs))) where
  -- an action that holds an act has a lock
  locked_is : (a : Name) → (has_name locks.readers a || (has_name locks.writers a || has_name locks.adders a)) ≡ list_any (λ x. is_exactly (held told x) a) xs
  locked_is a =
      ap₂ (λ t u. t || u) (readers a) (of (has_name locks.writers a) (has_name locks.adders a) (holds (λ x. held told x) is_write_class a xs) (holds (λ x. held told x) is_add_class a xs) (writers a) (adders a))
      ∙ sym (any_class (λ x. held told x) a xs)
    where
      of : (w d v e : Bool) → w ≡ v → (d && not w) ≡ (e && not v) → (w || d) ≡ (v || e)
      of true d true e p q = refl
      of true d false e p q = absurd (false≢true (sym p))
      of false d true e p q = absurd (false≢true p)
      of false d false e p q = sym (whole d) ∙ q ∙ whole e
        where
          whole : (t : Bool) → (t && true) ≡ t
          whole true = refl
          whole false = refl

  -- an act of a descendant of an untold action is held at or below that
  held_below : (a : Name) → told a ≡ false → (ys : List Act) → list_any (λ x. is_ancestor a (deed_of x).0) ys ≡ true
      → (d : Name) × (is_ancestor a d ≡ true) × (list_any (λ x. is_exactly (held told x) d) ys ≡ true)
  held_below a n [] h = absurd (false≢true h)
  held_below a n (x ∷ ys) h = elim (or_cases (is_ancestor a (deed_of x).0) (list_any (λ x. is_ancestor a (deed_of x).0) ys) h) [
    | inl q ↦
        let f = above_holder told (deed_of x).0 a q n in
        (f.0, f.2, or_left (is_exactly (held told x) f.0) _ (ap (λ o. is_exactly o f.0) f.1 ∙ exactly_self f.0))
    | inr q ↦ let f = held_below a n ys q in (f.0, f.1, or_right (is_exactly (held told x) f.0) _ f.2)
  ]

  -- and what is held there is of a descendant
  act_below : (a b : Name) → is_ancestor a b ≡ true → (ys : List Act) → list_any (λ x. is_exactly (held told x) b) ys ≡ true
      → list_any (λ x. is_ancestor a (deed_of x).0) ys ≡ true
  act_below a b k [] h = absurd (false≢true h)
  act_below a b k (x ∷ ys) h = elim (or_cases (is_exactly (held told x) b) (list_any (λ x. is_exactly (held told x) b) ys) h) [
    | inl q ↦
        or_left (is_ancestor a (deed_of x).0) _ (ancestor_trans a b (deed_of x).0 k (holder_is told (deed_of x).0 b (exactly (held told x) b q)).0)
    | inr q ↦ or_right (is_ancestor a (deed_of x).0) _ (act_below a b k ys q)
  ]

  -- one of the names is at or below a
  below_is : (a : Name) (ns : List Name) → has_below ns a ≡ true → (b : Name) × (has_name ns b ≡ true) × (is_ancestor a b ≡ true)
  below_is a [] h = absurd (false≢true h)
  below_is a (b ∷ ns) h = elim (or_cases (is_ancestor a b) (has_below ns a) h) [
    | inl q ↦ (b, or_left (same_name b b) (has_name ns b) (self b), q)
    | inr q ↦ let f = below_is a ns q in (f.0, or_right (same_name b f.0) (has_name ns f.0) f.1, f.2)
  ]
    where
      self : (b : Name) → same_name b b ≡ true
      self b = exactly_self b

  locked_below : (a : Name) → told a ≡ false
      → list_any (λ x. is_ancestor a (deed_of x).0) xs ≡ (has_below locks.readers a || (has_below locks.writers a || has_below locks.adders a))
  locked_below a n = alike _ _ to from
    where
      to : list_any (λ x. is_ancestor a (deed_of x).0) xs ≡ true → (has_below locks.readers a || (has_below locks.writers a || has_below locks.adders a)) ≡ true
      to h =
          let f = held_below a n xs h in
          elim (or_cases (has_name locks.readers f.0) _ (locked_is f.0 ∙ f.2)) [
            | inl q ↦ or_left (has_below locks.readers a) _ (any_name (λ b. is_ancestor a b) locks.readers f.0 q f.1)
            | inr q ↦ or_right (has_below locks.readers a) _ (elim (or_cases (has_name locks.writers f.0) _ q) [
              | inl r ↦ or_left (has_below locks.writers a) _ (any_name (λ b. is_ancestor a b) locks.writers f.0 r f.1)
              | inr r ↦ or_right (has_below locks.writers a) _ (any_name (λ b. is_ancestor a b) locks.adders f.0 r f.1)
            ])
          ]

      from : (has_below locks.readers a || (has_below locks.writers a || has_below locks.adders a)) ≡ true → list_any (λ x. is_ancestor a (deed_of x).0) xs ≡ true
      from h = elim (or_cases (has_below locks.readers a) _ h) [
        | inl q ↦ let f = below_is a locks.readers q in act_below a f.0 f.2 xs (sym (locked_is f.0) ∙ or_left (has_name locks.readers f.0) _ f.1)
        | inr q ↦ elim (or_cases (has_below locks.writers a) _ q) [
          | inl r ↦
              let f = below_is a locks.writers r in
              act_below a f.0 f.2 xs (sym (locked_is f.0) ∙ or_right (has_name locks.readers f.0) _ (or_left (has_name locks.writers f.0) _ f.1))
          | inr r ↦
              let f = below_is a locks.adders r in
              act_below a f.0 f.2 xs (sym (locked_is f.0) ∙ or_right (has_name locks.readers f.0) _ (or_right (has_name locks.writers f.0) _ f.1))
        ]
      ]

pub concerned_shown : ConcernedShown
concerned_shown c s object a true shows n =
    let acts = to_acts c s object shows in
    any_acts (λ b. is_exactly (holder_by s.told b) a) s ∙ sym (locked_is s.told (acts_by s) object.locks acts.readers acts.writers acts.adders a)
concerned_shown c s object a false shows n =
    let acts = to_acts c s object shows in
    any_acts (λ b. is_ancestor a b) s ∙ locked_below s.told (acts_by s) object.locks acts.readers acts.writers acts.adders a n
