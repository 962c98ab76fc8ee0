-- Who is in the way of whom, and whether anybody is.
use Rattle.std.proofs.Common.{◌≡◌, ◌↔◌, Bool, true, false, not, ◌&&◌, ◌||◌, List, [], ◌∷◌, refl, sym, ap, ◌∙◌, subst}
use Rattle.std.specs.Prelude.{IsFalse}
use Rattle.std.proofs.lemmas.Bool.{true≢false, false≢true}
use Rattle.action_names.specs.Names.{Name, same_name, has_name, is_ancestor}
use Rattle.action_names.proofs.Ancestry.{same_is, same_refl}
use Rattle.atomic_types.specs.declared.op.Class.{Class}
use Rattle.atomic_types.specs.declared.op.Class.TheVariants.{Read, Write, Add}
use Rattle.atomic_types.specs.Operations.{classes_conflict}
use Rattle.object_model.specs.Locks.{Locks, has_foreign, is_in_the_way, must_wait}

-- whether b is foreign is told by a holder of the same name
pub foreign_as : (a b holder : Name) (t : Bool) → not (is_ancestor holder a) ≡ t → same_name holder b ≡ true → not (is_ancestor b a) ≡ t
foreign_as a b holder t e same = subst (λ x. not (is_ancestor x a) ≡ t) (same_is holder b same) e

-- the three classes one after another
pub of_classes : (foreign r w d : Bool) → ((false || (foreign && r)) || (foreign && w)) || (foreign && d) ≡ foreign && (r || w || d)
of_classes true r w d = refl
of_classes false r w d = refl

-- one of the holders is foreign: there is one
foreign_found : (ns : List Name) (a : Name) → has_foreign ns a ≡ true → (b : Name) × (not (is_ancestor b a) ≡ true) × (has_name ns b ≡ true)
foreign_found [] a e = absurd (false≢true e)
foreign_found (n ∷ ns) a e = by_case (foreign_found ns a) (not (is_ancestor n a)) refl e where
  by_case : (has_foreign ns a ≡ true → (b : Name) × (not (is_ancestor b a) ≡ true) × (has_name ns b ≡ true)) → (t : Bool) → not (is_ancestor n a) ≡ t
      → has_foreign (n ∷ ns) a ≡ true → (b : Name) × (not (is_ancestor b a) ≡ true) × (has_name (n ∷ ns) b ≡ true)
  by_case later true d e = (n, d, rw (same_refl n) refl)
  by_case later false d e = let f = later (rw d at e) in (f.0, f.1, behind (same_name n f.0) f.2) where
    behind : (t : Bool) {u : Bool} → u ≡ true → t || u ≡ true
    behind true e = refl
    behind false e = e

-- none is foreign: whoever is there is an ancestor
foreign_none : (ns : List Name) (a b : Name) → has_foreign ns a ≡ false → not (is_ancestor b a) && has_name ns b ≡ false
foreign_none [] a b e = none (not (is_ancestor b a)) where
  none : (t : Bool) → t && false ≡ false
  none true = refl
  none false = refl
foreign_none (n ∷ ns) a b e = by_case (foreign_none ns a b) (not (is_ancestor n a)) refl e where
  step : (foreign same has : Bool) → (same ≡ true → foreign ≡ false) → foreign && has ≡ false → foreign && (same || has) ≡ false
  step true true has h e = absurd (true≢false (h refl))
  step true false has h e = e
  step false same has h e = refl

  by_case : (has_foreign ns a ≡ false → not (is_ancestor b a) && has_name ns b ≡ false) → (t : Bool) → not (is_ancestor n a) ≡ t
      → has_foreign (n ∷ ns) a ≡ false → not (is_ancestor b a) && has_name (n ∷ ns) b ≡ false
  by_case later true d e = absurd (true≢false (rw d at e))
  by_case later false d e = step (not (is_ancestor b a)) (same_name n b) (has_name ns b) (foreign_as a b n false d) (later (rw d at e))

or_parts : (s t u : Bool) → s || t || u ≡ false → (s ≡ false) × (t ≡ false) × (u ≡ false)
or_parts true t u e = absurd (true≢false e)
or_parts false true u e = absurd (true≢false e)
or_parts false false u e = (refl, refl, e)

-- where nobody is waited for, nobody is in the way
pub free : (locks : Locks) (a : Name) (wanted : Class) → must_wait locks a wanted ≡ false → (b : Name) → is_in_the_way locks a wanted b ≡ false
free locks a wanted e b =
    let p = or_parts (classes_conflict Read wanted && has_foreign locks.readers a) (classes_conflict Write wanted && has_foreign locks.writers a)
    (classes_conflict Add wanted && has_foreign locks.adders a) e in
    together (not (is_ancestor b a)) (classes_conflict Read wanted && has_name locks.readers b)
    (classes_conflict Write wanted && has_name locks.writers b) (classes_conflict Add wanted && has_name locks.adders b)
    (in_class locks.readers (classes_conflict Read wanted) p.0) (in_class locks.writers (classes_conflict Write wanted) p.1)
    (in_class locks.adders (classes_conflict Add wanted) p.2) where
      none : (f : Bool) → f && false ≡ false
      none true = refl
      none false = refl

      in_class : (ns : List Name) (conflicting : Bool) → conflicting && has_foreign ns a ≡ false
          → not (is_ancestor b a) && (conflicting && has_name ns b) ≡ false
      in_class ns true e = foreign_none ns a b e
      in_class ns false e = none (not (is_ancestor b a))

      together : (f r w d : Bool) → f && r ≡ false → f && w ≡ false → f && d ≡ false → f && (r || w || d) ≡ false
      together false r w d x y z = refl
      together true true w d x y z = absurd (true≢false x)
      together true false true d x y z = absurd (true≢false y)
      together true false false d x y z = z

-- where somebody is waited for, there is one in the way
pub found : (locks : Locks) (a : Name) (wanted : Class) → must_wait locks a wanted ≡ true → (b : Name) × (is_in_the_way locks a wanted b ≡ true)
found locks a wanted e = by_class (classes_conflict Read wanted) (classes_conflict Write wanted) (classes_conflict Add wanted) e where
  third : (r w : Bool) {d : Bool} → d ≡ true → r || w || d ≡ true
  third true w e = refl
  third false true e = refl
  third false false e = e

  second : (r w d : Bool) → w ≡ true → r || w || d ≡ true
  second true w d e = refl
  second false w d e = rw e refl

  first : (r w d : Bool) → r ≡ true → r || w || d ≡ true
  first r w d e = rw e refl

  both : {f g : Bool} → f ≡ true → g ≡ true → f && g ≡ true
  both e d = rw e d

  by_class : (r w d : Bool) → (r && has_foreign locks.readers a) || (w && has_foreign locks.writers a) || (d && has_foreign locks.adders a) ≡ true
      → (b : Name) × (not (is_ancestor b a) && ((r && has_name locks.readers b) || (w && has_name locks.writers b) || (d && has_name locks.adders b)) ≡ true)
  by_class r w d e = look r w d (has_foreign locks.readers a) refl (has_foreign locks.writers a) refl e where
    look : (r w d x : Bool) → has_foreign locks.readers a ≡ x → (y : Bool) → has_foreign locks.writers a ≡ y
        → (r && has_foreign locks.readers a) || (w && has_foreign locks.writers a) || (d && has_foreign locks.adders a) ≡ true
        → (b : Name) × (not (is_ancestor b a) && ((r && has_name locks.readers b) || (w && has_name locks.writers b) || (d && has_name locks.adders b)) ≡ true)
    look true w d true p y q e =
        let f = foreign_found locks.readers a p in
        (f.0, both f.1 (first (has_name locks.readers f.0) (w && has_name locks.writers f.0) (d && has_name locks.adders f.0) f.2))
    look r true d x p true q e =
        let f = foreign_found locks.writers a q in
        (f.0, both f.1 (second (r && has_name locks.readers f.0) (has_name locks.writers f.0) (d && has_name locks.adders f.0) f.2))
    look false false false x p y q e = absurd (false≢true e)
    look false false true x p y q e =
        let f = foreign_found locks.adders a e in
        (f.0, both f.1 f.2)
    look false true true x p false q e =
        let f = foreign_found locks.adders a (rw q at e) in
        (f.0, both f.1 (third false (has_name locks.writers f.0) f.2))
    look false true false x p false q e = absurd (false≢true (rw q at e))
    look true false true false p y q e =
        let f = foreign_found locks.adders a (rw p at e) in
        (f.0, both f.1 (third (has_name locks.readers f.0) false f.2))
    look true false false false p y q e = absurd (false≢true (rw p at e))
    look true true true false p false q e =
        let f = foreign_found locks.adders a (rw (p, q) at e) in
        (f.0, both f.1 (third (has_name locks.readers f.0) (has_name locks.writers f.0) f.2))
    look true true false false p false q e = absurd (false≢true (rw (p, q) at e))

-- a list of just those in the way is empty exactly where nobody is waited for
pub none_waited : (locks : Locks) (a : Name) (wanted : Class) (names : List Name) → ((b : Name) → has_name names b ≡ is_in_the_way locks a wanted b)
    → (names ≡ []) ↔ IsFalse (must_wait locks a wanted)
none_waited locks a wanted names just = (empties (must_wait locks a wanted) refl, empty names just) where
  empties : (t : Bool) → must_wait locks a wanted ≡ t → names ≡ [] → must_wait locks a wanted ≡ false
  empties true e none =
      let f = found locks a wanted e in
      absurd (false≢true (ap (λ ns. has_name ns f.0) (sym none) ∙ just f.0 ∙ f.1))
  empties false e none = e

  empty : (names : List Name) → ((b : Name) → has_name names b ≡ is_in_the_way locks a wanted b) → must_wait locks a wanted ≡ false → names ≡ []
  empty [] just e = refl
  empty (n ∷ ns) just e =
      let here : has_name (n ∷ ns) n ≡ true = rw (same_refl n) refl in
      absurd (true≢false (sym here ∙ just n ∙ free locks a wanted e n))
