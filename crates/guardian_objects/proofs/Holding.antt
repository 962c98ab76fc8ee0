-- Who holds something of an object: its locks say it, and what each call makes of it.
use Rattle.std.proofs.Common.{Bool, List, None, Option, Some, [], ap, ap₂, arith, cond, false, filter, inl, inr, not, refl, subst, sym, true, ◌&&◌, ◌∙◌, ◌∷◌, ◌≡◌, ◌||◌, ◌⊎◌}
use Rattle.std.proofs.lemmas.Bool.{and_right, false_from_ne_true, false≢true, or_cases, or_from, or_left, or_right}
use Rattle.std.specs.List.{list_any}
use Rattle.action_names.specs.Names.{IsName, Name, ancestors, has_name, is_ancestor, parent_of, same_name}
use Rattle.values.specs.declared.content.Content.{Content}
use Rattle.atomic_types.specs.declared.op.Class.{Class}
use Rattle.atomic_types.specs.declared.part.Part.{Part}
use Rattle.atomic_types.specs.Operations.{is_add_class, is_read_class, is_write_class}
use Rattle.run_model.specs.Actions.{is_exactly}
use Rattle.run_model.specs.Answers.{is_concerned_by}
use Rattle.run_model.specs.Keeping.{Performed, Standing}
use Rattle.run_model.specs.Telling.{holder_by}
use Rattle.run_laws.proofs.Names.{ancestor_trans, any_ancestor_from, any_ancestor_use, any_name, clash, descendant_is_own, front_alone, same_name_self, same_name_true}
use Rattle.local_laws.proofs.Acts.{acts_by}
use Rattle.local_laws.proofs.Moving.{holders_move}
use Rattle.local_laws.proofs.Orderly.{holder_is}
use Rattle.object_model.specs.Locks.{Locks, has_below}
use Rattle.object_model.specs.Objects.{Seen}
use Rattle.object_laws.specs.Changes.{crashed, told_too, undone, with_operation}
use Rattle.object_laws.specs.Laws.{is_concerned}
use Rattle.object_laws.specs.Shown.{Shows}
use Rattle.object_laws.proofs.Choosing.{above_holder, holder_untold, holds_own}
use Rattle.object_laws.proofs.Concerned.{concerned_shown}
use Rattle.object_laws.proofs.Held.{held, holds, to_acts}
use Rattle.object_laws.proofs.Standing.{next_holder}
use Rattle.action_names.proofs.Ancestry.{proper}
use Rattle.guardian_index.specs.Held.{is_name_of}

-- a name has numbers, so it is its own ancestor
pub own_name : (a : Name) → IsName a → is_ancestor a a ≡ true
own_name [] named = absurd (omega (arith, named.not_empty))
own_name (n ∷ a) named = descendant_is_own (n ∷ []) (n ∷ a) (front_alone n a)

-- ---- lists of what was done, each by an action

module _ {X : Type 0} (of : X → Name) where
  -- b holds one of them
  abbrev pub holds_one : (Name → Bool) → Name → List X → Bool
  holds_one told b xs = list_any (λ x. is_exactly (holder_by told (of x)) b) xs

  -- nobody that was told committed does
  told_holds_none : (told : Name → Bool) (b : Name) (xs : List X) → told b ≡ true → holds_one told b xs ≡ false
  told_holds_none told b [] h = refl
  told_holds_none told b (x ∷ xs) h = or_from _ _ (one (holder_by told (of x)) refl) (told_holds_none told b xs h)
    where
      one : (o : Option Name) → holder_by told (of x) ≡ o → is_exactly o b ≡ false
      one None e = refl
      one (Some d) e =
          false_from_ne_true (same_name d b) (λ q. clash (ap told (same_name_true d b q) ∙ h) (holder_is told (of x) d e).1)

  -- once a was told committed, what it held is the next holder's
  committed_one : (told : Name → Bool) (a : Name) (to : Option Name) → to ≡ holder_by told (parent_of a) → is_exactly to a ≡ false → (b : Name) (xs : List X)
      → holds_one (λ d. same_name d a || told d) b xs ≡ (not (same_name a b) && (holds_one told b xs || (is_exactly to b && holds_one told a xs)))
  committed_one told a to next other b [] = none (same_name a b) (is_exactly to b)
    where
      none : (s t : Bool) → false ≡ (not s && (false || (t && false)))
      none true t = refl
      none false true = refl
      none false false = refl
  committed_one told a to next other b (x ∷ xs) =
      ap₂ (λ t u. t || u) (ap (λ o. is_exactly o b) (holders_move told a (of x) ∙ ap (λ p. cond (is_exactly (holder_by told (of x)) a) p (holder_by told (of x))) (sym next)) ∙ one (holder_by told (of x)))
      (committed_one told a to next other b xs)
      ∙ together (not (same_name a b)) (is_exactly (holder_by told (of x)) b) (holds_one told b xs) (is_exactly to b) (is_exactly (holder_by told (of x)) a) (holds_one told a xs)
    where
      one : (o : Option Name) → is_exactly (cond (is_exactly o a) to o) b ≡ (not (same_name a b) && (is_exactly o b || (is_exactly to b && is_exactly o a)))
      one None = none (same_name a b) (is_exactly to b)
        where
          none : (s t : Bool) → false ≡ (not s && (false || (t && false)))
          none true t = refl
          none false true = refl
          none false false = refl
      one (Some d) = at (same_name d a) refl (same_name a b) refl
        where
          or_false : (t : Bool) → t ≡ (t || (is_exactly to b && false))
          or_false true = refl
          or_false false = sym (and_right (is_exactly to b) false refl)

          whole : (t : Bool) → t ≡ (t && true)
          whole true = refl
          whole false = refl

          at : (q : Bool) → same_name d a ≡ q → (p : Bool) → same_name a b ≡ p
              → is_exactly (cond q to (Some d)) b ≡ (not p && (same_name d b || (is_exactly to b && q)))
          at true e true h = ap (λ n. is_exactly to n) (sym (same_name_true a b h)) ∙ other
          at true e false h =
              whole (is_exactly to b) ∙ ap (λ t. t || (is_exactly to b && true)) (sym (ap (λ n. same_name n b) (same_name_true d a e) ∙ h))
          at false e true h = ap (λ n. same_name d n) (sym (same_name_true a b h)) ∙ e
          at false e false h = or_false (same_name d b)

      together : (n p r t q u : Bool) → ((n && (p || (t && q))) || (n && (r || (t && u)))) ≡ (n && ((p || r) || (t && (q || u))))
      together false p r t q u = refl
      together true true r t q u = refl
      together true false true true true u = refl
      together true false true true false u = refl
      together true false true false q u = refl
      together true false false true q u = refl
      together true false false false q u = refl

  below : Name → Option Name → Bool
  below a None = false
  below a (Some d) = is_ancestor a d

  -- an untold a or a descendant did what is held at a or below
  done_below : (told : Name → Bool) (a e : Name) → told a ≡ false → list_any (λ b. same_name b a) (ancestors e) ≡ below a (holder_by told e)
  unfolding below
  done_below told a e n = any (is_ancestor a e) refl ∙ at (holder_by told e) refl
    where
      any : (t : Bool) → is_ancestor a e ≡ t → list_any (λ b. same_name b a) (ancestors e) ≡ is_ancestor a e
      any true h = any_ancestor_from (λ b. same_name b a) e a h (same_name_self a) ∙ sym h
      any false h =
          false_from_ne_true _ (λ k.
          let x = any_ancestor_use (λ b. same_name b a) e k in
          clash (subst (λ b. is_ancestor b e ≡ true) (same_name_true x.0 a x.2) x.1) h)
          ∙ sym h

      at : (o : Option Name) → holder_by told e ≡ o → is_ancestor a e ≡ below a o
      at None q = false_from_ne_true _ (λ h. let x = above_holder told e a h n in let f : None ≡ Some x.0 = sym q ∙ x.1 in cc)
      at (Some d) q = split (is_ancestor a d) refl
        where
          split : (t : Bool) → is_ancestor a d ≡ t → is_ancestor a e ≡ is_ancestor a d
          split true k = ancestor_trans a d e k (holder_is told e d q).0 ∙ sym k
          split false k =
              false_from_ne_true _ (λ h.
              let x = above_holder told e a h n in
              let f : Some d ≡ Some x.0 = sym q ∙ x.1 in
              let same : d ≡ x.0 = cc in
              clash (subst (λ y. is_ancestor a y ≡ true) (sym same) x.2) k)
              ∙ sym k

  -- once a was told aborted, nobody at a or below holds anything, and all others hold what they held
  undone_one : (told : Name → Bool) (a : Name) → told a ≡ false → (b : Name) (xs : List X)
      → holds_one told b (filter (λ x. not (list_any (λ c. same_name c a) (ancestors (of x)))) xs) ≡ (not (is_ancestor a b) && holds_one told b xs)
  unfolding below
  undone_one told a n b [] = sym (and_right (not (is_ancestor a b)) false refl)
  undone_one told a n b (x ∷ xs) = step (list_any (λ c. same_name c a) (ancestors (of x))) (done_below told a (of x) n) (undone_one told a n b xs)
    where
      rest : List X
      rest = filter (λ y. not (list_any (λ c. same_name c a) (ancestors (of y)))) xs

      -- whoever is below holds nothing of it
      gone : (o : Option Name) → below a o ≡ true → (not (is_ancestor a b) && is_exactly o b) ≡ false
      gone None k = absurd (false≢true k)
      gone (Some d) k = at (same_name d b) refl
        where
          at : (t : Bool) → same_name d b ≡ t → (not (is_ancestor a b) && t) ≡ false
          at true e = ap (λ u. not u && true) (ap (λ y. is_ancestor a y) (sym (same_name_true d b e)) ∙ k)
          at false e = and_right (not (is_ancestor a b)) false refl

      -- and who is not below holds it still
      stays : (o : Option Name) → below a o ≡ false → (not (is_ancestor a b) && is_exactly o b) ≡ is_exactly o b
      stays None k = and_right (not (is_ancestor a b)) false refl
      stays (Some d) k = at (same_name d b) refl
        where
          at : (t : Bool) → same_name d b ≡ t → (not (is_ancestor a b) && t) ≡ t
          at true e = ap (λ u. not u && true) (ap (λ y. is_ancestor a y) (sym (same_name_true d b e)) ∙ k)
          at false e = and_right (not (is_ancestor a b)) false refl

      spread : (p q t : Bool) → ((p && q) || (p && t)) ≡ (p && (q || t))
      spread true q t = refl
      spread false q t = refl

      step : (t : Bool) → t ≡ below a (holder_by told (of x)) → holds_one told b rest ≡ (not (is_ancestor a b) && holds_one told b xs)
          → holds_one told b (cond (not t) (x ∷ rest) rest) ≡ (not (is_ancestor a b) && (is_exactly (holder_by told (of x)) b || holds_one told b xs))
      step true e later =
          later
          ∙ ap (λ u. u || (not (is_ancestor a b) && holds_one told b xs)) (sym (gone (holder_by told (of x)) (sym e)))
          ∙ spread (not (is_ancestor a b)) (is_exactly (holder_by told (of x)) b) (holds_one told b xs)
      step false e later =
          ap₂ (λ u v. u || v) (sym (stays (holder_by told (of x)) (sym e))) later
          ∙ spread (not (is_ancestor a b)) (is_exactly (holder_by told (of x)) b) (holds_one told b xs)

-- what some of a list pass, some of all pass
pub any_of_all : {X : Type 0} (p q : X → Bool) (xs : List X) → list_any p (filter q xs) ≡ true → list_any p xs ≡ true
any_of_all p q [] h = h
any_of_all {X} p q (x ∷ xs) h = step (q x) (λ k. any_of_all p q xs k) h
  where
    step : (t : Bool) → (list_any p (filter q xs) ≡ true → list_any p xs ≡ true) → list_any p (cond t (x ∷ filter q xs) (filter q xs)) ≡ true → list_any p (x ∷ xs) ≡ true
    step true later k = elim (or_cases (p x) (list_any p (filter q xs)) k) [
      | inl e ↦ or_left (p x) _ e
      | inr e ↦ or_right (p x) _ (later e)
    ]
    step false later k = or_right (p x) _ (later k)

-- whose a part is that was given back, and an operation that is kept
abbrev pub restored_name : Name × Part → Name
restored_name r = r.0

abbrev pub kept_name : Performed → Name
kept_name o = o.action

-- ---- by the locks of an object

-- who has a lock holds something, also where nobody told committed does
pub held_shown : (c : Content) (s : Standing) (object : Seen) (a : Name) → Shows c s object → is_concerned true object.locks a ≡ is_concerned_by true s a
held_shown c s object a shows = at (s.told a) refl
  where
    none : (k : Class → Bool) → holds (λ x. held s.told x) k a (acts_by s) ≡ true → s.told a ≡ false
    none k h = (holder_untold s.told k a (acts_by s) h).1

    unadded : (d w x y : Bool) → w ≡ false → (d && not w) ≡ (x && not y) → x ≡ false → d ≡ false
    unadded d true x y e f g = absurd (false≢true (sym e))
    unadded true false x y e f g = f ∙ ap (λ t. t && not y) g
    unadded false false x y e f g = refl

    at : (t : Bool) → s.told a ≡ t → is_concerned true object.locks a ≡ is_concerned_by true s a
    at false e = sym (concerned_shown c s object a true shows e)
    at true e =
        let acts = to_acts c s object shows in
        let no_read = acts.readers a ∙ false_from_ne_true _ (λ h. clash e (none is_read_class h)) in
        let no_write = acts.writers a ∙ false_from_ne_true _ (λ h. clash e (none is_write_class h)) in
        let no_add = unadded (has_name object.locks.adders a) (has_name object.locks.writers a) (holds (λ x. held s.told x) is_add_class a (acts_by s))
        (holds (λ x. held s.told x) is_write_class a (acts_by s)) no_write (acts.adders a) (false_from_ne_true _ (λ h. clash e (none is_add_class h))) in
        or_from (has_name object.locks.readers a) _ no_read (or_from (has_name object.locks.writers a) _ no_write no_add)
        ∙ sym (or_from (holds_one restored_name s.told a s.restored) _ (told_holds_none restored_name s.told a s.restored e) (told_holds_none kept_name s.told a s.kept e))

-- ---- what calls make of it

-- once a was told committed: it holds nothing, and the next holder what it held
pub committed_moves : (c : Content) (s : Standing) (old new : Seen) (a : Name) (to : Option Name) → Shows c s old → Shows c (told_too (λ b. same_name b a) s) new
    → is_ancestor a a ≡ true → to ≡ holder_by s.told (parent_of a) → (b : Name)
    → is_concerned true new.locks b ≡ (not (same_name a b) && (is_concerned true old.locks b || (is_name_of to b && is_concerned true old.locks a)))
committed_moves c s old new a to before after own next b =
    held_shown c (told_too (λ d. same_name d a) s) new b after
    ∙ ap₂ (λ t u. t || u) (committed_one restored_name s.told a to next other b s.restored) (committed_one kept_name s.told a to next other b s.kept)
    ∙ both (not (same_name a b)) (holds_one restored_name s.told b s.restored) (holds_one kept_name s.told b s.kept) (is_exactly to b)
    (holds_one restored_name s.told a s.restored) (holds_one kept_name s.told a s.kept)
    ∙ ap₂ (λ t u. not (same_name a b) && (t || (is_exactly to b && u))) (sym (held_shown c s old b before)) (sym (held_shown c s old a before))
    ∙ ap (λ t. not (same_name a b) && (is_concerned true old.locks b || (t && is_concerned true old.locks a))) (exactly_named to)
  where
    exactly_named : (o : Option Name) → is_exactly o b ≡ is_name_of o b
    exactly_named None = refl
    exactly_named (Some d) = refl

    other : is_exactly to a ≡ false
    other = at to refl
      where
        at : (o : Option Name) → to ≡ o → is_exactly o a ≡ false
        at None e = refl
        at (Some p) e = (proper p a (next_holder s.told a p own (sym next ∙ e))).1

    both : (n p r t q u : Bool) → ((n && (p || (t && q))) || (n && (r || (t && u)))) ≡ (n && ((p || r) || (t && (q || u))))
    both false p r t q u = refl
    both true true r t q u = refl
    both true false true true true u = refl
    both true false true true false u = refl
    both true false true false q u = refl
    both true false false true q u = refl
    both true false false false q u = refl

-- once a was told aborted: neither it nor a descendant holds anything
pub undone_drops : (c : Content) (s : Standing) (old new : Seen) (a : Name) → Shows c s old → Shows c (undone (λ b. same_name b a) s) new → s.told a ≡ false → (b : Name)
    → is_concerned true new.locks b ≡ (not (is_ancestor a b) && is_concerned true old.locks b)
undone_drops c s old new a before after untold b =
    held_shown c (undone (λ d. same_name d a) s) new b after
    ∙ ap₂ (λ t u. t || u) (undone_one restored_name s.told a untold b s.restored) (undone_one kept_name s.told a untold b s.kept)
    ∙ both (not (is_ancestor a b)) (holds_one restored_name s.told b s.restored) (holds_one kept_name s.told b s.kept)
    ∙ ap (λ t. not (is_ancestor a b) && t) (sym (held_shown c s old b before))
  where
    both : (n p q : Bool) → ((n && p) || (n && q)) ≡ (n && (p || q))
    both true p q = refl
    both false p q = refl

-- once an operation of an untold action is granted, that holds something
pub granted_holds : (c : Content) (s : Standing) (old new : Seen) (o : Performed) → Shows c s old → Shows c (with_operation o s) new → is_ancestor o.action o.action ≡ true
    → s.told o.action ≡ false → (b : Name) → is_concerned true new.locks b ≡ (same_name o.action b || is_concerned true old.locks b)
granted_holds c s old new o before after own untold b =
    held_shown c (with_operation o s) new b after
    ∙ ap (λ h. holds_one restored_name s.told b s.restored || (is_exactly h b || holds_one kept_name s.told b s.kept)) (holds_own s.told o.action own untold)
    ∙ turned (same_name o.action b) (holds_one restored_name s.told b s.restored) (holds_one kept_name s.told b s.kept)
    ∙ ap (λ t. same_name o.action b || t) (sym (held_shown c s old b before))
  where
    turned : (p q r : Bool) → (q || (p || r)) ≡ (p || (q || r))
    turned true true r = refl
    turned true false r = refl
    turned false q r = refl

-- what is held after a crash was held before
pub crashed_held : (c : Content) (s : Standing) (old new : Seen) (outlives : Performed → Bool) → Shows c s old → Shows c (crashed outlives s) new → (b : Name)
    → is_concerned true new.locks b ≡ true → is_concerned true old.locks b ≡ true
crashed_held c s old new outlives before after b h =
    held_shown c s old b before
    ∙ (elim (or_cases (holds_one restored_name s.told b s.restored) _ (sym (held_shown c (crashed outlives s) new b after) ∙ h)) [
      | inl e ↦ or_left (holds_one restored_name s.told b s.restored) _ e
      | inr e ↦ or_right (holds_one restored_name s.told b s.restored) _ (any_of_all (λ (o : Performed). is_exactly (holder_by s.told o.action) b) outlives s.kept e)
    ])

-- ---- at or below an action

-- whoever holds something at or below a makes an abort of a a concern
pub below_from : (locks : Locks) (a b : Name) → is_ancestor a b ≡ true → is_concerned true locks b ≡ true → is_concerned false locks a ≡ true
below_from locks a b k h = elim (or_cases (has_name locks.readers b) _ h) [
  | inl q ↦ or_left (has_below locks.readers a) _ (any_name (λ d. is_ancestor a d) locks.readers b q k)
  | inr q ↦ or_right (has_below locks.readers a) _ (elim (or_cases (has_name locks.writers b) _ q) [
    | inl r ↦ or_left (has_below locks.writers a) _ (any_name (λ d. is_ancestor a d) locks.writers b r k)
    | inr r ↦ or_right (has_below locks.writers a) _ (any_name (λ d. is_ancestor a d) locks.adders b r k)
  ])
]

-- and where it is one, somebody does
pub below_to : (locks : Locks) (a : Name) → is_concerned false locks a ≡ true → (b : Name) × (is_ancestor a b ≡ true) × (is_concerned true locks b ≡ true)
below_to locks a h = elim (or_cases (has_below locks.readers a) _ h) [
  | inl q ↦ let f = named locks.readers q in (f.0, f.1, or_left (has_name locks.readers f.0) _ f.2)
  | inr q ↦ elim (or_cases (has_below locks.writers a) _ q) [
    | inl r ↦ let f = named locks.writers r in (f.0, f.1, or_right (has_name locks.readers f.0) _ (or_left (has_name locks.writers f.0) _ f.2))
    | inr r ↦ let f = named locks.adders r in (f.0, f.1, or_right (has_name locks.readers f.0) _ (or_right (has_name locks.writers f.0) _ f.2))
  ]
]
  where
    named : (names : List Name) → has_below names a ≡ true → (b : Name) × (is_ancestor a b ≡ true) × (has_name names b ≡ true)
    named [] k = absurd (false≢true k)
    named (b ∷ names) k = elim (or_cases (is_ancestor a b) (has_below names a) k) [
      | inl q ↦ (b, q, or_left (same_name b b) (has_name names b) (same_name_self b))
      | inr q ↦ let f = named names q in (f.0, f.1, or_right (same_name b f.0) (has_name names f.0) f.2)
    ]

-- so where no abort of a is a concern, neither is its commit
-- where the action holds something it is concerned in either way
pub concerned : (own : Bool) (locks : Locks) (a : Name) → is_ancestor a a ≡ true → is_concerned true locks a ≡ true → is_concerned own locks a ≡ true
concerned true locks a self h = h
concerned false locks a self h = below_from locks a a self h

-- somebody holds something, or nobody does
pub somebody : (locks : Locks) → ((b : Name) × (is_concerned true locks b ≡ true)) ⊎ ((b : Name) → is_concerned true locks b ≡ false)
somebody locks = of locks.readers locks.writers locks.adders
  where
    of : (readers writers adders : List Name) → ((b : Name) × ((has_name readers b || (has_name writers b || has_name adders b)) ≡ true))
        ⊎ ((b : Name) → (has_name readers b || (has_name writers b || has_name adders b)) ≡ false)
    of [] [] [] = inr (λ b. refl)
    of [] [] (b ∷ adders) = inl (b, or_left (same_name b b) (has_name adders b) (same_name_self b))
    of [] (b ∷ writers) adders =
        inl (b, or_left (has_name (b ∷ writers) b) (has_name adders b) (or_left (same_name b b) (has_name writers b) (same_name_self b)))
    of (b ∷ readers) writers adders =
        inl (b, or_left (has_name (b ∷ readers) b) (has_name writers b || has_name adders b) (or_left (same_name b b) (has_name readers b) (same_name_self b)))
