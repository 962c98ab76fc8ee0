-- How an object shows a list of acts: kept operations and parts that were given back, the newest first, each held by an action or by the base.
use Rattle.std.proofs.Common.{Bool, List, None, Option, Some, [], ap, ap₂, cond, false, filter, filter_map, inl, inr, is_none, map, not, refl, sym, true, ℤ, ◌&&◌, ◌++◌, ◌∙◌, ◌∷◌, ◌≡◌, ◌||◌}
use Rattle.std.specs.Prelude.{pos}
use Rattle.std.proofs.lemmas.Bool.{and_left, and_parts, and_right, false≢true}
use Rattle.std.proofs.lemmas.Map.Views.{any-filter_same}
use Rattle.std.specs.List.{AllByRecursion, cons_option, list_any}
use Rattle.action_names.specs.Names.{Name, has_name, same_name}
use Rattle.values.specs.declared.content.Content.{Content}
use Rattle.atomic_types.specs.declared.op.Class.{Class}
use Rattle.atomic_types.specs.declared.op.Class.TheVariants.{Read, Write}
use Rattle.atomic_types.specs.declared.op.Class.TheVariants as class
use Rattle.atomic_types.specs.declared.part.Part.{Part}
use Rattle.atomic_types.specs.Objects.{knows}
use Rattle.atomic_types.specs.Operations.{class_of, is_add_class, is_read_class, is_write_class}
use Rattle.run_model.specs.Actions.{is_exactly}
use Rattle.run_model.specs.Keeping.{Performed, Standing, part_class}
use Rattle.run_model.specs.Telling.{holder_by}
use Rattle.run_model.specs.Versions.{Lock, adders_by, base_by, delta_by, is_held_above, is_held_by, is_hidden, lock_of, locks_by, owners_by, sum_back, sum_on, version_by, with_add, with_part}
use Rattle.run_laws.proofs.Each.{Each}
use Rattle.run_laws.proofs.Names.{has_name_append, same_name_true}
use Rattle.local_laws.specs.Orderly.{IsOrderly}
use Rattle.local_laws.proofs.Acts.{Act, acts_by, acts_of, after_acts, deed_of, passing_acts}
use Rattle.local_laws.proofs.Outcomes.{has_filter, has_rising}
use Rattle.object_model.specs.Stacks.{RisesByAncestry, version_at}
use Rattle.object_model.specs.Deltas.{delta_at}
use Rattle.object_model.specs.Objects.{NamesRise, Seen}
use Rattle.object_laws.specs.Shown.{PartFits, Shows, is_lock, only_if, same_class}

-- who holds an act
abbrev pub held : (Name → Bool) → Act → Option Name
held told x = holder_by told (deed_of x).0

-- a holds an act of a class that passes the test
abbrev pub holds : (Act → Option Name) → (Class → Bool) → Name → List Act → Bool
holds hold k a xs = list_any (λ x. is_exactly (hold x) a && k (deed_of x).1) xs

-- a adds, and owns nothing
abbrev pub adds : (Act → Option Name) → Name → List Act → Bool
adds hold a xs = holds hold is_add_class a xs && not (holds hold is_write_class a xs)

abbrev pub with_act : ℤ → Act → ℤ
with_act n (inl o) = with_add n o.operation
with_act n (inr r) = with_part n r.1

-- how much the acts add that pass the test
abbrev pub sum_acts : (Act → Bool) → List Act → ℤ
sum_acts p [] = pos 0
sum_acts p (x ∷ xs) = cond (p x) (with_act (sum_acts p xs) x) (sum_acts p xs)

-- it belongs to the object
abbrev pub KnownAct : Content → Act → Type 0
KnownAct c (inl o) = knows c o.operation ≡ true
KnownAct c (inr r) = PartFits c r.1

pub record ShowsActs (c : Content) (hold : Act → Option Name) (xs : List Act) (object : Seen) : Type 0 where
  pub base : object.stack.base ≡ after_acts c (filter (λ x. is_none (hold x)) xs)
  pub versions : (a : Name)
      → version_at object.stack.versions a
      ≡ only_if (holds hold is_write_class a xs) (after_acts c (filter (λ x. is_held_above (hold x) a) xs))
  pub rising : RisesByAncestry object.stack.versions
  pub deltas : (a : Name) → delta_at object.deltas a ≡ only_if (adds hold a xs) (sum_acts (λ x. is_exactly (hold x) a) xs)
  pub names_rise : NamesRise object.deltas
  pub readers : (a : Name) → has_name object.locks.readers a ≡ holds hold is_read_class a xs
  pub writers : (a : Name) → has_name object.locks.writers a ≡ holds hold is_write_class a xs
  pub adders : (a : Name) → (has_name object.locks.adders a && not (has_name object.locks.writers a)) ≡ adds hold a xs
  pub known : Each (λ x. KnownAct c x) xs

-- ---- what the definitions say, by acts

pub any_append : {X : Type 0} (p : X → Bool) (xs ys : List X) → list_any p (xs ++ ys) ≡ (list_any p xs || list_any p ys)
any_append p [] ys = refl
any_append p (x ∷ xs) ys = ap (λ t. p x || t) (any_append p xs ys) ∙ of (p x) (list_any p xs) (list_any p ys)
  where
    of : (t u v : Bool) → (t || (u || v)) ≡ ((t || u) || v)
    of true u v = refl
    of false u v = refl

pub or_turned : (x y : Bool) → (x || y) ≡ (y || x)
or_turned true true = refl
or_turned true false = refl
or_turned false true = refl
or_turned false false = refl

whole : (t : Bool) → (t && true) ≡ t
whole true = refl
whole false = refl

module _ {X : Type 0} (f : X → Act) (told : Name → Bool) (k : Class → Bool) (a : Name) where
  -- the holders of such acts
  named : (xs : List X)
      → has_name (filter_map (λ x. cond (k (deed_of (f x)).1) (holder_by told (deed_of (f x)).0) None) xs) a
      ≡ holds (λ x. held told x) k a (map f xs)
  named [] = refl
  named (x ∷ xs) = of (k (deed_of (f x)).1) (held told (f x)) (named xs)
    where
      names : List Name
      names = filter_map (λ y. cond (k (deed_of (f y)).1) (holder_by told (deed_of (f y)).0) None) xs

      rest : Bool
      rest = holds (λ y. held told y) k a (map f xs)

      of : (t : Bool) (o : Option Name) → has_name names a ≡ rest → has_name (cons_option (cond t o None) names) a ≡ ((is_exactly o a && t) || rest)
      of true None e = e
      of false None e = e
      of true (Some b) e = ap₂ (λ u v. u || v) (sym (whole (same_name b a))) e
      of false (Some b) e = e ∙ ap (λ u. u || rest) (sym (and_right (same_name b a) false refl))

  -- their locks
  locked : (xs : List X)
      → list_any (λ (l : Lock). same_name l.0 a && k l.1) (filter_map (λ x. lock_of (holder_by told (deed_of (f x)).0) (deed_of (f x)).1) xs)
      ≡ holds (λ x. held told x) k a (map f xs)
  locked [] = refl
  locked (x ∷ xs) = of (held told (f x)) (locked xs)
    where
      locks : List Lock
      locks = filter_map (λ y. lock_of (holder_by told (deed_of (f y)).0) (deed_of (f y)).1) xs

      rest : Bool
      rest = holds (λ y. held told y) k a (map f xs)

      of : (o : Option Name) → list_any (λ (l : Lock). same_name l.0 a && k l.1) locks ≡ rest
          → list_any (λ (l : Lock). same_name l.0 a && k l.1) (cons_option (lock_of o (deed_of (f x)).1) locks)
          ≡ ((is_exactly o a && k (deed_of (f x)).1) || rest)
      of None e = e
      of (Some b) e = ap (λ t. (same_name b a && k (deed_of (f x)).1) || t) e

module _ (s : Standing) where
  both_lists : (k : Class → Bool) (a : Name)
      → (holds (λ x. held s.told x) k a (map (λ r. inr r) s.restored) || holds (λ x. held s.told x) k a (map (λ o. inl o) s.kept))
      ≡ holds (λ x. held s.told x) k a (acts_by s)
  both_lists k a =
      or_turned (holds (λ x. held s.told x) k a (map (λ r. inr r) s.restored)) (holds (λ x. held s.told x) k a (map (λ o. inl o) s.kept))
      ∙ sym (any_append (λ x. is_exactly (held s.told x) a && k (deed_of x).1) (map (λ o. inl o) s.kept) (map (λ r. inr r) s.restored))

  named_both : (k : Class → Bool) (a : Name)
      → has_name (filter_map (λ r. cond (k (part_class r.1)) (holder_by s.told r.0) None) s.restored
      ++ filter_map (λ o. cond (k (class_of o.operation)) (holder_by s.told o.action) None) s.kept) a
      ≡ holds (λ x. held s.told x) k a (acts_by s)
  named_both k a =
      has_name_append (filter_map (λ r. cond (k (part_class r.1)) (holder_by s.told r.0) None) s.restored)
      (filter_map (λ o. cond (k (class_of o.operation)) (holder_by s.told o.action) None) s.kept) a
      ∙ ap₂ (λ t u. t || u) (named (λ r. inr r) s.told k a s.restored) (named (λ o. inl o) s.told k a s.kept)
      ∙ both_lists k a

  pub owners_are : (a : Name) → has_name (owners_by s) a ≡ holds (λ x. held s.told x) is_write_class a (acts_by s)
  owners_are a = has_rising _ a ∙ named_both is_write_class a

  pub adders_are : (a : Name) → has_name (adders_by s) a ≡ adds (λ x. held s.told x) a (acts_by s)
  adders_are a =
      has_rising _ a ∙ has_filter (λ b. not (has_name (owners_by s) b)) _ a
      ∙ ap₂ (λ t u. t && not u) (named_both is_add_class a) (owners_are a)

  all_locks : List Lock
  all_locks =
      filter_map (λ r. lock_of (holder_by s.told r.0) (part_class r.1)) s.restored
      ++ filter_map (λ o. lock_of (holder_by s.told o.action) (class_of o.operation)) s.kept

  locked_both : (k : Class → Bool) (a : Name)
      → list_any (λ (l : Lock). same_name l.0 a && k l.1) all_locks ≡ holds (λ x. held s.told x) k a (acts_by s)
  unfolding all_locks
  locked_both k a =
      any_append (λ (l : Lock). same_name l.0 a && k l.1) (filter_map (λ r. lock_of (holder_by s.told r.0) (part_class r.1)) s.restored)
      (filter_map (λ o. lock_of (holder_by s.told o.action) (class_of o.operation)) s.kept)
      ∙ ap₂ (λ t u. t || u) (locked (λ r. inr r) s.told k a s.restored) (locked (λ o. inl o) s.told k a s.kept)
      ∙ both_lists k a

  -- locks that do not add are all shown
  shown : (wanted : Class) (a : Name) → is_add_class wanted ≡ false
      → list_any (λ l. is_lock a wanted l) (locks_by s) ≡ holds (λ x. held s.told x) (λ c. same_class c wanted) a (acts_by s)
  unfolding all_locks
  shown wanted a h =
      any-filter_same (λ (l : Lock). is_lock a wanted l) (λ l. not (is_hidden (owners_by s) l)) true
      (λ l q. ap (λ t. not t) (and_left (is_add_class l.1) (has_name (owners_by s) l.0) (same_adds l.1 wanted (and_parts _ _ q).1 h))) all_locks
      ∙ locked_both (λ c. same_class c wanted) a
    where
      same_adds : (c d : Class) → same_class c d ≡ true → is_add_class d ≡ false → is_add_class c ≡ false
      same_adds Read d q h = refl
      same_adds Write d q h = refl
      same_adds class.Add Read q h = absurd (false≢true q)
      same_adds class.Add Write q h = absurd (false≢true q)
      same_adds class.Add class.Add q h = h

  -- and those to add of who owns nothing
  shown_adds : (a : Name)
      → list_any (λ l. is_lock a class.Add l) (locks_by s)
      ≡ (holds (λ x. held s.told x) (λ c. same_class c class.Add) a (acts_by s) && not (has_name (owners_by s) a))
  unfolding all_locks
  shown_adds a = of (has_name (owners_by s) a) refl
    where
      is_add : (c : Class) → same_class c class.Add ≡ true → is_add_class c ≡ true
      is_add Read q = absurd (false≢true q)
      is_add Write q = absurd (false≢true q)
      is_add class.Add q = refl

      hidden : (l : Lock) → is_lock a class.Add l ≡ true → is_hidden (owners_by s) l ≡ has_name (owners_by s) a
      hidden l q =
          let p = and_parts _ _ q in
          ap₂ (λ t b. t && has_name (owners_by s) b) (is_add l.1 p.1) (same_name_true l.0 a p.0)

      of : (t : Bool) → has_name (owners_by s) a ≡ t
          → list_any (λ l. is_lock a class.Add l) (locks_by s) ≡ (holds (λ x. held s.told x) (λ c. same_class c class.Add) a (acts_by s) && not t)
      of true e =
          any-filter_same (λ (l : Lock). is_lock a class.Add l) (λ l. not (is_hidden (owners_by s) l)) false
          (λ l q. ap (λ t. not t) (hidden l q ∙ e)) all_locks
          ∙ sym (and_right (holds (λ x. held s.told x) (λ c. same_class c class.Add) a (acts_by s)) false refl)
      of false e =
          any-filter_same (λ (l : Lock). is_lock a class.Add l) (λ l. not (is_hidden (owners_by s) l)) true
          (λ l q. ap (λ t. not t) (hidden l q ∙ e)) all_locks
          ∙ locked_both (λ c. same_class c class.Add) a ∙ sym (whole (holds (λ x. held s.told x) (λ c. same_class c class.Add) a (acts_by s)))

  same_test : (k l : Class → Bool) → ((c : Class) → k c ≡ l c) → (a : Name)
      → holds (λ x. held s.told x) k a (acts_by s) ≡ holds (λ x. held s.told x) l a (acts_by s)
  same_test k l same a = λ i. holds (λ x. held s.told x) (λ c. same c i) a (acts_by s)

  pub readers_are : (a : Name) → list_any (λ l. is_lock a Read l) (locks_by s) ≡ holds (λ x. held s.told x) is_read_class a (acts_by s)
  readers_are a = shown Read a refl ∙ same_test (λ c. same_class c Read) is_read_class same a
    where
      same : (c : Class) → same_class c Read ≡ is_read_class c
      same Read = refl
      same Write = refl
      same class.Add = refl

  pub writers_are : (a : Name) → list_any (λ l. is_lock a Write l) (locks_by s) ≡ holds (λ x. held s.told x) is_write_class a (acts_by s)
  writers_are a = shown Write a refl ∙ same_test (λ c. same_class c Write) is_write_class same a
    where
      same : (c : Class) → same_class c Write ≡ is_write_class c
      same Read = refl
      same Write = refl
      same class.Add = refl

  pub add_locks_are : (a : Name) → list_any (λ l. is_lock a class.Add l) (locks_by s) ≡ adds (λ x. held s.told x) a (acts_by s)
  add_locks_are a =
      shown_adds a ∙ ap₂ (λ t u. t && not u) (same_test (λ c. same_class c class.Add) is_add_class same a) (owners_are a)
    where
      same : (c : Class) → same_class c class.Add ≡ is_add_class c
      same Read = refl
      same Write = refl
      same class.Add = refl

  pub delta_is : (a : Name) → delta_by s a ≡ sum_acts (λ x. is_exactly (held s.told x) a) (acts_by s)
  delta_is a = of s.kept
    where
      back : (rs : List (Name × Part)) → sum_back (is_held_by s a) rs ≡ sum_acts (λ x. is_exactly (held s.told x) a) (acts_of [] rs)
      back [] = refl
      back (r ∷ rs) = ap (λ n. cond (is_held_by s a r.0) (with_part n r.1) n) (back rs)

      of : (os : List Performed)
          → sum_on (sum_back (is_held_by s a) s.restored) (is_held_by s a) os ≡ sum_acts (λ x. is_exactly (held s.told x) a) (acts_of os s.restored)
      of [] = back s.restored
      of (o ∷ os) = ap (λ n. cond (is_held_by s a o.action) (with_add n o.operation) n) (of os)

  pub base_is : (c : Content) → base_by c s ≡ after_acts c (filter (λ x. is_none (held s.told x)) (acts_by s))
  base_is c = sym (passing_acts c (λ b. is_none (holder_by s.told b)) s.kept s.restored)

  pub version_is : (c : Content) (a : Name) → version_by c s a ≡ after_acts c (filter (λ x. is_held_above (held s.told x) a) (acts_by s))
  version_is c a = sym (passing_acts c (λ b. is_held_above (holder_by s.told b) a) s.kept s.restored)

-- ---- to acts and back

pub known_acts : (c : Content) (os : List Performed) (rs : List (Name × Part)) → AllByRecursion (λ o. knows c o.operation ≡ true) os
    → AllByRecursion (λ r. PartFits c r.1) rs → Each (λ x. KnownAct c x) (acts_of os rs)
known_acts c [] [] h k = tt
known_acts c [] (r ∷ rs) h k = (k.0, known_acts c [] rs tt k.1)
known_acts c (o ∷ os) rs h k = (h.0, known_acts c os rs h.1 k)

known_kept : (c : Content) (os : List Performed) (rs : List (Name × Part)) → Each (λ x. KnownAct c x) (acts_of os rs)
    → AllByRecursion (λ o. knows c o.operation ≡ true) os
known_kept c [] rs h = tt
known_kept c (o ∷ os) rs h = (h.0, known_kept c os rs h.1)

known_back : (c : Content) (os : List Performed) (rs : List (Name × Part)) → Each (λ x. KnownAct c x) (acts_of os rs)
    → AllByRecursion (λ r. PartFits c r.1) rs
known_back c [] [] h = tt
known_back c [] (r ∷ rs) h = (h.0, known_back c [] rs h.1)
known_back c (o ∷ os) rs h = known_back c os rs h.1

pub to_acts : (c : Content) (s : Standing) (object : Seen) → Shows c s object → ShowsActs c (λ x. held s.told x) (acts_by s) object
to_acts c s object shows = record {
  base = shows.base ∙ base_is s c;
  versions = λ a. shows.versions a ∙ ap₂ (λ t d. only_if t d) (owners_are s a) (version_is s c a);
  rising = shows.rising;
  deltas = λ a. shows.deltas a ∙ ap₂ (λ t n. only_if t n) (adders_are s a) (delta_is s a);
  names_rise = shows.names_rise;
  readers = λ a. shows.readers a ∙ readers_are s a;
  writers = λ a. shows.writers a ∙ writers_are s a;
  adders = λ a. shows.adders a ∙ add_locks_are s a;
  known = known_acts c s.kept s.restored shows.known shows.fit;
}

pub from_acts : (c : Content) (s : Standing) (object : Seen) → ShowsActs c (λ x. held s.told x) (acts_by s) object → IsOrderly s → Shows c s object
from_acts c s object shows orderly = record {
  base = shows.base ∙ sym (base_is s c);
  versions = λ a. shows.versions a ∙ sym (ap₂ (λ t d. only_if t d) (owners_are s a) (version_is s c a));
  rising = shows.rising;
  deltas = λ a. shows.deltas a ∙ sym (ap₂ (λ t n. only_if t n) (adders_are s a) (delta_is s a));
  names_rise = shows.names_rise;
  readers = λ a. shows.readers a ∙ sym (readers_are s a);
  writers = λ a. shows.writers a ∙ sym (writers_are s a);
  adders = λ a. shows.adders a ∙ sym (add_locks_are s a);
  known = known_kept c s.kept s.restored shows.known;
  fit = known_back c s.kept s.restored shows.known;
  orderly = orderly;
}
