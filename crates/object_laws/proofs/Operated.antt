-- What an object shows once an operation that waits for nobody is granted.
use Rattle.std.proofs.Common.{Bool, List, None, Option, Some, [], ap, ap₂, cond, false, filter, inl, is_none, not, refl, subst, sym, true, ℤ, ◌&&◌, ◌∙◌, ◌∷◌, ◌≡◌, ◌||◌}
use Rattle.std.specs.Prelude.{is_some, pos, unwrap_or}
use Rattle.std.proofs.lemmas.Bool.{and_right, false_from_ne_true, false≢true, true≢false}
use Rattle.std.specs.BTreeSet.{insert_key}
use Rattle.action_names.specs.Names.{Name, has_name, is_ancestor, name_cmp, same_name}
use Rattle.action_names.proofs.Ancestry.{proper}
use Rattle.values.specs.declared.content.Content.{Content}
use Rattle.values.specs.declared.value.Value.TheVariants.{Int, Text}
use Rattle.atomic_types.specs.declared.op.Class.{Class}
use Rattle.atomic_types.specs.declared.op.Class.TheVariants.{Read, Write}
use Rattle.atomic_types.specs.declared.op.Class.TheVariants as class
use Rattle.atomic_types.specs.declared.operation.Operation.TheVariants.{Add}
use Rattle.atomic_types.specs.Counters.{sum_of}
use Rattle.atomic_types.specs.Objects.{content_after, knows}
use Rattle.atomic_types.specs.Operations as op
use Rattle.atomic_types.specs.Operations.{class_of, classes_conflict, is_add_class, is_read_class, is_write_class}
use Rattle.atomic_types.specs.TypeLaws.{reads_leave}
use Rattle.run_model.specs.Actions.{is_exactly}
use Rattle.run_model.specs.Keeping.{Performed, Standing, blockers_by}
use Rattle.run_model.specs.Versions.{is_held_above, with_add}
use Rattle.run_laws.proofs.Each.{Each, each_map}
use Rattle.run_laws.proofs.Names.{ancestor_both, clash, same_name_self, same_name_true}
use Rattle.local_laws.specs.Tops.{adds_text}
use Rattle.local_laws.proofs.Acts.{Act, acts_by, after_acts, all_acts, deed_of}
use Rattle.local_laws.proofs.Ruled.{free_deeds}
use Rattle.object_model.specs.Deltas.{delta_at, more_at}
use Rattle.object_model.specs.Locks.{granted}
use Rattle.object_model.specs.Objects.{AddsBy, NamesRise, OperatesBy, Seen, amount_of, deltas_beside, owns}
use Rattle.object_model.specs.Stacks.{AreAbove, RisesByAncestry, is_on_top, last_version, owners_of, top_of, version_at, written}
use Rattle.object_laws.specs.Changes.{with_operation}
use Rattle.object_laws.specs.Laws.{OperatedShows}
use Rattle.object_laws.specs.Shown.{Shows, only_if}
use Rattle.object_laws.proofs.Chain.{all_above, first_above, top_at, top_rises}
use Rattle.object_laws.proofs.Choosing.{holds_own, none_added, reads_alone, same_left, same_sum}
use Rattle.object_laws.proofs.Held.{KnownAct, ShowsActs, adds, from_acts, held, holds, sum_acts, to_acts}
use Rattle.object_laws.proofs.Names.{has_insert}
use Rattle.object_laws.proofs.Standing.{free_above, lowest_is_last, owner_above}
use Rattle.object_laws.proofs.Sums.{known_adds}
use Rattle.object_laws.proofs.Topmost.{deltas_covered, left_shown}
use Rattle.object_laws.proofs.Standing as standing

-- the version of an owner on top is the content on top
on_top_version : (c : Content) (vs : List (Name × Content)) (a : Name) → RisesByAncestry vs → is_on_top (owners_of vs) a ≡ true
    → version_at vs a ≡ Some (last_version c vs)
on_top_version c [] a r h = absurd (false≢true h)
on_top_version c (v ∷ []) a r h = ap (λ (t : Bool). cond t (Some v.1) None) h
on_top_version c (v ∷ u ∷ vs) a r h =
    let e = on_top_version v.1 (u ∷ vs) a r.1 h in
    ap (λ (t : Bool). cond t (Some v.1) (version_at (u ∷ vs) a)) (proper v.0 a (first_above v (u ∷ vs) a r (ap (λ o. is_some o) e))).1 ∙ e

module _ (c : Content) (s : Standing) (old new : Seen) (o : Performed) (before : Shows c s old) (own : is_ancestor o.action o.action ≡ true)
    (untold : s.told o.action ≡ false) (known : knows c o.operation ≡ true) (free : blockers_by s o.action o.operation ≡ []) (rise : NamesRise new.deltas) where
  abbrev w : Name → Bool
  w b = holds (λ x. held s.told x) is_write_class b (acts_by s)

  abbrev ad : Name → Bool
  ad b = holds (λ x. held s.told x) is_add_class b (acts_by s)

  abbrev su : Name → ℤ
  su b = sum_acts (λ x. is_exactly (held s.told x) b) (acts_by s)

  abbrev version : Name → Content
  version b = after_acts c (filter (λ x. is_held_above (held s.told x) b) (acts_by s))

  shows : ShowsActs c (λ x. held s.told x) (acts_by s) old
  shows = to_acts c s old before

  mine : held s.told (inl o) ≡ Some o.action
  mine = holds_own s.told o.action own untold

  -- ---- one act more

  chosen : (p : Option Name → Bool)
      → after_acts c (filter (λ x. p (held s.told x)) (inl o ∷ acts_by s))
      ≡ cond (p (Some o.action)) (content_after (after_acts c (filter (λ x. p (held s.told x)) (acts_by s))) o.operation) (after_acts c (filter (λ x. p (held s.told x)) (acts_by s)))
  chosen p =
      ap (λ h. after_acts c (cond (p h) (inl o ∷ filter (λ x. p (held s.told x)) (acts_by s)) (filter (λ x. p (held s.told x)) (acts_by s)))) mine
      ∙ of (p (Some o.action)) (filter (λ x. p (held s.told x)) (acts_by s))
    where
      of : (t : Bool) (ys : List Act) → after_acts c (cond t (inl o ∷ ys) ys) ≡ cond t (content_after (after_acts c ys) o.operation) (after_acts c ys)
      of true ys = refl
      of false ys = refl

  summed : (b : Name)
      → sum_acts (λ x. is_exactly (held s.told x) b) (inl o ∷ acts_by s) ≡ cond (same_name o.action b) (with_add (su b) o.operation) (su b)
  summed b = ap (λ h. cond (is_exactly h b) (with_add (su b) o.operation) (su b)) mine

  one_more : (k : Class → Bool) (b : Name)
      → holds (λ x. held s.told x) k b (inl o ∷ acts_by s)
      ≡ ((same_name o.action b && k (class_of o.operation)) || holds (λ x. held s.told x) k b (acts_by s))
  one_more k b = ap (λ h. (is_exactly h b && k (class_of o.operation)) || holds (λ x. held s.told x) k b (acts_by s)) mine

  base_stays : new.stack.base ≡ old.stack.base → new.stack.base ≡ after_acts c (filter (λ x. is_none (held s.told x)) (inl o ∷ acts_by s))
  base_stays e = e ∙ shows.base ∙ sym (chosen (λ h. is_none h))

  -- ---- owners

  above : AreAbove old.stack.versions o.action
  above = all_above old.stack.versions o.action (λ d v. owner_above c s old o.action d o.operation before free v)

  -- an owner other than the action is no descendant of it
  not_below : (b : Name) → same_name o.action b ≡ false → w b ≡ true → is_ancestor o.action b ≡ false
  not_below b apart h =
      false_from_ne_true (is_ancestor o.action b) (λ k.
      clash (same_name_self o.action)
      (ap (λ x. same_name o.action x) (ancestor_both o.action b k
      (standing.holder_above (λ x. held s.told x) o.action b is_write_class (class_of o.operation) (acts_by s)
      (λ d q. standing.writes_conflict (class_of o.operation) d q) (free_above s o.action o.operation free) h)) ∙ apart))

  -- its version stays
  others_stay : (b : Name) → same_name o.action b ≡ false → (t : Bool) → w b ≡ t
      → only_if t (version b) ≡ only_if t (cond (is_ancestor o.action b) (content_after (version b) o.operation) (version b))
  others_stay b apart true h = ap (λ t. Some (cond t (content_after (version b) o.operation) (version b))) (sym (not_below b apart h))
  others_stay b apart false h = refl

  -- what a version on top more has to be
  written_at : (x : Content) → x ≡ content_after (version o.action) o.operation → (b : Name)
      → new.stack ≡ written old.stack o.action x → (same_name o.action b ≡ true → ((same_name o.action b && is_write_class (class_of o.operation)) || w b) ≡ true)
      → version_at new.stack.versions b
      ≡ only_if ((same_name o.action b && is_write_class (class_of o.operation)) || w b) (cond (is_ancestor o.action b) (content_after (version b) o.operation) (version b))
  written_at x e b stack owned = ap (λ st. version_at st.versions b) stack ∙ of (same_name o.action b) refl
    where
      of : (t : Bool) → same_name o.action b ≡ t
          → version_at (written old.stack o.action x).versions b
          ≡ only_if ((same_name o.action b && is_write_class (class_of o.operation)) || w b) (cond (is_ancestor o.action b) (content_after (version b) o.operation) (version b))
      of true q =
          let same = same_name_true o.action b q in
          (top_at old.stack.versions o.action b x shows.rising above).0 q
          ∙ ap (λ v. Some v) (e ∙ ap (λ y. content_after (version y) o.operation) same
          ∙ ap (λ t. cond t (content_after (version b) o.operation) (version b)) (sym own ∙ ap (λ y. is_ancestor o.action y) same))
          ∙ ap (λ t. only_if t (cond (is_ancestor o.action b) (content_after (version b) o.operation) (version b))) (sym (owned q))
      of false q =
          (top_at old.stack.versions o.action b x shows.rising above).1 q ∙ shows.versions b ∙ others_stay b q (w b) refl
          ∙ ap (λ t. only_if ((t && is_write_class (class_of o.operation)) || w b) (cond (is_ancestor o.action b) (content_after (version b) o.operation) (version b))) (sym q)

  version_then : (b : Name) (stack : Option Content)
      → stack ≡ only_if ((same_name o.action b && is_write_class (class_of o.operation)) || w b) (cond (is_ancestor o.action b) (content_after (version b) o.operation) (version b))
      → stack ≡ only_if (holds (λ x. held s.told x) is_write_class b (inl o ∷ acts_by s)) (after_acts c (filter (λ x. is_held_above (held s.told x) b) (inl o ∷ acts_by s)))
  version_then b stack e = e ∙ sym (ap₂ (λ t v. only_if t v) (one_more is_write_class b) (chosen (λ h. is_held_above h b)))

  delta_then : (b : Name) (d : Option ℤ)
      → d ≡ only_if (((same_name o.action b && is_add_class (class_of o.operation)) || ad b) && not ((same_name o.action b && is_write_class (class_of o.operation)) || w b))
      (cond (same_name o.action b) (with_add (su b) o.operation) (su b))
      → d ≡ only_if (adds (λ x. held s.told x) b (inl o ∷ acts_by s)) (sum_acts (λ x. is_exactly (held s.told x) b) (inl o ∷ acts_by s))
  delta_then b d e =
      e ∙ sym (ap₂ (λ t n. only_if t n) (ap₂ (λ t u. t && not u) (one_more is_add_class b) (one_more is_write_class b)) (summed b))

  all_known : Each (λ x. KnownAct c x) (inl o ∷ acts_by s)
  all_known = (known, shows.known)

  none_more : (t u : Bool) → u ≡ ((t && false) || u)
  none_more true u = refl
  none_more false u = refl

  one_there : (t u : Bool) → (t || u) ≡ ((t && true) || u)
  one_there true u = refl
  one_there false u = refl

  -- ---- a read

  read_adds_nothing : (n : ℤ) → class_of o.operation ≡ Read → with_add n o.operation ≡ n
  read_adds_nothing n e = of o.operation e
    where
      of : (p : op.Op) → class_of p ≡ Read → with_add n p ≡ n
      of (Add v) q = absurd (false≢true (ap (λ k. is_read_class k) q))
      of _ q = refl

  read_shows : class_of o.operation ≡ Read → (new.stack ≡ old.stack) × (new.deltas ≡ old.deltas) → new.locks ≡ granted old.locks o.action Read
      → ShowsActs c (λ x. held s.told x) (inl o ∷ acts_by s) new
  read_shows e parts locks = record {
    base = base_stays (ap (λ st. st.base) parts.0);
    versions = λ b. version_then b (version_at new.stack.versions b) (ap (λ st. version_at st.versions b) parts.0 ∙ shows.versions b
        ∙ ap₂ (λ t v. only_if t v) (none_more (same_name o.action b) (w b) ∙ ap (λ k. (same_name o.action b && is_write_class k) || w b) (sym e))
        (either (is_ancestor o.action b) (version b) ∙ ap (λ v. cond (is_ancestor o.action b) v (version b)) (sym (reads_leave (version b) o.operation (ap (λ k. is_read_class k) e)))));
    rising = subst (λ st. RisesByAncestry st.versions) (sym parts.0) shows.rising;
    deltas = λ b. delta_then b (delta_at new.deltas b) (ap (λ ds. delta_at ds b) parts.1 ∙ shows.deltas b
        ∙ ap₂ (λ t n. only_if t n)
        (ap₂ (λ t u. t && not u) (none_more (same_name o.action b) (ad b) ∙ ap (λ k. (same_name o.action b && is_add_class k) || ad b) (sym e))
        (none_more (same_name o.action b) (w b) ∙ ap (λ k. (same_name o.action b && is_write_class k) || w b) (sym e)))
        (same (same_name o.action b) (su b) ∙ ap (λ n. cond (same_name o.action b) n (su b)) (sym (read_adds_nothing (su b) e))));
    names_rise = rise;
    readers = λ b. ap (λ l. has_name l.readers b) locks ∙ has_insert o.action b old.locks.readers ∙ ap (λ t. same_name o.action b || t) (shows.readers b)
        ∙ one_there (same_name o.action b) (holds (λ x. held s.told x) is_read_class b (acts_by s))
        ∙ ap (λ k. (same_name o.action b && is_read_class k) || holds (λ x. held s.told x) is_read_class b (acts_by s)) (sym e) ∙ sym (one_more is_read_class b);
    writers = λ b. ap (λ l. has_name l.writers b) locks ∙ shows.writers b ∙ none_more (same_name o.action b) (w b)
        ∙ ap (λ k. (same_name o.action b && is_write_class k) || w b) (sym e) ∙ sym (one_more is_write_class b);
    adders = λ b. ap (λ l. has_name l.adders b && not (has_name l.writers b)) locks ∙ shows.adders b
        ∙ ap₂ (λ t u. t && not u)
        (none_more (same_name o.action b) (ad b) ∙ ap (λ k. (same_name o.action b && is_add_class k) || ad b) (sym e) ∙ sym (one_more is_add_class b))
        (none_more (same_name o.action b) (w b) ∙ ap (λ k. (same_name o.action b && is_write_class k) || w b) (sym e) ∙ sym (one_more is_write_class b));
    known = all_known;
  }
    where
      either : (t : Bool) (v : Content) → v ≡ cond t v v
      either true v = refl
      either false v = refl

      same : (t : Bool) (n : ℤ) → n ≡ cond t n n
      same true n = refl
      same false n = refl

  -- ---- a write

  -- all that was done is in the version of the action
  whole_version : class_of o.operation ≡ Write → version o.action ≡ after_acts c (acts_by s)
  whole_version e =
      same_left c (λ x. is_held_above (held s.told x) o.action) (λ x. true) (acts_by s)
      (each_map _ _ (acts_by s) (λ x h r. h (conflicts (deed_of x).1)) (free_above s o.action o.operation free)) ∙ ap (λ ys. after_acts c ys) (all (acts_by s))
    where
      conflicts : (k : Class) → classes_conflict k (class_of o.operation) ≡ true
      conflicts Read = ap (λ d. not (is_read_class d)) e
      conflicts Write = refl
      conflicts class.Add = ap (λ d. not (is_add_class d)) e

      all : (ys : List Act) → filter (λ y. true) ys ≡ ys
      all [] = refl
      all (y ∷ ys) = ap (λ zs. y ∷ zs) (all ys)

  top_is : class_of o.operation ≡ Write → content_after (top_of old.stack) o.operation ≡ content_after (version o.action) o.operation
  top_is e =
      sym (deltas_covered (top_of old.stack) (deltas_beside old) o.operation (ap (λ k. is_write_class k) e) ((standing.top_known c (λ x. held s.told x) (acts_by s) old o.operation shows).1 ∙ known))
      ∙ ap (λ v. content_after v o.operation) (sym (left_shown c s old before) ∙ sym (all_acts c s.kept s.restored) ∙ sym (whole_version e))

  write_shows : class_of o.operation ≡ Write → OperatesBy Write old new o.action o.operation → new.locks ≡ granted old.locks o.action Write
      → ShowsActs c (λ x. held s.told x) (inl o ∷ acts_by s) new
  write_shows e parts locks = record {
    base = base_stays (ap (λ st. st.base) parts.0);
    versions = λ b. version_then b (version_at new.stack.versions b)
        (written_at (content_after (top_of old.stack) o.operation) (top_is e) b parts.0
        (λ q. ap₂ (λ t k. (t && is_write_class k) || w b) q e));
    rising = subst (λ st. RisesByAncestry st.versions) (sym parts.0)
        (top_rises old.stack.versions o.action (content_after (top_of old.stack) o.operation) shows.rising above);
    deltas = λ b. delta_then b (delta_at new.deltas b) (parts.1 b ∙ delta b (same_name o.action b) refl
        ∙ ap (λ k. only_if (((same_name o.action b && is_add_class k) || ad b) && not ((same_name o.action b && is_write_class k) || w b)) (cond (same_name o.action b) (with_add (su b) o.operation) (su b))) (sym e));
    names_rise = rise;
    readers = λ b. ap (λ l. has_name l.readers b) locks ∙ shows.readers b ∙ none_more (same_name o.action b) (holds (λ x. held s.told x) is_read_class b (acts_by s))
        ∙ ap (λ k. (same_name o.action b && is_read_class k) || holds (λ x. held s.told x) is_read_class b (acts_by s)) (sym e) ∙ sym (one_more is_read_class b);
    writers = λ b. ap (λ l. has_name l.writers b) locks ∙ writers b;
    adders = λ b. ap (λ l. has_name l.adders b && not (has_name l.writers b)) locks
        ∙ ap (λ t. has_name old.locks.adders b && not t) (has_insert o.action b old.locks.writers)
        ∙ lock (same_name o.action b) (has_name old.locks.adders b) (has_name old.locks.writers b) (ad b) (w b) (shows.writers b) (shows.adders b)
        ∙ ap (λ k. ((same_name o.action b && is_add_class k) || ad b) && not ((same_name o.action b && is_write_class k) || w b)) (sym e)
        ∙ ap₂ (λ t u. t && not u) (sym (one_more is_add_class b)) (sym (one_more is_write_class b));
    known = all_known;
  }
    where
      writers : (b : Name) → has_name (insert_key name_cmp old.locks.writers o.action) b ≡ holds (λ x. held s.told x) is_write_class b (inl o ∷ acts_by s)
      writers b =
          has_insert o.action b old.locks.writers ∙ ap (λ t. same_name o.action b || t) (shows.writers b) ∙ one_there (same_name o.action b) (w b)
          ∙ ap (λ k. (same_name o.action b && is_write_class k) || w b) (sym e) ∙ sym (one_more is_write_class b)

      delta : (b : Name) (t : Bool) → same_name o.action b ≡ t
          → cond t None (delta_at old.deltas b)
          ≡ only_if (((t && false) || ad b) && not ((t && true) || w b)) (cond t (with_add (su b) o.operation) (su b))
      delta b true q = sym (ap (λ t. only_if t (with_add (su b) o.operation)) (and_right (ad b) false refl))
      delta b false q = shows.deltas b

      lock : (t l m x v : Bool) → m ≡ v → (l && not m) ≡ (x && not v) → (l && not (t || m)) ≡ (((t && false) || x) && not ((t && true) || v))
      lock true l m x v h k = and_right l false refl ∙ sym (and_right x false refl)
      lock false l m x v h k = k

  -- ---- an add

  nothing : w o.action ≡ false → ad o.action ≡ false → su o.action ≡ pos 0
  nothing h k =
      same_sum (λ x. is_exactly (held s.told x) o.action) (λ x. false) (acts_by s)
      (reads_alone (λ x. held s.told x) o.action (acts_by s) h k)
      ∙ none_added (acts_by s)

  amount_is : (n : ℤ) → class_of o.operation ≡ class.Add → with_add n o.operation ≡ sum_of n (amount_of o.operation)
  amount_is n e = of o.operation e (known_adds c o.operation known)
    where
      of : (p : op.Op) → class_of p ≡ class.Add → adds_text p ≡ false → with_add n p ≡ sum_of n (amount_of p)
      of (Add (Int z)) q t = refl
      of (Add (Text bytes)) q t = absurd (true≢false t)
      of _ q t = absurd (false≢true (ap (λ k. is_add_class k) q))

  owns_is : owns old o.action ≡ w o.action
  owns_is = ap (λ v. is_some v) (shows.versions o.action) ∙ some (w o.action) (version o.action)
    where
      some : (t : Bool) (v : Content) → is_some (only_if t v) ≡ t
      some true v = refl
      some false v = refl

  -- the delta of its own
  more_is : w o.action ≡ false → class_of o.operation ≡ class.Add → (b : Name) → same_name o.action b ≡ true
      → more_at old.deltas o.action (amount_of o.operation) ≡ Some (with_add (su b) o.operation)
  more_is none e b q =
      ap (λ d. Some (sum_of (unwrap_or d (pos 0)) (amount_of o.operation)))
      (shows.deltas o.action ∙ ap (λ t. only_if (ad o.action && not t) (su o.action)) none)
      ∙ ap (λ n. Some (sum_of n (amount_of o.operation))) (of (ad o.action) refl)
      ∙ ap (λ n. Some n) (sym (amount_is (su o.action) e)) ∙ ap (λ y. Some (with_add (su y) o.operation)) (same_name_true o.action b q)
    where
      of : (t : Bool) → ad o.action ≡ t → unwrap_or (only_if (t && true) (su o.action)) (pos 0) ≡ su o.action
      of true k = refl
      of false k = sym (nothing none k)

  add_shows : class_of o.operation ≡ class.Add → AddsBy (owns old o.action) old new o.action o.operation → new.locks ≡ granted old.locks o.action class.Add
      → ShowsActs c (λ x. held s.told x) (inl o ∷ acts_by s) new
  add_shows e parts locks = of (owns old o.action) refl parts
    where
      readers : (b : Name) → has_name new.locks.readers b ≡ holds (λ x. held s.told x) is_read_class b (inl o ∷ acts_by s)
      readers b =
          ap (λ l. has_name l.readers b) locks ∙ shows.readers b ∙ none_more (same_name o.action b) (holds (λ x. held s.told x) is_read_class b (acts_by s))
          ∙ ap (λ k. (same_name o.action b && is_read_class k) || holds (λ x. held s.told x) is_read_class b (acts_by s)) (sym e) ∙ sym (one_more is_read_class b)

      writers : (b : Name) → has_name new.locks.writers b ≡ holds (λ x. held s.told x) is_write_class b (inl o ∷ acts_by s)
      writers b =
          ap (λ l. has_name l.writers b) locks ∙ shows.writers b ∙ none_more (same_name o.action b) (w b)
          ∙ ap (λ k. (same_name o.action b && is_write_class k) || w b) (sym e) ∙ sym (one_more is_write_class b)

      lock : (t l m x v : Bool) → m ≡ v → (l && not m) ≡ (x && not v) → ((t || l) && not m) ≡ (((t && true) || x) && not ((t && false) || v))
      lock true l m x v h k = ap (λ u. not u) h
      lock false l m x v h k = k

      adders : (b : Name) → (has_name new.locks.adders b && not (has_name new.locks.writers b)) ≡ adds (λ x. held s.told x) b (inl o ∷ acts_by s)
      adders b =
          ap (λ l. has_name l.adders b && not (has_name l.writers b)) locks
          ∙ ap (λ t. t && not (has_name old.locks.writers b)) (has_insert o.action b old.locks.adders)
          ∙ lock (same_name o.action b) (has_name old.locks.adders b) (has_name old.locks.writers b) (ad b) (w b) (shows.writers b) (shows.adders b)
          ∙ ap (λ k. ((same_name o.action b && is_add_class k) || ad b) && not ((same_name o.action b && is_write_class k) || w b)) (sym e)
          ∙ ap₂ (λ t u. t && not u) (sym (one_more is_add_class b)) (sym (one_more is_write_class b))

      -- the delta that is wanted, by the class
      by_class : (b : Name) (d : Option ℤ)
          → d ≡ only_if (((same_name o.action b && true) || ad b) && not ((same_name o.action b && false) || w b)) (cond (same_name o.action b) (with_add (su b) o.operation) (su b))
          → d ≡ only_if (adds (λ x. held s.told x) b (inl o ∷ acts_by s)) (sum_acts (λ x. is_exactly (held s.told x) b) (inl o ∷ acts_by s))
      by_class b d q =
          delta_then b d (q
          ∙ ap (λ k. only_if (((same_name o.action b && is_add_class k) || ad b) && not ((same_name o.action b && is_write_class k) || w b)) (cond (same_name o.action b) (with_add (su b) o.operation) (su b))) (sym e))

      on_top : owns old o.action ≡ true → content_after (top_of old.stack) o.operation ≡ content_after (version o.action) o.operation
      on_top q =
          ap (λ v. content_after v o.operation)
          (standing.owner_version c (λ x. held s.told x) (acts_by s) old o.action (top_of old.stack) shows
          (on_top_version old.stack.base old.stack.versions o.action shows.rising (lowest_is_last old.stack.versions o.action shows.rising above q)))

      own_delta : owns old o.action ≡ true → (b : Name) (t : Bool) → same_name o.action b ≡ t
          → delta_at old.deltas b ≡ only_if (((t && true) || ad b) && not ((t && false) || w b)) (cond t (with_add (su b) o.operation) (su b))
      own_delta q b true h =
          let owner : w b ≡ true = ap (λ y. w y) (sym (same_name_true o.action b h)) ∙ sym owns_is ∙ q in
          shows.deltas b ∙ ap (λ t. only_if (ad b && not t) (su b)) owner ∙ ap (λ t. only_if t (su b)) (and_right (ad b) false refl)
          ∙ sym (ap (λ t. only_if (not t) (with_add (su b) o.operation)) owner)
      own_delta q b false h = shows.deltas b

      new_delta : owns old o.action ≡ false → (b : Name) (t : Bool) → same_name o.action b ≡ t
          → cond t (more_at old.deltas o.action (amount_of o.operation)) (delta_at old.deltas b)
          ≡ only_if (((t && true) || ad b) && not ((t && false) || w b)) (cond t (with_add (su b) o.operation) (su b))
      new_delta q b true h =
          let none : w o.action ≡ false = sym owns_is ∙ q in
          more_is none e b h
          ∙ sym (ap (λ t. only_if (not t) (with_add (su b) o.operation)) (ap (λ y. w y) (sym (same_name_true o.action b h)) ∙ none))
      new_delta q b false h = shows.deltas b

      -- no version is its own
      versions_stay : owns old o.action ≡ false → (b : Name) (t : Bool) → same_name o.action b ≡ t
          → only_if (w b) (version b) ≡ only_if ((t && false) || w b) (cond (is_ancestor o.action b) (content_after (version b) o.operation) (version b))
      versions_stay q b true h =
          let none : w b ≡ false = ap (λ y. w y) (sym (same_name_true o.action b h)) ∙ sym owns_is ∙ q in
          ap (λ t. only_if t (version b)) none
          ∙ sym (ap (λ t. only_if t (cond (is_ancestor o.action b) (content_after (version b) o.operation) (version b))) none)
      versions_stay q b false h = others_stay b h (w b) refl

      of : (t : Bool) → owns old o.action ≡ t → AddsBy t old new o.action o.operation → ShowsActs c (λ x. held s.told x) (inl o ∷ acts_by s) new
      of true q parts = record {
        base = base_stays (ap (λ st. st.base) parts.0);
        versions = λ b. version_then b (version_at new.stack.versions b)
            (written_at (content_after (top_of old.stack) o.operation) (on_top q) b parts.0
            (λ h. ap (λ k. (same_name o.action b && is_write_class k) || w b) e ∙ sym (none_more (same_name o.action b) (w b))
            ∙ ap (λ y. w y) (sym (same_name_true o.action b h)) ∙ sym owns_is ∙ q));
        rising = subst (λ st. RisesByAncestry st.versions) (sym parts.0)
            (top_rises old.stack.versions o.action (content_after (top_of old.stack) o.operation) shows.rising above);
        deltas = λ b. by_class b (delta_at new.deltas b) (ap (λ ds. delta_at ds b) parts.1 ∙ own_delta q b (same_name o.action b) refl);
        names_rise = rise;
        readers = readers;
        writers = writers;
        adders = adders;
        known = all_known;
      }
      of false q parts = record {
        base = base_stays (ap (λ st. st.base) parts.0);
        versions = λ b. version_then b (version_at new.stack.versions b) (ap (λ st. version_at st.versions b) parts.0 ∙ shows.versions b
            ∙ versions_stay q b (same_name o.action b) refl
            ∙ ap (λ k. only_if ((same_name o.action b && is_write_class k) || w b) (cond (is_ancestor o.action b) (content_after (version b) o.operation) (version b))) (sym e));
        rising = subst (λ st. RisesByAncestry st.versions) (sym parts.0) shows.rising;
        deltas = λ b. by_class b (delta_at new.deltas b) (parts.1 b ∙ new_delta q b (same_name o.action b) refl);
        names_rise = rise;
        readers = readers;
        writers = writers;
        adders = adders;
        known = all_known;
      }

pub operated_shows : OperatedShows
operated_shows c s old new o before own untold known free done =
    from_acts c (with_operation o s) new (of (class_of o.operation) refl done.parts done.locks)
    (free_deeds s o.action o.operation free, before.orderly)
  where
    of : (k : Class) → class_of o.operation ≡ k → OperatesBy k old new o.action o.operation → new.locks ≡ granted old.locks o.action k
        → ShowsActs c (λ x. held s.told x) (inl o ∷ acts_by s) new
    of Read e parts locks = read_shows c s old new o before own untold known free done.rising e parts locks
    of Write e parts locks = write_shows c s old new o before own untold known free done.rising e parts locks
    of class.Add e parts locks = add_shows c s old new o before own untold known free done.rising e parts locks
