-- What an object shows tells of its owners and of who waits.
use Rattle.std.proofs.Common.{Bool, List, None, Option, Some, [], ap, ap₂, cond, false, filter, inl, inr, is_none, not, refl, subst, sym, true, ◌&&◌, ◌∙◌, ◌∷◌, ◌≡◌, ◌||◌, ◌⊎◌}
use Rattle.std.proofs.lemmas.Bool.{and_parts, false_from_ne_true, false≢true, or_cases, or_left, or_right, true≢false}
use Rattle.std.specs.List.{list_any}
use Rattle.std.specs.Prelude.{is_some}
use Rattle.action_names.specs.Names.{Name, has_name, is_ancestor, is_proper_ancestor, parent_of, same_name}
use Rattle.action_names.proofs.Ancestry.{ancestor_antisym, proper, proper_of, same_is, same_refl}
use Rattle.values.specs.declared.content.Content.{Content}
use Rattle.atomic_types.specs.declared.op.Class.{Class}
use Rattle.atomic_types.specs.declared.op.Class.TheVariants.{Read, Write}
use Rattle.atomic_types.specs.declared.op.Class.TheVariants as class
use Rattle.atomic_types.specs.Objects.{knows}
use Rattle.atomic_types.specs.Operations as op
use Rattle.atomic_types.specs.Operations.{class_of, classes_conflict, is_write_class}
use Rattle.run_model.specs.Actions.{is_exactly}
use Rattle.run_model.specs.Keeping.{Standing, blockers_by, conflicting_holders}
use Rattle.run_model.specs.Telling.{holder_by}
use Rattle.run_model.specs.Versions.{Lock, is_held_above, locks_by}
use Rattle.run_laws.proofs.Each.{Each}
use Rattle.run_laws.proofs.Names.{ancestor_trans, ancestor_up, clash, not_above_parent, parent_ancestor, same_name_true}
use Rattle.local_laws.proofs.Acts.{Act, acts_by, after_acts, deed_of}
use Rattle.local_laws.proofs.Orderly.{holder_is}
use Rattle.local_laws.proofs.Replying.{others_free}
use Rattle.local_laws.proofs.Rising.{rising_is}
use Rattle.local_laws.proofs.Waiting.{blockers_by_locks}
use Rattle.local_laws.specs.Orderly as orderly
use Rattle.object_model.specs.Locks.{holds_conflicting, is_in_the_way}
use Rattle.object_model.specs.Objects.{Seen}
use Rattle.object_model.specs.Stacks.{AreAbove, IsNextHolder, RisesByAncestry, is_on_top, is_passed_by, last_version, owners_of, top_of, version_at}
use Rattle.object_laws.specs.Laws.{AddersOnTop, BlockersShown, KnowsShown, NoneBetween, OwnersAbove}
use Rattle.object_laws.specs.Shown.{Shows, is_lock, only_if, same_class}
use Rattle.object_laws.proofs.Chain.{Last, Owns, all_above, last_owner, none_between}
use Rattle.object_laws.proofs.Choosing.{above_holder, each_chosen, exactly, holder_untold, left_known}
use Rattle.object_laws.proofs.Held.{KnownAct, ShowsActs, held, holds, to_acts}
use Rattle.object_laws.proofs.Names.{rising_from, rising_same}

-- ---- owners

pub owner_holds : (c : Content) (hold : Act → Option Name) (xs : List Act) (object : Seen) (b : Name) → ShowsActs c hold xs object
    → Owns object.stack.versions b → holds hold is_write_class b xs ≡ true
owner_holds c hold xs object b shows w = of (holds hold is_write_class b xs) refl
  where
    of : (t : Bool) → holds hold is_write_class b xs ≡ t → holds hold is_write_class b xs ≡ true
    of true e = e
    of false e =
        absurd (false≢true (sym (ap (λ o. is_some o) (shows.versions b
        ∙ ap (λ t. only_if t (after_acts c (filter (λ x. is_held_above (hold x) b) xs))) e)) ∙ w))

-- the version of an owner
pub owner_version : (c : Content) (hold : Act → Option Name) (xs : List Act) (object : Seen) (b : Name) (v : Content) → ShowsActs c hold xs object
    → version_at object.stack.versions b ≡ Some v → v ≡ after_acts c (filter (λ x. is_held_above (hold x) b) xs)
owner_version c hold xs object b v shows e =
    of (sym e ∙ shows.versions b ∙ ap (λ t. only_if t (after_acts c (filter (λ x. is_held_above (hold x) b) xs))) (owner_holds c hold xs object b shows (ap (λ o. is_some o) e)))
  where
    of : Some v ≡ Some (after_acts c (filter (λ x. is_held_above (hold x) b) xs)) → v ≡ after_acts c (filter (λ x. is_held_above (hold x) b) xs)
    of q = cc

-- the next holder is above a, and an owner above a is above the next holder
pub next_holder : (told : Name → Bool) (a p : Name) → is_ancestor a a ≡ true → holder_by told (parent_of a) ≡ Some p → is_proper_ancestor p a ≡ true
next_holder told a p own e = at a own (holder_is told (parent_of a) p e).0
  where
    above : (d a : Name) → is_ancestor d (parent_of a) ≡ true → is_ancestor d a ≡ true
    above d [] h = h
    above [] (n ∷ []) h = absurd (false≢true h)
    above (m ∷ d) (n ∷ []) h = absurd (false≢true h)
    above d (n ∷ m ∷ a) h = ancestor_trans d (parent_of (n ∷ m ∷ a)) (n ∷ m ∷ a) h (parent_ancestor (n ∷ m ∷ a) refl (λ q. cc))

    at : (a : Name) → is_ancestor a a ≡ true → is_ancestor p (parent_of a) ≡ true → is_proper_ancestor p a ≡ true
    at a own h = proper_of p a (above p a h) (false_from_ne_true (same_name p a)
        (λ q. not_above_parent a (subst (λ d. is_ancestor d (parent_of a) ≡ true) (same_name_true p a q) h)))

pub passed_by : (told : Name → Bool) (a b : Name) (to : Option Name) → to ≡ holder_by told (parent_of a) → told b ≡ false → is_passed_by b a to ≡ true
passed_by told a b to e n = of (is_proper_ancestor b a) refl to e
  where
    of : (t : Bool) → is_proper_ancestor b a ≡ t → (to : Option Name) → to ≡ holder_by told (parent_of a) → is_passed_by b a to ≡ true
    of false q None e = ap (λ t. not t) q
    of false q (Some p) e = or_left _ _ (ap (λ t. not t) q)
    of true q to e = up (ancestor_up b a (proper b a q).0) to e
      where
        up : (b ≡ a) ⊎ (is_ancestor b (parent_of a) ≡ true) → (to : Option Name) → to ≡ holder_by told (parent_of a) → is_passed_by b a to ≡ true
        up (inl s) to e = absurd (true≢false (sym (same_refl b) ∙ ap (λ x. same_name b x) s ∙ (proper b a q).1))
        up (inr h) None e = let x = above_holder told (parent_of a) b h n in let f : None ≡ Some x.0 = e ∙ x.1 in absurd (cc)
        up (inr h) (Some p) e =
            let x = above_holder told (parent_of a) b h n in
            let f : Some p ≡ Some x.0 = e ∙ x.1 in
            let same : p ≡ x.0 = cc in
            or_right _ _ (subst (λ d. is_ancestor b d ≡ true) (sym same) x.2)

pub none_between_shown : NoneBetween
none_between_shown c s object a to shows own e = (
  next to e,
  none_between object.stack.versions a to (λ d w.
      passed_by s.told a d to e (holder_untold s.told is_write_class d (acts_by s) (owner_holds c (λ x. held s.told x) (acts_by s) object d (to_acts c s object shows) w)).1),
)
  where
    next : (to : Option Name) → to ≡ holder_by s.told (parent_of a) → IsNextHolder a to
    next None e = tt
    next (Some p) e = next_holder s.told a p own (sym e)

-- ---- who waits for nobody

-- what is in the way of an action that waits for nobody is held above it
pub free_above : (s : Standing) (a : Name) (wanted : op.Op) → blockers_by s a wanted ≡ []
    → Each (λ x. classes_conflict (deed_of x).1 (class_of wanted) ≡ true → is_held_above (held s.told x) a ≡ true) (acts_by s)
free_above s a wanted free = of (acts_by s) (others_free s a wanted free)
  where
    of : (xs : List Act)
        → Each (λ x. classes_conflict (deed_of x).1 (class_of wanted) ≡ false) (filter (λ x. not (is_held_above (holder_by s.told (deed_of x).0) a)) xs)
        → Each (λ x. classes_conflict (deed_of x).1 (class_of wanted) ≡ true → is_held_above (held s.told x) a ≡ true) xs
    of [] h = tt
    of (x ∷ xs) h = step (is_held_above (held s.told x) a) refl h (λ k. of xs k)
      where
        others : List Act
        others = filter (λ x. not (is_held_above (holder_by s.told (deed_of x).0) a)) xs

        step : (t : Bool) → is_held_above (held s.told x) a ≡ t
            → Each (λ x. classes_conflict (deed_of x).1 (class_of wanted) ≡ false) (cond (not t) (x ∷ others) others)
            → (Each (λ x. classes_conflict (deed_of x).1 (class_of wanted) ≡ false) others
            → Each (λ x. classes_conflict (deed_of x).1 (class_of wanted) ≡ true → is_held_above (held s.told x) a ≡ true) xs)
            → Each (λ x. classes_conflict (deed_of x).1 (class_of wanted) ≡ true → is_held_above (held s.told x) a ≡ true) (x ∷ xs)
        step true e k ih = (λ q. e, ih k)
        step false e k ih = (λ q. absurd (clash q k.0), ih k.1)

-- so each holder of such an act is an ancestor
pub holder_above : (hold : Act → Option Name) (a b : Name) (k : Class → Bool) (wanted : Class) (xs : List Act)
    → ((d : Class) → k d ≡ true → classes_conflict d wanted ≡ true)
    → Each (λ x. classes_conflict (deed_of x).1 wanted ≡ true → is_held_above (hold x) a ≡ true) xs
    → holds hold k b xs ≡ true → is_ancestor b a ≡ true
holder_above hold a b k wanted [] conflict h w = absurd (false≢true w)
holder_above hold a b k wanted (x ∷ xs) conflict h w = elim (or_cases (is_exactly (hold x) b && k (deed_of x).1) (holds hold k b xs) w) [
  | inl q ↦
      let p = and_parts (is_exactly (hold x) b) (k (deed_of x).1) q in
      sym (ap (λ o. is_held_above o a) (exactly (hold x) b p.0)) ∙ h.0 (conflict (deed_of x).1 p.1)
  | inr q ↦ holder_above hold a b k wanted xs conflict h.1 q
]

pub writes_conflict : (wanted d : Class) → is_write_class d ≡ true → classes_conflict d wanted ≡ true
writes_conflict wanted Write h = refl
writes_conflict wanted Read h = absurd (false≢true h)
writes_conflict wanted class.Add h = absurd (false≢true h)

-- each owner is an ancestor of who waits for nobody
pub owner_above : (c : Content) (s : Standing) (object : Seen) (a b : Name) (wanted : op.Op) → Shows c s object → blockers_by s a wanted ≡ []
    → Owns object.stack.versions b → is_ancestor b a ≡ true
owner_above c s object a b wanted shows free w =
    holder_above (λ x. held s.told x) a b is_write_class (class_of wanted) (acts_by s) (λ d h. writes_conflict (class_of wanted) d h) (free_above s a wanted free)
    (owner_holds c (λ x. held s.told x) (acts_by s) object b (to_acts c s object shows) w)

pub owners_above_shown : OwnersAbove
owners_above_shown c s object a wanted shows reads free =
    all_above object.stack.versions a (λ d w. owner_above c s object a d wanted shows free w)

-- an owner below all owners is the last
pub lowest_is_last : {S : Type 0} (vs : List (Name × S)) (a : Name) → RisesByAncestry vs → AreAbove vs a → Owns vs a → is_on_top (owners_of vs) a ≡ true
lowest_is_last [] a r above w = absurd (false≢true w)
lowest_is_last (v ∷ []) a r above w = of (same_name v.0 a) w
  where
    of : (t : Bool) → is_some (cond t (Some v.1) None) ≡ true → t ≡ true
    of true k = refl
    of false k = absurd (false≢true k)
lowest_is_last (v ∷ u ∷ vs) a r above w = lowest_is_last (u ∷ vs) a r.1 above.1 (of (same_name v.0 a) refl w)
  where
    of : (t : Bool) → same_name v.0 a ≡ t → is_some (cond t (Some v.1) (version_at (u ∷ vs) a)) ≡ true → is_some (version_at (u ∷ vs) a) ≡ true
    of false e k = k
    of true e k =
        let p = proper v.0 u.0 r.0 in
        let back : is_ancestor u.0 v.0 ≡ true = subst (λ x. is_ancestor u.0 x ≡ true) (sym (same_is v.0 a e)) above.1.0 in
        let same = ancestor_antisym v.0 u.0 p.0 back in
        absurd (true≢false (sym (subst (λ x. same_name v.0 x ≡ true) same (same_refl v.0)) ∙ p.1))

pub adders_on_top_shown : AddersOnTop
adders_on_top_shown c s object a wanted shows adds free w =
    lowest_is_last object.stack.versions a shows.rising (all_above object.stack.versions a (λ d v. owner_above c s object a d wanted shows free v)) w

-- ---- the operations that the base and the top have

pub top_known : (c : Content) (hold : Act → Option Name) (xs : List Act) (object : Seen) (wanted : op.Op) → ShowsActs c hold xs object
    → (knows object.stack.base wanted ≡ knows c wanted) × (knows (top_of object.stack) wanted ≡ knows c wanted)
top_known c hold xs object wanted shows = (base, of object.stack.versions (λ b v e. owner_version c hold xs object b v shows e) shows.rising)
  where
    chosen : (p : Act → Bool) → knows (after_acts c (filter p xs)) wanted ≡ knows c wanted
    chosen p = left_known c (filter p xs) (each_chosen (λ x. KnownAct c x) p xs shows.known) wanted

    base : knows object.stack.base wanted ≡ knows c wanted
    base = ap (λ d. knows d wanted) shows.base ∙ chosen (λ x. is_none (hold x))

    of : (vs : List (Name × Content)) → ((b : Name) (v : Content) → version_at vs b ≡ Some v → v ≡ after_acts c (filter (λ x. is_held_above (hold x) b) xs))
        → RisesByAncestry vs → knows (last_version object.stack.base vs) wanted ≡ knows c wanted
    of [] each r = base
    of (v ∷ vs) each r =
        let i : Last object.stack.base (v ∷ vs) = last_owner object.stack.base v vs r in
        ap (λ d. knows d wanted) (each i.owner (last_version object.stack.base (v ∷ vs)) i.has_top) ∙ chosen (λ x. is_held_above (hold x) i.owner)

pub knows_shown_law : KnowsShown
knows_shown_law c s object wanted shows = top_known c (λ x. held s.told x) (acts_by s) object wanted (to_acts c s object shows)

-- ---- who is in the way, by the locks

any_split : (p : Class → Bool) (b : Name) (ls : List Lock)
    → list_any (λ (l : Lock). same_name l.0 b && p l.1) ls
    ≡ ((p Read && list_any (λ l. is_lock b Read l) ls) || ((p Write && list_any (λ l. is_lock b Write l) ls) || (p class.Add && list_any (λ l. is_lock b class.Add l) ls)))
any_split p b [] = of (p Read) (p Write) (p class.Add)
  where
    of : (r w a : Bool) → false ≡ ((r && false) || ((w && false) || (a && false)))
    of true true true = refl
    of true true false = refl
    of true false true = refl
    of true false false = refl
    of false true true = refl
    of false true false = refl
    of false false true = refl
    of false false false = refl
any_split p b (l ∷ ls) =
    ap (λ t. (same_name l.0 b && p l.1) || t) (any_split p b ls)
    ∙ at (same_name l.0 b) l.1 (list_any (λ m. is_lock b Read m) ls) (list_any (λ m. is_lock b Write m) ls) (list_any (λ m. is_lock b class.Add m) ls)
  where
    none : (q r : Bool) → (q && r) ≡ (q && (false || r))
    none q r = refl

    first : (q r w a : Bool) → (q || ((q && r) || (w || a))) ≡ ((q && true) || (w || a))
    first true r w a = refl
    first false r w a = refl

    second : (q r w a : Bool) → (q || (r || ((q && w) || a))) ≡ (r || ((q && true) || a))
    second true true w a = refl
    second true false w a = refl
    second false r w a = refl

    third : (q r w a : Bool) → (q || (r || (w || (q && a)))) ≡ (r || (w || (q && true)))
    third true true w a = refl
    third true false true a = refl
    third true false false a = refl
    third false r w a = refl

    at : (s : Bool) (k : Class) (r w a : Bool)
        → ((s && p k) || ((p Read && r) || ((p Write && w) || (p class.Add && a))))
        ≡ ((p Read && ((s && same_class k Read) || r)) || ((p Write && ((s && same_class k Write) || w)) || (p class.Add && ((s && same_class k class.Add) || a))))
    at false k r w a = refl
    at true Read r w a = first (p Read) r (p Write && w) (p class.Add && a)
    at true Write r w a = second (p Write) (p Read && r) w (p class.Add && a)
    at true class.Add r w a = third (p class.Add) (p Read && r) (p Write && w) a

-- an operation waits for just those that are in its way by the locks
pub in_the_way_shown : (c : Content) (s : Standing) (object : Seen) (a : Name) (wanted : op.Op) → Shows c s object
    → (b : Name) → has_name (blockers_by s a wanted) b ≡ is_in_the_way object.locks a (class_of wanted) b
in_the_way_shown c s object a wanted shows b =
    blockers_by_locks s a b wanted ∙ ap (λ t. t && not (is_ancestor b a)) conflicts ∙ turned (holds_conflicting object.locks (class_of wanted) b) (not (is_ancestor b a))
  where
    turned : (x y : Bool) → (x && y) ≡ (y && x)
    turned true true = refl
    turned true false = refl
    turned false true = refl
    turned false false = refl

    -- where b writes, it does not matter whether it adds
    hidden : (r w a u v x : Bool) → (w ≡ true → u ≡ true) → ((r && x) || ((u && w) || (v && (a && not w)))) ≡ (((r && x) || (u && w)) || (v && a))
    hidden true w a u v true h = refl
    hidden true w a u v false h = rest w a u v h
      where
        rest : (w a u v : Bool) → (w ≡ true → u ≡ true) → ((u && w) || (v && (a && not w))) ≡ ((u && w) || (v && a))
        rest true a true v h = refl
        rest true a false v h = absurd (false≢true (h refl))
        rest false true u v h = refl
        rest false false u v h = refl
    hidden false w a u v x h = rest w a u v h
      where
        rest : (w a u v : Bool) → (w ≡ true → u ≡ true) → ((u && w) || (v && (a && not w))) ≡ ((u && w) || (v && a))
        rest true a true v h = refl
        rest true a false v h = absurd (false≢true (h refl))
        rest false true u v h = refl
        rest false false u v h = refl

    conflicts : list_any (λ l. orderly.is_in_the_way wanted b l) (locks_by s) ≡ holds_conflicting object.locks (class_of wanted) b
    conflicts =
        any_split (λ k. classes_conflict k (class_of wanted)) b (locks_by s)
        ∙ ap (λ t. (classes_conflict Read (class_of wanted) && t) || ((classes_conflict Write (class_of wanted) && list_any (λ l. is_lock b Write l) (locks_by s)) || (classes_conflict class.Add (class_of wanted) && list_any (λ l. is_lock b class.Add l) (locks_by s)))) (sym (shows.readers b))
        ∙ ap₂ (λ t u. (classes_conflict Read (class_of wanted) && has_name object.locks.readers b) || ((classes_conflict Write (class_of wanted) && t) || (classes_conflict class.Add (class_of wanted) && u))) (sym (shows.writers b)) (sym (shows.adders b))
        ∙ hidden (classes_conflict Read (class_of wanted)) (has_name object.locks.writers b) (has_name object.locks.adders b)
        (classes_conflict Write (class_of wanted)) (classes_conflict class.Add (class_of wanted)) (has_name object.locks.readers b) (λ h. refl)

pub blockers_shown_law : BlockersShown
blockers_shown_law c s object a wanted names shows sorted each =
    rising_same names (blockers_by s a wanted) (rising_from names sorted)
    (rising_is (filter (λ d. not (is_ancestor d a)) (conflicting_holders s wanted)))
    (λ b. each b ∙ sym (in_the_way_shown c s object a wanted shows b))
