-- The stack and the deltas that an object shows are those of the definitions, and so is the content on top with what is added beside it.
use Rattle.std.proofs.Common.{Bool, List, None, Option, Some, [], ap, ap₂, cond, eqb-true, false, filter, filter_map, inl, inr, map, not, refl, subst, sym, true, ℤ, ◌++◌, ◌∙◌, ◌∷◌, ◌≡◌, ◌||◌, ◌⊎◌}
use Rattle.std.specs.Prelude.{is_some, pos, ◌+ℤ◌}
use Rattle.std.specs.Int.{int_wrap, w64}
use Rattle.std.proofs.Math.IntN.{+ℤ_assoc, +ℤ_comm, +ℤ_idl}
use Rattle.std.proofs.lemmas.Bool.{and_parts, false≢true, or_from, or_left, or_right, true≢false}
use Rattle.std.proofs.lemmas.Cmp.{nat_cmp_total, tied_itself}
use Rattle.std.proofs.lemmas.Int.{int_wrap-add_left, int_wrap-add_right}
use Rattle.std.proofs.lemmas.List.Elements.{filter_agree}
use Rattle.std.specs.List.{AllByRecursion, list_any}
use Rattle.std.specs.Ordering.{nat_cmp, ordering_then}
use Rattle.std.specs.declared.cmp.Ordering.TheVariants.{Equal, Less}
use Rattle.action_names.specs.Names.{Name, has_name, is_ancestor, is_prefix, is_proper_ancestor, name_cmp, same_name}
use Rattle.action_names.proofs.Ancestry.{proper, proper_below}
use Rattle.values.specs.declared.content.Content.{Content}
use Rattle.values.specs.declared.content.Content.TheVariants.{Array, Counter, Record, Variant}
use Rattle.values.specs.declared.value.Value.TheVariants.{Int, Text}
use Rattle.atomic_types.specs.Counters.{counter_reply, sum_of}
use Rattle.atomic_types.specs.Objects.{content_after, knows, reply_of}
use Rattle.atomic_types.specs.Operations as op
use Rattle.atomic_types.specs.declared.op.Class.{Class}
use Rattle.atomic_types.specs.Operations.{class_of, is_add_class, is_read, is_write, is_write_class}
use Rattle.atomic_types.specs.Parts.{laid}
use Rattle.atomic_types.specs.declared.operation.Operation.TheVariants.{Add, Put, Total}
use Rattle.atomic_types.specs.declared.part.Part.TheVariants.{Delta}
use Rattle.run_model.specs.Keeping.{Performed, Standing, part_class}
use Rattle.run_model.specs.Telling.{holder_by, last_passing, or_else}
use Rattle.run_model.specs.Versions.{adders_by, delta_by, deltas_by, owners_by, top_by, version_by, versions_by}
use Rattle.run_model.specs.Versions as versions
use Rattle.run_laws.proofs.Each.{Each, each_map}
use Rattle.run_laws.proofs.Names.{clash, same_name_self, same_name_true}
use Rattle.local_laws.specs.Tops as tops
use Rattle.local_laws.specs.Tops.{TextsAddNothing, adds_text, top_owner, with_deltas}
use Rattle.local_laws.proofs.Rising.{Rising, rising_is}
use Rattle.local_laws.proofs.Totals.{top_with_deltas}
use Rattle.object_model.specs.Deltas.{delta_at, delta_sum}
use Rattle.object_model.specs.Objects.{Seen, deltas_beside, is_beside, with_sum}
use Rattle.object_model.specs.Stacks.{RiseByAncestry, last_owner, last_version, owners_of, top_of, version_at}
use Rattle.object_laws.specs.Laws.{ReadsShown, WritesShown, left_by}
use Rattle.object_laws.specs.Shown.{Shows, only_if}
use Rattle.object_laws.proofs.Choosing.{delta_known}
use Rattle.object_laws.proofs.Names.{first_absent, rising_from, rising_same}
use Rattle.object_laws.proofs.Sums.{known_adds}

-- ---- owners rise by name

-- what begins a name is that name or before it
prefix_before : (a b : Name) → is_prefix a b ≡ true → (a ≡ b) ⊎ (name_cmp a b ≡ Less)
prefix_before [] [] h = inl refl
prefix_before [] (y ∷ b) h = inr refl
prefix_before (x ∷ a) [] h = absurd (false≢true h)
prefix_before (x ∷ a) (y ∷ b) h =
    let p = and_parts _ _ h in
    let e : x ≡ y = eqb-true x y p.0 in
    let tie : nat_cmp x y ≡ Equal = subst (λ z. nat_cmp x z ≡ Equal) e (tied_itself nat_cmp_total x) in
    elim (prefix_before a b p.1) [
      | inl q ↦ inl (ap₂ (λ n c. n ∷ c) e q)
      | inr q ↦ inr (ap₂ (λ o r. ordering_then o r) tie q)
    ]

proper_before : (a b : Name) → is_proper_ancestor a b ≡ true → name_cmp a b ≡ Less
proper_before a b h = of (above a b (proper a b h).0)
  where
    above : (a b : Name) → is_ancestor a b ≡ true → (a ≡ b) ⊎ (name_cmp a b ≡ Less)
    above [] b k = absurd (false≢true k)
    above (x ∷ a) b k = prefix_before (x ∷ a) b k

    of : (a ≡ b) ⊎ (name_cmp a b ≡ Less) → name_cmp a b ≡ Less
    of (inl e) = absurd (clash (same_name_self a) (ap (λ x. same_name a x) e ∙ (proper a b h).1))
    of (inr l) = l

below_first : (a : Name) (ns : List Name) → RiseByAncestry (a ∷ ns) → Each (λ b. is_proper_ancestor a b ≡ true) ns
below_first a [] r = tt
below_first a (b ∷ ns) r = (r.0, each_map _ _ ns (λ d h. proper_below a b d (proper a b r.0).0 h) (below_first b ns r.1))

pub chain_rises : (ns : List Name) → RiseByAncestry ns → Rising ns
chain_rises [] r = tt
chain_rises (a ∷ ns) r = (each_map _ _ ns (λ d h. proper_before a d h) (below_first a ns r), chain_rises ns (tail a ns r))
  where
    tail : (a : Name) (ns : List Name) → RiseByAncestry (a ∷ ns) → RiseByAncestry ns
    tail a [] r = tt
    tail a (b ∷ ns) r = r.1

-- ---- lists by what is found in them

pub has_owner : {T : Type 0} (vs : List (Name × T)) (b : Name) → has_name (owners_of vs) b ≡ is_some (version_at vs b)
has_owner [] b = refl
has_owner {T} (v ∷ vs) b = of (same_name v.0 b) (has_owner vs b)
  where
    of : (t : Bool) → has_name (owners_of vs) b ≡ is_some (version_at vs b) → (t || has_name (owners_of vs) b) ≡ is_some (cond t (Some v.1) (version_at vs b))
    of true e = refl
    of false e = e

by_lookup : {T : Type 0} (f : Name → T) (vs : List (Name × T)) → Rising (owners_of vs)
    → ((b : Name) → has_name (owners_of vs) b ≡ true → version_at vs b ≡ Some (f b)) → vs ≡ map (λ b. (b, f b)) (owners_of vs)
by_lookup f [] r h = refl
by_lookup {T} f (v ∷ vs) r h =
    ap₂ (λ x ws. (v.0, x) ∷ ws) first (by_lookup f vs r.1 rest)
  where
    first : v.1 ≡ f v.0
    first = of (sym (ap (λ (t : Bool). cond t (Some v.1) (version_at vs v.0)) (same_name_self v.0)) ∙ h v.0 (or_left _ _ (same_name_self v.0)))
      where
        of : Some v.1 ≡ Some (f v.0) → v.1 ≡ f v.0
        of e = cc

    rest : (b : Name) → has_name (owners_of vs) b ≡ true → version_at vs b ≡ Some (f b)
    rest b k = of (same_name v.0 b) refl
      where
        of : (t : Bool) → same_name v.0 b ≡ t → version_at vs b ≡ Some (f b)
        of true e = absurd (clash k (ap (λ x. has_name (owners_of vs) x) (sym (same_name_true v.0 b e)) ∙ first_absent v.0 (owners_of vs) r.0))
        of false e = sym (ap (λ (t : Bool). cond t (Some v.1) (version_at vs b)) e) ∙ h b (or_right (same_name v.0 b) (has_name (owners_of vs) b) k)

-- rising names with these at just the names of a rising list
found : {T : Type 0} (f : Name → T) (vs : List (Name × T)) (names : List Name) → Rising (owners_of vs) → Rising names
    → ((b : Name) → version_at vs b ≡ only_if (has_name names b) (f b)) → (owners_of vs ≡ names) × (vs ≡ map (λ b. (b, f b)) names)
found {T} f vs names r q h = (same, by_lookup f vs r (λ b k. h b ∙ ap (λ t. only_if t (f b)) (sym (has b) ∙ k)) ∙ ap (λ ns. map (λ b. (b, f b)) ns) same)
  where
    some : (t : Bool) (x : T) → is_some (only_if t x) ≡ t
    some true x = refl
    some false x = refl

    has : (b : Name) → has_name (owners_of vs) b ≡ has_name names b
    has b = has_owner vs b ∙ ap (λ o. is_some o) (h b) ∙ some (has_name names b) (f b)

    same : owners_of vs ≡ names
    same = rising_same (owners_of vs) names r q has

pub delta_version : (ds : List (Name × ℤ)) (b : Name) → version_at ds b ≡ delta_at ds b
delta_version [] b = refl
delta_version (d ∷ ds) b = ap (λ o. cond (same_name d.0 b) (Some d.1) o) (delta_version ds b)

-- ---- the stack and the deltas

-- the holders of what is of some class, as the definitions list them
named : Standing → (Class → Bool) → List Name
named s k =
    filter_map (λ r. cond (k (part_class r.1)) (holder_by s.told r.0) None) s.restored
    ++ filter_map (λ o. cond (k (class_of o.operation)) (holder_by s.told o.action) None) s.kept

owners_rise : (s : Standing) → Rising (owners_by s)
unfolding named
owners_rise s = rising_is (named s is_write_class)

adders_rise : (s : Standing) → Rising (adders_by s)
unfolding named
adders_rise s = rising_is (filter (λ a. not (has_name (owners_by s) a)) (named s is_add_class))

pub owners_shown : (c : Content) (s : Standing) (object : Seen) → Shows c s object → owners_of object.stack.versions ≡ owners_by s
owners_shown c s object shows =
    (found (λ b. version_by c s b) object.stack.versions (owners_by s) (chain_rises (owners_of object.stack.versions) shows.rising) (owners_rise s) shows.versions).0

pub versions_shown : (c : Content) (s : Standing) (object : Seen) → Shows c s object → object.stack.versions ≡ versions_by c s
versions_shown c s object shows =
    (found (λ b. version_by c s b) object.stack.versions (owners_by s) (chain_rises (owners_of object.stack.versions) shows.rising) (owners_rise s) shows.versions).1

pub deltas_shown : (c : Content) (s : Standing) (object : Seen) → Shows c s object → object.deltas ≡ deltas_by s
deltas_shown c s object shows =
    (found (λ b. delta_by s b) object.deltas (adders_by s) (rising_from (map (λ d. d.0) object.deltas) shows.names_rise) (adders_rise s)
    (λ b. delta_version object.deltas b ∙ shows.deltas b)).1

same_last : (c : Content) (vs : List (Name × Content)) → last_version c vs ≡ versions.last_version c vs
same_last c [] = refl
same_last c (v ∷ vs) = same_last v.1 vs

pub top_shown : (c : Content) (s : Standing) (object : Seen) → Shows c s object → top_of object.stack ≡ top_by c s
top_shown c s object shows = ap₂ (λ d vs. last_version d vs) shows.base (versions_shown c s object shows) ∙ same_last (versions.base_by c s) (versions_by c s)

owner_is_last : (vs : List (Name × Content)) → last_owner vs ≡ last_passing (λ b. true) (owners_of vs)
owner_is_last [] = refl
owner_is_last (v ∷ []) = refl
owner_is_last (v ∷ w ∷ vs) = owner_is_last (w ∷ vs) ∙ of (last_passing (λ b. true) (owners_of vs))
  where
    of : (o : Option Name) → or_else o (Some w.0) ≡ or_else (or_else o (Some w.0)) (Some v.0)
    of None = refl
    of (Some x) = refl

beside_shown : (c : Content) (s : Standing) (object : Seen) → Shows c s object → deltas_beside object ≡ tops.deltas_beside s
beside_shown c s object shows =
    ap₂ (λ o ds. filter (λ d. is_beside o d.0) ds) (owner_is_last object.stack.versions ∙ ap (λ ns. last_passing (λ b. true) ns) (owners_shown c s object shows))
    (deltas_shown c s object shows)
    ∙ filter_agree (λ d. is_beside (top_owner s) d.0) (λ d. tops.is_beside (top_owner s) d.0) (λ d. same (top_owner s) d.0) (deltas_by s)
  where
    same : (o : Option Name) (b : Name) → is_beside o b ≡ tops.is_beside o b
    same None b = refl
    same (Some l) b = refl

-- no text is added
no_texts : (c : Content) (s : Standing) (object : Seen) → Shows c s object → TextsAddNothing c s
no_texts c s object shows t = absurd (clash t (none s.kept shows.known))
  where
    none : (os : List Performed) → AllByRecursion (λ o. knows c o.operation ≡ true) os → list_any (λ o. adds_text o.operation) os ≡ false
    none [] h = refl
    none (o ∷ os) h = or_from (adds_text o.operation) (list_any (λ o. adds_text o.operation) os) (known_adds c o.operation h.0) (none os h.1)

-- what all that was given back and is kept leaves
pub left_shown : (c : Content) (s : Standing) (object : Seen) → Shows c s object → left_by c s ≡ with_deltas (top_of object.stack) (deltas_beside object)
left_shown c s object shows =
    top_with_deltas c s shows.orderly (no_texts c s object shows)
    ∙ sym (ap₂ (λ d ds. with_deltas d ds) (top_shown c s object shows) (beside_shown c s object shows))

-- ---- deltas on the top

sum_from_none : (n z : ℤ) → sum_of n z ≡ sum_of n (sum_of (pos 0) z)
sum_from_none n z = sym (int_wrap-add_right w64 n (pos 0 +ℤ z) ∙ ap (λ t. int_wrap w64 (n +ℤ t)) (+ℤ_idl z))

joined : (n y z : ℤ) → sum_of (sum_of n y) z ≡ sum_of n (sum_of y z)
joined n y z = int_wrap-add_left w64 (n +ℤ y) z ∙ ap (λ t. int_wrap w64 t) (+ℤ_assoc n y z) ∙ sym (int_wrap-add_right w64 n (y +ℤ z))

sum_turned : (y z : ℤ) → sum_of y z ≡ sum_of z y
sum_turned y z = ap (λ t. int_wrap w64 t) (+ℤ_comm y z)

pub delta_alone : (c : Content) (z : ℤ) → laid (Delta z) c ≡ laid (Delta (sum_of (pos 0) z)) c
delta_alone (Record fields) z = refl
delta_alone (Array a) z = refl
delta_alone (Variant v) z = refl
delta_alone (Counter n) z = ap (λ m. Counter m) (sum_from_none n z)

pub deltas_join : (c : Content) (y z : ℤ) → laid (Delta z) (laid (Delta y) c) ≡ laid (Delta (sum_of y z)) c
deltas_join (Record fields) y z = refl
deltas_join (Array a) y z = refl
deltas_join (Variant v) y z = refl
deltas_join (Counter n) y z = ap (λ m. Counter m) (joined n y z)

all_join : (c : Content) (n : ℤ) (ds : List (Name × ℤ)) → with_deltas (laid (Delta n) c) ds ≡ laid (Delta (sum_of (delta_sum ds) n)) c
all_join c n [] = delta_alone c n
all_join c n (d ∷ ds) =
    ap (λ x. with_deltas x ds) (deltas_join c n d.1) ∙ all_join c (sum_of n d.1) ds
    ∙ ap (λ m. laid (Delta m) c) (ap (λ m. sum_of (delta_sum ds) m) (sum_turned n d.1) ∙ sym (joined (delta_sum ds) d.1 n))

sum_is : (c : Content) (ds : List (Name × ℤ)) → with_deltas c ds ≡ with_sum c ds
sum_is c [] = refl
sum_is c (d ∷ ds) = all_join c d.1 ds

pub reads_shown : ReadsShown
reads_shown c s object wanted shows reads =
    ap (λ d. reply_of d wanted) (left_shown c s object shows ∙ sum_is (top_of object.stack) (deltas_beside object))

-- the reply of a write or an add does not go by what a counter counts
delta_reply : (c : Content) (z : ℤ) (wanted : op.Op) → is_read wanted ≡ false → reply_of (laid (Delta z) c) wanted ≡ reply_of c wanted
delta_reply (Record fields) z wanted h = refl
delta_reply (Array a) z wanted h = refl
delta_reply (Variant v) z wanted h = refl
delta_reply (Counter n) z wanted h = of (sum_of n z) wanted h
  where
    of : (m : ℤ) (o : op.Op) → is_read o ≡ false → counter_reply m o ≡ counter_reply n o
    of m Total h = absurd (true≢false h)
    of m _ h = refl

deltas_reply : (c : Content) (ds : List (Name × ℤ)) (wanted : op.Op) → is_read wanted ≡ false → reply_of (with_deltas c ds) wanted ≡ reply_of c wanted
deltas_reply c [] wanted h = refl
deltas_reply c (d ∷ ds) wanted h = deltas_reply (laid (Delta d.1) c) ds wanted h ∙ delta_reply c d.1 wanted h

pub writes_shown : WritesShown
writes_shown c s object wanted shows reads known =
    ap (λ d. reply_of d wanted) (left_shown c s object shows) ∙ deltas_reply (top_of object.stack) (deltas_beside object) wanted reads

-- a write covers what was added
delta_covered : (c : Content) (z : ℤ) (wanted : op.Op) → is_write wanted ≡ true → knows c wanted ≡ true
    → content_after (laid (Delta z) c) wanted ≡ content_after c wanted
delta_covered (Record fields) z wanted h k = refl
delta_covered (Array a) z wanted h k = refl
delta_covered (Variant v) z wanted h k = refl
delta_covered (Counter n) z wanted h k = of wanted h k
  where
    of : (o : op.Op) → is_write o ≡ true → knows (Counter n) o ≡ true → content_after (laid (Delta z) (Counter n)) o ≡ content_after (Counter n) o
    of (Put (Int y)) h k = refl
    of (Put (Text bytes)) h k = absurd (false≢true k)
    of (Add v) h k = absurd (false≢true h)
    of Total h k = absurd (false≢true h)
    of _ h k = absurd (false≢true k)

pub deltas_covered : (c : Content) (ds : List (Name × ℤ)) (wanted : op.Op) → is_write wanted ≡ true → knows c wanted ≡ true
    → content_after (with_deltas c ds) wanted ≡ content_after c wanted
deltas_covered c [] wanted h k = refl
deltas_covered c (d ∷ ds) wanted h k =
    deltas_covered (laid (Delta d.1) c) ds wanted h (delta_known c d.1 wanted ∙ k) ∙ delta_covered c d.1 wanted h k
