-- What rows that were read stand for.
use Rattle.std.proofs.Common.{Vec, Global, ◌≡◌, inl, inr, ℕ, List, [], ◌∷◌, codes, true, false, cond, ◌||◌, Option, Some, None, option_map, is_some, IsSome, Result, Ok, Err, OnOk, IfSome, refl, sym, ap, subst, ◌∙◌, nat_cmp, Less, length, get_or, arith, true≢false}
use Rattle.std.proofs.Math.Path.{transport}
use Rattle.std.specs.Ordering.{eq_by_cmp}
use Rattle.std.specs.Cmp.{nat_cmp_total}
use Rattle.std.specs.Map.{lookup, keys_of}
use Rattle.std.specs.List.{AllByRecursion}
use Rattle.std.specs.List.Sorted.{IsStrictlySortedBy}
use Rattle.std.specs.BTreeMap.{BTreeMap, is_at}
use Rattle.std.specs.FinMap as map
use Rattle.std.specs.FinMap.Entries.{below_all}
use Rattle.std.specs.FinSet as set
use Rattle.std.proofs.lemmas.Bool.{or_cases, or_left, or_right}
use Rattle.std.proofs.lemmas.Map.Keys.{sorted_head, sorted_tail}
use Rattle.sqlite.specs.declared.types.Value.{Value as Column}
use Rattle.sqlite.specs.Order.{Row, column}
use Rattle.sqlite_rules.specs.Lists.{Has}
use Rattle.atomic_types.specs.declared.part.Part.{Part}
use Rattle.atomic_types.specs.declared.part.Part.TheVariants.{Value, Delta}
use Rattle.stable_store.specs.Stored.{Stored, Record}
use Rattle.stable_store.specs.Held.{record_of, records_of}
use Rattle.stable_store.specs.declared.kept.Prepared.{Prepared}
use Rattle.stable_store.specs.declared.fault.StoreFault.{StoreFault}
use Rattle.stable_store.proofs.Maps.{get_is, given, given_seen, lookup-seen}
use Rattle.store_tables.specs.declared.columns.Spelling.{Spelling}
use Rattle.store_tables.specs.Listed.{Lists}
use Rattle.store_tables.specs.Shown.{IsNumber, IsText, IsValueText, IsAddedBy, IsValue, IsDelta, ShowsHome, ShowsRecord, ShowsNumber}
use Rattle.store_tables.specs.Parts.{Base, Records, HasBase, HasHome, HasPart, IsDecided, HaveNoParts, AreRising, part_in}
use Rattle.store_tables.specs.Grown.{Adds, AddsShown, ListsMore, KeepsRecords, TakesOne}
use Rattle.store_tables.specs.Holds.{Holds, numbers}
use Rattle.store_tables.specs.Answered.{answered, rows_of}
use Rattle.store_tables.specs.Spellings.{Spells}
use Rattle.store_tables.proofs.Numbers.{itself, tied, not_some, put_here, put_other, put_cases}
use Rattle.store_tables.proofs.Listed.{listed}
use Rattle.store_tables.proofs.Records.{home_adds, part_adds, part_was, homes_same, still_rising}

pub none_if : {X : Type 0} (o : Option X) → false ≡ is_some o → o ≡ None
none_if None h = refl
none_if (Some x) h = absurd (true≢false (sym h))

-- ---- a map by number

pub base_adds : (m now : Base) (k : ℕ) (p : Part) → map.get m k ≡ None → now ≡ map.insert m k p → Adds (HasBase m) (HasBase now) (k, p)
base_adds m now k p none is = record {
  here = ap (λ x. map.get x k) is ∙ put_here m k p;
  stays = λ e h. ap (λ x. map.get x e.0) is
      ∙ (put_other m k p e.0 (λ same. not_some e.1 (sym (ap (map.get m) same ∙ none) ∙ h)) ∙ h);
  back = λ e h. elim (put_cases m k p e.0 e.1 (sym (ap (λ x. map.get x e.0) is) ∙ h)) [
    | inl new ↦ inl (λ i. (new.0 i, new.1 i))
    | inr old ↦ inr old.1
  ];
}

pub none_in_base : (e : ℕ × Part) → HasBase (map.from_entries []) e → ⊥
none_in_base e h = not_some e.1 (sym (get_is [] e.0) ∙ h)

-- ---- sets

pub top_adds : (was now : set.FinSet nat_cmp) (k : ℕ) → now ≡ set.insert was k → Adds (IsDecided was) (IsDecided now) k
top_adds was now k is = record {
  here = found k ∙ or_left _ _ (itself k);
  stays = λ q h. found q ∙ or_right _ _ h;
  back = λ q h. elim (or_cases _ _ (sym (found q) ∙ h)) [ inl same ↦ inl (tied q k same) | inr old ↦ inr old ];
}
  where
    found : (q : ℕ) → set.contains now q ≡ (eq_by_cmp nat_cmp q k || set.contains was q)
    found q = ap (λ s. set.contains s q) is ∙ set.contains-insert nat_cmp_total was k q

pub none_decided : (k : ℕ) → IsDecided (set.from_list []) k → ⊥
none_decided k h = true≢false (sym h ∙ set.contains-from_list nat_cmp_total [] k)

-- ---- records

abbrev pub records : List (ℕ × Prepared) → Records
records es = map.from_entries (records_of es)

pub record_found : (es : List (ℕ × Prepared)) (k : ℕ) → map.get (records es) k ≡ option_map record_of (lookup (is_at (nat_cmp k)) es)
record_found es k = get_is (records_of es) k ∙ lookup-seen record_of (is_at (nat_cmp k)) es

inserted : (m now : Records) (n : ℕ) (r : Record) → now ≡ map.insert m n r
    → (t : ℕ) → map.get now t ≡ cond (eq_by_cmp nat_cmp t n) (Some r) (map.get m t)
inserted m now n r is t = ap (λ x. map.get x t) is ∙ map.get-insert nat_cmp_total m n r t

-- a record with no parts, of a top action that had none
module _ (es fs : List (ℕ × Prepared)) (top : ℕ) (it : Prepared) (before : Option Prepared) (had : before ≡ lookup (is_at (nat_cmp top)) es) (none : before ≡ None) (empty : it.parts.entries ≡ [])
    (made : (q : ℕ) → lookup (is_at (nat_cmp q)) fs ≡ cond (is_at (nat_cmp top) q) (Some it) (lookup (is_at (nat_cmp q)) es)) where
  absent : map.get (records es) top ≡ None
  absent = record_found es top ∙ ap (option_map record_of) (sym had ∙ none)

  is : (t : ℕ) → map.get (records fs) t ≡ cond (eq_by_cmp nat_cmp t top) (Some (record_of it)) (map.get (records es) t)
  is = inserted (records es) (records fs) top (record_of it) (given_seen record_of es fs top it made)

  pub new_home : Adds (HasHome (records es)) (HasHome (records fs)) (top, it.home)
  new_home = home_adds (records es) (records fs) top (record_of it) is absent empty

  pub no_parts_yet : HaveNoParts (records es) → HaveNoParts (records fs)
  no_parts_yet were e h = were e (part_was (records es) (records fs) top (record_of it) is absent empty e h)

pub no_homes : (e : ℕ × ℕ) → HasHome (records []) e → ⊥
no_homes e h = not_some e.1 (sym (ap (option_map (λ (r : Record). r.home)) (get_is [] e.0)) ∙ h)

pub no_parts : HaveNoParts (records [])
no_parts e h = not_some e.1.1 (sym (ap (λ x. part_in x e.1.0) (get_is [] e.0)) ∙ h)

-- ---- the parts of one record

below_each : {V : Type 0} (k : ℕ) (es : List (ℕ × V)) → AllByRecursion (λ y. nat_cmp k y ≡ Less) (keys_of es) → below_all nat_cmp k es ≡ true
below_each k [] h = refl
below_each k (e ∷ es) h = rw h.0 (below_each k es h.1)

pub sorted_entries : {V : Type 0} (es : List (ℕ × V)) → IsStrictlySortedBy nat_cmp (keys_of es) → map.is_sorted nat_cmp es ≡ true
sorted_entries [] h = refl
sorted_entries (e ∷ es) h = rw (below_each e.0 es (sorted_head nat_cmp e.0 _ h)) (sorted_entries es (sorted_tail nat_cmp e.0 _ h))

pub takes_one : (object : ℕ) (part : Part) (es fs : List (ℕ × Part)) (before : Option Part) → before ≡ lookup (is_at (nat_cmp object)) es → before ≡ None
    → ((q : ℕ) → lookup (is_at (nat_cmp q)) fs ≡ cond (is_at (nat_cmp object) q) (Some part) (lookup (is_at (nat_cmp q)) es))
    → IsStrictlySortedBy nat_cmp (keys_of fs) → TakesOne object part es fs
takes_one object part es fs before had none made ordered = record {
  new = sym (map.get-from_entries nat_cmp_total es object) ∙ (get_is es object ∙ (sym had ∙ none));
  found = λ q.
      sym (map.get-from_entries nat_cmp_total fs q)
      ∙ (ap (λ m. map.get m q) (given es fs object part made)
      ∙ (map.get-insert nat_cmp_total (map.from_entries es) object part q
      ∙ ap (cond (eq_by_cmp nat_cmp q object) (Some part)) (map.get-from_entries nat_cmp_total es q)));
  rising = sorted_entries fs ordered;
}

module _ (row : Row) (spelling : Spelling) (es fs : List (ℕ × Prepared)) (top object : ℕ) (part : Part) (it : Prepared) (parts : BTreeMap ℕ Part)
    (had : Some it ≡ lookup (is_at (nat_cmp top)) es)
    (made : (q : ℕ) → lookup (is_at (nat_cmp q)) fs ≡ cond (is_at (nat_cmp top) q) (Some (record it { parts = parts })) (lookup (is_at (nat_cmp q)) es)) where
  now : Record
  now = record_of (record it { parts = parts })

  was_there : map.get (records es) top ≡ Some (record_of it)
  was_there = record_found es top ∙ ap (option_map record_of) (sym had)

  changed : (t : ℕ) → map.get (records fs) t ≡ cond (eq_by_cmp nat_cmp t top) (Some (record_of (record it { parts = parts }))) (map.get (records es) t)
  changed = inserted (records es) (records fs) top (record_of (record it { parts = parts })) (given_seen record_of es fs top (record it { parts = parts }) made)

  pub adds_part : {U : Type 0} (r : Result U StoreFault) → IsNumber (column row 0) top → IsNumber (column row 1) object → Spells spelling (column row 2) part
      → OnOk r (TakesOne object part it.parts.entries parts.entries)
      → OnOk r (AddsShown (ShowsRecord (Spells spelling) 0) row (HasPart (records es)) (HasPart (records fs)))
  adds_part (Err e) t o p one = tt
  adds_part (Ok u) t o p one = record {
    thing = (top, (object, part));
    shows = record { top = t; object = o; part = p };
    adds = part_adds (records es) (records fs) top (record_of (record it { parts = parts })) changed (record_of it) was_there refl object part one.new one.found;
  }

  pub keeps_part : {U : Type 0} (r : Result U StoreFault) → OnOk r (TakesOne object part it.parts.entries parts.entries)
      → OnOk r (KeepsRecords (records es) (records fs))
  keeps_part (Err e) one = tt
  keeps_part (Ok u) one = record {
    homes = homes_same (records es) (records fs) top (record_of (record it { parts = parts })) changed (record_of it) was_there refl object part one.new one.found;
    rising = still_rising (records es) (records fs) top (record_of (record it { parts = parts })) changed one.rising;
  }

pub found_there : {X : Type 0} (o : Option X) (x : X) → Some x ≡ o → IsSome o
found_there o x is = subst IsSome is refl

-- ---- the records one after another

pub keeps_none : (m : Records) → KeepsRecords m m
keeps_none m = record { homes = λ t. refl; rising = λ h. h }

pub keeps_then : (a b c : Records) → KeepsRecords a b → KeepsRecords b c → KeepsRecords a c
keeps_then a b c h k = record { homes = λ t. k.homes t ∙ h.homes t; rising = λ r. k.rising (h.rising r) }

-- the homes, then the values, then the deltas
module _ (homes values deltas : List Row) (first mid last : Records) (listed : Lists (ShowsHome 0) homes (HasHome first)) (none : HaveNoParts first)
    (one : ListsMore (ShowsRecord IsValueText 0) values (HasPart first) (HasPart mid)) (one_keeps : KeepsRecords first mid)
    (two : ListsMore (ShowsRecord IsAddedBy 0) deltas (HasPart mid) (HasPart last)) (two_keeps : KeepsRecords mid last) where
  pub with_homes : Lists (ShowsHome 0) homes (HasHome last)
  with_homes = record {
    each = λ r h. let e = listed.each r h in (e.0, e.1, two_keeps.homes e.0.0 ∙ (one_keeps.homes e.0.0 ∙ e.2));
    from = λ e h. listed.from e (sym (two_keeps.homes e.0 ∙ one_keeps.homes e.0) ∙ h);
  }

  value_shown : (v : Column) (p : Part) → IsValueText v p → IsValue p
  value_shown v (Value c) h = tt
  value_shown v (Delta z) h = absurd h

  delta_shown : (v : Column) (p : Part) → IsAddedBy v p → IsDelta p
  delta_shown v (Value c) h = absurd h
  delta_shown v (Delta z) h = tt

  never_both : (p : Part) → IsValue p → IsDelta p → ⊥
  never_both (Value c) h k = k
  never_both (Delta z) h k = h

  pub with_values : Lists (ShowsRecord IsValueText 0) values (λ e. HasPart last e × IsValue e.1.1)
  with_values = record {
    each = λ r h. let e = one.each r h in (e.0, e.1, (two.stays e.0 e.2, value_shown (column r 2) e.0.1.1 e.1.part));
    from = λ e h. elim (two.from e h.0) [
      | inl mine ↦ elim (one.from e mine) [ inl first_ ↦ absurd (none e first_) | inr f ↦ f ]
      | inr f ↦ absurd (never_both e.1.1 h.1 (delta_shown (column f.0 2) e.1.1 f.2.part))
    ];
  }

  pub with_deltas : Lists (ShowsRecord IsAddedBy 0) deltas (λ e. HasPart last e × IsDelta e.1.1)
  with_deltas = record {
    each = λ r h. let e = two.each r h in (e.0, e.1, (e.2, delta_shown (column r 2) e.0.1.1 e.1.part));
    from = λ e h. elim (two.from e h.0) [
      | inl mine ↦ elim (one.from e mine) [
        | inl first_ ↦ absurd (none e first_)
        | inr f ↦ absurd (never_both e.1.1 (value_shown (column f.0 2) e.1.1 f.2.part) h.1)
      ]
      | inr f ↦ f
    ];
  }

-- the homes, and then parts of any kind
module _ (homes parts : List Row) (first last : Records) (here : Lists (ShowsHome 0) homes (HasHome first)) (none : HaveNoParts first)
    (more : ListsMore (ShowsRecord IsText 0) parts (HasPart first) (HasPart last)) (keeps : KeepsRecords first last) where
  pub homes_still : Lists (ShowsHome 0) homes (HasHome last)
  homes_still = record {
    each = λ r h. let e = here.each r h in (e.0, e.1, keeps.homes e.0.0 ∙ e.2);
    from = λ e h. here.from e (sym (keeps.homes e.0) ∙ h);
  }

  pub parts_listed : Lists (ShowsRecord IsText 0) parts (HasPart last)
  parts_listed = listed (ShowsRecord IsText 0) parts (HasPart first) (HasPart last) none more

none_rise : (m : Records) → HaveNoParts m → AreRising m
none_rise m none t = go (map.get m t) refl
  where
    go : (o : Option Record) → map.get m t ≡ o → IfSome o (λ r. map.is_sorted nat_cmp r.parts ≡ true)
    go None e = tt
    go (Some r) e = empty_rise r.parts (λ q p h. none (t, (q, p)) (ap (λ x. part_in x q) e ∙ h))
      where
        empty_rise : (es : List (ℕ × Part)) → ((q : ℕ) (p : Part) → map.find nat_cmp q es ≡ Some p → ⊥) → map.is_sorted nat_cmp es ≡ true
        empty_rise [] h = refl
        empty_rise (x ∷ es) h = absurd (h x.0 x.1 (ap (λ b. cond b (Some x.1) (map.find nat_cmp x.0 es)) (itself x.0)))

pub rises : (first mid last : Records) → HaveNoParts first → KeepsRecords first mid → KeepsRecords mid last → AreRising last
rises first mid last none one two = two.rising (one.rising (none_rise first none))

-- ---- the rows of `meta`

pub three_rows : {X : Type 0} (xs : List X) (a b c : X) → length xs ≡ 3 → a ≡ get_or xs 0 a → b ≡ get_or xs 1 b → c ≡ get_or xs 2 c
    → xs ≡ a ∷ b ∷ c ∷ []
three_rows [] a b c len is is2 is3 = absurd (omega (arith, len))
three_rows (y ∷ []) a b c len is is2 is3 = absurd (omega (arith, len))
three_rows (y ∷ z ∷ []) a b c len is is2 is3 = absurd (omega (arith, len))
three_rows (y ∷ z ∷ w ∷ []) a b c len is is2 is3 = λ i. sym is i ∷ sym is2 i ∷ sym is3 i ∷ []
three_rows (y ∷ z ∷ w ∷ v ∷ more) a b c len is is2 is3 = absurd (omega (arith, len))

pub three_listed : (a b c : Row) (count next : ℕ) → ShowsNumber a (1, (codes "version", 2)) → ShowsNumber b (2, (codes "count", count))
    → ShowsNumber c (3, (codes "next_top", next)) → Lists ShowsNumber (a ∷ b ∷ c ∷ []) (Has (numbers count next))
three_listed a b c count next one two three = record { each = each; from = from }
  where
    each : (r : Row) → Has (a ∷ b ∷ c ∷ []) r → (x : ℕ × (List ℕ × ℕ)) × ShowsNumber r x × Has (numbers count next) x
    each r (inl e) = ((1, (codes "version", 2)), subst (λ s. ShowsNumber s (1, (codes "version", 2))) (sym e) one, inl refl)
    each r (inr (inl e)) = ((2, (codes "count", count)), subst (λ s. ShowsNumber s (2, (codes "count", count))) (sym e) two, inr (inl refl))
    each r (inr (inr (inl e))) = ((3, (codes "next_top", next)), subst (λ s. ShowsNumber s (3, (codes "next_top", next))) (sym e) three, inr (inr (inl refl)))
    each r (inr (inr (inr h))) = absurd h

    from : (x : ℕ × (List ℕ × ℕ)) → Has (numbers count next) x → (r : Row) × Has (a ∷ b ∷ c ∷ []) r × ShowsNumber r x
    from x (inl e) = (a, inl refl, subst (ShowsNumber a) (sym e) one)
    from x (inr (inl e)) = (b, inr (inl refl), subst (ShowsNumber b) (sym e) two)
    from x (inr (inr (inl e))) = (c, inr (inr (inl refl)), subst (ShowsNumber c) (sym e) three)
    from x (inr (inr (inr h))) = absurd h

-- ---- the answers of six queries

pub six_answers : (xs : List (Vec Row Global)) (a b c d e f : Vec Row Global) (k : Stored) → length xs ≡ 6 → a ≡ get_or xs 0 a → b ≡ get_or xs 1 b
    → c ≡ get_or xs 2 c → d ≡ get_or xs 3 d → e ≡ get_or xs 4 e → f ≡ get_or xs 5 f
    → Holds 0 (record { numbers = a.items; base = b.items; homes = c.items; values = d.items; deltas = e.items; decided = f.items }) k
    → Holds 0 (answered (rows_of xs)) k
six_answers [] a b c d e f k len is is2 is3 is4 is5 is6 h = absurd (omega (arith, len))
six_answers (p ∷ []) a b c d e f k len is is2 is3 is4 is5 is6 h = absurd (omega (arith, len))
six_answers (p ∷ q ∷ []) a b c d e f k len is is2 is3 is4 is5 is6 h = absurd (omega (arith, len))
six_answers (p ∷ q ∷ r ∷ []) a b c d e f k len is is2 is3 is4 is5 is6 h = absurd (omega (arith, len))
six_answers (p ∷ q ∷ r ∷ s ∷ []) a b c d e f k len is is2 is3 is4 is5 is6 h = absurd (omega (arith, len))
six_answers (p ∷ q ∷ r ∷ s ∷ t ∷ []) a b c d e f k len is is2 is3 is4 is5 is6 h = absurd (omega (arith, len))
six_answers (p ∷ q ∷ r ∷ s ∷ t ∷ u ∷ []) a b c d e f k len is is2 is3 is4 is5 is6 h =
    transport (λ i. Holds 0 (record { numbers = (is i).items; base = (is2 i).items; homes = (is3 i).items; values = (is4 i).items; deltas = (is5 i).items; decided = (is6 i).items }) k) h
six_answers (p ∷ q ∷ r ∷ s ∷ t ∷ u ∷ v ∷ more) a b c d e f k len is is2 is3 is4 is5 is6 h = absurd (omega (arith, len))
