-- Rows that a content has, and which are refused all the same.
use Rattle.std.proofs.Common.{◌≡◌, inl, inr, ℕ, ◌<◌, ◌≤◌, pos, List, [], ◌∷◌, true, Option, Some, None, option_map, IsSome, is_some}
use Rattle.std.proofs.Common.{ℤ, Result, Ok, Err, IsErrAnd, take, length, get_or, refl, sym, ap, subst, ◌∙◌, arith, true≢false, Vec, Global, zero, suc, codes, nat_cmp, int_cmp, Less}
use Rattle.std.specs.Prelude.{slice_index_or}
use Rattle.std.proofs.lemmas.Cmp.{int_ranked}
use Rattle.std.proofs.lemmas.Int.{ints}
use Rattle.std.specs.FinMap as map
use Rattle.std.specs.Map.{lookup}
use Rattle.std.specs.BTreeMap.{is_at}
use Rattle.std.proofs.lemmas.Bool.{and_from}
use Rattle.sqlite.specs.declared.types.Value.{Value as Column}
use Rattle.sqlite.specs.declared.types.Value.TheVariants.{Int}
use Rattle.sqlite.specs.Order.{Row, column}
use Rattle.sqlite_value.specs.Order.{value_cmp}
use Rattle.sqlite_value.proofs.OrderLemmas.{value_cmp-Int}
use Rattle.sqlite_trees.specs.Tree.{rowid, has_rowid, IsTable}
use Rattle.sqlite_rules.specs.Lists.{Has}
use Rattle.atomic_types.specs.declared.part.Part.{Part}
use Rattle.atomic_types.specs.declared.part.Part.TheVariants.{Value, Delta}
use Rattle.stable_store.specs.Stored.{Record}
use Rattle.stable_store.specs.Held.{record_of}
use Rattle.stable_store.specs.declared.kept.Prepared.{Prepared}
use Rattle.stable_store.specs.declared.fault.StoreFault.{StoreFault}
use Rattle.stable_store.specs.declared.fault.StoreFault.TheVariants.{Memory, NotOurs}
use Rattle.store_tables.specs.PartTexts.{part_text}
use Rattle.store_tables.specs.Listed.{Lists}
use Rattle.store_tables.specs.Answered.{answered, rows_of}
use Rattle.store_tables.specs.Holds.{Tables, numbers}
use Rattle.store_tables.specs.First.{FirstTables, first_answered, IsPrepared}
use Rattle.store_tables.specs.Shown.{ShowsPart, ShowsHome, ShowsRecord, ShowsNumber, IsText, IsValueText, IsAddedBy, IsValue, IsDelta}
use Rattle.store_tables.specs.Parts.{Base, Records, HasBase, HasHome, HasPart, HaveNoParts, part_in}
use Rattle.store_tables.specs.Grown.{ListsMore, KeepsRecords}
use Rattle.store_tables.specs.Keyed.{EachShows, AreNew, KeysDiffer, PartsDiffer, IsTaken, is_part_shown}
use Rattle.store_tables.proofs.Counts.{has_item, counts_again}
use Rattle.store_tables.proofs.Legible.{one_number, one_text}
use Rattle.store_tables.proofs.PartTexts.{part_from_text}
use Rattle.store_tables.proofs.Numbers.{not_some}
use Rattle.store_tables.proofs.Records.{number_ties, some_home}
use Rattle.store_tables.proofs.Read.{none_in_base, records, record_found, no_homes}
use Rattle.stable_store.proofs.Maps.{get_is}

-- ---- faults that are handed on

pub told_by : {T U : Type 0} (r : Result T StoreFault) (e : StoreFault) → IsErrAnd r (λ f. f ≡ e) → r ≡ Err NotOurs
    → ◌≡◌ {A = Result U StoreFault} (Err e) (Err NotOurs)
told_by (Ok x) e h is = absurd h
told_by (Err f) e h is = let same : f ≡ NotOurs = cc in ap Err (sym h ∙ same)

pub not_memory : {T : Type 0} (r : Result T StoreFault) → IsErrAnd r (λ f. f ≡ Memory) → r ≡ Err NotOurs → ⊥
not_memory (Ok x) h is = absurd h
not_memory (Err f) h is = let same : f ≡ NotOurs = cc in absurd (let e : Memory ≡ NotOurs = sym h ∙ same in cc)

-- ---- one part

pub value_text : (v : Column) (p : Part) → IsValueText v p → IsText v p
value_text v (Value c) h = h
value_text v (Delta z) h = absurd h

pub not_a_delta : (v : Column) (q : Part) (z : ℤ) (p : Part) → q ≡ Delta z → IsText v q → IsValueText v p → ⊥
not_a_delta v q z (Delta w) is read h = h
not_a_delta v q z (Value c) is read h =
    let same : q ≡ Value c = part_from_text q (Value c) read.stored h.stored (one_text v (part_text q) (part_text (Value c)) read.is h.is) in
    absurd (let e : ◌≡◌ {A = Part} (Delta z) (Value c) = sym is ∙ same in cc)

some_is : {X : Type 0} (o : Option X) → IsSome o → (x : X) × (o ≡ Some x)
some_is None h = absurd (true≢false (sym h))
some_is (Some x) h = (x, refl)

pub is_there : {X : Type 0} (o : Option X) (x : X) → o ≡ Some x → IsSome o
is_there o x is = ap is_some is

-- what is listed is shown
pub each_shows : {X : Type 0} (Shows : Row → X → Type 0) (rows : List Row) (Is : X → Type 0) → Lists Shows rows Is → EachShows Shows rows
each_shows Shows rows Is h r there = let e = h.each r there in (e.0, e.1)

-- a record keeps its home
home_stays : (first now : Records) (top : ℕ) → KeepsRecords first now → IsSome (map.get first top) → IsSome (map.get now top)
home_stays first now top keeps there = go (map.get first top) (map.get now top) there (keeps.homes top)
  where
    go : (a b : Option Record) → IsSome a → option_map (λ (x : Record). x.home) b ≡ option_map (λ (x : Record). x.home) a → IsSome b
    go None b h same = absurd (true≢false (sym h))
    go (Some x) None h same = absurd (true≢false (sym (ap is_some same)))
    go (Some x) (Some y) h same = refl

-- ---- what an insertion found

pub was_there : {X : Type 0} (es : List (ℕ × X)) (k q : ℕ) (before : Option X) → before ≡ lookup (is_at (nat_cmp k)) es → true ≡ is_some before → q ≡ k
    → IsSome (map.get (map.from_entries {R = nat_cmp} es) q)
was_there es k q before had some same =
    subst (λ n. IsSome (map.get (map.from_entries {R = nat_cmp} es) n)) (sym same) (ap is_some (get_is es k ∙ sym had) ∙ sym some)

pub record_was_there : (es : List (ℕ × Prepared)) (k q : ℕ) (before : Option Prepared) → before ≡ lookup (is_at (nat_cmp k)) es → true ≡ is_some before → q ≡ k
    → IsPrepared (records es) q
record_was_there es k q before had some same =
    subst (IsPrepared (records es)) (sym same) (ap is_some (record_found es k ∙ ap (option_map record_of) (sym had)) ∙ (mapped before ∙ sym some))
  where
    mapped : (o : Option Prepared) → is_some (option_map record_of o) ≡ is_some o
    mapped None = refl
    mapped (Some x) = refl

pub part_was_there : (es : List (ℕ × Prepared)) (top object t o : ℕ) (it : Prepared) → Some it ≡ lookup (is_at (nat_cmp top)) es
    → IsSome (map.find nat_cmp object it.parts.entries) → t ≡ top → o ≡ object → IsTaken (records es) t o
part_was_there es top object t o it had some same_top same_object =
    subst (λ n. IsTaken (records es) n o) (sym same_top) (subst (IsTaken (records es) top) (sym same_object)
    (subst (λ r. IsSome (part_in r object)) (sym (record_found es top ∙ ap (option_map record_of) (sym had))) some))

pub no_record_there : (es : List (ℕ × Prepared)) (top t : ℕ) → None ≡ lookup (is_at (nat_cmp top)) es → t ≡ top → IsPrepared (records es) t → ⊥
no_record_there es top t none same there =
    true≢false (sym (subst (IsPrepared (records es)) same there) ∙ ap is_some (record_found es top ∙ ap (option_map record_of) (sym none)))

-- ---- an object that came before

module _ (rows : List Row) (i : ℕ) (r d : Row) (low : i < length rows) (is : r ≡ get_or rows i d) where
  pub base_twice : (base : Base) → ListsMore (ShowsPart 0) (take i rows) (HasBase (map.from_entries [])) (HasBase base)
      → ((e : ℕ × Part) → ShowsPart 0 r e → IsSome (map.get base e.0)) → EachShows (ShowsPart 0) rows → KeysDiffer rows → ⊥
  base_twice base so_far told shown differ =
      let e = shown r (has_item rows i r d low is) in
      let p = some_is (map.get base e.0.0) (told e.0 e.1) in
      elim (so_far.from (e.0.0, p.0) p.1) [
        | inl none ↦ none_in_base (e.0.0, p.0) none
        | inr f ↦ counts_again (has_rowid (pos e.0.0)) rows i r f.0 d low is f.1 (number_ties (rowid f.0) e.0.0 f.2.object.is)
            (number_ties (rowid r) e.0.0 e.1.object.is) (differ e.0.0)
      ]

  pub home_twice : (now : Records) → ListsMore (ShowsHome 0) (take i rows) (HasHome (records [])) (HasHome now)
      → ((e : ℕ × ℕ) → ShowsHome 0 r e → IsSome (map.get now e.0)) → EachShows (ShowsHome 0) rows → KeysDiffer rows → ⊥
  home_twice now so_far told shown differ =
      let e = shown r (has_item rows i r d low is) in
      let it = some_is (map.get now e.0.0) (told e.0 e.1) in
      elim (so_far.from (e.0.0, it.0.home) (ap (option_map (λ (x : Record). x.home)) it.1)) [
        | inl none ↦ no_homes (e.0.0, it.0.home) none
        | inr f ↦ counts_again (has_rowid (pos e.0.0)) rows i r f.0 d low is f.1 (number_ties (rowid f.0) e.0.0 f.2.top.is)
            (number_ties (rowid r) e.0.0 e.1.top.is) (differ e.0.0)
      ]

  part_ties : (Spells : Column → Part → Type 0) (row : Row) (e : ℕ × (ℕ × Part)) → ShowsRecord Spells 0 row e → is_part_shown e.0 e.1.0 row ≡ true
  part_ties Spells row e h = and_from _ _ (number_ties (column row 0) e.0 h.top.is) (number_ties (column row 1) e.1.0 h.object.is)

  pub part_twice : (Spells : Column → Part → Type 0) (first now : Records)
      → ListsMore (ShowsRecord Spells 0) (take i rows) (HasPart first) (HasPart now) → KeepsRecords first now
      → ((e : ℕ × (ℕ × Part)) → ShowsRecord Spells 0 r e → IsSome (map.get now e.0) → IsSome (part_in (map.get now e.0) e.1.0))
      → AreNew Spells rows first → PartsDiffer rows → ⊥
  part_twice Spells first now so_far keeps told new differ =
      let e = new r (has_item rows i r d low is) in
      let it = e.0 in
      let p = some_is (part_in (map.get now it.0) it.1.0) (told it e.1 (home_stays first now it.0 keeps e.2)) in
      elim (so_far.from (it.0, (it.1.0, p.0)) p.1) [
        | inl was ↦ not_some p.0 (sym e.3 ∙ was)
        | inr f ↦ counts_again (is_part_shown it.0 it.1.0) rows i r f.0 d low is f.1 (part_ties Spells f.0 (it.0, (it.1.0, p.0)) f.2) (part_ties Spells r it e.1) (differ it.0 it.1.0)
      ]

-- ---- rows whose records are there

-- where two contents list the same homes, a record of the one is in the other
home_there : (homes : List Row) (prepared now : Records) → Lists (ShowsHome 0) homes (HasHome prepared) → Lists (ShowsHome 0) homes (HasHome now)
    → (e : ℕ × (ℕ × Part)) → HasPart prepared e → IsSome (map.get now e.0)
home_there homes prepared now listed also e h =
    let home = some_home (map.get prepared e.0) e.1.0 e.1.1 h in
    let f = listed.from (e.0, home.0) home.1 in
    let k = also.each f.0 f.1 in
    let same : k.0.0 ≡ e.0 = one_number (column f.0 0) k.0.0 e.0 k.1.top.is f.2.top.is in
    subst (λ t. IsSome (map.get now t)) same (has_home (map.get now k.0.0) k.0.1 k.2)
  where
    has_home : (o : Option Record) (home : ℕ) → option_map (λ (x : Record). x.home) o ≡ Some home → IsSome o
    has_home None home h = absurd (not_some home h)
    has_home (Some x) home h = refl

no_part : (o : Option Part) → ((p : Part) → o ≡ Some p → ⊥) → o ≡ None
no_part None h = refl
no_part (Some p) h = absurd (h p refl)

never_both : (p : Part) → IsValue p → IsDelta p → ⊥
never_both (Value c) h k = k
never_both (Delta z) h k = h

module _ (homes : List Row) (prepared first : Records) (listed : Lists (ShowsHome 0) homes (HasHome prepared)) (also : Lists (ShowsHome 0) homes (HasHome first)) (none : HaveNoParts first) where
  -- the first rows of parts find their records, which have no parts
  pub first_new : (Spells : Column → Part → Type 0) (rows : List Row)
      → ((r : Row) → Has rows r → (e : ℕ × (ℕ × Part)) × ShowsRecord Spells 0 r e × HasPart prepared e) → AreNew Spells rows first
  first_new Spells rows shown r there =
      let e = shown r there in
      (e.0, e.1, home_there homes prepared first listed also e.0 e.2, no_part (part_in (map.get first e.0.0) e.0.1.0) (λ p h. none (e.0.0, (e.0.1.0, p)) h))

  -- the rows of deltas find their records, which have the values
  pub then_new : (values deltas : List Row) (now : Records) → Lists (ShowsRecord IsValueText 0) values (λ e. HasPart prepared e × IsValue e.1.1)
      → Lists (ShowsRecord IsAddedBy 0) deltas (λ e. HasPart prepared e × IsDelta e.1.1)
      → ListsMore (ShowsRecord IsValueText 0) values (HasPart first) (HasPart now) → KeepsRecords first now → AreNew IsAddedBy deltas now
  then_new values deltas now shown added more keeps r there =
      let e = added.each r there in
      let it = e.0 in (
        it,
        e.1,
        home_stays first now it.0 keeps (home_there homes prepared first listed also it e.2.0),
        no_part (part_in (map.get now it.0) it.1.0) (λ p h. elim (more.from (it.0, (it.1.0, p)) h) [
          | inl was ↦ none (it.0, (it.1.0, p)) was
          | inr f ↦
              let v = shown.each f.0 f.1 in
              let top : v.0.0 ≡ it.0 = one_number (column f.0 0) v.0.0 it.0 v.1.top.is f.2.top.is in
              let object : v.0.1.0 ≡ it.1.0 = one_number (column f.0 1) v.0.1.0 it.1.0 v.1.object.is f.2.object.is in
              let mine : part_in (map.get prepared it.0) it.1.0 ≡ Some v.0.1.1 = subst (λ o. part_in (map.get prepared it.0) o ≡ Some v.0.1.1) object (subst (λ t. part_in (map.get prepared t) v.0.1.0 ≡ Some v.0.1.1) top v.2.0) in
              let same : v.0.1.1 ≡ it.1.1 = one_some v.0.1.1 it.1.1 (sym mine ∙ e.2.0) in
              never_both it.1.1 (subst IsValue same v.2.1) e.2.1
        ]),
      )
    where
      one_some : (p q : Part) → ◌≡◌ {A = Option Part} (Some p) (Some q) → p ≡ q
      one_some p q e = cc

-- ---- the rows of `meta`

-- the row shows a number that a content has
abbrev IsEntry : ℕ → ℕ → Row → ℕ → Type 0
IsEntry count next r place = (e : ℕ × (List ℕ × ℕ)) × ShowsNumber r e × Has (numbers count next) e × (e.0 ≡ place)

abbrev HasPlace : Row → ℕ → Type 0
HasPlace r place = rowid r ≡ Int (pos place)

places : (count next : ℕ) (e : ℕ × (List ℕ × ℕ)) → Has (numbers count next) e → (1 ≤ e.0) × (e.0 ≤ 3)
places count next e (inl is) = (omega (arith, ap (λ (x : ℕ × (List ℕ × ℕ)). x.0) is), omega (arith, ap (λ (x : ℕ × (List ℕ × ℕ)). x.0) is))
places count next e (inr (inl is)) = (omega (arith, ap (λ (x : ℕ × (List ℕ × ℕ)). x.0) is), omega (arith, ap (λ (x : ℕ × (List ℕ × ℕ)). x.0) is))
places count next e (inr (inr (inl is))) = (omega (arith, ap (λ (x : ℕ × (List ℕ × ℕ)). x.0) is), omega (arith, ap (λ (x : ℕ × (List ℕ × ℕ)). x.0) is))
places count next e (inr (inr (inr h))) = absurd h

-- rows whose rowids rise have places that rise
places_rise : (r s : Row) (m n : ℕ) → HasPlace r m → HasPlace s n → value_cmp (rowid r) (rowid s) ≡ Less → m < n
places_rise r s m n here there less =
    let e : int_cmp (pos m) (pos n) ≡ Less = sym (value_cmp-Int (pos m) (pos n)) ∙ (sym (ap (λ v. value_cmp v (Int (pos n))) here) ∙ (sym (ap (value_cmp (rowid r)) there) ∙ less)) in
    omega (arith, ints, int_ranked (pos m) (pos n) Less (sym e))

-- three numbers have three rows, by their places
pub record ShowsThree (count next : ℕ) (a b c : Row) : Type 0 where
  pub version : ShowsNumber a (1, (codes "version", 2))
  pub counted : ShowsNumber b (2, (codes "count", count))
  pub numbered : ShowsNumber c (3, (codes "next_top", next))

module _ (count next : ℕ) where
  abbrev Entry : Type 0
  Entry = ℕ × (List ℕ × ℕ)

  first_entry : (e : Entry) → Has (numbers count next) e → e.0 ≡ 1 → e ≡ (1, (codes "version", 2))
  first_entry e (inl is) place = is
  first_entry e (inr (inl is)) place = absurd (omega (arith, place, ap (λ (x : Entry). x.0) is))
  first_entry e (inr (inr (inl is))) place = absurd (omega (arith, place, ap (λ (x : Entry). x.0) is))
  first_entry e (inr (inr (inr h))) place = absurd h

  second_entry : (e : Entry) → Has (numbers count next) e → e.0 ≡ 2 → e ≡ (2, (codes "count", count))
  second_entry e (inl is) place = absurd (omega (arith, place, ap (λ (x : Entry). x.0) is))
  second_entry e (inr (inl is)) place = is
  second_entry e (inr (inr (inl is))) place = absurd (omega (arith, place, ap (λ (x : Entry). x.0) is))
  second_entry e (inr (inr (inr h))) place = absurd h

  third_entry : (e : Entry) → Has (numbers count next) e → e.0 ≡ 3 → e ≡ (3, (codes "next_top", next))
  third_entry e (inl is) place = absurd (omega (arith, place, ap (λ (x : Entry). x.0) is))
  third_entry e (inr (inl is)) place = absurd (omega (arith, place, ap (λ (x : Entry). x.0) is))
  third_entry e (inr (inr (inl is))) place = is
  third_entry e (inr (inr (inr h))) place = absurd h

  module _ (rows : List Row) (shown : Lists ShowsNumber rows (Has (numbers count next))) where
    -- a row has one of the three places
    placed : (r : Row) → Has rows r → (n : ℕ) × HasPlace r n × (1 ≤ n) × (n ≤ 3)
    placed r h =
        let e = shown.each r h in
        let p = places count next e.0 e.2 in
        (e.0.0, e.1.place, p.0, p.1)

    -- each place has a row
    at_first : (r : Row) × Has rows r × HasPlace r 1
    at_first = let f = shown.from (1, (codes "version", 2)) (inl refl) in (f.0, f.1, f.2.place)

    at_second : (r : Row) × Has rows r × HasPlace r 2
    at_second = let f = shown.from (2, (codes "count", count)) (inr (inl refl)) in (f.0, f.1, f.2.place)

    at_third : (r : Row) × Has rows r × HasPlace r 3
    at_third = let f = shown.from (3, (codes "next_top", next)) (inr (inr (inl refl))) in (f.0, f.1, f.2.place)

  same_place : (r s : Row) (m n : ℕ) → r ≡ s → HasPlace r m → HasPlace s n → m ≡ n
  same_place r s m n same here there = one_number (rowid s) m n (ap rowid (sym same) ∙ here) there

  -- a row of these has the place
  pub three_there : (rows : List Row) → IsTable rows → Lists ShowsNumber rows (Has (numbers count next))
      → (a : Row) × (b : Row) × (c : Row) × (rows ≡ a ∷ b ∷ c ∷ []) × ShowsThree count next a b c
  three_there [] rise shown = absurd (at_first [] shown).1
  three_there (a ∷ []) rise shown = absurd (alone (at_first _ shown) (at_second _ shown))
    where
      alone : (r : Row) × Has (a ∷ []) r × HasPlace r 1 → (s : Row) × Has (a ∷ []) s × HasPlace s 2 → ⊥
      alone r s = elim r.1 [
        | inl same ↦ elim s.1 [
          | inl also ↦ omega (arith, same_place r.0 s.0 1 2 (same ∙ sym also) r.2 s.2)
          | inr h ↦ h
        ]
        | inr h ↦ h
      ]
  three_there (a ∷ b ∷ []) rise shown = absurd (go (at_first _ shown) (at_second _ shown) (at_third _ shown))
    where
      go : (r : Row) × Has (a ∷ b ∷ []) r × HasPlace r 1 → (s : Row) × Has (a ∷ b ∷ []) s × HasPlace s 2 → (t : Row) × Has (a ∷ b ∷ []) t × HasPlace t 3 → ⊥
      go r s t = elim r.1 [
        | inl r_a ↦ elim s.1 [
          | inl s_a ↦ omega (arith, same_place r.0 s.0 1 2 (r_a ∙ sym s_a) r.2 s.2)
          | inr (inl s_b) ↦ elim t.1 [
            | inl t_a ↦ omega (arith, same_place r.0 t.0 1 3 (r_a ∙ sym t_a) r.2 t.2)
            | inr (inl t_b) ↦ omega (arith, same_place s.0 t.0 2 3 (s_b ∙ sym t_b) s.2 t.2)
            | inr (inr h) ↦ h
          ]
          | inr (inr h) ↦ h
        ]
        | inr (inl r_b) ↦ elim s.1 [
          | inl s_a ↦ elim t.1 [
            | inl t_a ↦ omega (arith, same_place s.0 t.0 2 3 (s_a ∙ sym t_a) s.2 t.2)
            | inr (inl t_b) ↦ omega (arith, same_place r.0 t.0 1 3 (r_b ∙ sym t_b) r.2 t.2)
            | inr (inr h) ↦ h
          ]
          | inr (inl s_b) ↦ omega (arith, same_place r.0 s.0 1 2 (r_b ∙ sym s_b) r.2 s.2)
          | inr (inr h) ↦ h
        ]
        | inr (inr h) ↦ h
      ]
  three_there (a ∷ b ∷ c ∷ []) rise shown =
      let rows = a ∷ b ∷ c ∷ [] in
      let x = shown.each a (inl refl) in
      let y = shown.each b (inr (inl refl)) in
      let z = shown.each c (inr (inr (inl refl))) in
      let low = places count next x.0 x.2 in
      let high = places count next z.0 z.2 in
      let first = places_rise a b x.0.0 y.0.0 x.1.place y.1.place rise.0.0 in
      let then = places_rise b c y.0.0 z.0.0 y.1.place z.1.place rise.1.0.0 in (
        a,
        b,
        c,
        refl,
        record {
          version = subst (ShowsNumber a) (first_entry x.0 x.2 (omega (arith, low.0, high.1, first, then))) x.1;
          counted = subst (ShowsNumber b) (second_entry y.0 y.2 (omega (arith, low.0, high.1, first, then))) y.1;
          numbered = subst (ShowsNumber c) (third_entry z.0 z.2 (omega (arith, low.0, high.1, first, then))) z.1;
        },
      )
  three_there (a ∷ b ∷ c ∷ d ∷ more) rise shown =
      let x = placed _ shown a (inl refl) in
      let y = placed _ shown b (inr (inl refl)) in
      let z = placed _ shown c (inr (inr (inl refl))) in
      let w = placed _ shown d (inr (inr (inr (inl refl)))) in
      absurd (omega (arith, x.2, w.3, places_rise a b x.0 y.0 x.1 y.1 rise.0.0, places_rise b c y.0 z.0 y.1 z.1 rise.1.0.0, places_rise c d z.0 w.0 z.1 w.1 rise.1.1.0.0))

-- ---- several answers

-- the answer at a place
pub nth : (xs : List (Vec Row Global)) (i : ℕ) (a : Vec Row Global) → i < length xs → a ≡ get_or xs i a → slice_index_or (rows_of xs) i [] ≡ a.items
nth [] i a low is = absurd (omega (arith, low))
nth (x ∷ xs) zero a low is = ap (λ (v : Vec Row Global). v.items) (sym is)
nth (x ∷ xs) (suc i) a low is = nth xs i a (omega (arith, low)) is

module _ (xs : List (Vec Row Global)) (a b c d : Vec Row Global) (len : length xs ≡ 4) (is : a ≡ get_or xs 0 a) (is2 : b ≡ get_or xs 1 b) (is3 : c ≡ get_or xs 2 c) (is4 : d ≡ get_or xs 3 d) where
  pub four_answers : first_answered (rows_of xs) ≡ record { base = a.items; homes = b.items; parts = c.items; decided = d.items }
  four_answers =
      let one = nth xs 0 a (omega (arith, len)) is in
      let two = nth xs 1 b (omega (arith, len)) is2 in
      let three = nth xs 2 c (omega (arith, len)) is3 in
      let four = nth xs 3 d (omega (arith, len)) is4 in
      λ i. (let t : FirstTables = record { base = one i; homes = two i; parts = three i; decided = four i } in t)

module _ (xs : List (Vec Row Global)) (a b c d e f : Vec Row Global) (len : length xs ≡ 6) (is : a ≡ get_or xs 0 a) (is2 : b ≡ get_or xs 1 b) (is3 : c ≡ get_or xs 2 c)
    (is4 : d ≡ get_or xs 3 d) (is5 : e ≡ get_or xs 4 e) (is6 : f ≡ get_or xs 5 f) where
  pub six_are : answered (rows_of xs) ≡ record { numbers = a.items; base = b.items; homes = c.items; values = d.items; deltas = e.items; decided = f.items }
  six_are =
      let one = nth xs 0 a (omega (arith, len)) is in
      let two = nth xs 1 b (omega (arith, len)) is2 in
      let three = nth xs 2 c (omega (arith, len)) is3 in
      let four = nth xs 3 d (omega (arith, len)) is4 in
      let five = nth xs 4 e (omega (arith, len)) is5 in
      let six = nth xs 5 f (omega (arith, len)) is6 in
      λ i. (let t : Tables = record { numbers = one i; base = two i; homes = three i; values = four i; deltas = five i; decided = six i } in t)

-- the rows of `meta`, by their places
module _ (count next : ℕ) (rows : List Row) (rise : IsTable rows) (shown : Lists ShowsNumber rows (Has (numbers count next))) where
  pub three_are : length rows ≡ 3
  three_are = let t = three_there count next rows rise shown in ap length t.3

  pub version_at : (r : Row) → r ≡ get_or rows 0 r → ShowsNumber r (1, (codes "version", 2))
  version_at r is =
      let t = three_there count next rows rise shown in
      subst (λ x. ShowsNumber x (1, (codes "version", 2))) (sym (is ∙ ap (λ xs. get_or xs 0 r) t.3)) t.4.version

  pub count_at : (r : Row) → r ≡ get_or rows 1 r → ShowsNumber r (2, (codes "count", count))
  count_at r is =
      let t = three_there count next rows rise shown in
      subst (λ x. ShowsNumber x (2, (codes "count", count))) (sym (is ∙ ap (λ xs. get_or xs 1 r) t.3)) t.4.counted

  pub next_at : (r : Row) → r ≡ get_or rows 2 r → ShowsNumber r (3, (codes "next_top", next))
  next_at r is =
      let t = three_there count next rows rise shown in
      subst (λ x. ShowsNumber x (3, (codes "next_top", next))) (sym (is ∙ ap (λ xs. get_or xs 2 r) t.3)) t.4.numbered
