-- What records have, after one change.
use Rattle.std.proofs.Common.{◌≡◌, ◌≢◌, inl, inr, ℕ, pos, [], true, cond, Option, Some, None, option_map, IfSome, refl, sym, ap, subst, ◌∙◌, nat_cmp, true≢false, Equal}
use Rattle.std.specs.Ordering.{is_eq, eq_by_cmp}
use Rattle.std.proofs.lemmas.Bool.{false_from_ne_true}
use Rattle.std.proofs.lemmas.Cmp.{tied_itself}
use Rattle.std.specs.FinMap as map
use Rattle.sqlite.specs.declared.types.Value.{Value as Column}
use Rattle.sqlite.specs.declared.types.Value.TheVariants.{Int}
use Rattle.sqlite.specs.Order.{Row, column}
use Rattle.sqlite_value.specs.Order.{value_cmp}
use Rattle.sqlite_value.proofs.OrderLemmas.{value_cmp_total}
use Rattle.sqlite.specs.Tree.{Trees}
use Rattle.sqlite.specs.Edit.{id_in}
use Rattle.sqlite_trees.specs.Tree.{rowid, has_rowid}
use Rattle.sqlite_rules.specs.Lists.{Has}
use Rattle.atomic_types.specs.declared.part.Part.{Part}
use Rattle.stable_store.specs.Stored.{Record}
use Rattle.store_tables.specs.Rows.{HasRowids}
use Rattle.store_tables.proofs.Keys.{key_is, equal_is, tied_id}
use Rattle.store_tables.proofs.Placed.{ints, same_row}
use Rattle.store_tables.proofs.Discards.{Discards, LosesParts}
use Rattle.store_tables.specs.Listed.{Lists}
use Rattle.store_tables.specs.Shown.{ShowsHome, ShowsRecord}
use Rattle.store_tables.specs.Parts.{Records, HasHome, HasPart, part_in, AreRising}
use Rattle.store_tables.specs.Grown.{Adds, HaveSameHomes}
use Rattle.store_tables.proofs.Numbers.{itself, tied, apart, same_or_not, not_some, same_some, taken_here, taken_other}
use Rattle.store_tables.proofs.Listed.{Stays, taken}
use Rattle.store_tables.proofs.Tables.{other_stays}

pub one_home : (e : ℕ × ℕ) (n home : ℕ) → e.0 ≡ n → ◌≡◌ {A = Option ℕ} (Some home) (Some e.1) → e ≡ (n, home)
one_home e n home top is = let home_is : e.1 ≡ home = sym (same_some home e.1 is) in λ i. (top i, home_is i)

pub one_part : (e : ℕ × (ℕ × Part)) (n o : ℕ) (p : Part) → e.0 ≡ n → e.1.0 ≡ o → ◌≡◌ {A = Option Part} (Some p) (Some e.1.1)
    → e ≡ (n, (o, p))
one_part e n o p top object is = let part_is : e.1.1 ≡ p = sym (same_some p e.1.1 is) in λ i. (top i, (object i, part_is i))

-- another record of one top action
module _ (m now : Records) (n : ℕ) (r : Record) (is : (t : ℕ) → map.get now t ≡ cond (eq_by_cmp nat_cmp t n) (Some r) (map.get m t)) where
  at : map.get now n ≡ Some r
  at = is n ∙ ap (λ b. cond b (Some r) (map.get m n)) (itself n)

  past : (t : ℕ) → t ≢ n → map.get now t ≡ map.get m t
  past t other = is t ∙ ap (λ b. cond b (Some r) (map.get m t)) (apart t n other)

  part_past : (e : ℕ × (ℕ × Part)) → e.0 ≢ n → part_in (map.get now e.0) e.1.0 ≡ part_in (map.get m e.0) e.1.0
  part_past e other = ap (λ x. part_in x e.1.0) (past e.0 other)

  part_at : (e : ℕ × (ℕ × Part)) → e.0 ≡ n → part_in (map.get now e.0) e.1.0 ≡ map.find nat_cmp e.1.0 r.parts
  part_at e same = ap (λ t. part_in (map.get now t) e.1.0) same ∙ ap (λ x. part_in x e.1.0) at

  -- the first
  module _ (none : map.get m n ≡ None) (empty : r.parts ≡ []) where
    pub home_adds : Adds (HasHome m) (HasHome now) (n, r.home)
    home_adds = record {
      here = ap (option_map (λ (x : Record). x.home)) at;
      stays = λ e h. elim (same_or_not e.0 n) [
        | inl same ↦ absurd (not_some e.1 (sym (ap (option_map (λ (x : Record). x.home)) (ap (map.get m) same ∙ none)) ∙ h))
        | inr other ↦ ap (option_map (λ (x : Record). x.home)) (past e.0 other) ∙ h
      ];
      back = λ e h. elim (same_or_not e.0 n) [
        | inl same ↦ inl (one_home e n r.home same (sym (ap (option_map (λ (x : Record). x.home)) (ap (map.get now) same ∙ at)) ∙ h))
        | inr other ↦ inr (sym (ap (option_map (λ (x : Record). x.home)) (past e.0 other)) ∙ h)
      ];
    }

    pub part_stays : (e : ℕ × (ℕ × Part)) → HasPart m e → HasPart now e
    part_stays e h = elim (same_or_not e.0 n) [
      | inl same ↦ absurd (not_some e.1.1 (sym (ap (λ x. part_in x e.1.0) (ap (map.get m) same ∙ none)) ∙ h))
      | inr other ↦ part_past e other ∙ h
    ]

    pub part_was : (e : ℕ × (ℕ × Part)) → HasPart now e → HasPart m e
    part_was e h = elim (same_or_not e.0 n) [
      | inl same ↦ absurd (not_some e.1.1 (sym (ap (map.find nat_cmp e.1.0) empty) ∙ (sym (part_at e same) ∙ h)))
      | inr other ↦ sym (part_past e other) ∙ h
    ]

  -- one with a part more
  module _ (had : Record) (was : map.get m n ≡ Some had) (home : r.home ≡ had.home) (o : ℕ) (p : Part) (new : map.find nat_cmp o had.parts ≡ None)
      (found : (q : ℕ) → map.find nat_cmp q r.parts ≡ cond (eq_by_cmp nat_cmp q o) (Some p) (map.find nat_cmp q had.parts)) where
    had_part : (e : ℕ × (ℕ × Part)) → e.0 ≡ n → part_in (map.get m e.0) e.1.0 ≡ map.find nat_cmp e.1.0 had.parts
    had_part e same = ap (λ t. part_in (map.get m t) e.1.0) same ∙ ap (λ x. part_in x e.1.0) was

    found_other : (q : ℕ) → q ≢ o → map.find nat_cmp q r.parts ≡ map.find nat_cmp q had.parts
    found_other q other = found q ∙ ap (λ b. cond b (Some p) (map.find nat_cmp q had.parts)) (apart q o other)

    found_here : map.find nat_cmp o r.parts ≡ Some p
    found_here = found o ∙ ap (λ b. cond b (Some p) (map.find nat_cmp o had.parts)) (itself o)

    pub part_adds : Adds (HasPart m) (HasPart now) (n, (o, p))
    part_adds = record {
      here = ap (λ x. part_in x o) at ∙ found_here;
      stays = λ e h. elim (same_or_not e.0 n) [
        | inl same ↦
            let in_had : map.find nat_cmp e.1.0 had.parts ≡ Some e.1.1 = sym (had_part e same) ∙ h in
            let other : e.1.0 ≢ o = λ k. not_some e.1.1 (sym (ap (λ q. map.find nat_cmp q had.parts) k ∙ new) ∙ in_had) in
            part_at e same ∙ (found_other e.1.0 other ∙ in_had)
        | inr other ↦ part_past e other ∙ h
      ];
      back = λ e h. elim (same_or_not e.0 n) [
        | inl same ↦
            let in_now : map.find nat_cmp e.1.0 r.parts ≡ Some e.1.1 = sym (part_at e same) ∙ h in
            elim (same_or_not e.1.0 o) [
              | inl object ↦ inl (one_part e n o p same object (sym (ap (λ q. map.find nat_cmp q r.parts) object ∙ found_here) ∙ in_now))
              | inr other ↦ inr (had_part e same ∙ (sym (found_other e.1.0 other) ∙ in_now))
            ]
        | inr other ↦ inr (sym (part_past e other) ∙ h)
      ];
    }

    pub homes_same : HaveSameHomes m now
    homes_same t = elim (same_or_not t n) [
      | inl same ↦
          ap (λ k. option_map (λ (x : Record). x.home) (map.get now k)) same
          ∙ (ap (option_map (λ (x : Record). x.home)) at
          ∙ (ap (λ (h : ℕ). Some h) home
          ∙ (sym (ap (option_map (λ (x : Record). x.home)) was) ∙ sym (ap (λ k. option_map (λ (x : Record). x.home) (map.get m k)) same))))
      | inr other ↦ ap (option_map (λ (x : Record). x.home)) (past t other)
    ]

  pub still_rising : map.is_sorted nat_cmp r.parts ≡ true → AreRising m → AreRising now
  still_rising here was t = elim (same_or_not t n) [
    | inl same ↦ subst (λ x. IfSome x (λ y. map.is_sorted nat_cmp y.parts ≡ true)) (sym (ap (map.get now) same ∙ at)) here
    | inr other ↦ subst (λ x. IfSome x (λ y. map.is_sorted nat_cmp y.parts ≡ true)) (sym (past t other)) (was t)
  ]

-- the homes that a map has, in other words
pub homes_to : (a b : Records) → HaveSameHomes a b → (e : ℕ × ℕ) → HasHome a e → HasHome b e
homes_to a b same e h = same e.0 ∙ h

pub homes_back : (a b : Records) → HaveSameHomes a b → (e : ℕ × ℕ) → HasHome b e → HasHome a e
homes_back a b same e h = sym (same e.0) ∙ h

-- parts of one kind
module _ (m now : Records) (n o : ℕ) (p : Part) (adds : Adds (HasPart m) (HasPart now) (n, (o, p))) (Kind : Part → Type 0) where
  pub kind_adds : Kind p → Adds (λ e. HasPart m e × Kind e.1.1) (λ e. HasPart now e × Kind e.1.1) (n, (o, p))
  kind_adds kind = record {
    here = (adds.here, kind);
    stays = λ e h. (adds.stays e h.0, h.1);
    back = λ e h. elim (adds.back e h.0) [ inl new ↦ inl new | inr was ↦ inr (was, h.1) ];
  }

  pub kind_stays : (e : ℕ × (ℕ × Part)) → HasPart m e × Kind e.1.1 → HasPart now e × Kind e.1.1
  kind_stays e h = (adds.stays e h.0, h.1)

  pub kind_was : (Kind p → ⊥) → (e : ℕ × (ℕ × Part)) → HasPart now e × Kind e.1.1 → HasPart m e × Kind e.1.1
  kind_was other e h = elim (adds.back e h.0) [
    | inl new ↦ absurd (other (subst Kind (ap (λ (x : ℕ × (ℕ × Part)). x.1.1) new) h.1))
    | inr was ↦ (was, h.1)
  ]

-- ---- a record that goes

module _ (m : Records) (n : ℕ) where
  pub left_home : (e : ℕ × ℕ) → HasHome (map.remove m n) e → (e.0 ≢ n) × HasHome m e
  left_home e h = elim (same_or_not e.0 n) [
    | inl same ↦ absurd (not_some e.1 (sym (ap (option_map (λ (x : Record). x.home)) (ap (map.get (map.remove m n)) same ∙ taken_here m n)) ∙ h))
    | inr other ↦ (other, sym (ap (option_map (λ (x : Record). x.home)) (taken_other m n e.0 other)) ∙ h)
  ]

  pub home_left : (e : ℕ × ℕ) → e.0 ≢ n → HasHome m e → HasHome (map.remove m n) e
  home_left e other h = ap (option_map (λ (x : Record). x.home)) (taken_other m n e.0 other) ∙ h

  pub left_part : (e : ℕ × (ℕ × Part)) → HasPart (map.remove m n) e → (e.0 ≢ n) × HasPart m e
  left_part e h = elim (same_or_not e.0 n) [
    | inl same ↦ absurd (not_some e.1.1 (sym (ap (λ x. part_in x e.1.0) (ap (map.get (map.remove m n)) same ∙ taken_here m n)) ∙ h))
    | inr other ↦ (other, sym (ap (λ x. part_in x e.1.0) (taken_other m n e.0 other)) ∙ h)
  ]

  pub part_left : (e : ℕ × (ℕ × Part)) → e.0 ≢ n → HasPart m e → HasPart (map.remove m n) e
  part_left e other h = ap (λ x. part_in x e.1.0) (taken_other m n e.0 other) ∙ h

  pub rising_left : AreRising m → AreRising (map.remove m n)
  rising_left was t = elim (same_or_not t n) [
    | inl same ↦ subst (λ x. IfSome x (λ y. map.is_sorted nat_cmp y.parts ≡ true)) (sym (ap (map.get (map.remove m n)) same ∙ taken_here m n)) tt
    | inr other ↦ subst (λ x. IfSome x (λ y. map.is_sorted nat_cmp y.parts ≡ true)) (sym (taken_other m n t other)) (was t)
  ]

-- a part is of a record that has a home
pub some_home : (o : Option Record) (object : ℕ) (p : Part) → part_in o object ≡ Some p → (home : ℕ) × (option_map (λ (x : Record). x.home) o ≡ Some home)
some_home None object p h = absurd (not_some p h)
some_home (Some r) object p h = (r.home, refl)

pub number_ties : (v : Column) (n : ℕ) → v ≡ Int (pos n) → is_eq (value_cmp v (Int (pos n))) ≡ true
number_ties v n is = ap (λ w. is_eq (value_cmp w (Int (pos n)))) is ∙ ap is_eq (tied_itself value_cmp_total (Int (pos n)))

pub ties_number : (v : Column) (k n : ℕ) → v ≡ Int (pos k) → is_eq (value_cmp v (Int (pos n))) ≡ true → k ≡ n
ties_number v k n is h = sym (tied n k (sym (key_is v k n is) ∙ h))

module _ (n : ℕ) (db next : Trees) (m : Records) (homes : Lists (ShowsHome 1) (db 3) (HasHome m)) where
  pub home_taken : Discards n db next → Lists (ShowsHome 1) (next 3) (HasHome (map.remove m n))
  home_taken made = taken (ShowsHome 1) (db 3) (next 3) made.gone (HasHome m) (HasHome (map.remove m n)) made.rows
      (λ r e has stays shows is. home_left m n e (λ same.
      let here : has_rowid (pos n) r ≡ true = number_ties (rowid r) n (shows.top.is ∙ ap (λ k. Int (pos k)) same) in
      true≢false (sym here ∙ stays (pos n) (made.each r has here))) is)
      (λ e now. let old = left_home m n e now in (old.1, λ r _ shows. other_stays r e.0 n made.gone shows.top.is old.0 made.all))
      homes

  module _ (Spells : Column → Part → Type 0) (Kind : Part → Type 0) (tree : ℕ) (placed : HasRowids (db tree)) (lost : LosesParts n tree db next) where
    not_mine : (r : Row) (e : ℕ × (ℕ × Part)) → Has (db tree) r → Stays lost.ids r → ShowsRecord Spells 1 r e → HasPart m e → e.0 ≢ n
    not_mine r e has stays shows is same =
        let home = some_home (map.get m e.0) e.1.0 e.1.1 is in
        let old = homes.from (e.0, home.0) home.1 in
        let here : has_rowid (pos n) old.0 ≡ true = number_ties (rowid old.0) n (old.2.top.is ∙ ap (λ k. Int (pos k)) same) in
        let mine = number_ties (column r 1) n (shows.top.is ∙ ap (λ k. Int (pos k)) same) in
        let id = ints (db tree) r placed has in
        true≢false (sym (tied_id (rowid r) id) ∙ stays (id_in (rowid r)) (lost.theirs old.0 old.1 here r (id_in (rowid r)) has mine id))

    others_stay : (r : Row) (e : ℕ × (ℕ × Part)) → e.0 ≢ n → Has (db tree) r → ShowsRecord Spells 1 r e → Stays lost.ids r
    others_stay r e other has shows id h = false_from_ne_true (has_rowid id r) (λ there.
        let mine = lost.mine id h in
        let tie : value_cmp (rowid r) (rowid mine.0) ≡ Equal = ap (value_cmp (rowid r)) mine.3 ∙ equal_is _ there in
        let same : r ≡ mine.0 = same_row (db tree) placed r mine.0 has mine.1 tie in
        other (ties_number (column r 1) e.0 n shows.top.is (ap (λ (x : Row). is_eq (value_cmp (column x 1) (Int (pos n)))) same ∙ mine.2)))

    pub parts_taken : Lists (ShowsRecord Spells 1) (db tree) (λ e. HasPart m e × Kind e.1.1)
        → Lists (ShowsRecord Spells 1) (next tree) (λ e. HasPart (map.remove m n) e × Kind e.1.1)
    parts_taken was = taken (ShowsRecord Spells 1) (db tree) (next tree) lost.ids (λ e. HasPart m e × Kind e.1.1) (λ e. HasPart (map.remove m n) e × Kind e.1.1) lost.rows
        (λ r e has stays shows is. (part_left m n e (not_mine r e has stays shows is.0) is.0, is.1))
        (λ e now. let old = left_part m n e now.0 in ((old.1, now.1), λ r has shows. others_stay r e old.0 has shows))
        was
