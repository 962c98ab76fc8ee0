-- Rows that list things, as rows come and go.
use Rattle.std.proofs.Common.{◌≡◌, ◌⊎◌, inl, inr, ℤ, List, [], ◌∷◌, ◌++◌, Bool, true, false, not, refl, sym, ap, subst, ◌∙◌, true≢false, Ordering, Less, Equal, Greater}
use Rattle.std.specs.Ordering.{is_eq, match_ordering}
use Rattle.std.proofs.lemmas.Bool.{or_parts}
use Rattle.sqlite.specs.Order.{Row, value_cmp}
use Rattle.sqlite_trees.specs.Tree.{rowid, has_rowid, put_row, without_rowid}
use Rattle.sqlite_rules.specs.Edit.{without_all, is_taken}
use Rattle.sqlite_rules.specs.Lists.{Has}
use Rattle.sqlite_rules.proofs.ListLemmas.{has_filtered, has_kept, has_left, has_right, has_either, some_from}
use Rattle.sqlite_rules.proofs.TableLemmas.{put_has}
use Rattle.store_tables.specs.Listed.{Lists}
use Rattle.store_tables.specs.Grown.{Adds, AddsShown, ListsMore}

-- ---- membership

-- no rowid that went is the row's
abbrev pub Stays : List ℤ → Row → Type 0
Stays gone r = (id : ℤ) → Has gone id → has_rowid id r ≡ false

pub left_was : (rows : List Row) (gone : List ℤ) (r : Row) → Has (without_all rows gone) r → Has rows r
left_was rows [] r h = h
left_was rows (id ∷ gone) r h = (has_filtered _ rows r (left_was (without_rowid id rows) gone r h)).0

not_not : (b : Bool) → not b ≡ true → b ≡ false
not_not true h = absurd (true≢false (sym h))
not_not false h = refl

pub left_stays : (rows : List Row) (gone : List ℤ) (r : Row) → Has (without_all rows gone) r → Stays gone r
left_stays rows [] r h id there = absurd there
left_stays rows (x ∷ gone) r h id (inl same) =
    ap (λ k. has_rowid k r) same ∙ not_not _ (has_filtered (λ y. not (has_rowid x y)) rows r (left_was (without_rowid x rows) gone r h)).1
left_stays rows (x ∷ gone) r h id (inr later) = left_stays (without_rowid x rows) gone r h id later

pub stays_left : (rows : List Row) (gone : List ℤ) (r : Row) → Has rows r → Stays gone r → Has (without_all rows gone) r
stays_left rows [] r h stays = h
stays_left rows (id ∷ gone) r h stays =
    stays_left (without_rowid id rows) gone r (has_kept (λ y. not (has_rowid id y)) rows r h (ap not (stays id (inl refl)))) (λ x later. stays x (inr later))

pub put_is : (new : Row) (rows : List Row) → Has (put_row new rows) new
put_is new [] = inl refl
put_is new (r ∷ rows) = go (value_cmp (rowid r) (rowid new)) (put_is new rows)
  where
    go : (o : Ordering) → Has (put_row new rows) new → Has (match_ordering o (r ∷ put_row new rows) (new ∷ rows) (new ∷ r ∷ rows)) new
    go Less later = inr later
    go Equal later = inl refl
    go Greater later = inl refl

pub put_keeps : (new : Row) (rows : List Row) (x : Row) → is_taken rows new ≡ false → Has rows x → Has (put_row new rows) x
put_keeps new [] x free h = absurd h
put_keeps new (r ∷ rows) x free h = go (value_cmp (rowid r) (rowid new)) (or_parts _ _ free).0 h (λ there. put_keeps new rows x (or_parts _ _ free).1 there)
  where
    go : (o : Ordering) → is_eq o ≡ false → Has (r ∷ rows) x → (Has rows x → Has (put_row new rows) x)
        → Has (match_ordering o (r ∷ put_row new rows) (new ∷ rows) (new ∷ r ∷ rows)) x
    go Less free (inl same) later = inl same
    go Less free (inr there) later = inr (later there)
    go Equal free h later = absurd (true≢false free)
    go Greater free h later = inr h

-- a row that is there has another rowid than the one that was free
pub free_apart : (row : Row) (rows : List Row) → is_taken rows row ≡ false → (r : Row) → Has rows r
    → is_eq (value_cmp (rowid r) (rowid row)) ≡ true → ⊥
free_apart row rows free r h tie = true≢false (sym (some_from (λ x. is_eq (value_cmp (rowid x) (rowid row))) rows r h tie) ∙ free)

-- ---- lists

module _ {X : Type 0} (Shows : Row → X → Type 0) where
  pub same : (rows next : List Row) (Is : X → Type 0) → next ≡ rows → Lists Shows rows Is → Lists Shows next Is
  same rows next Is is h = subst (λ l. Lists Shows l Is) (sym is) h

  -- the same things, in other words
  pub renamed : (rows : List Row) (Was Is : X → Type 0) → ((x : X) → Was x → Is x) → ((x : X) → Is x → Was x) → Lists Shows rows Was
      → Lists Shows rows Is
  renamed rows Was Is to back h = record {
    each = λ r there. let e = h.each r there in (e.0, e.1, to e.0 e.2);
    from = λ x is. h.from x (back x is);
  }

  -- a row in place of those that went
  pub replaced : (rows next : List Row) (row : Row) (gone : List ℤ) (Was Is : X → Type 0) (x : X) → next ≡ put_row row (without_all rows gone)
      → is_taken (without_all rows gone) row ≡ false → Shows row x → Is x
      → ((r : Row) (y : X) → Has rows r → Stays gone r → (is_eq (value_cmp (rowid r) (rowid row)) ≡ true → ⊥) → Shows r y → Was y → Is y)
      → ((y : X) → Is y → (y ≡ x) ⊎ (Was y × ((r : Row) → Has rows r → Shows r y → Stays gone r)))
      → Lists Shows rows Was → Lists Shows next Is
  replaced rows next row gone Was Is x is free shows here stays back h =
      let left = without_all rows gone in
      same (put_row row left) next Is is (record {
        each = λ r there. elim (put_has row left r there) [
          | inl new ↦ (x, subst (λ z. Shows z x) (sym new) shows, here)
          | inr old ↦ let e = h.each r (left_was rows gone r old) in
              (e.0, e.1, stays r e.0 (left_was rows gone r old) (left_stays rows gone r old) (free_apart row left free r old) e.1 e.2)
        ];
        from = λ y now. elim (back y now) [
          | inl new ↦ (row, put_is row left, subst (Shows row) (sym new) shows)
          | inr old ↦ let f = h.from y old.0 in (f.0, put_keeps row left f.0 free (stays_left rows gone f.0 f.1 (old.1 f.0 f.1 f.2)), f.2)
        ];
      })

  -- rows that went
  pub taken : (rows next : List Row) (gone : List ℤ) (Was Is : X → Type 0) → next ≡ without_all rows gone
      → ((r : Row) (y : X) → Has rows r → Stays gone r → Shows r y → Was y → Is y)
      → ((y : X) → Is y → Was y × ((r : Row) → Has rows r → Shows r y → Stays gone r))
      → Lists Shows rows Was → Lists Shows next Is
  taken rows next gone Was Is is stays back h = same (without_all rows gone) next Is is (record {
    each = λ r there.
        let was = left_was rows gone r there in
        let e = h.each r was in
        (e.0, e.1, stays r e.0 was (left_stays rows gone r there) e.1 e.2);
    from = λ y now.
        let old = back y now in
        let f = h.from y old.0 in
        (f.0, stays_left rows gone f.0 f.1 (old.1 f.0 f.1 f.2), f.2);
  })

  -- ---- row by row

  pub more_none : (Is : X → Type 0) → ListsMore Shows [] Is Is
  more_none Is = record { each = λ r h. absurd h; from = λ x h. inl h; stays = λ x h. h }

  has_one : (x y : Row) → Has (y ∷ []) x → x ≡ y
  has_one x y (inl is) = is
  has_one x y (inr h) = absurd h

  pub more_row : (rows : List Row) (row : Row) (Was Is Now : X → Type 0) → ListsMore Shows rows Was Is → AddsShown Shows row Is Now
      → ListsMore Shows (rows ++ row ∷ []) Was Now
  more_row rows row Was Is Now so_far one = record {
    each = λ r h. elim (has_either rows (row ∷ []) r h) [
      | inl old ↦ let e = so_far.each r old in (e.0, e.1, one.adds.stays e.0 e.2)
      | inr last ↦ (one.thing, subst (λ z. Shows z one.thing) (sym (has_one r row last)) one.shows, one.adds.here)
    ];
    from = λ x now. elim (one.adds.back x now) [
      | inl new ↦ inr (row, has_right rows (row ∷ []) row (inl refl), subst (Shows row) (sym new) one.shows)
      | inr old ↦ elim (so_far.from x old) [ inl was ↦ inl was | inr f ↦ inr (f.0, has_left rows (row ∷ []) f.0 f.1, f.2) ]
    ];
    stays = λ x was. one.adds.stays x (so_far.stays x was);
  }

  -- where there was nothing
  pub listed : (rows : List Row) (Was Is : X → Type 0) → ((x : X) → Was x → ⊥) → ListsMore Shows rows Was Is → Lists Shows rows Is
  listed rows Was Is none h = record {
    each = h.each;
    from = λ x is. elim (h.from x is) [ inl was ↦ absurd (none x was) | inr f ↦ f ];
  }

-- what an answer lists, its table lists
pub looked : {X : Type 0} (Shows Shown : Row → X → Type 0) (project : Row → Row) (answer table : List Row) (Is : X → Type 0)
    → ((r : Row) → Has table r → Has answer (project r)) → ((a : Row) → Has answer a → (r : Row) × Has table r × (a ≡ project r))
    → ((r : Row) (x : X) → Shown (project r) x → Shows r x) → Lists Shown answer Is → Lists Shows table Is
looked Shows Shown project answer table Is each from reads h = record {
  each = λ r there. let e = h.each (project r) (each r there) in (e.0, reads r e.0 e.1, e.2);
  from = λ x is.
      let f = h.from x is in
      let r = from f.0 f.1 in
      (r.0, r.1, reads r.0 x (subst (λ a. Shown a x) r.2 f.2));
}

-- a row more
pub grown : {X : Type 0} (Shows : Row → X → Type 0) (rows next : List Row) (row : Row) (Was Is : X → Type 0) (x : X) → next ≡ put_row row rows → is_taken rows row ≡ false
    → Shows row x → Adds Was Is x → Lists Shows rows Was → Lists Shows next Is
grown Shows rows next row Was Is x is free shows adds h = replaced Shows rows next row [] Was Is x is free shows adds.here
    (λ r y _ _ _ _ was. adds.stays y was)
    (λ y now. elim (adds.back y now) [ inl new ↦ inl new | inr was ↦ inr (was, λ r _ _ id none. absurd none) ])
    h
