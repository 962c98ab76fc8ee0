-- What is found in rows that were put in and taken out.
use Rattle.std.proofs.Common.{◌≡◌, ◌⊎◌, inl, inr, ℤ, Bool, true, false, not, cond, List, [], ◌∷◌, filter, find, Some, None, refl}
use Rattle.std.proofs.Common.{sym, ap, ◌∙◌, true≢false, Ordering, Less, Equal, Greater}
use Rattle.std.specs.Ordering.{is_eq, match_ordering}
use Rattle.std.proofs.lemmas.Bool.{cases_Bool, or_parts}
use Rattle.sqlite.specs.Order.{Row, value_cmp}
use Rattle.sqlite_trees.specs.Tree.{rowid, has_rowid, put_row, without_rowid}
use Rattle.sqlite_rules.specs.Lists.{Has}
use Rattle.sqlite_rules.specs.Edit.{without_all, is_taken}
use Rattle.sqlite_rules.proofs.ListLemmas.{has_filtered}

module _ (p : Row → Bool) where
  pub find_none : (rows : List Row) → ((r : Row) → Has rows r → p r ≡ false) → find p rows ≡ None
  find_none [] h = refl
  find_none (r ∷ rows) h = rw (h r (inl refl)) (find_none rows (λ x i. h x (inr i)))

  pub none_found : (rows : List Row) → find p rows ≡ None → (r : Row) → Has rows r → p r ≡ false
  none_found [] e r h = absurd h
  none_found (x ∷ rows) e r h = go (p x) refl e h (none_found rows)
    where
      go : (b : Bool) → p x ≡ b → cond b (Some x) (find p rows) ≡ None → Has (x ∷ rows) r
          → (find p rows ≡ None → (y : Row) → Has rows y → p y ≡ false) → p r ≡ false
      go true is e h later = absurd (let w = e in cc)
      go false is e (inl same) later = ap p same ∙ is
      go false is e (inr there) later = later e r there

  same_filtered : (q : Row → Bool) (rows : List Row) → ((r : Row) → Has rows r → p r ≡ true → q r ≡ true)
      → find p (filter q rows) ≡ find p rows
  same_filtered q [] h = refl
  same_filtered q (r ∷ rows) h = go (q r) refl (same_filtered q rows (λ x i. h x (inr i)))
    where
      off : q r ≡ false → p r ≡ false
      off is = elim (cases_Bool (p r)) [ inl passes ↦ absurd (true≢false (sym (h r (inl refl) passes) ∙ is)) | inr fails ↦ fails ]

      go : (b : Bool) → q r ≡ b → find p (filter q rows) ≡ find p rows
          → find p (cond b (r ∷ filter q rows) (filter q rows)) ≡ cond (p r) (Some r) (find p rows)
      go true is later = ap (cond (p r) (Some r)) later
      go false is later = rw (off is) later

  pub find_kept : (rows : List Row) (ids : List ℤ) → ((r : Row) → Has rows r → p r ≡ true → (id : ℤ) → Has ids id → has_rowid id r ≡ false)
      → find p (without_all rows ids) ≡ find p rows
  find_kept rows [] h = refl
  find_kept rows (id ∷ ids) h =
      find_kept (without_rowid id rows) ids (λ r i e at j. h r (has_filtered _ rows r i).0 e at (inr j))
      ∙ same_filtered (λ r. not (has_rowid id r)) rows (λ r i e. ap not (h r i e id (inl refl)))

  gone_twice : (b : Bool) → not b ≡ true → b ≡ true → ⊥
  gone_twice true h e = true≢false (sym h)
  gone_twice false h e = true≢false (sym e)

  pub find_gone : (rows : List Row) (ids : List ℤ)
      → ((r : Row) → Has rows r → p r ≡ true → (id : ℤ) × Has ids id × (has_rowid id r ≡ true)) → find p (without_all rows ids) ≡ None
  find_gone rows [] h = find_none rows (λ r i. elim (cases_Bool (p r)) [ inl passes ↦ absurd (h r i passes).1 | inr fails ↦ fails ])
  find_gone rows (id ∷ ids) h = find_gone (without_rowid id rows) ids (λ r i e.
      let f = has_filtered (λ x. not (has_rowid id x)) rows r i in
      let w = h r f.0 e in
      elim w.1 [
        | inl same ↦ absurd (gone_twice (has_rowid id r) f.1 (ap (λ n. has_rowid n r) (sym same) ∙ w.2))
        | inr there ↦ (w.0, there, w.2)
      ])

  placed : Ordering → Row → Row → List Row → List Row
  placed o new r rows = match_ordering o (r ∷ put_row new rows) (new ∷ rows) (new ∷ r ∷ rows)

  pub find_put_new : (new : Row) (rows : List Row) → p new ≡ true → find p rows ≡ None → find p (put_row new rows) ≡ Some new
  find_put_new new [] is none = rw is refl
  find_put_new new (r ∷ rows) is none =
      go (value_cmp (rowid r) (rowid new)) (none_found (r ∷ rows) none r (inl refl)) (find_put_new new rows is (find_none rows (λ x i. none_found (r ∷ rows) none x (inr i))))
    where
      go : (o : Ordering) → p r ≡ false → find p (put_row new rows) ≡ Some new
          → find p (match_ordering o (r ∷ put_row new rows) (new ∷ rows) (new ∷ r ∷ rows)) ≡ Some new
      go Less off later = rw off later
      go Equal off later = rw is refl
      go Greater off later = rw is refl

  pub find_put_other : (new : Row) (rows : List Row) → p new ≡ false → is_taken rows new ≡ false → find p (put_row new rows) ≡ find p rows
  find_put_other new [] off free = rw off refl
  find_put_other new (r ∷ rows) off free =
      go (value_cmp (rowid r) (rowid new)) (or_parts _ _ free).0 (find_put_other new rows off (or_parts _ _ free).1)
    where
      go : (o : Ordering) → is_eq o ≡ false → find p (put_row new rows) ≡ find p rows
          → find p (match_ordering o (r ∷ put_row new rows) (new ∷ rows) (new ∷ r ∷ rows)) ≡ find p (r ∷ rows)
      go Less apart later = ap (cond (p r) (Some r)) later
      go Equal apart later = absurd (true≢false apart)
      go Greater apart later = rw off refl

pub find_cases : (p : Row → Bool) (rows : List Row)
    → (find p rows ≡ None) ⊎ ((r : Row) × Has rows r × (p r ≡ true) × (find p rows ≡ Some r))
find_cases p [] = inl refl
find_cases p (x ∷ rows) = elim (cases_Bool (p x)) [
  | inl here ↦ inr (x, inl refl, here, ap (λ b. cond b (Some x) (find p rows)) here)
  | inr not ↦ elim (find_cases p rows) [
    | inl none ↦ inl (ap (λ b. cond b (Some x) (find p rows)) not ∙ none)
    | inr some ↦ inr (some.0, inr some.1, some.2, ap (λ b. cond b (Some x) (find p rows)) not ∙ some.3)
  ]
]
