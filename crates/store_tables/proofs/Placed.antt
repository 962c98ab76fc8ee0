-- Rows with rowids of their own, as rows are put in and taken out.
use Rattle.std.proofs.Common.{◌≡◌, ◌≢◌, inl, inr, ℕ, ℤ, ◌+◌, ◌≤◌, List, [], ◌∷◌, Bool, false, not, cond, sym, ap, ◌∙◌, true≢false, Ordering, Less}
use Rattle.std.proofs.Common.{Equal, Greater, arith}
use Rattle.std.specs.List.{count_by}
use Rattle.std.specs.Ordering.{is_eq, match_ordering}
use Rattle.std.proofs.lemmas.Bool.{cases_Bool, or_parts, false_from_ne_true}
use Rattle.std.proofs.lemmas.Cmp.{tied_back, tied_itself}
use Rattle.sqlite.specs.declared.types.Value.TheVariants.{Int}
use Rattle.sqlite.specs.Order.{Row, value_cmp}
use Rattle.sqlite_value.proofs.OrderLemmas.{value_cmp_total}
use Rattle.sqlite_trees.specs.Tree.{rowid, has_rowid, put_row, without_rowid}
use Rattle.sqlite_trees.specs.View.{is_int}
use Rattle.sqlite.specs.Edit.{id_in}
use Rattle.sqlite_rules.specs.Edit.{without_all, is_taken}
use Rattle.sqlite_rules.specs.Lists.{Has}
use Rattle.sqlite_rules.proofs.ListLemmas.{has_filtered, some_from}
use Rattle.sqlite_rules.proofs.TableLemmas.{int_is, put_has}
use Rattle.store_tables.specs.Rows.{HasRowids}
use Rattle.store_tables.proofs.Counts.{counts, counts_none, counts_once, counts_left}
use Rattle.store_tables.proofs.Keys.{equal_is}

abbrev pub Placed : List Row → Type 0
Placed = HasRowids

left_was : (rows : List Row) (gone : List ℤ) (r : Row) → Has (without_all rows gone) r → Has rows r
left_was rows [] r h = h
left_was rows (id ∷ gone) r h = (has_filtered _ rows r (left_was (without_rowid id rows) gone r h)).0

-- two rows with one rowid are one
pub same_row : (rows : List Row) → Placed rows → (r s : Row) → Has rows r → Has rows s → value_cmp (rowid r) (rowid s) ≡ Equal → r ≡ s
same_row rows p r s h k tie = counts_once (λ x. is_eq (value_cmp (rowid x) (rowid s))) rows r s (p.once (rowid s)) h k (ap is_eq tie)
    (ap is_eq (tied_itself value_cmp_total (rowid s)))

left_fewer : (q : Row → Bool) (rows : List Row) (gone : List ℤ) → count_by q (without_all rows gone) ≤ count_by q rows
left_fewer q rows [] = omega arith
left_fewer q rows (id ∷ gone) =
    omega (arith, left_fewer q (without_rowid id rows) gone, counts_left q (λ r. not (has_rowid id r)) rows)

pub placed_left : (rows : List Row) (gone : List ℤ) → Placed rows → Placed (without_all rows gone)
placed_left rows gone p = record {
  ints = λ r h. p.ints r (left_was rows gone r h);
  once = λ v. omega (arith, p.once v, left_fewer (λ r. is_eq (value_cmp (rowid r) v)) rows gone);
}

-- a row that is put in has a rowid that is free
put_apart : (row : Row) (rows : List Row) → is_taken rows row ≡ false → (r : Row) → Has rows r → value_cmp (rowid r) (rowid row) ≢ Equal
put_apart row rows free r h tie =
    true≢false (sym (some_from (λ x. is_eq (value_cmp (rowid x) (rowid row))) rows r h (ap is_eq tie)) ∙ free)

-- a row that is put in is one more
put_counts : (q : Row → Bool) (row : Row) (rows : List Row) → is_taken rows row ≡ false → count_by q (put_row row rows) ≡ cond (q row) 1 0 + count_by q rows
put_counts q row [] free = counts q row []
put_counts q row (r ∷ rows) free = go (value_cmp (rowid r) (rowid row)) (or_parts _ _ free).0 (put_counts q row rows (or_parts _ _ free).1)
  where
    go : (o : Ordering) → is_eq o ≡ false → count_by q (put_row row rows) ≡ cond (q row) 1 0 + count_by q rows
        → count_by q (match_ordering o (r ∷ put_row row rows) (row ∷ rows) (row ∷ r ∷ rows)) ≡ cond (q row) 1 0 + count_by q (r ∷ rows)
    go Less free later = omega (arith, counts q r (put_row row rows), counts q r rows, later)
    go Equal free later = absurd (true≢false free)
    go Greater free later = counts q row (r ∷ rows)

pub placed_put : (row : Row) (rows : List Row) (gone : List ℤ) (n : ℤ) → rowid row ≡ Int n → is_taken (without_all rows gone) row ≡ false
    → Placed rows → Placed (put_row row (without_all rows gone))
placed_put row rows gone n is free p =
    let left = without_all rows gone in
    let q = placed_left rows gone p in
    record {
      ints = λ r h. elim (put_has row left r h) [
        | inl same ↦ ap (λ x. is_int (rowid x)) same ∙ ap is_int is
        | inr was ↦ q.ints r was
      ];
      once = λ v. elim (cases_Bool (is_eq (value_cmp (rowid row) v))) [
        | inl here ↦
            let none = counts_none (λ r. is_eq (value_cmp (rowid r) v)) left (λ r h. false_from_ne_true _ (λ there.
            put_apart row left free r h (value_cmp_total.congr (rowid r) v (rowid row) (equal_is _ there) ∙ tied_back value_cmp_total (rowid row) v (equal_is _ here)))) in
            omega (arith, put_counts (λ r. is_eq (value_cmp (rowid r) v)) row left free, ap {B = ℕ} (λ b. cond b 1 0) here, none)
        | inr past ↦ omega (arith, put_counts (λ r. is_eq (value_cmp (rowid r) v)) row left free, ap {B = ℕ} (λ b. cond b 1 0) past, q.once v)
      ];
    }

pub ints : (rows : List Row) (r : Row) → Placed rows → Has rows r → rowid r ≡ Int (id_in (rowid r))
ints rows r p h = int_is (rowid r) (p.ints r h)
