-- What rows that were written and taken out mean for the content.
use Rattle.std.proofs.Common.{◌≡◌, ℕ, ℤ, pos, List, Bool, true, false, cond, Some, None}
use Rattle.std.proofs.Common.{refl, sym, ap, subst, ◌∙◌, true≢false, nat_cmp}
use Rattle.std.specs.Ordering.{is_eq, eq_by_cmp}
use Rattle.std.specs.Cmp.{nat_cmp_total}
use Rattle.std.proofs.lemmas.Bool.{false_from_ne_true}
use Rattle.std.proofs.lemmas.Cmp.{tied_itself}
use Rattle.std.proofs.lemmas.Map.Lookups.{exact_unsigned}
use Rattle.sqlite.specs.declared.types.Value.TheVariants.{Int}
use Rattle.sqlite.specs.Order.{Row, value_cmp}
use Rattle.sqlite_trees.specs.Tree.{rowid, has_rowid, put_row}
use Rattle.sqlite_rules.specs.Edit.{without_all, is_taken}
use Rattle.sqlite_rules.specs.Lists.{Has}
use Rattle.sqlite_rules.proofs.ListLemmas.{some_from}
use Rattle.store_tables.specs.Rows.{row_at}
use Rattle.store_tables.proofs.Keys.{one_key, key_is, equal_is}
use Rattle.store_tables.proofs.Finds.{find_none, find_kept, find_gone, find_put_new, find_put_other}

pub tied : (q n : ℕ) → eq_by_cmp nat_cmp q n ≡ true → q ≡ n
tied q n h = exact_unsigned q n (equal_is _ h)

-- rows with other keys stay
others_stay : (rows : List Row) (gone : List ℤ) (n q : ℕ) → eq_by_cmp nat_cmp q n ≡ false → ((id : ℤ) → Has gone id → id ≡ pos n)
    → row_at (without_all rows gone) q ≡ row_at rows q
others_stay rows gone n q apart all = find_kept (has_rowid (pos q)) rows gone (λ r h at id i.
    false_from_ne_true (has_rowid id r) (λ also.
    let same = one_key (rowid r) q n at (ap (λ k. has_rowid k r) (sym (all id i)) ∙ also) in
    true≢false (sym (ap (λ k. eq_by_cmp nat_cmp k n) same ∙ ap is_eq (tied_itself nat_cmp_total n)) ∙ apart)))

pub row_put : (rows : List Row) (gone : List ℤ) (row : Row) (n : ℕ) → rowid row ≡ Int (pos n) → ((id : ℤ) → Has gone id → id ≡ pos n)
    → is_taken (without_all rows gone) row ≡ false
    → (q : ℕ) → row_at (put_row row (without_all rows gone)) q ≡ cond (eq_by_cmp nat_cmp q n) (Some row) (row_at rows q)
row_put rows gone row n is all free q = go (eq_by_cmp nat_cmp q n) refl
  where
    at : has_rowid (pos q) row ≡ eq_by_cmp nat_cmp q n
    at = key_is (rowid row) n q is

    absent : q ≡ n → (r : Row) → Has (without_all rows gone) r → has_rowid (pos q) r ≡ false
    absent same r h = false_from_ne_true (has_rowid (pos q) r) (λ there.
        true≢false (sym (some_from (λ y. is_eq (value_cmp (rowid y) (rowid row))) (without_all rows gone) r h (ap (λ v. is_eq (value_cmp (rowid r) v)) (is ∙ ap (λ k. Int (pos k)) (sym same)) ∙ there)) ∙ free))

    go : (b : Bool) → eq_by_cmp nat_cmp q n ≡ b → row_at (put_row row (without_all rows gone)) q ≡ cond b (Some row) (row_at rows q)
    go true e =
        find_put_new (has_rowid (pos q)) row (without_all rows gone) (at ∙ e) (find_none (has_rowid (pos q)) (without_all rows gone) (absent (tied q n e)))
    go false e = find_put_other (has_rowid (pos q)) row (without_all rows gone) (at ∙ e) free ∙ others_stay rows gone n q e all

pub row_taken : (rows : List Row) (gone : List ℤ) (n : ℕ) → ((id : ℤ) → Has gone id → id ≡ pos n)
    → ((r : Row) → Has rows r → has_rowid (pos n) r ≡ true → Has gone (pos n))
    → (q : ℕ) → row_at (without_all rows gone) q ≡ cond (eq_by_cmp nat_cmp q n) None (row_at rows q)
row_taken rows gone n all each q = go (eq_by_cmp nat_cmp q n) refl
  where
    go : (b : Bool) → eq_by_cmp nat_cmp q n ≡ b → row_at (without_all rows gone) q ≡ cond b None (row_at rows q)
    go true e =
        find_gone (has_rowid (pos q)) rows gone (λ r h at. (pos q, subst (λ k. Has gone (pos k)) (sym (tied q n e)) (each r h (ap (λ k. has_rowid (pos k) r) (sym (tied q n e)) ∙ at)), at))
    go false e = others_stay rows gone n q e all
