use Rattle.std.proofs.Common.{ℕ, Result, Ok, Err, Option, Some, None, IfOk, IfSome, ◌≡◌, subst, sym}
use Rattle.sqlite.specs.Held.{state}
use Rattle.stable_store.specs.declared.kept.Kept.{Kept}
use Rattle.stable_store.specs.declared.fault.StoreFault.{StoreFault}
use Rattle.store_tables.specs.Tables.{stable_schema}
use Rattle.sql_store.specs.declared.opening.Opened.{Opened}
use Rattle.sql_store.specs.Reading.{IsNumberOf}
use Rattle.sql_store.specs.Failing.{count_query}
use Rattle.sql_store.proofs.Sequences.{and_checks}
use Rattle.sql_store.proofs.Numbers.{numbers_text, next_text, numbers_asked, count_asked, next_asked}
use Rattle.sql_store.proofs.opening.write_numbers.Goals as goal

-- what is so of the numbers that were asked for is so of those that are found
module _ (P Q : ℕ → Type 0) (count next_top : ℕ) (counted : P count) (next : Q next_top) where
  found : (kept : Option Kept) → IfSome kept (λ k. (k.count ≡ count) × (k.next_top ≡ next_top)) → IfSome kept (λ k. P k.count × Q k.next_top)
  found None h = tt
  found (Some k) h = (subst P (sym h.0) counted, subst Q (sym h.1) next)

  opened : (r : Result Opened StoreFault) → IfOk r (λ it. IfSome it.kept (λ k. (k.count ≡ count) × (k.next_top ≡ next_top)))
      → IfOk r (λ it. IfSome it.kept (λ k. P k.count × Q k.next_top))
  opened (Ok it) h = found it.kept h
  opened (Err e) h = tt

pub returns-clause-numbers : goal.returns-clause-numbers
returns-clause-numbers g c clean quiet =
    let a = state g.A.Store c.args.conn.now in
    let b = state g.A.Store c.number_named.new.conn in
    let d = state g.A.Store c.number_named-2.new.conn in
    let e = state g.A.Store c.number_named-3.new.conn in
    let there = IsNumberOf stable_schema in
    let count = c.in_ok-numbers.field-0 in
    let next_top = c.in_ok-numbers-2.field-0 in
    let first = c.in_ok-number_named.ensures.looks stable_schema numbers_asked quiet in
    let seen = ((and_checks a d e (λ x n. there numbers_text x c.in_ok-number_named.field-0 × there count_query x n) (there next_text) count (Ok next_top) quiet
    (and_checks a b d (there numbers_text) (there count_query) c.in_ok-number_named.field-0 (Ok count) quiet first (c.in_ok-numbers.ensures.looks stable_schema count_asked))
    (c.in_ok-numbers-2.ensures.looks stable_schema next_asked)).ok (c.lay_out.ensures.clean clean)).1 in
    opened (λ n. there count_query a.now n) (λ n. there next_text a.now n) count next_top seen.0.1 seen.1 c.lay_out.result c.lay_out.ensures.numbers
