use Rattle.std.proofs.Common.{List, subst, sym, true, ℕ, ◌∙◌, ◌≡◌}
use Rattle.std.proofs.lemmas.Map.Lookups.{exact_unsigned}
use Rattle.std.specs.List.{each_same}
use Rattle.service.specs.Transacting.{has_number}
use Rattle.service.proofs.Numbers.{has_at, includes_inserted}
use Rattle.service.proofs.place.with_number.Goals as goal

pub returns-in-Ok-clause-added : goal.returns-in-Ok-clause-added
returns-in-Ok-clause-added c =
    let same = each_same c.args.numbers.now.items c.in_ok-more.more.items c.in_ok-more.ensures.cases.0 in
    subst (λ (xs : List ℕ). has_number xs c.args.number ≡ true) (c.deref.ensures.value ∙ sym same)
    (has_at c.deref.result.now c.in-Ok.field-0 c.args.number c.in-Ok.ensures.bound (exact_unsigned _ _ (c.in-Ok.ensures.ok 0)))

pub returns-in_ok-insert-in-Err-clause-kept : goal.returns-in_ok-insert-in-Err-clause-kept
returns-in_ok-insert-in-Err-clause-kept c n h =
    let same = each_same c.args.numbers.now.items c.in_ok-more.more.items c.in_ok-more.ensures.cases.0 in
    subst (λ (xs : List ℕ). has_number xs n ≡ true) (sym c.in_ok-insert-in-Err.ensures.items)
    (includes_inserted c.in_ok-more.more.items c.in-Err.place c.args.number n
    (subst (λ (xs : List ℕ). has_number xs n ≡ true) (sym same) h))
