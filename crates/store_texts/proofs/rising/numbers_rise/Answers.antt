use Rattle.std.proofs.Common.{rules, subst, sym}
use Rattle.std.specs.Prelude.{nat_lt}
use Rattle.std.specs.List.Sorted.{IsStrictlySortedBy}
use Rattle.std.specs.Ordering.{nat_cmp}
use Rattle.std.proofs.lemmas.List.{map-id}
use Rattle.std.proofs.lemmas.List.Sorted.{answers_always}
use Rattle.store_texts.proofs.Maps.{rising_from_adjacent}
use Rattle.store_texts.proofs.rising.numbers_rise.Goals as goal

pub returns : goal.returns
returns c =
    let same = map-id c.args.numbers.now in
    let seen =
    rising_from_adjacent c.args.numbers.now (λ n. n) c.is_sorted_by.result
    (c.is_sorted_by.ensures.cases (λ a b. nat_lt a b) (answers_always _ _ _ (λ f a r g h. search rules))) in
    (λ yes. subst (IsStrictlySortedBy nat_cmp) same (seen.0 yes), λ rising. seen.1 (subst (IsStrictlySortedBy nat_cmp) (sym same) rising))
