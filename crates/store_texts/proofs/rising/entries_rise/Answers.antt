use Rattle.std.proofs.Common.{rules}
use Rattle.std.specs.Prelude.{nat_lt}
use Rattle.std.proofs.lemmas.List.Sorted.{answers_always}
use Rattle.store_texts.proofs.Maps.{rising_from_adjacent}
use Rattle.store_texts.proofs.rising.entries_rise.Goals as goal

pub returns : goal.returns
returns g c =
    rising_from_adjacent c.args.entries.now (λ e. e.0) c.is_sorted_by.result
    (c.is_sorted_by.ensures.cases (λ a b. nat_lt a.0 b.0) (answers_always _ _ _ (λ f a r g h. search rules)))
