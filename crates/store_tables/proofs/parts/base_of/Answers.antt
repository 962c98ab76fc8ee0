use Rattle.std.proofs.Common.{sym, subst, []}
use Rattle.std.proofs.lemmas.List.{take_all}
use Rattle.std.specs.FinMap.{from_entries}
use Rattle.stable_store.specs.Held.{parts_in}
use Rattle.store_tables.specs.Listed.{Lists}
use Rattle.store_tables.specs.Shown.{ShowsPart}
use Rattle.store_tables.specs.Parts.{HasBase}
use Rattle.store_tables.specs.Grown.{ListsMore}
use Rattle.store_tables.proofs.Rising.{next_row}
use Rattle.store_tables.proofs.Listed.{more_none, more_row, listed}
use Rattle.store_tables.proofs.Read.{none_in_base}
use Rattle.store_tables.proofs.Told.{told_by, base_twice}
use Rattle.store_tables.proofs.parts.base_of.Goals as goal

pub loop-row-init : goal.loop-row-init
loop-row-init c =
    subst (λ es. ListsMore (ShowsPart 0) [] (HasBase (from_entries [])) (HasBase (from_entries es))) (sym c.new-base.ensures.empty) (more_none (ShowsPart 0) (HasBase (from_entries [])))

pub loop-row-preserved : goal.loop-row-preserved
loop-row-preserved c =
    subst (λ rows. ListsMore (ShowsPart 0) rows (HasBase (from_entries [])) (HasBase (parts_in c.put_part.new.base))) (sym (next_row _ _ _ c.loop-row-test.true c.row-item.is))
    (more_row (ShowsPart 0) _ _ _ _ _ c.loop-row.invariant c.in_ok-put_part.ensures.adds)

pub returns-clause-listed : goal.returns-clause-listed
returns-clause-listed c =
    subst (λ rows. Lists (ShowsPart 0) rows (HasBase (parts_in c.loop-row.base))) (take_all _ _ c.loop-row-test.false)
    (listed (ShowsPart 0) _ _ _ none_in_base c.loop-row.invariant)

pub returns-in_err-put_part-clause-told : goal.returns-in_err-put_part-clause-told
returns-in_err-put_part-clause-told c is shown differ =
    base_twice _ _ c.row-item.result _ c.loop-row-test.true c.row-item.is (parts_in c.loop-row.base) c.loop-row.invariant
    (c.in_err-put_part.ensures.told (told_by c.from_residual.result c.in_err-put_part.field-0.0 c.from_residual.ensures.1 is)) shown differ
