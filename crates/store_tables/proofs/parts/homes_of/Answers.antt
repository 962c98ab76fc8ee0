use Rattle.std.proofs.Common.{sym, subst, []}
use Rattle.std.proofs.lemmas.List.{take_all}
use Rattle.store_tables.specs.Listed.{Lists}
use Rattle.store_tables.specs.Shown.{ShowsHome}
use Rattle.store_tables.specs.Parts.{HasHome, HaveNoParts}
use Rattle.store_tables.specs.Grown.{ListsMore}
use Rattle.store_tables.proofs.Rising.{next_row}
use Rattle.store_tables.proofs.Listed.{more_none, more_row, listed}
use Rattle.store_tables.proofs.Read.{records, no_homes, no_parts}
use Rattle.store_tables.proofs.Told.{told_by, home_twice}
use Rattle.store_tables.proofs.parts.homes_of.Goals as goal

pub loop-row-init : goal.loop-row-init
loop-row-init c =
    subst (λ es. ListsMore (ShowsHome 0) [] (HasHome (records [])) (HasHome (records es)) × HaveNoParts (records es)) (sym c.new-records.ensures.empty) (more_none (ShowsHome 0) (HasHome (records [])), no_parts)

pub loop-row-preserved : goal.loop-row-preserved
loop-row-preserved c = (
  subst (λ rows. ListsMore (ShowsHome 0) rows (HasHome (records [])) (HasHome (records c.put_home.new.records.entries))) (sym (next_row _ _ _ c.loop-row-test.true c.row-item.is))
      (more_row (ShowsHome 0) _ _ _ _ _ c.loop-row.invariant.0 c.in_ok-put_home.ensures.adds),
  c.in_ok-put_home.ensures.empty c.loop-row.invariant.1,
)

pub returns-clause-homes : goal.returns-clause-homes
returns-clause-homes c =
    subst (λ rows. Lists (ShowsHome 0) rows (HasHome (records c.loop-row.records.entries))) (take_all _ _ c.loop-row-test.false)
    (listed (ShowsHome 0) _ _ _ no_homes c.loop-row.invariant.0)

pub returns-clause-empty : goal.returns-clause-empty
returns-clause-empty c = c.loop-row.invariant.1

pub returns-in_err-put_home-clause-told : goal.returns-in_err-put_home-clause-told
returns-in_err-put_home-clause-told c is shown differ =
    home_twice _ _ c.row-item.result _ c.loop-row-test.true c.row-item.is (records c.loop-row.records.entries) c.loop-row.invariant.0
    (c.in_err-put_home.ensures.told (told_by c.from_residual.result c.in_err-put_home.field-0.0 c.from_residual.ensures.1 is)) shown differ
