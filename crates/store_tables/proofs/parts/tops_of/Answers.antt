use Rattle.std.proofs.Common.{sym, subst, []}
use Rattle.std.proofs.lemmas.List.{take_all}
use Rattle.std.specs.FinSet as set
use Rattle.stable_store.proofs.Maps.{grown}
use Rattle.store_tables.specs.Listed.{Lists}
use Rattle.store_tables.specs.Shown.{ShowsTop}
use Rattle.store_tables.specs.Parts.{IsDecided}
use Rattle.store_tables.specs.Grown.{ListsMore}
use Rattle.store_tables.proofs.Rising.{next_row}
use Rattle.store_tables.proofs.Listed.{more_none, more_row, listed}
use Rattle.store_tables.proofs.Read.{top_adds, none_decided}
use Rattle.store_tables.proofs.Counts.{has_item}
use Rattle.store_tables.proofs.Told.{told_by}
use Rattle.store_tables.proofs.parts.tops_of.Goals as goal

pub loop-row-init : goal.loop-row-init
loop-row-init c =
    subst (λ ks. ListsMore ShowsTop [] (IsDecided (set.from_list [])) (IsDecided (set.from_list ks))) (sym c.new-tops.ensures.empty) (more_none ShowsTop (IsDecided (set.from_list [])))

pub loop-row-preserved : goal.loop-row-preserved
loop-row-preserved c =
    subst (λ rows. ListsMore ShowsTop rows (IsDecided (set.from_list [])) (IsDecided (set.from_list c.insert.new.self.keys))) (sym (next_row _ _ _ c.loop-row-test.true c.row-item.is))
    (more_row ShowsTop _ _ _ _ _ c.loop-row.invariant (record {
      thing = c.in_ok-number_in.field-0;
      shows = c.in_ok-number_in.ensures.number;
      adds = top_adds _ _ c.in_ok-number_in.field-0 (grown _ _ _ c.in_ok-insert.ensures.updates.0);
    }))

pub returns-clause-listed : goal.returns-clause-listed
returns-clause-listed c =
    subst (λ rows. Lists ShowsTop rows (IsDecided (set.from_list c.loop-row.tops.keys))) (take_all _ _ c.loop-row-test.false)
    (listed ShowsTop _ _ _ none_decided c.loop-row.invariant)

pub returns-in_err-number_in-clause-told : goal.returns-in_err-number_in-clause-told
returns-in_err-number_in-clause-told c is shown =
    let e = shown c.row-item.result (has_item _ _ c.row-item.result _ c.loop-row-test.true c.row-item.is) in
    c.in_err-number_in.ensures.told (told_by c.from_residual.result c.in_err-number_in.field-0.0 c.from_residual.ensures.1 is) e.0 e.1
