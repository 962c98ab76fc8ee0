use Rattle.std.proofs.Common.{◌≡◌, None, rules, sym, subst}
use Rattle.std.proofs.lemmas.List.{take_all}
use Rattle.sqlite_trees.specs.View.{IsShaped}
use Rattle.sqlite_trees.specs.Tree.{IsTable}
use Rattle.sqlite_trees.specs.declared.store.Shape.TheVariants.{Table}
use Rattle.store_tables.proofs.Rising.{next_row, AreUpTo, IsSeen, goes_on, seen_next, above_last, all_rise}
use Rattle.store_tables.proofs.rowids.are_rising.Goals as goal

pub loop-row-preserved : goal.loop-row-preserved
loop-row-preserved c =
    let next = c.id_above-last.result in
    let rise = goes_on _ c.row-item.result c.loop-row.last next c.if-is_none.ensures c.id_above-last.ensures.rises (c.loop-row.invariant.0, c.loop-row.invariant.1) in
    subst (λ rows. IsTable rows × AreUpTo next rows × IsSeen next rows) (sym (next_row _ _ _ c.loop-row-test.true c.row-item.is))
    (rise.0, rise.1, seen_next _ c.row-item.result c.loop-row.last next c.if-is_none.ensures c.id_above-last.ensures.rises)

pub returns-clause-rises : goal.returns-clause-rises
returns-clause-rises c _ = subst (IsShaped Table) (take_all _ _ c.loop-row-test.false) (all_rise _ _ c.loop-row.invariant.0 c.loop-row.invariant.1)

pub returns-then-is_none-clause-found : goal.returns-then-is_none-clause-found
returns-then-is_none-clause-found c shaped =
    let none : c.id_above-last.result ≡ None = search rules in
    absurd (above_last _ _ c.row-item.result _ c.loop-row.last shaped c.loop-row-test.true c.row-item.is c.loop-row.invariant.2 (c.id_above-last.ensures.found none))
