use Rattle.std.proofs.Common.{subst, refl, sym}
use Rattle.std.specs.List.{AllByRecursion}
use Rattle.std.proofs.lemmas.List.{take_all}
use Rattle.sqlite_trees.specs.View.{IsShaped}
use Rattle.sqlite_trees.specs.declared.store.Shape.TheVariants.{Table}
use Rattle.store_tables.specs.Answered.{rows_of}
use Rattle.store_tables.proofs.Rising.{rises_too, shape_at}
use Rattle.store_tables.proofs.rowids.all_rise.Goals as goal

pub loop-rows-preserved : goal.loop-rows-preserved
loop-rows-preserved c = rises_too _ _ _ c.loop-rows-test.true c.rows-item.is (subst (IsShaped Table) c.deref.ensures.value (c.if-not-are_rising.ensures.rises refl)) c.loop-rows.invariant

pub returns-clause-rises : goal.returns-clause-rises
returns-clause-rises c _ = subst (λ l. AllByRecursion (IsShaped Table) (rows_of l)) (take_all _ _ c.loop-rows-test.false) c.loop-rows.invariant

pub returns-then-not-are_rising-clause-found : goal.returns-then-not-are_rising-clause-found
returns-then-not-are_rising-clause-found c all =
    c.if-not-are_rising.ensures.found (subst (IsShaped Table) (sym c.deref.ensures.value) (shape_at _ _ _ _ c.loop-rows-test.true c.rows-item.is all))
