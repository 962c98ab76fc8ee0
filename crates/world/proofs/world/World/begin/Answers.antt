use Rattle.std.proofs.Common.{ap, arith, drop, length, subst, sym, ◌∙◌}
use Rattle.std.specs.List.{AllZip}
use Rattle.run_model.specs.Openings.{fresh}
use Rattle.store_recovery.specs.Steps.{GoesOn, NoneHasCounted}
use Rattle.store_recovery.proofs.Stops.{none_of}
use Rattle.world.specs.Worlds.{AreOpened}
use Rattle.world.proofs.GoingOn.{begin_new}
use Rattle.world.proofs.Reading.{back_is}
use Rattle.world.proofs.world.World.begin.Goals as goal

pub new-requires-clause-opened : goal.new-requires-clause-opened
new-requires-clause-opened g c =
    let seen = g.S.Stable.seen in
    let new = c.begin_stores.new.stores in
    let back = back_is c.args.stores.len new (drop (length new) c.args.stores.items) (omega (arith, c.begin_stores.auto.stores, c.as_mut_slice.ensures.len)) in
    subst (λ stores. AreOpened seen (fresh c.args.setup) stores) (sym back) (begin_new seen c.args.setup new c.in_default.ensures.new)

pub returns-in-Err-new-clause-memory : goal.returns-in-Err-new-clause-memory
returns-in-Err-new-clause-memory g c = λ _.
    let seen = g.S.Stable.seen in
    let new = c.begin_stores.new.stores in
    let back = back_is c.args.stores.len new (drop (length new) c.args.stores.items) (omega (arith, c.begin_stores.auto.stores, c.as_mut_slice.ensures.len)) in
    subst (λ stores. NoneHasCounted seen c.args.stores.items stores) (sym (ap (λ v. v.items) c.in-Err-new.ensures.back ∙ back))
    (none_of seen c.args.stores.items new
    (subst (λ stores. AllZip (GoesOn seen) stores new) c.as_mut_slice.ensures.value c.in_default.ensures.goes))
