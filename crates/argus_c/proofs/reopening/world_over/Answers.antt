use Rattle.std.proofs.Common.{map, refl, subst}
use Rattle.stable_store.specs.Held.{held}
use Rattle.run_model.specs.Openings.{opening_in}
use Rattle.world.specs.GoingOn.{GoesOnFromStores}
use Rattle.argus_c.specs.Reopening.{AreOf}
use Rattle.argus_c.proofs.Reopened.{stores_count}
use Rattle.argus_c.proofs.reopening.world_over.Goals as goal

pub reopen-requires : goal.reopen-requires
reopen-requires c =
    stores_count c.args.setup (map held c.args.kept.items) c.in-Ok.stores.items c.in-Ok.ensures
    (subst (λ l. AreOf c.args.setup (map held l)) c.as_slice.ensures.value (c.if-not-are_of.ensures.0 refl))

pub returns-in-Ok-reopen-clause-over : goal.returns-in-Ok-reopen-clause-over
returns-in-Ok-reopen-clause-over c =
    let left = map held c.args.kept.items in
    record {
      past = c.in-Ok-reopen.ensures.past;
      stores = c.in-Ok.stores.items;
      held = c.in-Ok.ensures;
      opened = c.in-Ok-reopen.ensures.opened;
      opening = c.in-Ok-reopen.ensures.opening;
      goes_on = subst (λ l. GoesOnFromStores c.args.setup l (opening_in c.in-Ok-reopen.world.run.lists)) c.in-Ok.ensures c.in-Ok-reopen.ensures.goes_on;
    }
