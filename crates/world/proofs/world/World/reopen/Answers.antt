use Rattle.std.proofs.Common.{subst, subst₂, sym}
use Rattle.run_model.specs.Openings.{opening_in}
use Rattle.store_recovery.specs.Opened.{AreRefused}
use Rattle.store_recovery.specs.Settling.{contents}
use Rattle.store_recovery.proofs.Ready.{not_said}
use Rattle.world.specs.GoingOn.{GoesOnFromStores, HoldAsMuch}
use Rattle.world.proofs.GoingOn.{begin_so, count_is, goes_on, hold_as_much}
use Rattle.world.proofs.world.World.reopen.Goals as goal

pub returns-in-Err-clause-again : goal.returns-in-Err-clause-again
returns-in-Err-clause-again g c =
    hold_as_much g.S.Stable.seen c.args.stores.items c.in-Err.stores.items c.in-Err.ensures.refused.bases c.in-Err.ensures.refused.kept

pub over-requires-clause-count : goal.over-requires-clause-count
over-requires-clause-count g c =
    count_is g.S.Stable.seen c.args.setup c.args.stores.items c.in-Ok.opened.1.items (opening_in c.in-Ok.opened.0) c.requires c.in-Ok.ensures.opened
    c.in-Ok.ensures.opening

pub over-requires-clause-opened : goal.over-requires-clause-opened
over-requires-clause-opened g c =
    begin_so g.S.Stable.seen c.args.setup c.args.stores.items c.in-Ok.opened.1.items (opening_in c.in-Ok.opened.0) c.requires c.in-Ok.ensures.opened
    c.in-Ok.ensures.opening

pub returns-in-Ok-over-clause-goes_on : goal.returns-in-Ok-over-clause-goes_on
returns-in-Ok-over-clause-goes_on g c =
    let seen = g.S.Stable.seen in
    subst (λ run. GoesOnFromStores c.args.setup (contents seen c.args.stores.items) (opening_in run.lists)) (sym c.in-Ok-over.ensures.over)
    (goes_on seen c.args.setup c.args.stores.items c.in-Ok.opened.1.items (opening_in c.in-Ok.opened.0) c.requires c.in-Ok.ensures.opened
    c.in-Ok.ensures.opening)

pub returns-in-Err-over-clause-refused : goal.returns-in-Err-over-clause-refused
returns-in-Err-over-clause-refused g c =
    let seen = g.S.Stable.seen in
    subst₂ (λ why stores. AreRefused seen c.args.setup c.args.stores.items stores.items why) (sym c.from.ensures) (sym c.in-Err-over.ensures.back)
    (not_said seen c.args.setup c.args.stores.items c.in-Ok.opened.1.items c.in-Ok.ensures.opened)

pub returns-in-Err-over-clause-again : goal.returns-in-Err-over-clause-again
returns-in-Err-over-clause-again g c =
    let seen = g.S.Stable.seen in
    subst (λ stores. HoldAsMuch (contents seen c.args.stores.items) (contents seen stores.items)) (sym c.in-Err-over.ensures.back)
    (hold_as_much seen c.args.stores.items c.in-Ok.opened.1.items c.in-Ok.ensures.opened.bases c.in-Ok.ensures.opened.kept)
