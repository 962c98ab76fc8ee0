use Rattle.store_recovery.specs.Opened.{AreRefused}
use Rattle.store_recovery.specs.declared.refused.Refused.TheVariants.{Memory}
use Rattle.store_recovery.proofs.InTurn.{error_by}
use Rattle.store_recovery.proofs.Ready.{not_said}
use Rattle.store_recovery.proofs.Stops.{error_is}
use Rattle.store_recovery.proofs.opening.open_all.Goals as goal

pub returns-in_err-held_by_all-clause-refused : goal.returns-in_err-held_by_all-clause-refused
returns-in_err-held_by_all-clause-refused g c =
    let answer = c.from_residual-in_err-held_by_all in
    error_by answer.result Memory (λ why. AreRefused g.S.Stable.seen c.args.setup.now c.args.stores.now c.make_ready.new.stores why)
    (error_is answer.result Memory answer.ensures.1)
    (not_said g.S.Stable.seen c.args.setup.now c.args.stores.now c.make_ready.new.stores c.in_ok-make_ready.ensures.opened)
