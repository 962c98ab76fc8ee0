use Rattle.std.proofs.Common.{Some, subst, sym}
use Rattle.sessions.specs.Sessions.{GoesOnFromBoth}
use Rattle.sessions.proofs.Beginning.{first_seen, second_seen}
use Rattle.sessions.proofs.arms.both.Goals as goal

pub returns-in-Some-None : goal.returns-in-Some-None
returns-in-Some-None g c =
    let one = Some c.in-Some-None.one in
    subst (λ a. GoesOnFromBoth g.K.OfRun.opening a c.args.other one) (sym c.in-Some-None.is-0)
    (subst (λ b. GoesOnFromBoth g.K.OfRun.opening one b one) (sym c.in-Some-None.is-1) (first_seen g.K.OfRun.opening one))

pub returns-in-None-default : goal.returns-in-None-default
returns-in-None-default g c =
    subst (λ a. GoesOnFromBoth g.K.OfRun.opening a c.args.other c.args.other) (sym c.in-None-default.is-0)
    (second_seen g.K.OfRun.opening c.args.other)
