use Rattle.std.proofs.Common.{subst, sym}
use Rattle.registry.specs.Polls.{IsNoted}
use Rattle.registry.proofs.ballots.Ballots.may_commit.Goals as goal

pub returns-in-Some : goal.returns-in-Some
returns-in-Some c = λ past are.
    let top = c.args.top.now in
    c.may_commit.ensures top past (subst (IsNoted top past) (sym c.in-Some.ensures) (are top))

pub returns-in-None : goal.returns-in-None
returns-in-None c = λ past are.
    let top = c.args.top.now in
    c.may_commit-in-None.ensures top past (c.new.ensures top past (subst (IsNoted top past) (sym c.in-None.ensures) (are top)))
