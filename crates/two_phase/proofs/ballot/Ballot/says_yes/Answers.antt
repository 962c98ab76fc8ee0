use Rattle.std.proofs.Common.{ap, sym, ◌∙◌}
use Rattle.two_phase.specs.Ballots.{is_yes}
use Rattle.two_phase.proofs.Places.{vote_absent, vote_found}
use Rattle.two_phase.proofs.ballot.Ballot.says_yes.Goals as goal

pub returns-in-Ok : goal.returns-in-Ok
returns-in-Ok c =
    let votes = c.args.self.now.votes.items in
    let here = rw c.deref.ensures.value at c.in-Ok.ensures.found in
    sym (ap is_yes (vote_found votes c.args.guardian c.in-Ok.at c.args.self.now.rising here c.index.result.now) ∙ ap (λ v. v.1) (sym c.index.ensures))

pub returns-in-Err : goal.returns-in-Err
returns-in-Err c =
    let gap = rw c.deref.ensures.value at c.in-Err.ensures.absent in
    sym (ap is_yes (vote_absent c.args.self.now.votes.items c.args.guardian _ gap))
