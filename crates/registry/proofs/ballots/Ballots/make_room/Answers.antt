use Rattle.std.proofs.Common.{ap, nat_eq, ◌∙◌}
use Rattle.std.specs.Map.{lookup}
use Rattle.registry.proofs.Votes.{found_set, kept}
use Rattle.registry.proofs.ballots.Ballots.make_room.Goals as goal

pub returns-clause-same : goal.returns-clause-same
returns-clause-same c =
    let n = c.args.number in
    let entries = c.args.self.now.ballots.entries in
    let before = c.in-Some.ballot.now in
    let after = c.plan_vote.new.self in
    kept entries (c.get_mut.follows.lender after).entries n before after c.in-Some.ensures.value
    (λ q. ap (lookup (nat_eq q)) (c.get_mut.follows.holds after).0 ∙ found_set n q entries before after c.in-Some.ensures.value)
    c.plan_vote.ensures.same
