use Rattle.std.proofs.Common.{ap, nat_eq, ◌∙◌}
use Rattle.std.specs.Map.{lookup}
use Rattle.registry.proofs.Votes.{found_set, voted}
use Rattle.registry.proofs.ballots.Ballots.note.Goals as goal

pub returns-in-Some : goal.returns-in-Some
returns-in-Some c =
    let n = c.args.plan.top in
    let entries = c.args.self.now.ballots.entries in
    let before = c.in-Some.ballot.now in
    let after = c.note_vote.new.self in
    voted entries (c.get_mut.follows.lender after).entries n c.args.plan.vote.guardian c.args.plan.vote.yes before after c.in-Some.ensures.value
    (λ q. ap (lookup (nat_eq q)) (c.get_mut.follows.holds after).0 ∙ found_set n q entries before after c.in-Some.ensures.value)
    c.note_vote.ensures
