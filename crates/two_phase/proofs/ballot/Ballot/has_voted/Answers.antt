use Rattle.std.proofs.Common.{◌∙◌}
use Rattle.two_phase.proofs.Places.{known_from_search}
use Rattle.two_phase.proofs.ballot.Ballot.has_voted.Goals as goal

pub returns : goal.returns
returns c = λ top past is.
    let found = rw c.deref.ensures.value at c.place.ensures.found in
    let absent = rw c.deref.ensures.value at c.place.ensures.absent in
    c.is_ok.ensures.value ∙ known_from_search c.args.self.now.votes.items c.args.guardian c.place.result c.args.self.now.rising found absent
    ∙ is.voted c.args.guardian
