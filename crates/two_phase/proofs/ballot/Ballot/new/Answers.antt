use Rattle.std.proofs.Common.{ap, is_some, sym, ◌∙◌}
use Rattle.two_phase.specs.Votes.{vote_in}
use Rattle.two_phase.specs.Ballots.{is_yes}
use Rattle.two_phase.proofs.Voting.{unvoted}
use Rattle.two_phase.proofs.ballot.Ballot.new.Goals as goal

pub returns : goal.returns
returns c = λ top past none. record {
  voted = λ g. ap (λ votes. is_some (vote_in votes g)) c.new.ensures.items ∙ sym (none g);
  prepared = λ g. ap (λ votes. is_yes (vote_in votes g)) c.new.ensures.items ∙ sym (unvoted g top past (none g));
}
