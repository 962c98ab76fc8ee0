use Rattle.std.proofs.Common.{ap, ◌∙◌, ◌||◌}
use Rattle.two_phase.specs.Votes.{vote_in}
use Rattle.two_phase.specs.Ballots.{is_yes}
use Rattle.two_phase.proofs.Places.{noted_first, noted_no, noted_yes, rising_set, rising_tried, vote_put}
use Rattle.two_phase.proofs.Voting.{noted}
use Rattle.two_phase.proofs.ballot.Ballot.note_vote.Goals as goal

pub unwrap-requires : goal.unwrap-requires
unwrap-requires c = c.insert-noted.ensures.succeeds c.requires

pub invariant_of-self : goal.invariant_of-self
invariant_of-self c =
    let here = rw c.deref.ensures.value at c.in-Ok.ensures.found in
    record {
      rising = rising_set c.args.self.now.votes.items c.args.plan.guardian c.in-Ok.at _ c.index_mut-vote.result.now c.args.self.now.rising here
          c.index_mut-vote.ensures.value;
    }

pub invariant_of-self-in-Err : goal.invariant_of-self-in-Err
invariant_of-self-in-Err c =
    let gap = rw c.deref.ensures.value at c.in-Err.ensures.absent in
    record {
      rising = rising_tried c.args.self.now.votes.items _ c.args.plan.guardian c.in-Err.at c.args.plan.yes _ c.args.self.now.rising gap c.insert-noted.ensures.items;
    }

pub returns-then-plan : goal.returns-then-plan
returns-then-plan c = λ top past is.
    let votes = c.args.self.now.votes.items in
    let g = c.args.plan.guardian in
    let v = c.args.plan.yes in
    let here = rw c.deref.ensures.value at c.in-Ok.ensures.found in
    noted g top v past c.args.self.now _
    (λ q.
    ap (λ vs. vote_in vs q)
    (noted_yes votes g c.in-Ok.at v c.index_mut-vote.result.now c.args.self.now.rising here c.index_mut-vote.ensures.value c.if-plan.true)
    ∙ vote_put votes g q (v || is_yes (vote_in votes g))) is

pub returns-else-plan : goal.returns-else-plan
returns-else-plan c = λ top past is.
    let here = rw c.deref.ensures.value at c.in-Ok.ensures.found in
    noted c.args.plan.guardian top c.args.plan.yes past c.args.self.now c.args.self.now
    (λ q. noted_no c.args.self.now.votes.items c.args.plan.guardian c.in-Ok.at q c.args.plan.yes c.args.self.now.rising here c.if-plan.false) is

pub returns-in-Err : goal.returns-in-Err
returns-in-Err c = λ top past is.
    let votes = c.args.self.now.votes.items in
    let g = c.args.plan.guardian in
    let v = c.args.plan.yes in
    let gap = rw c.deref.ensures.value at c.in-Err.ensures.absent in
    let items = rw c.unwrap.ensures at c.insert-noted.ensures.items in
    noted g top v past c.args.self.now _
    (λ q. ap (λ vs. vote_in vs q) (items ∙ noted_first votes g c.in-Err.at v gap) ∙ vote_put votes g q (v || is_yes (vote_in votes g))) is
