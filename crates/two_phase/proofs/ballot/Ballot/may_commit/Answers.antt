use Rattle.std.proofs.Common.{ap, arith, below_more, length, sym, ◌∙◌}
use Rattle.two_phase.specs.Ballots.{is_yes, vote_of}
use Rattle.two_phase.proofs.Participants.{all_participants, not_all_participants}
use Rattle.two_phase.proofs.Voting.{answered}
use Rattle.two_phase.proofs.ballot.Ballot.may_commit.Goals as goal
use Rattle.two_phase.proofs.ballot.Ballot.may_commit.Goals.{else-guardian-gt0-via-then-guardian-gt0+then-guardian-guardians+else-not-says_yes, else-guardian-gt0-via-then-guardian-gt0+else-guardian-guardians, else-guardian-gt0-via-else-guardian-gt0}

pub returns-then-not-says_yes : goal.returns-then-not-says_yes
returns-then-not-says_yes c = λ top past is.
    let es = c.entries-guardian-items.result.now in
    let n = c.guardians-guardians.result in
    answered top past c.args.self.now c.args.participants.now es n _ _ is c.entries-guardian-items.ensures
    (c.guardians-guardians.ensures.value ∙ ap length c.setup.ensures)
    (not_all_participants es n (λ g. is_yes (vote_of c.args.self.now g)) c.loop-guardian.guardian-index
    c.loop-guardian-test.true (omega arith) (omega arith) (sym c.says_yes.ensures ∙ c.if-not-says_yes.true))

pub loop-guardian-preserved : goal.loop-guardian-preserved
loop-guardian-preserved c =
    elim c.else-guardian-gt0.branch [
      | else-guardian-gt0-via-then-guardian-gt0+then-guardian-guardians+else-not-says_yes w ↦ below_more _ _ c.loop-guardian.invariant (λ low high. sym w.says_yes.ensures ∙ w.if-not-says_yes.false)
      | else-guardian-gt0-via-then-guardian-gt0+else-guardian-guardians w ↦ below_more _ _ c.loop-guardian.invariant (λ low high. absurd (omega (arith, w.if-guardian-guardians.false)))
      | else-guardian-gt0-via-else-guardian-gt0 w ↦ below_more _ _ c.loop-guardian.invariant (λ low high. absurd (omega (arith, w.if-guardian-gt0.false)))
    ]

pub returns : goal.returns
returns c = λ top past is.
    let es = c.entries-guardian-items.result.now in
    let n = c.guardians-guardians.result in
    answered top past c.args.self.now c.args.participants.now es n _ _ is c.entries-guardian-items.ensures
    (c.guardians-guardians.ensures.value ∙ ap length c.setup.ensures)
    (all_participants es n (λ g. is_yes (vote_of c.args.self.now g)) (λ k in_range low high. c.loop-guardian.invariant k (omega arith) low high))
