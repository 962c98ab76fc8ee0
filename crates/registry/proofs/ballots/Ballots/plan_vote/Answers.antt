use Rattle.registry.proofs.ballots.Ballots.plan_vote.Goals as goal

pub returns-in_err-vote-clause-same : goal.returns-in_err-vote-clause-same
returns-in_err-vote-clause-same c = λ past are. c.make_room.ensures.same past (c.provide.ensures.same past are)

pub returns-clause-same : goal.returns-clause-same
returns-clause-same c = λ past are. c.make_room.ensures.same past (c.provide.ensures.same past are)
