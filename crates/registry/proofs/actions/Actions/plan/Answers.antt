use Rattle.std.proofs.Common.{ap, rules, subst, sym, ◌∙◌}
use Rattle.run_model.specs.LocalHistories.{events_there}
use Rattle.run_model.proofs.Events.{answer_is, step_is}
use Rattle.run_model.specs.Votes.{is_yes}
use Rattle.registry.specs.Polls.{IsVoteOn}
use Rattle.registry.proofs.actions.Actions.plan.Goals as goal

pub returns-in_err-vote-in-Prepare : goal.returns-in_err-vote-in-Prepare
returns-in_err-vote-in-Prepare c = record {
  same = λ opening registry are. record { forest = are.forest; ballots = c.plan_vote.ensures.same (events_there registry) are.ballots };
  room = search rules;
  fits = λ opening registry are. search rules;
}

pub returns-in_ok-vote-in-Prepare : goal.returns-in_ok-vote-in-Prepare
returns-in_ok-vote-in-Prepare c = record {
  same = λ opening registry are. record { forest = are.forest; ballots = c.plan_vote.ensures.same (events_there registry) are.ballots };
  room = c.in_ok-vote-in-Prepare.ensures.fits;
  fits = λ opening registry are. (
    c.in-Prepare.guardian,
    c.in-Prepare.top,
    step_is c.event.view_is ∙ c.in-Prepare.is,
    subst (λ b. IsVoteOn c.in-Prepare.guardian c.in-Prepare.top b c.in_ok-vote-in-Prepare.vote) (c.is_yes-yes.ensures ∙ ap is_yes (sym (answer_is c.event.view_is))) c.in_ok-vote-in-Prepare.ensures.vote,
  );
}
