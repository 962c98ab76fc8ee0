use Rattle.std.proofs.Common.{ap, not, sym, ◌∙◌}
use Rattle.run_model.specs.LocalReadings.{or_zero}
use Rattle.run_model.specs.Votes.{is_yes}
use Rattle.guardian.proofs.Asked.{home_is, vote_is, vote_written}
use Rattle.guardian.proofs.writes.Write.of_vote.Goals as goal

pub returns-in_ok-parts-in-VoteYes : goal.returns-in_ok-parts-in-VoteYes
returns-in_ok-parts-in-VoteYes c = record {
  written = λ s news at of is held.
      let step = ap (λ e. e.step) is in
      let yes = ap (λ e. e.answer) is ∙ c.in-VoteYes.is in
      vote_written s.opening s.number s.past held news.carried news.event.answer c.args.top.now yes news.event.step c.last.result c.unwrap_or.result
      c.in_ok-parts-in-VoteYes.field-0.entries step c.last.ensures (c.unwrap_or.ensures ∙ home_is c.sender.result ∙ ap or_zero (c.sender.ensures ∙ of.sender))
      (c.in_ok-parts-in-VoteYes.ensures s news at of (vote_is s.number c.args.top.now news.event.step news.event.answer step yes));
  asked = sym (ap (λ a. not (is_yes a)) c.in-VoteYes.is);
}
