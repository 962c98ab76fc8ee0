use Rattle.std.proofs.Common.{ap, not, sym, ◌∙◌}
use Rattle.std.proofs.lemmas.Result.{IfOk-weaker}
use Rattle.guardian.proofs.Asked.{asks_vote, vote_event_is}
use Rattle.guardian.proofs.writes.Write.of.Goals as goal

pub returns-in-Prepare-clause-written : goal.returns-in-Prepare-clause-written
returns-in-Prepare-clause-written g c = λ s news at of same.
    let own = c.if-voter-number.true ∙ c.number-number.ensures ∙ at.memory.own in
    c.of_vote.ensures.written s news at.memory of (vote_event_is _ news.event c.in-Prepare.voter s.number c.in-Prepare.top (same ∙ sym c.event.view_is) c.in-Prepare.is own)
    (g.S.Stable.seen c.args.store.now).content

pub returns-in-Prepare-clause-asked : goal.returns-in-Prepare-clause-asked
returns-in-Prepare-clause-asked g c = λ s news at of same.
    let own = c.if-voter-number.true ∙ c.number-number.ensures ∙ at.memory.own in
    let voted = vote_event_is _ news.event c.in-Prepare.voter s.number c.in-Prepare.top (same ∙ sym c.event.view_is) c.in-Prepare.is own in
    IfOk-weaker c.of_vote.result _ _
    (λ w says. says ∙ ap (λ t. not t) (sym (asks_vote s.number news c.in-Prepare.top c.event.inside.answer.now (g.S.Stable.seen c.args.store.now).content voted)))
    c.of_vote.ensures.asked
