use Rattle.std.proofs.Common.{◌≡◌, true, false, ◌||◌, reverse, rules, tests, sym, ap, ◌∙◌}
use Rattle.action_names.specs.Names.{top_of}
use Rattle.run_model.specs.Actions.{begins, home_of}
use Rattle.run_model.specs.Visibility.{has_prepared, votes_yes}
use Rattle.tracer.proofs.Standings.{stands_anew, stands_on}
use Rattle.tracer.proofs.orphans.Standing.after.Goals as goal

pub returns-then-self : goal.returns-then-self
returns-then-self c = λ past ends stood.
    let apart : begins c.args.event.now c.args.action.now ≡ false = search (rules, tests) in
    let votes = votes_yes c.args.event.now.step c.args.event.now.answer c.args.self.home (top_of c.args.action.now) in
    stands_on c.args.self c.args.action.now c.args.event.now past c.args.self.prepared c.is_lost_after-lost.result stood apart
    (c.if-self.true ∙ sym (ap (λ t. t || votes) c.if-self.true))
    (c.is_lost_after-lost.ensures c.args.action.now past stood)

pub returns-else-self : goal.returns-else-self
returns-else-self c = λ past ends stood.
    let apart : begins c.args.event.now c.args.action.now ≡ false = search (rules, tests) in
    let votes = votes_yes c.args.event.now.step c.args.event.now.answer c.args.self.home (top_of c.args.action.now) in
    stands_on c.args.self c.args.action.now c.args.event.now past c.votes_yes-prepared.result c.is_lost_after-lost.result stood apart
    (c.votes_yes-prepared.ensures
    ∙ ap (votes_yes c.args.event.now.step c.args.event.now.answer c.args.self.home) c.top_path-top.ensures
    ∙ sym (ap (λ t. t || votes) c.if-self.false))
    (c.is_lost_after-lost.ensures c.args.action.now past stood)

pub returns : goal.returns
returns c = λ past ends stood.
    let starts : begins c.args.event.now c.args.action.now ≡ true = search (rules, tests) in
    stands_anew c.args.action.now c.args.event.now past c.home_among-home.result c.has_prepared.result c.is_lost_after-lost.result starts
    (c.home_among-home.ensures ∙ ap (home_of c.args.action.now) ends)
    (c.has_prepared.ensures
    ∙ ap (λ top. has_prepared c.home_among-home.result top (reverse c.args.so_far.now)) c.top_path-top.ensures
    ∙ ap (has_prepared c.home_among-home.result (top_of c.args.action.now)) ends)
    (c.is_lost_after-lost.ensures c.args.action.now past stood)
