use Rattle.std.proofs.Common.{ap, arith, length, min, ◌∙◌, ◌≡◌, ◌≤◌}
use Rattle.std.proofs.lemmas.List.{length-reverse}
use Rattle.run_model.specs.Actions.{crashes}
use Rattle.run_model.specs.LocalReadings.{aborts_here, events_here, sent_here}
use Rattle.orphans.specs.Logs.{known_names}
use Rattle.orphans.specs.Sending.{most}
use Rattle.orphans.proofs.Sendings.{unsent}
use Rattle.orphans.proofs.lists.Lists.unsent_aborts.Goals as goal

pub returns : goal.returns
returns c = λ there here from to.
    let own = c.args.self.now in
    let g = c.args.to.now.guardian in
    let sent = sent_here (λ m. length m.aborts) g own.guardian (crashes own.guardian (events_here there)) here in
    let had : c.came-had.result.aborts ≡ min sent most =
    ap (λ x. x.aborts) c.came-had.ensures ∙ to.sent_aborts own.guardian own.crashes ∙ ap (λ n. min (sent_here (λ m. length m.aborts) g own.guardian n here) most) from.crashes in
    let short : length (known_names own.aborts) ≤ most = omega (arith, length-reverse own.aborts.names.items, own.aborts.names.ok, own.aborts.names.small) in
    c.from_vec-2.ensures
    ∙ c.in_ok-newest-2.ensures
    ∙ unsent (known_names own.aborts) (aborts_here own.guardian there) sent c.came-had.result.aborts _ most from.aborts had short (omega (arith, c.saturating_sub-unsent.ensures, c.len-2.ensures))
