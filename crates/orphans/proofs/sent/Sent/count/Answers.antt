use Rattle.std.proofs.Common.{ap, min, refl, sym, ◌+◌, ◌∙◌}
use Rattle.std.proofs.lemmas.Result.{IfOk-at_ok}
use Rattle.orphans.specs.Sending.{came_of, counted, most, or_nothing}
use Rattle.orphans.proofs.Sendings.{counted_more}
use Rattle.orphans.proofs.sent.Sent.count.Goals as goal

pub returns : goal.returns
returns c = λ h present.
    let came = came_of c.args.self.now in
    let updates = IfOk-at_ok _ c.unwrap.ensures c.insert-kept.ensures.updates in
    let aborts = c.saturating_add.ensures ∙ ap (λ x. min (x.aborts + c.args.aborts) most) c.came-came.ensures in
    let counts = c.saturating_add-2.ensures ∙ ap (λ x. min (x.counts + c.args.counts) most) c.came-came.ensures in
    ap or_nothing (updates.0 (h, present))
    ∙ counted_more came c.in-Some.sender c.args.life h present _ _ c.args.aborts c.args.counts (λ i. record { aborts = aborts i; counts = counts i }) refl
    ∙ ap (λ s. counted s c.args.life c.args.aborts c.args.counts came h present) (sym c.in-Some.is)
