use Rattle.std.proofs.Common.{subst, sym, ◌∙◌}
use Rattle.one_run.specs.Rules.{Counts}
use Rattle.run_model.specs.Runs.{IsRun}
use Rattle.shared_run.specs.Places.{touches}
use Rattle.locked_run.proofs.Gathered.{are_missing, is_closed}
use Rattle.locked_run.proofs.closing.close_all.Goals as goal

pub returns-then-len-events-clause-unclosed : goal.returns-then-len-events-clause-unclosed
returns-then-len-events-clause-unclosed g c =
    let v = c.settle_all-part.result.0.token.me.0 in
    let counts = subst (λ p. Counts (IsRun p) touches v c.count-events.result c.count-events.new.part.token.me.0) c.args.shared.opening c.count-events.ensures.counted in
    are_missing g.G.Guardian.stands g.G.Guardian.stored g.R.Forest.stands c.settle_all-part.result.1 c.in_ok-guardians.ensures.sorted
    (c.in_ok-guardians.ensures.count ∙ c.requires.all) c.settle_all-part.ensures.parts.1 c.settle_all-part.ensures.there c.settle_all-part.ensures.each counts
    c.args.receipts (λ same. c.if-len-events.true (c.len-2.ensures ∙ same))

pub returns-clause-closed : goal.returns-clause-closed
returns-clause-closed g c =
    let v = c.settle_all-part.result.0.token.me.0 in
    let counts = subst (λ p. Counts (IsRun p) touches v c.count-events.result c.count-events.new.part.token.me.0) c.args.shared.opening c.count-events.ensures.counted in
    is_closed g.G.Guardian.stands g.G.Guardian.stored g.R.Forest.stands c.settle_all-part.result.1 c.in_ok-guardians.ensures.sorted
    (c.in_ok-guardians.ensures.count ∙ c.requires.all) c.settle_all-part.ensures.parts.1 c.settle_all-part.ensures.there c.settle_all-part.ensures.each counts
    c.args.receipts (sym c.len-2.ensures ∙ c.if-len-events.false) c.count_with.ensures
