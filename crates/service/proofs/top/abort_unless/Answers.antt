use Rattle.std.proofs.Common.{Option, ap, false, refl, subst, sym, true, ◌∙◌, ◌≡◌}
use Rattle.std.proofs.lemmas.Bool.{false≢true}
use Rattle.std.specs.Option.{option_or}
use Rattle.run_model.specs.Actions.{is_ended}
use Rattle.service.specs.Transacting.{Settles, settles}
use Rattle.service.specs.declared.fault.CallFault.{CallFault}
use Rattle.service.proofs.Concluded.{top_aborts}
use Rattle.service.proofs.Going.{settles_same}
use Rattle.service.proofs.top.abort_unless.Goals as goal

pub returns-then-committed : goal.returns-then-committed
returns-then-committed g c =
    let now = g.W.MakesOwnSteps.run c.args.service.now.world in
    settles_same (settles c.args.top.now) now now c.args.left (c.args.committed ≡ false → is_ended c.args.top.now now.past ≡ true) refl
    (λ h. absurd (false≢true (sym h ∙ c.if-committed.true)))

pub returns : goal.returns
returns g c =
    let run = g.W.MakesOwnSteps.run in
    let top = c.args.top.now in
    let old = c.args.service.now.world in
    let new = c.abort.new.self.world in
    subst (λ (is : Option CallFault). Settles g.W.MakesOwnSteps.sees (settles top) (run old) (run new) c.args.left is (c.args.committed ≡ false → is_ended top (run new).past ≡ true))
    (sym (c.or.ensures ∙ ap (λ (o : Option CallFault). option_or c.args.left o) c.err.ensures.value))
    (top_aborts run g.W.MakesOwnSteps.sees g.W.MakesOwnSteps.leaves top old new c.abort.result c.args.left c.args.committed c.abort.ensures)
