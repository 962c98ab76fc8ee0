use Rattle.std.proofs.Common.{sym, ap, ◌∙◌}
use Rattle.tracer.specs.Copies.{Copied}
use Rattle.tracer.proofs.Taken.{fine}
use Rattle.tracer.proofs.gathering.take_turn.Goals as goal

pub returns-clause-fails : goal.returns-clause-fails
returns-clause-fails g c others last parts homes =
    fine _ c.args.limit _ c.args.turn.now c.in-Some.others.now others c.in-Some.last.now last c.last.inside.event.now c.in-Some.ensures.cases.0 parts
    (ap (λ (x : Copied). x.event) c.last.view_is) c.in_ok-make.field-0 (sym c.if-has_late.ensures) (sym c.in_ok-has_other.ensures ∙ c.if-branch.false)
    (sym (c.in_ok-stand_elsewhere.ensures _ homes) ∙ c.if-branch-2.false) c.in_ok-make.ensures.value c.if-not-branch.false
