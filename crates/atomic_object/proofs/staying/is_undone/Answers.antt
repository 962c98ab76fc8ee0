use Rattle.std.proofs.Common.{ap, arith, sym, ◌∙◌}
use Rattle.std.specs.List.{list_any}
use Rattle.action_names.specs.Names.{ancestors}
use Rattle.object_laws.specs.OnceTold.{aborts_in}
use Rattle.atomic_object.proofs.Outcomes.{no_ancestor, some_ancestor}
use Rattle.atomic_object.proofs.staying.is_undone.Goals as goal

pub returns-then-has_aborted : goal.returns-then-has_aborted
returns-then-has_aborted c =
    sym (ap (λ a. list_any (λ b. aborts_in c.args.outcomes.now b) (ancestors a)) (sym c.components-path.ensures.numbers)
    ∙ some_ancestor (λ b. aborts_in c.args.outcomes.now b) c.components-path.result.now c.loop-depth.depth (omega (arith, c.loop-depth-test.true))
    (sym c.has_aborted.ensures ∙ c.if-has_aborted.true))

pub returns : goal.returns
returns c =
    sym (ap (λ a. list_any (λ b. aborts_in c.args.outcomes.now b) (ancestors a)) (sym c.components-path.ensures.numbers)
    ∙ no_ancestor (λ b. aborts_in c.args.outcomes.now b) c.components-path.result.now
    (λ k lt. c.loop-depth.invariant k (omega (arith, lt, c.loop-depth-test.false))))
