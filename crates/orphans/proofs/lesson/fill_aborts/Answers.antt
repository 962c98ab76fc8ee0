use Rattle.std.proofs.Common.{ap, arith, length, [], ◌++◌, ◌<◌, ◌∙◌, ◌∷◌}
use Rattle.orphans.specs.Logs.{names_of}
use Rattle.orphans.proofs.Told.{told_abort, told_commit}
use Rattle.orphans.proofs.lesson.fill_aborts.Goals as goal
use Rattle.orphans.proofs.lesson.fill_aborts.Goals.{then-not-committed+in_ok-add_abort-2, else-not-committed}

pub loop-told-preserved : goal.loop-told-preserved
loop-told-preserved c =
    let names = c.args.aborts.now in
    let outcomes = c.args.outcomes.now in
    let x = c.loop-told-item.result in
    let i = c.loop-told.told-index in
    let lt : i < length outcomes = omega (arith, c.loop-told-test.true) in
    elim c.if-not-committed.branch [
      | then-not-committed+in_ok-add_abort-2 w ↦
          ap (λ v. names_of v.items) w.all-is
          ∙ w.in_ok-add_abort-2.ensures
          ∙ (λ j. c.loop-told.invariant j ++ x.0 ∷ [])
          ∙ told_abort names outcomes i x lt c.loop-told-item.is w.if-not-committed.true
      | else-not-committed w ↦
          ap (λ v. names_of v.items) w.all-is ∙ c.loop-told.invariant ∙ told_commit names outcomes i x lt c.loop-told-item.is w.if-not-committed.false
    ]
