use Rattle.std.proofs.Common.{ap, arith, length, sym, ◌∙◌}
use Rattle.std.proofs.lemmas.Bool.{lt-ltb}
use Rattle.std.specs.FinMap as map
use Rattle.run_model.specs.Lists.{guardians_of}
use Rattle.run_model.specs.Openings.{opening_in}
use Rattle.orphans.specs.Knowing.{known_count}
use Rattle.orphans.proofs.Ancestry.{no_crash_counted, no_crash_since, some_crash_since}
use Rattle.orphans.proofs.lists.Lists.knows_crash_since.Goals as goal

pub returns-then-knows_no_crash : goal.returns-then-knows_no_crash
returns-then-knows_no_crash c =
    sym (no_crash_counted (map.get c.args.depends.now) (known_count c.args.self.now) (guardians_of (opening_in c.args.opening.now))
    (c.knows_no_crash.ensures c.if-knows_no_crash.true))

pub returns-then-least-count_of : goal.returns-then-least-count_of
returns-then-least-count_of c =
    some_crash_since c.args.depends.now c.entries-guardian-items.result.now c.entries-guardian-items.ensures c.guardians-guardians.result _
    (c.guardians-guardians.ensures.value ∙ ap length c.setup.ensures) (known_count c.args.self.now)
    c.loop-guardian.guardian-index c.loop-guardian-test.true (omega arith) (omega arith)
    (lt-ltb _ _ (omega (arith, c.if-least-count_of.true, c.count_of.ensures)))

pub returns : goal.returns
returns c =
    no_crash_since c.args.depends.now c.entries-guardian-items.result.now c.entries-guardian-items.ensures c.guardians-guardians.result _
    (c.guardians-guardians.ensures.value ∙ ap length c.setup.ensures) (known_count c.args.self.now)
    (λ k in_range low high. c.loop-guardian.invariant k (omega (arith, in_range, c.loop-guardian-test.false)) low high)
