use Rattle.std.proofs.Common.{ap, if◌then◌else◌, sym}
use Rattle.activities.specs.Acting.{acting}
use Rattle.activities.specs.Ends.{has_committed}
use Rattle.activities.specs.Serial.{taken_in}
use Rattle.activities.proofs.Ending.{on_ok_any}
use Rattle.activities.proofs.apart.learn.Goals as goal

-- a nested top action tells nothing
pub returns-then-not-is_sub-clause-taken : goal.returns-then-not-is_sub-clause-taken
returns-then-not-is_sub-clause-taken c =
    let a = acting c.args.action.now in
    on_ok_any c.args.arm.ended
    (sym (ap (λ b. if b then taken_in a (acting c.args.arm.action) (has_committed c.args.arm.ended) else a) c.if-not-is_sub.true))
