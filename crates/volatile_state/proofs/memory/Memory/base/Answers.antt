use Rattle.std.proofs.Common.{subst, sym, ◌≤◌}
use Rattle.volatile_state.proofs.Readings.{base_is, count_is}
use Rattle.volatile_state.proofs.Sound.{inside}
use Rattle.volatile_state.proofs.memory.Memory.base.Goals as goal

pub returns-clause-base : goal.returns-clause-base
returns-clause-base c = λ s at. base_is (inside c.self.view_is at) c.args.number c.base.result c.base.ensures.base

pub returns-clause-none : goal.returns-clause-none
returns-clause-none c = λ s at none low high.
    c.base.ensures.none none low (subst (λ n. c.args.number ≤ n) (sym (count_is (inside c.self.view_is at))) high)
