use Rattle.std.proofs.Common.{ap, ◌∙◌}
use Rattle.std.specs.FinMap as map
use Rattle.std.specs.Ordering.{nat_cmp}
use Rattle.run_model.specs.Openings.{opening_in}
use Rattle.volatile_state.proofs.Readings.{orphan_is}
use Rattle.volatile_state.proofs.Sound.{inside}
use Rattle.volatile_state.proofs.memory.Memory.is_orphan.Goals as goal

pub returns-in-Some : goal.returns-in-Some
returns-in-Some c = λ s at.
    let here = inside c.self.view_is at in
    orphan_is here c.args.action.now (opening_in c.opening.result.now) (λ h. map.get c.in-Some.depends.now h) c.is_known_orphan.result
    (c.opening.ensures.opening s at) (λ h. c.in-Some.ensures s.number s.past here.actions h) c.is_known_orphan.ensures

pub returns-in-None : goal.returns-in-None
returns-in-None c = λ s at.
    let here = inside c.self.view_is at in
    orphan_is here c.args.action.now (opening_in c.opening-in-None.result.now) (λ h. map.get c.new-none.result h) c.is_known_orphan-in-None.result
    (c.opening-in-None.ensures.opening s at)
    (λ h. ap (λ d. map.get d h) c.new-none.ensures ∙ map.get-empty nat_cmp h ∙ c.in-None.ensures s.number s.past here.actions h)
    c.is_known_orphan-in-None.ensures
