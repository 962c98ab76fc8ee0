use Rattle.std.proofs.Common.{◌∷◌, ap, arith, subst, ◌∙◌, ◌+◌, ◌≡◌, max, length, take, ℕ}
use Rattle.run_model.specs.Openings.{Setup}
use Rattle.traces.specs.Traces.{AreHistoriesOver, lists_of}
use Rattle.traces.specs.Reading.{Reading}
use Rattle.traces.proofs.Kept.{last_fits, left_is, lines_left, over_setup, some_lists}
use Rattle.traces.proofs.reader.TraceReader.finish.Goals as goal

pub overflow_add-max : goal.overflow_add-max
overflow_add-max c =
    omega (arith, last_fits c.self.inside.setup (lists_of c.self.inside.histories.items) c.self.inside.last c.self.invariant, c.guardians.ensures.limit)

left : (c : goal.After-remove-registry)
    → take (c.max.result + 1) (lists_of c.self.inside.histories.items) ≡ c.remove-registry.result.items ∷ lists_of c.remove-registry.new.self.items
left c =
    left_is c.self.inside.histories.items c.truncate.new.self.items c.remove-registry.new.self.items (c.max.result + 1) c.remove-registry.result (omega arith)
    (some_lists c.self.inside.setup c.self.inside.histories.items c.self.inside.last c.self.invariant)
    c.truncate.ensures.items c.remove-registry.ensures.value c.remove-registry.ensures.items

pub returns-clause-lines : goal.returns-clause-lines
returns-clause-lines c =
    lines_left c.self.inside.setup (lists_of c.self.inside.histories.items) c.self.inside.last (c.max.result + 1) c.remove-registry.result.items
    (lists_of c.remove-registry.new.self.items) c.self.invariant (omega (arith, c.max.ensures)) (left c)
    ∙ ap (λ (r : Reading). r.lines) c.self.view_is

pub returns-clause-guardians : goal.returns-clause-guardians
returns-clause-guardians c =
    let count : c.max.result + 1 ≡ max c.self.inside.last (length c.self.inside.setup) + 1 =
    ap (λ (n : ℕ). n + 1) (c.max.ensures ∙ ap (max c.self.inside.last) c.guardians.ensures.value) in
    subst (λ (s : Setup). AreHistoriesOver s (lists_of c.remove-registry.new.self.items)) (ap (λ (r : Reading). r.setup) c.self.view_is)
    (over_setup c.self.inside.setup (lists_of c.self.inside.histories.items) c.self.inside.last (c.max.result + 1) c.remove-registry.result.items
    (lists_of c.remove-registry.new.self.items) c.self.invariant count
    (last_fits c.self.inside.setup (lists_of c.self.inside.histories.items) c.self.inside.last c.self.invariant) (left c))
