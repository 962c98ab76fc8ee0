use Rattle.std.proofs.Common.{None, ap, drop, get_or, sym, ◌+◌, ◌∙◌, ◌≡◌}
use Rattle.action_forest.proofs.Found.{below_none, below_step, below_stops, numbered_none}
use Rattle.action_forest.proofs.Written.{node_past, node_read}
use Rattle.action_forest.specs.Trees.{children_in, numbered, place_below, place_of, trees}
use Rattle.action_forest.proofs.forest.Forest.place.Goals as goal

pub returns-in_err-at : goal.returns-in_err-at
returns-in_err-at c =
    let forest = trees c.args.self.now in
    let below = c.in_ok-first.below.now in
    let none : numbered forest.tops forest.first_top c.in_ok-first.first.now ≡ None =
    ap (λ tops. numbered tops forest.first_top c.in_ok-first.first.now) (sym c.deref.ensures.value) ∙ sym c.in_err-at.ensures in
    c.from_residual-in_err-at.ensures
    ∙ sym (ap (place_of forest) c.in_ok-first.ensures.cases.0 ∙ ap (place_below forest.actions below) none ∙ below_none forest.actions below)

pub returns-in_err-get : goal.returns-in_err-get
returns-in_err-get c =
    let forest = trees c.args.self.now in
    let below = c.in_ok-first.below.now in
    let at = c.loop-number.at in
    let number = get_or below c.loop-number.number-index 0 in
    let past = node_past c.args.self.now.nodes.items c.deref-in-loop-number.result.now at c.deref-in-loop-number.ensures.value c.in_err-get.ensures.lookup.3 in
    c.from_residual-in_err-get.ensures
    ∙ sym (below_stops forest.actions below c.loop-number.number-index at c.loop-number-test.true
    (ap (λ action. numbered (children_in action) 1 number) past ∙ numbered_none 1 number))
    ∙ c.loop-number.invariant

pub returns-in_err-at-2 : goal.returns-in_err-at-2
returns-in_err-at-2 c =
    let forest = trees c.args.self.now in
    let below = c.in_ok-first.below.now in
    let at = c.loop-number.at in
    let number = get_or below c.loop-number.number-index 0 in
    let read = c.in_ok-get.ensures.lookup in
    let there = node_read c.args.self.now.nodes.items c.deref-in-loop-number.result.now at c.in_ok-get.field-0.now c.deref-in-loop-number.ensures.value read.3.0 read.1 in
    c.from_residual-in_err-at-2.ensures
    ∙ sym (below_stops forest.actions below c.loop-number.number-index at c.loop-number-test.true
    (ap (λ action. numbered (children_in action) 1 number) there
    ∙ ap (λ places. numbered places 1 number) (sym c.deref-in-loop-number-2.ensures.value)
    ∙ sym c.in_err-at-2.ensures))
    ∙ c.loop-number.invariant

pub loop-number-preserved : goal.loop-number-preserved
loop-number-preserved c =
    let forest = trees c.args.self.now in
    let below = c.in_ok-first.below.now in
    let at = c.loop-number.at in
    let number = get_or below c.loop-number.number-index 0 in
    let read = c.in_ok-get.ensures.lookup in
    let there = node_read c.args.self.now.nodes.items c.deref-in-loop-number.result.now at c.in_ok-get.field-0.now c.deref-in-loop-number.ensures.value read.3.0 read.1 in
    ap (place_below forest.actions (drop (c.loop-number.number-index + 1) below))
    (c.in_ok-at-2.ensures
    ∙ ap (λ places. numbered places 1 number) c.deref-in-loop-number-2.ensures.value
    ∙ ap (λ action. numbered (children_in action) 1 number) (sym there))
    ∙ sym (below_step forest.actions below c.loop-number.number-index at c.loop-number-test.true)
    ∙ c.loop-number.invariant
