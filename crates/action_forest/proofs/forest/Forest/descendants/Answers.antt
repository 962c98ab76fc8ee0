use Rattle.std.proofs.Common.{List, None, Some, [], ap, arith, inl, inr, length, subst, suc, sym, take, zero, ℕ, ◌++◌, ◌+◌, ◌≤◌, ◌∙◌, ◌∷◌, ◌≡◌}
use Rattle.std.specs.Prelude.{slice_get}
use Rattle.std.proofs.lemmas.List.{length-map}
use Rattle.run_model.specs.LocalHistories.{events_there}
use Rattle.action_forest.proofs.WalksEnd.{first_reached, last_reached, next_reached, none_below}
use Rattle.action_forest.proofs.WalksOutcome.{got}
use Rattle.action_forest.specs.Trees.{action_in, children_in, trees}
use Rattle.action_forest.specs.Walks.{AreBelow, AreReached}
use Rattle.action_forest.proofs.forest.Forest.descendants.Goals as goal
use Rattle.action_forest.proofs.forest.Forest.descendants.Goals.{else-loop-next-test, then-loop-next-test+in_default-copied}

-- where nothing is at a place, the list has ended
within_get : (places : List ℕ) (k : ℕ) → slice_get places k ≡ None → length places ≤ k
within_get [] k h = omega arith
within_get (i ∷ places) zero h = absurd (cc)
within_get (i ∷ places) (suc k) h = omega (arith, within_get places k h)

pub returns-in_default : goal.returns-in_default
returns-in_default c = λ opening registry h.
    let forest = trees c.args.self.now in
    subst (λ places. AreBelow forest c.args.path.now (events_there registry) places) (sym c.new-below.ensures.items)
    (none_below registry forest h.tree c.args.path.now (sym c.place.ensures ∙ c.in_default.is))

pub loop-next-init : goal.loop-next-init
loop-next-init c = λ opening registry h.
    let forest = trees c.args.self.now in
    let items : c.extend_from_slice.new.self.items ≡ children_in (slice_get forest.actions c.in-Some.start) =
    c.in_ok-extend_from_slice.ensures.items
    ∙ ap (λ places. places ++ c.children_at.result.now) c.new-below.ensures.items ∙ c.children_at.ensures in
    subst (λ places. AreReached forest c.args.path.now (events_there registry) [] places) (sym items)
    (first_reached registry forest h.tree c.args.path.now c.in-Some.start (sym c.place.ensures ∙ c.in-Some.is))

pub loop-next-preserved : goal.loop-next-preserved
loop-next-preserved c = λ opening registry h.
    let forest = trees c.args.self.now in
    let places : List ℕ = c.loop-next.below.items in
    let at : slice_get places c.loop-next.next ≡ Some c.in-Some-copied.at =
    got places c.deref.result.now c.loop-next.next c.get.result c.deref.ensures.value c.get.ensures.lookup.3
    ∙ sym c.copied.ensures ∙ c.in-Some-copied.is in
    let items : c.extend_from_slice-in-loop-next.new.self.items ≡ places ++ children_in (slice_get forest.actions c.in-Some-copied.at) =
    c.in_ok-extend_from_slice-2.ensures.items ∙ ap (λ more. places ++ more) c.children_at-in-loop-next.ensures in
    subst (λ all. AreReached forest c.args.path.now (events_there registry) (take (c.loop-next.next + 1) all) all) (sym items)
    (next_reached registry forest h.tree c.args.path.now places c.loop-next.next c.in-Some-copied.at at (c.loop-next.invariant opening registry h))

pub returns : goal.returns
returns c = λ opening registry h.
    let forest = trees c.args.self.now in
    let places : List ℕ = c.loop-next.below.items in
    last_reached registry forest h.tree c.args.path.now c.in-Some.start places c.loop-next.next (sym c.place.ensures ∙ c.in-Some.is)
    (c.loop-next.invariant opening registry h)
    (elim c.loop-next-test.branch [
      | else-loop-next-test w ↦ inr (omega (arith, length-map c.args.self.now.nodes.items action_in, c.args.self.now.nodes.ok.0))
      | then-loop-next-test+in_default-copied w ↦
          inl (within_get places c.loop-next.next
          (got places w.deref.result.now c.loop-next.next w.get.result w.deref.ensures.value w.get.ensures.lookup.3
          ∙ sym w.copied.ensures ∙ w.in_default-copied.is))
    ])
