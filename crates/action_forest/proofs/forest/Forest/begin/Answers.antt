use Rattle.std.proofs.Common.{Some, [], ap, arith, map, reverse, subst, sym, vec_len, ◌∙◌, ◌∷◌, ◌≡◌}
use Rattle.std.proofs.lemmas.List.{nil_from_length}
use Rattle.std.proofs.lemmas.List.Elements.{All-pop}
use Rattle.action_forest.proofs.Beginning.{added_last, begins}
use Rattle.action_forest.specs.Events.{beginning}
use Rattle.action_forest.specs.Forests.{IsForest}
use Rattle.action_forest.specs.Rooms.{HasRoom}
use Rattle.action_forest.specs.Trees.{action_in, all_added, trees}
use Rattle.action_forest.proofs.forest.Forest.begin.Goals as goal

pub loop-node-preserved : goal.loop-node-preserved
loop-node-preserved c =
    let maker = c.args.plan.now.maker in
    let nodes = c.loop-node.plan.nodes in
    let rest = c.pop.new.self in
    let node = c.in-Some.node in
    let before = c.loop-node.self in
    let made = All-pop (λ n. n.maker ≡ maker) nodes.items rest.items (Some node) c.in-Some.ensures.items c.loop-node.invariant.made in
    record {
      same =
          ap (all_added (map action_in (reverse rest.items))) c.add.ensures.added
          ∙ sym (added_last rest.items node (trees before))
          ∙ ap (λ ns. all_added (map action_in (reverse ns)) (trees before)) (sym c.in-Some.ensures.items)
          ∙ c.loop-node.invariant.same;
      room =
          subst (λ m. HasRoom c.add.new.self (vec_len rest) m) made.1
          (c.add.ensures.room (vec_len rest)
          (subst (λ k. HasRoom before k node.maker) (sym c.in-Some.ensures.cases)
          (subst (λ m. HasRoom before (vec_len nodes) m) (sym made.1) c.loop-node.invariant.room)));
      made = made.0;
    }

pub returns : goal.returns
returns c = λ opening registry h stamp step names home life b all.
    let nodes = c.loop-node.plan.nodes in
    let after = trees c.loop-node.self in
    let none : nodes.items ≡ [] = nil_from_length nodes.items (omega (arith, nodes.ok.0, c.in_default.ensures.cases)) in
    let whole = sym c.loop-node.invariant.same ∙ ap (λ ns. all_added (map action_in (reverse ns)) after) none in
    subst (λ forest. IsForest opening (beginning opening registry stamp step names home life ∷ registry) forest) whole
    (begins opening registry (trees c.args.self.now) stamp step names (map action_in c.args.plan.now.nodes.items) home life h b all)
