use Rattle.std.proofs.Common.{ap, arith, length, map, refl, sym, ◌∙◌, ◌≤◌}
use Rattle.std.proofs.lemmas.List.{length-map}
use Rattle.std.proofs.lemmas.Option.{slice_get_read}
use Rattle.action_forest.proofs.Written.{written, written_past}
use Rattle.action_forest.specs.Trees.{action_in, changed, trees, with_depends}
use Rattle.action_forest.proofs.forest.Forest.set_depends.Goals as goal

pub returns-in-Some : goal.returns-in-Some
returns-in-Some c =
    let node = c.in-Some.node.now in
    let nodes = c.args.self.now.nodes in
    let there = slice_get_read nodes.items nodes.len c.args.at node nodes.ok.0 (c.in-Some.ensures.variant.0 refl) c.in-Some.ensures.value in
    (λ i. record {
      first_top = c.args.self.now.first_top;
      guardians = c.args.self.now.guardians;
      actions = written (with_depends c.swap.new.x) nodes.items c.args.at node (record node { depends = c.swap.new.x }) there refl i;
      tops = c.args.self.now.tops.items;
    })
    ∙ ap (λ d. changed (with_depends d) c.args.at (trees c.args.self.now)) c.swap.ensures.x_after

pub returns-in_default : goal.returns-in_default
returns-in_default c =
    let self = c.args.self.now in
    let past : length (map action_in self.nodes.items) ≤ c.args.at = omega (arith, length-map self.nodes.items action_in, self.nodes.ok.0, c.in_default.ensures.item) in
    λ i. record {
      first_top = self.first_top;
      guardians = self.guardians;
      actions = sym (written_past (with_depends c.args.depends.now) (map action_in self.nodes.items) c.args.at past) i;
      tops = self.tops.items;
    }
