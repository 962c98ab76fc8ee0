use Rattle.std.proofs.Common.{None, ap, length, slice_get, sym, take, ℕ, ◌∙◌, ◌-◌, ◌≡◌}
use Rattle.std.specs.FinMap as map
use Rattle.std.specs.Option.{option_and_then}
use Rattle.action_names.proofs.Paths.{parent_of-take}
use Rattle.action_names.specs.Deps.{lesser}
use Rattle.action_names.specs.Names.{parent_of}
use Rattle.action_forest.proofs.Said.{lesser_none}
use Rattle.action_forest.specs.Trees.{depends_at, place_of, said, trees}
use Rattle.action_forest.proofs.forest.Forest.plan_commit.Goals as goal
use Rattle.action_forest.proofs.forest.Forest.plan_commit.Goals.{in-Some+in_ok-merge, in_default}

pub returns : goal.returns
returns c =
    let forest = trees c.args.self.now in
    let path = c.components-path.result.now in
    let up : take (length path - 1) path ≡ parent_of c.args.action.now =
    (let is = c.components-path.ensures.numbers in let parent = parent_of-take c.args.action.now in cc) in
    let held : (g : ℕ) → map.get c.in_ok-depends.depends g ≡ depends_at forest (parent_of c.args.action.now) g =
    λ g. c.in_ok-depends.ensures g ∙ ap (λ a. depends_at forest a g) up in
    record {
      at = c.place-at.ensures ∙ ap (place_of forest) c.components-path.ensures.numbers;
      depends = λ g.
          elim c.match-node_at.branch [
            | in-Some+in_ok-merge w ↦
                ap (λ deps. map.get deps g) w.depends-is
                ∙ w.in_ok-merge.ensures.ok g
                ∙ ap (λ d. lesser d (map.get w.in-Some.node.now.depends g)) (held g)
                ∙ ap (lesser (depends_at forest (parent_of c.args.action.now) g))
                (ap (said (λ action. map.get action.depends g) None) (w.in-Some.ensures ∙ ap (option_and_then (λ i. slice_get forest.actions i)) c.place-at.ensures) ∙ ap (λ a. depends_at forest a g) c.components-path.ensures.numbers)
            | in_default w ↦
                ap (λ deps. map.get deps g) w.depends-is
                ∙ held g
                ∙ sym (lesser_none (depends_at forest (parent_of c.args.action.now) g))
                ∙ ap (lesser (depends_at forest (parent_of c.args.action.now) g))
                (ap (said (λ action. map.get action.depends g) None) (w.in_default.ensures ∙ ap (option_and_then (λ i. slice_get forest.actions i)) c.place-at.ensures) ∙ ap (λ a. depends_at forest a g) c.components-path.ensures.numbers)
          ];
    }
