use Rattle.std.proofs.Common.{ap, arith, length, take, ℕ, ◌∙◌, ◌-◌, ◌≡◌}
use Rattle.std.specs.FinMap as map
use Rattle.action_names.proofs.Paths.{parent_of-take}
use Rattle.action_names.specs.Names.{parent_of}
use Rattle.action_forest.proofs.Said.{entries_at_home, entries_homeless}
use Rattle.action_forest.specs.Trees.{depends_at, trees}
use Rattle.action_forest.proofs.forest.Forest.new_dependencies.Goals as goal
use Rattle.action_forest.proofs.forest.Forest.new_dependencies.Goals.{then-home-gt0+then-home-self+in_ok-lower, else-home-gt0, else-home-gt0-via-then-home-gt0+else-home-self, else-home-gt0-via-else-home-gt0}

pub returns : goal.returns
returns c = λ opening registry h.
    let forest = trees c.args.self.now in
    let path = c.components-path.result.now in
    let up : take (length path - 1) path ≡ parent_of c.args.action.now =
    (let is = c.components-path.ensures.numbers in let parent = parent_of-take c.args.action.now in cc) in
    let held : (g : ℕ) → map.get c.in_ok-depends.depends g ≡ depends_at forest (parent_of c.args.action.now) g =
    λ g. c.in_ok-depends.ensures g ∙ ap (λ a. depends_at forest a g) up in
    elim c.if-home-gt0.branch [
      | then-home-gt0+then-home-self+in_ok-lower w ↦
          ap map.entries (w.depends-is ∙ w.in_ok-lower.ensures.ok)
          ∙ entries_at_home opening registry forest h c.args.action.now c.args.home c.args.life c.in_ok-depends.depends held (omega arith) (omega arith)
      | else-home-gt0 w ↦
          ap map.entries w.depends-is
          ∙ entries_homeless opening registry forest h c.args.action.now c.args.home c.args.life c.in_ok-depends.depends held
          (λ low high. elim w.else-home-gt0.branch [
            | else-home-gt0-via-then-home-gt0+else-home-self v ↦ omega arith
            | else-home-gt0-via-else-home-gt0 v ↦ omega arith
          ])
    ]
