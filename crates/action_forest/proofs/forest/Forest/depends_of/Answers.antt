use Rattle.std.proofs.Common.{None, ap, ◌∙◌}
use Rattle.std.specs.FinMap as map
use Rattle.std.specs.Ordering.{nat_cmp}
use Rattle.action_forest.specs.Trees.{said}
use Rattle.action_forest.proofs.forest.Forest.depends_of.Goals as goal

pub returns-in-None : goal.returns-in-None
returns-in-None c = λ g.
    ap (λ deps. map.get deps g) c.new.ensures ∙ map.get-empty nat_cmp g ∙ ap (said (λ action. map.get action.depends g) None) c.in-None.ensures
