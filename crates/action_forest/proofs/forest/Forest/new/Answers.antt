use Rattle.std.proofs.Common.{ap, arith, length, map, subst, suc, sym, ◌∙◌, ◌-◌, ◌≡◌, []}
use Rattle.run_model.specs.Openings.{opening_in}
use Rattle.action_forest.proofs.Empty.{empty_is}
use Rattle.action_forest.specs.Forests.{IsForest}
use Rattle.action_forest.specs.Trees.{action_in}
use Rattle.action_forest.proofs.forest.Forest.new.Goals as goal

pub returns : goal.returns
returns c =
    let first : c.max.result ≡ suc (c.args.opening.now.first_top - 1) = omega (arith, c.max.ensures, c.first_top.ensures) in
    let nothing = empty_is c.max.result c.guardians.result (opening_in c.args.opening.now) first (c.guardians.ensures.value ∙ ap length c.setup.ensures) in
    subst (IsForest (opening_in c.args.opening.now) [])
    (λ i. record {
      first_top = c.max.result;
      guardians = c.guardians.result;
      actions = map action_in (sym c.new.ensures.items i);
      tops = sym c.new-2.ensures.items i;
    })
    nothing
