use Rattle.action_names.proofs.Paths.{parent_of-take}
use Rattle.world_steps.proofs.names.parent_path.Goals as goal

pub returns : goal.returns
returns c =
    let is = c.components-numbers.ensures.numbers in
    let up = parent_of-take c.args.name.now in
    cc
