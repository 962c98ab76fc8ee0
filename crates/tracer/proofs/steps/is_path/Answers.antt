use Rattle.action_names.specs.Comparison.{same_name-pointwise}
use Rattle.tracer.proofs.steps.is_path.Goals as goal

pub returns : goal.returns
returns c =
    let is = c.components.ensures.numbers in
    let same = same_name-pointwise c.args.name.now c.args.path.now in
    cc
