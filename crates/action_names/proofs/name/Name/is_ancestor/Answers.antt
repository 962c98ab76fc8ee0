use Rattle.action_names.proofs.Paths.{is_ancestor-starts_with}
use Rattle.action_names.proofs.name.Name.is_ancestor.Goals as goal

pub returns : goal.returns
returns c =
    let starts = is_ancestor-starts_with c.self.inside.parts c.of.inside.parts c.self.invariant.not_empty in
    cc
