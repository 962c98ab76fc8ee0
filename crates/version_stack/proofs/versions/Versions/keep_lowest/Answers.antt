use Rattle.std.proofs.Common.{ℕ, take, ap, ◌∙◌}
use Rattle.object_model.specs.Stacks.{Stack}
use Rattle.version_stack.proofs.Stacked.{lowest_kept}
use Rattle.version_stack.proofs.versions.Versions.keep_lowest.Goals as goal

pub returns : goal.returns
returns g c =
    let now = c.args.self.now in
    c.keep_first.ensures.kept
    ∙ ap (λ (k : ℕ). let r : Stack g.row.T.Denot = record { base = now.base; versions = take k now.versions } in r) c.from.ensures
    ∙ lowest_kept now c.args.keeps
