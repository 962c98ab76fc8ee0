use Rattle.std.proofs.Common.{ℕ, length, take, ap, ◌∙◌}
use Rattle.object_model.specs.Stacks.{Stack, owners_above}
use Rattle.version_stack.proofs.Stacked.{dropped_in}
use Rattle.version_stack.proofs.versions.Versions.drop_below.Goals as goal

pub returns : goal.returns
returns g c =
    let a = c.args.action.now in
    let now = c.args.self.now in
    c.keep_first.ensures.kept
    ∙ ap (λ (k : ℕ). let r : Stack g.row.T.Denot = record { base = now.base; versions = take k now.versions } in r)
    (c.count_above-count.ensures ∙ ap (λ ns. length (owners_above ns a)) c.deref.ensures.value)
    ∙ dropped_in c.self.invariant c.self.view_is a
