use Rattle.std.proofs.Common.{◌≡◌, take, ap, ◌∙◌}
use Rattle.version_stack.specs.Layers.{last_end}
use Rattle.version_stack.proofs.Stacked.{kept, rising_in}
use Rattle.version_stack.proofs.versions.Versions.keep_first.Goals as goal

pub returns-clause-rising : goal.returns-clause-rising
returns-clause-rising g c = rising_in c.self.invariant c.self.view_is

pub invariant_of-self : goal.invariant_of-self
invariant_of-self g c =
    let i = c.self.inside in
    let n = c.args.count in
    let end : c.last_end-end.result ≡ last_end i.settled (take n i.ends.items) =
    c.last_end-end.ensures ∙ ap (last_end i.settled) (c.deref.ensures.value ∙ c.truncate-2.ensures.items) in
    rw (c.truncate.ensures.items, c.truncate-2.ensures.items, c.truncate-3.ensures.items, end) (kept c.self.invariant c.self.view_is n).layers

pub returns-clause-kept : goal.returns-clause-kept
returns-clause-kept g c =
    let i = c.self.inside in
    let n = c.args.count in
    let end : c.last_end-end.result ≡ last_end i.settled (take n i.ends.items) =
    c.last_end-end.ensures ∙ ap (last_end i.settled) (c.deref.ensures.value ∙ c.truncate-2.ensures.items) in
    rw (c.truncate.ensures.items, c.truncate-2.ensures.items, c.truncate-3.ensures.items, end) (kept c.self.invariant c.self.view_is n).view
