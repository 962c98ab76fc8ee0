use Rattle.std.proofs.Common.{ap, ◌∙◌}
use Rattle.overlays.specs.Overlays.{laid_all}
use Rattle.version_stack.proofs.Stacked.{top_in, rising_in}
use Rattle.version_stack.proofs.versions.Versions.top.Goals as goal

pub new-requires : goal.new-requires
new-requires g c = rw c.deref.ensures.value c.self.invariant.sound.fit

pub returns-clause-top : goal.returns-clause-top
returns-clause-top g c =
    c.new.ensures ∙ ap (laid_all g.T.Layered.laid c.self.inside.content) c.deref.ensures.value ∙ top_in c.self.invariant c.self.view_is

pub returns-clause-rising : goal.returns-clause-rising
returns-clause-rising g c = rising_in c.self.invariant c.self.view_is
