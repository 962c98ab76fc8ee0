use Rattle.std.proofs.Common.{ap, drop, ◌∙◌}
use Rattle.std.proofs.lemmas.List.{drop-drop}
use Rattle.values.proofs.chunks.Chunks.cut.Goals as goal

pub loop-preserved : goal.loop-preserved
loop-preserved c = c.in_ok-pop_front.ensures.changed ∙ ap (drop 1) c.loop.invariant ∙ drop-drop 1 c.loop.counter c.args.self.now
