use Rattle.std.proofs.Common.{subst}
use Rattle.std.specs.List.{AllByRecursion}
use Rattle.values.specs.Values.{IsValue}
use Rattle.values.proofs.Joined.{each_chunked}
use Rattle.values.proofs.chunks.Chunks.copy.Goals as goal

pub returns-clause-fits : goal.returns-clause-fits
returns-clause-fits c =
    subst (AllByRecursion IsValue) c.self.view_is
    (each_chunked c.self.inside.front.items c.self.inside.middle.items c.self.inside.back.items c.in_ok-copied.ensures.fit c.self.invariant.full c.in_ok-back.ensures.fit)
