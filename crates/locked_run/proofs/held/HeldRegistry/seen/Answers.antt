use Rattle.std.proofs.Common.{ap, ◌∙◌}
use Rattle.one_run.specs.Pieces.{seen_of}
use Rattle.locked_run.specs.Parts.{registry_part}
use Rattle.locked_run.proofs.Behind.{seen_run, told_there}
use Rattle.locked_run.proofs.held.HeldRegistry.seen.Goals as goal

pub seen_by-requires-clause-one : goal.seen_by-requires-clause-one
seen_by-requires-clause-one g c = let z = c.self.invariant in (registry_part z.left z.past, z.parts)

pub seen_by-requires-clause-run : goal.seen_by-requires-clause-run
seen_by-requires-clause-run g c =
    let z = c.self.invariant in seen_run g.K.OfRun.opening (registry_part z.left z.past) c.self.inside.part.token.me.0 z.parts z.run

pub invariant_of-self : goal.invariant_of-self
invariant_of-self g c = told_there c.seen_by.new.part c.self.invariant c.seen_by.ensures.table c.seen_by.ensures.same

pub returns-clause-seen : goal.returns-clause-seen
returns-clause-seen g c = c.seen_by.ensures.seen ∙ c.self.view_is

pub returns-clause-same : goal.returns-clause-same
returns-clause-same g c = ap seen_of c.seen_by.ensures.same ∙ c.self.view_is
