use Rattle.std.proofs.Common.{ap, ◌∙◌}
use Rattle.world_steps.specs.Naming.{first_named, second_named}
use Rattle.one_run.specs.Pieces.{seen_of}
use Rattle.locked_run.proofs.Named.{first_is, second_is}
use Rattle.locked_run.proofs.held.HeldRegistry.named.Goals as goal

pub returns-clause-first : goal.returns-clause-first
returns-clause-first g c =
    let z = c.self.invariant in
    first_is g.K.OfRun.opening z.past z.run c.named.ensures z.there ∙ ap (λ v. first_named c.args.step.now (seen_of v)) (Rattle.std.proofs.Common.sym z.parts) ∙ ap (λ l. first_named c.args.step.now l) c.self.view_is

pub returns-clause-second : goal.returns-clause-second
returns-clause-second g c =
    let z = c.self.invariant in
    second_is g.K.OfRun.opening z.past z.run c.named.ensures z.there ∙ ap (λ v. second_named c.args.step.now (seen_of v)) (Rattle.std.proofs.Common.sym z.parts) ∙ ap (λ l. second_named c.args.step.now l) c.self.view_is
