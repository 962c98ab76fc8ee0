use Rattle.std.proofs.Common.{List, ap, ◌∙◌}
use Rattle.one_run.specs.declared.piece.Piece.{Piece}
use Rattle.one_run.specs.Pieces.{seen_of}
use Rattle.run_model.specs.declared.history.Event.{Event}
use Rattle.locked_run.specs.Parts.{InHeld, guardian_part, number_of}
use Rattle.locked_run.proofs.Behind.{seen_run, told}
use Rattle.locked_run.proofs.held.Held.seen.Goals as goal

pub seen_by-requires-clause-one : goal.seen_by-requires-clause-one
seen_by-requires-clause-one g c = let z = c.self.invariant in (guardian_part z.number z.allowed z.past, z.parts)

pub seen_by-requires-clause-run : goal.seen_by-requires-clause-run
seen_by-requires-clause-run g c =
    let z = c.self.invariant in seen_run g.K.OfRun.opening (guardian_part z.number z.allowed z.past) c.self.inside.part.token.me.0 z.parts z.run

pub invariant_of-self : goal.invariant_of-self
invariant_of-self g c = told c.seen_by.new.part c.self.invariant c.seen_by.ensures.table c.seen_by.ensures.same

pub returns-clause-seen : goal.returns-clause-seen
returns-clause-seen g c = c.seen_by.ensures.seen ∙ ap (λ (o : InHeld _). o.seen) c.self.view_is

pub returns-clause-same : goal.returns-clause-same
returns-clause-same g c =
    ap (λ (v : List (Piece Event)). record { guardian = c.self.inside.guardian; number = number_of v; seen = seen_of v; left = c.self.inside.left }) c.seen_by.ensures.same
    ∙ c.self.view_is
