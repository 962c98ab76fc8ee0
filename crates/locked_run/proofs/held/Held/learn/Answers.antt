use Rattle.std.proofs.Common.{subst}
use Rattle.std.specs.Prelude.{suc, Some}
use Rattle.one_run.specs.Pieces.{GoesOn, seen_of}
use Rattle.shared_run.specs.Places.{touches}
use Rattle.locked_run.specs.Parts.{InHeld}
use Rattle.locked_run.proofs.Behind.{learned, looked_kept, looked_on, looked_since_at}
use Rattle.locked_run.proofs.held.Held.learn.Goals as goal

pub invariant_of-self : goal.invariant_of-self
invariant_of-self g c = learned c.look_behind.new.part c.self.invariant c.look_behind.ensures.table c.look_behind.ensures.looks

pub returns-clause-behind : goal.returns-clause-behind
returns-clause-behind g c = looked_on c.self.inside.part.token.me.0 c.look_behind.new.part.token.me.0 c.self.invariant.parts c.look_behind.ensures.looks

pub returns-clause-since : goal.returns-clause-since
returns-clause-since g c =
    subst (λ (o : InHeld _). GoesOn touches (Some (suc o.number)) o.seen (seen_of c.look_behind.new.part.token.me.0)) c.self.view_is
    (looked_since_at c.self.inside.part.token.me.0 c.look_behind.new.part.token.me.0 c.self.invariant.parts c.look_behind.ensures.looks)

pub returns-clause-kept : goal.returns-clause-kept
returns-clause-kept g c = looked_kept c.self.view_is c.self.invariant.parts c.look_behind.ensures.looks
