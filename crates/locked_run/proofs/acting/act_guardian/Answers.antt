use Rattle.std.proofs.Common.{ap, cond, subst, sym, ◌-◌, ◌∙◌, ◌≤◌}
use Rattle.one_run.specs.Pieces.{seen_of}
use Rattle.world_steps.specs.Standings.{standing}
use Rattle.locked_run.specs.Acting.{StoreAfter, has_added, outcome_of}
use Rattle.locked_run.specs.Parts.{HasGuardian}
use Rattle.locked_run.specs.Stored.{guardian_events}
use Rattle.locked_run.proofs.ByItself.{alone_back, alone_since, kept_alone, locked_alone, seen_alone}
use Rattle.locked_run.proofs.Under.{held_again, left_alone_is, left_is, still_enough}
use Rattle.locked_run.proofs.acting.act_guardian.Goals as goal

pub returns-then-held-eq0-clause-held : goal.returns-then-held-eq0-clause-held
returns-then-held-eq0-clause-held g c = left_alone_is g.K.OfRun.opening g.G.Guardian.stored c.args.step.now c.args.held.now

pub step_own-part-requires-clause-here : goal.step_own-part-requires-clause-here
step_own-part-requires-clause-here g c =
    let o = g.K.OfRun.opening in
    let x = c.held.invariant in
    let number = c.number-number.ensures.number (standing o x.past x.number) x.here in
    subst (λ k. HasGuardian o (g.G.Guardian.stands c.held.inside.guardian) k c.look_alone-part.result.token.me.0) (sym number)
    (locked_alone x c.look_alone-part.ensures.looks)

pub step_own-part-requires-clause-kept : goal.step_own-part-requires-clause-kept
step_own-part-requires-clause-kept g c =
    let o = g.K.OfRun.opening in
    let x = c.held.invariant in
    let number = c.number-number.ensures.number (standing o x.past x.number) x.here in
    kept_alone x c.look_alone-part.ensures.looks ∙ ap (λ k. guardian_events o (seen_of c.look_alone-part.result.token.me.0) k) (sym number)

pub invariant_of-held : goal.invariant_of-held
invariant_of-held g c =
    let o = g.K.OfRun.opening in
    let x = c.held.invariant in
    let looks = c.look_alone-part.ensures.looks in
    let w = c.step_own-part.result.0.token.me.0 in
    let added = has_added (outcome_of (λ a. a.receipt) c.step_own-part.result.1) in
    let number = c.number-number.ensures.number (standing o x.past x.number) x.here in
    let part = alone_back added x.number x.allowed x.past looks.past _ w (seen_alone x looks) c.step_own-part.ensures.moved.moved in
    let stands = g.G.Guardian.stands c.step_own-part.new.guardian in
    held_again x (cond added (x.allowed - 1) x.allowed) (c.held.inside.left - c.drawn.result) (seen_of w) c.step_own-part.ensures.table
    part
    (subst (λ n. c.held.inside.left - n ≤ cond added (x.allowed - 1) x.allowed) (sym c.drawn.ensures) (still_enough added c.held.inside.left x.allowed x.enough))
    c.step_own-part.ensures.here.run
    (subst (λ k. stands (standing o (seen_of w) k)) number c.step_own-part.ensures.here.here)
    (c.step_own-part.ensures.kept ∙ ap (λ k. guardian_events o (seen_of w) k) number)

pub returns-clause-held : goal.returns-clause-held
returns-clause-held g c =
    let o = g.K.OfRun.opening in
    let x = c.held.invariant in
    let looks = c.look_alone-part.ensures.looks in
    let w = c.step_own-part.result.0.token.me.0 in
    let it = outcome_of (λ a. a.receipt) c.step_own-part.result.1 in
    let added = has_added it in
    let number = c.number-number.ensures.number (standing o x.past x.number) x.here in
    let moved = c.step_own-part.ensures.moved in
    let part = alone_back added x.number x.allowed x.past looks.past _ w (seen_alone x looks) moved.moved in
    let old = g.G.Guardian.stored c.held.inside.guardian in
    let new = g.G.Guardian.stored c.step_own-part.new.guardian in
    left_is o g.G.Guardian.stored c.args.step.now it x.number x.allowed (cond added (x.allowed - 1) x.allowed) x.past (seen_of w) c.held.view_is x.parts
    part (c.held.inside.left - c.drawn.result)
    (alone_since x looks moved.since)
    (subst (λ k. StoreAfter o c.args.step.now it (seen_of w) k old new) number c.step_own-part.ensures.store)
