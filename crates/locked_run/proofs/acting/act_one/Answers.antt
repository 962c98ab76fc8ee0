use Rattle.std.proofs.Common.{ap, cond, subst, sym, ◌-◌, ◌∙◌, ◌≤◌}
use Rattle.one_run.specs.Pieces.{seen_of}
use Rattle.world_steps.specs.Standings.{standing}
use Rattle.locked_run.specs.Acting.{StoreAfter, has_added, outcome_of}
use Rattle.locked_run.specs.Parts.{AreKept, AreLocked}
use Rattle.locked_run.specs.Stored.{guardian_events}
use Rattle.locked_run.proofs.Under.{fits_two, held_again, kept_two, left_alone_is, left_alone_there, left_is, left_there, locked_two, one_since, registry_since, seen_two, still_enough, two_back}
use Rattle.locked_run.proofs.acting.act_one.Goals as goal

pub returns-then-held-eq0-clause-held : goal.returns-then-held-eq0-clause-held
returns-then-held-eq0-clause-held g c = left_alone_is g.K.OfRun.opening g.G.Guardian.stored c.args.step.now c.args.held.now

pub returns-then-held-eq0-clause-registry : goal.returns-then-held-eq0-clause-registry
returns-then-held-eq0-clause-registry g c = left_alone_there c.args.registry.now

pub step_one-part-requires-clause-locked : goal.step_one-part-requires-clause-locked
step_one-part-requires-clause-locked g c =
    let o = g.K.OfRun.opening in
    let x = c.held.invariant in
    let number = c.number-number.ensures.number (standing o x.past x.number) x.here in
    let forest = g.R.Forest.stands c.registry.inside.registry in
    let one = g.G.Guardian.stands c.held.inside.guardian in
    subst (λ k. AreLocked o forest one one k k c.gather_two-part.result.token.me.0) (sym number) (locked_two x c.registry.invariant c.gather_two-part.ensures.looks)

pub step_one-part-requires-clause-kept : goal.step_one-part-requires-clause-kept
step_one-part-requires-clause-kept g c =
    let o = g.K.OfRun.opening in
    let x = c.held.invariant in
    let number = c.number-number.ensures.number (standing o x.past x.number) x.here in
    let one = c.held.inside.history in
    subst (λ k. AreKept o k k (seen_of c.gather_two-part.result.token.me.0) one one c.registry.inside.history) (sym number)
    (kept_two x c.registry.invariant c.gather_two-part.ensures.looks)

pub step_one-part-requires-clause-store : goal.step_one-part-requires-clause-store
step_one-part-requires-clause-store g c =
    let x = c.held.invariant in
    let s = standing g.K.OfRun.opening x.past x.number in
    (s, c.number-number.ensures.whole s x.here)

pub invariant_of-held : goal.invariant_of-held
invariant_of-held g c =
    let o = g.K.OfRun.opening in
    let x = c.held.invariant in
    let z = c.registry.invariant in
    let looks = c.gather_two-part.ensures.looks in
    let w = c.step_one-part.result.0.token.me.0 in
    let added = has_added (outcome_of (λ a. a.receipt) c.step_one-part.result.1) in
    let number = c.number-number.ensures.number (standing o x.past x.number) x.here in
    let parts = two_back added x.number x.allowed z.left x.past z.past looks.past _ w (seen_two x z looks) c.step_one-part.ensures.moved.moved in
    let stands = g.G.Guardian.stands c.step_one-part.new.guardian in
    held_again x (cond added (x.allowed - 1) x.allowed) (c.held.inside.left - c.drawn.result) (seen_of w) c.scatter_two.ensures.tables.0
    (c.scatter_two.ensures.first ∙ parts.first)
    (subst (λ n. c.held.inside.left - n ≤ cond added (x.allowed - 1) x.allowed) (sym c.drawn.ensures) (still_enough added c.held.inside.left x.allowed x.enough))
    c.step_one-part.ensures.locked.first.run
    (subst (λ k. stands (standing o (seen_of w) k)) number c.step_one-part.ensures.locked.first.here)
    (c.step_one-part.ensures.kept.first ∙ ap (λ k. guardian_events o (seen_of w) k) number)

pub returns-clause-held : goal.returns-clause-held
returns-clause-held g c =
    let o = g.K.OfRun.opening in
    let x = c.held.invariant in
    let z = c.registry.invariant in
    let looks = c.gather_two-part.ensures.looks in
    let w = c.step_one-part.result.0.token.me.0 in
    let it = outcome_of (λ a. a.receipt) c.step_one-part.result.1 in
    let added = has_added it in
    let number = c.number-number.ensures.number (standing o x.past x.number) x.here in
    let moved = c.step_one-part.ensures.moved in
    let parts = two_back added x.number x.allowed z.left x.past z.past looks.past _ w (seen_two x z looks) moved.moved in
    let old = g.G.Guardian.stored c.held.inside.guardian in
    let new = g.G.Guardian.stored c.step_one-part.new.guardian in
    left_is o g.G.Guardian.stored c.args.step.now it x.number x.allowed (cond added (x.allowed - 1) x.allowed) x.past (seen_of w) c.held.view_is x.parts
    (c.scatter_two.ensures.first ∙ parts.first) (c.held.inside.left - c.drawn.result)
    (one_since (seen_two x z looks) (fits_two x z looks) moved.since)
    (subst (λ k. StoreAfter o c.args.step.now it (seen_of w) k old new) number c.step_one-part.ensures.store)

pub returns-clause-registry : goal.returns-clause-registry
returns-clause-registry g c =
    let x = c.held.invariant in
    let z = c.registry.invariant in
    let looks = c.gather_two-part.ensures.looks in
    let w = c.step_one-part.result.0.token.me.0 in
    let it = outcome_of (λ a. a.receipt) c.step_one-part.result.1 in
    let moved = c.step_one-part.ensures.moved in
    let parts = two_back (has_added it) x.number x.allowed z.left x.past z.past looks.past _ w (seen_two x z looks) moved.moved in
    left_there it z.left z.left z.past (seen_of w) c.registry.view_is z.parts (c.scatter_two.ensures.second ∙ parts.second)
    (registry_since (seen_two x z looks) (fits_two x z looks) moved.since)
