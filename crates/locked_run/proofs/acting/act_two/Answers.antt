use Rattle.std.proofs.Common.{ap, cond, subst, sym, ◌-◌, ◌∙◌, ◌≤◌}
use Rattle.one_run.specs.Pieces.{seen_of}
use Rattle.world_steps.specs.Standings.{standing}
use Rattle.locked_run.specs.Acting.{StoreAfter, has_added, outcome_of}
use Rattle.locked_run.specs.Parts.{AreKept, AreLocked}
use Rattle.locked_run.specs.Stored.{guardian_events}
use Rattle.locked_run.proofs.Under.{first_since, fits_three, held_again, kept_three, left_alone_is, left_alone_there, left_is, left_there, locked_three, second_since, seen_three, still_enough, third_since, three_back}
use Rattle.locked_run.proofs.acting.act_two.Goals as goal

pub returns-then-low-high-clause-one : goal.returns-then-low-high-clause-one
returns-then-low-high-clause-one g c = left_alone_is g.K.OfRun.opening g.G.Guardian.stored c.args.step.now c.args.one.now

pub returns-then-low-high-clause-other : goal.returns-then-low-high-clause-other
returns-then-low-high-clause-other g c = left_alone_is g.K.OfRun.opening g.G.Guardian.stored c.args.step.now c.args.other.now

pub returns-then-low-high-clause-registry : goal.returns-then-low-high-clause-registry
returns-then-low-high-clause-registry g c = left_alone_there c.args.registry.now

pub step_two-part-requires-clause-locked : goal.step_two-part-requires-clause-locked
step_two-part-requires-clause-locked g c =
    let o = g.K.OfRun.opening in
    let x = c.one.invariant in
    let y = c.other.invariant in
    let low = c.number-low.ensures.number (standing o x.past x.number) x.here in
    let high = c.number-high.ensures.number (standing o y.past y.number) y.here in
    let forest = g.R.Forest.stands c.registry.inside.registry in
    let one = g.G.Guardian.stands c.one.inside.guardian in
    let other = g.G.Guardian.stands c.other.inside.guardian in
    let w = c.gather_three-part.result.token.me.0 in
    subst (λ k. AreLocked o forest one other k c.number-high.result w) (sym low)
    (subst (λ k. AreLocked o forest one other x.number k w) (sym high) (locked_three x y c.registry.invariant c.gather_three-part.ensures.looks))

pub step_two-part-requires-clause-kept : goal.step_two-part-requires-clause-kept
step_two-part-requires-clause-kept g c =
    let o = g.K.OfRun.opening in
    let x = c.one.invariant in
    let y = c.other.invariant in
    let low = c.number-low.ensures.number (standing o x.past x.number) x.here in
    let high = c.number-high.ensures.number (standing o y.past y.number) y.here in
    let past = seen_of c.gather_three-part.result.token.me.0 in
    let one = c.one.inside.history in
    let other = c.other.inside.history in
    let registry = c.registry.inside.history in
    subst (λ k. AreKept o k c.number-high.result past one other registry) (sym low)
    (subst (λ k. AreKept o x.number k past one other registry) (sym high) (kept_three x y c.registry.invariant c.gather_three-part.ensures.looks))

pub step_two-part-requires-clause-first_store : goal.step_two-part-requires-clause-first_store
step_two-part-requires-clause-first_store g c =
    let x = c.one.invariant in
    let s = standing g.K.OfRun.opening x.past x.number in
    (s, c.number-low.ensures.whole s x.here)

pub step_two-part-requires-clause-second_store : goal.step_two-part-requires-clause-second_store
step_two-part-requires-clause-second_store g c =
    let y = c.other.invariant in
    let s = standing g.K.OfRun.opening y.past y.number in
    (s, c.number-high.ensures.whole s y.here)

pub invariant_of-one : goal.invariant_of-one
invariant_of-one g c =
    let o = g.K.OfRun.opening in
    let x = c.one.invariant in
    let y = c.other.invariant in
    let z = c.registry.invariant in
    let looks = c.gather_three-part.ensures.looks in
    let w = c.step_two-part.result.0.token.me.0 in
    let added = has_added (outcome_of (λ a. a.receipt) c.step_two-part.result.1) in
    let low = c.number-low.ensures.number (standing o x.past x.number) x.here in
    let parts = three_back added x.number x.allowed y.number y.allowed z.left x.past y.past z.past looks.past _ w (seen_three x y z looks) c.step_two-part.ensures.moved.moved in
    let stands = g.G.Guardian.stands c.step_two-part.new.one in
    held_again x (cond added (x.allowed - 1) x.allowed) (c.one.inside.left - c.drawn.result) (seen_of w) c.scatter_three.ensures.tables.0
    (c.scatter_three.ensures.first ∙ parts.first)
    (subst (λ n. c.one.inside.left - n ≤ cond added (x.allowed - 1) x.allowed) (sym c.drawn.ensures) (still_enough added c.one.inside.left x.allowed x.enough))
    c.step_two-part.ensures.locked.first.run
    (subst (λ k. stands (standing o (seen_of w) k)) low c.step_two-part.ensures.locked.first.here)
    (c.step_two-part.ensures.kept.first ∙ ap (λ k. guardian_events o (seen_of w) k) low)

pub invariant_of-other : goal.invariant_of-other
invariant_of-other g c =
    let o = g.K.OfRun.opening in
    let x = c.one.invariant in
    let y = c.other.invariant in
    let z = c.registry.invariant in
    let looks = c.gather_three-part.ensures.looks in
    let w = c.step_two-part.result.0.token.me.0 in
    let added = has_added (outcome_of (λ a. a.receipt) c.step_two-part.result.1) in
    let high = c.number-high.ensures.number (standing o y.past y.number) y.here in
    let parts = three_back added x.number x.allowed y.number y.allowed z.left x.past y.past z.past looks.past _ w (seen_three x y z looks) c.step_two-part.ensures.moved.moved in
    let stands = g.G.Guardian.stands c.step_two-part.new.other in
    held_again y y.allowed c.other.inside.left (seen_of w) c.scatter_three.ensures.tables.1
    (c.scatter_three.ensures.second ∙ parts.second) y.enough c.step_two-part.ensures.locked.second.run
    (subst (λ k. stands (standing o (seen_of w) k)) high c.step_two-part.ensures.locked.second.here)
    (c.step_two-part.ensures.kept.second ∙ ap (λ k. guardian_events o (seen_of w) k) high)

pub returns-clause-one : goal.returns-clause-one
returns-clause-one g c =
    let o = g.K.OfRun.opening in
    let x = c.one.invariant in
    let y = c.other.invariant in
    let z = c.registry.invariant in
    let looks = c.gather_three-part.ensures.looks in
    let w = c.step_two-part.result.0.token.me.0 in
    let it = outcome_of (λ a. a.receipt) c.step_two-part.result.1 in
    let added = has_added it in
    let low = c.number-low.ensures.number (standing o x.past x.number) x.here in
    let moved = c.step_two-part.ensures.moved in
    let parts = three_back added x.number x.allowed y.number y.allowed z.left x.past y.past z.past looks.past _ w (seen_three x y z looks) moved.moved in
    let old = g.G.Guardian.stored c.one.inside.guardian in
    let new = g.G.Guardian.stored c.step_two-part.new.one in
    left_is o g.G.Guardian.stored c.args.step.now it x.number x.allowed (cond added (x.allowed - 1) x.allowed) x.past (seen_of w) c.one.view_is x.parts
    (c.scatter_three.ensures.first ∙ parts.first) (c.one.inside.left - c.drawn.result)
    (first_since (seen_three x y z looks) (fits_three x y z looks) moved.since)
    (subst (λ k. StoreAfter o c.args.step.now it (seen_of w) k old new) low c.step_two-part.ensures.first_store)

pub returns-clause-other : goal.returns-clause-other
returns-clause-other g c =
    let o = g.K.OfRun.opening in
    let x = c.one.invariant in
    let y = c.other.invariant in
    let z = c.registry.invariant in
    let looks = c.gather_three-part.ensures.looks in
    let w = c.step_two-part.result.0.token.me.0 in
    let it = outcome_of (λ a. a.receipt) c.step_two-part.result.1 in
    let added = has_added it in
    let high = c.number-high.ensures.number (standing o y.past y.number) y.here in
    let moved = c.step_two-part.ensures.moved in
    let parts = three_back added x.number x.allowed y.number y.allowed z.left x.past y.past z.past looks.past _ w (seen_three x y z looks) moved.moved in
    let old = g.G.Guardian.stored c.other.inside.guardian in
    let new = g.G.Guardian.stored c.step_two-part.new.other in
    left_is o g.G.Guardian.stored c.args.step.now it y.number y.allowed y.allowed y.past (seen_of w) c.other.view_is y.parts
    (c.scatter_three.ensures.second ∙ parts.second) c.other.inside.left
    (second_since (seen_three x y z looks) (fits_three x y z looks) moved.since)
    (subst (λ k. StoreAfter o c.args.step.now it (seen_of w) k old new) high c.step_two-part.ensures.second_store)

pub returns-clause-registry : goal.returns-clause-registry
returns-clause-registry g c =
    let x = c.one.invariant in
    let y = c.other.invariant in
    let z = c.registry.invariant in
    let looks = c.gather_three-part.ensures.looks in
    let w = c.step_two-part.result.0.token.me.0 in
    let it = outcome_of (λ a. a.receipt) c.step_two-part.result.1 in
    let moved = c.step_two-part.ensures.moved in
    let parts = three_back (has_added it) x.number x.allowed y.number y.allowed z.left x.past y.past z.past looks.past _ w (seen_three x y z looks) moved.moved in
    left_there it z.left z.left z.past (seen_of w) c.registry.view_is z.parts (c.scatter_three.ensures.third ∙ parts.third)
    (third_since (seen_three x y z looks) (fits_three x y z looks) moved.since)
