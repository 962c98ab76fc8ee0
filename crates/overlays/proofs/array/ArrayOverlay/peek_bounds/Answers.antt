use Rattle.std.proofs.Common.{sym, ap, ◌∙◌, subst, arith, rules}
use Rattle.std.proofs.lemmas.Int.{ints}
use Rattle.overlays.specs.ArrayOverlays.{ArrayChange, AreLimited, AreLimitedWhere}
use Rattle.overlays.proofs.ArrayNotes.{peek_low, peek_high, peek_size, peek_same}
use Rattle.overlays.proofs.array.ArrayOverlay.peek_bounds.Goals as goal

pub returns-in_default : goal.returns-in_default
returns-in_default c = λ a.
    peek_same a c.args.self.now c.args.op.now (sym (ap (λ (o : ArrayChange). o.bounds) c.self.view_is) ∙ c.in_default.is) c.requires.reads c.requires.bounds

pub returns-in-Low : goal.returns-in-Low
returns-in-Low c = λ a.
    let limits : AreLimited c.in-Some.bounds = subst AreLimitedWhere c.in-Some.is c.self.invariant in
    peek_low a c.args.self.now c.in-Some.bounds (sym (ap (λ (o : ArrayChange). o.bounds) c.self.view_is) ∙ c.in-Some.is) c.args.op.now _ c.in-Low.is
    (first_of (search rules, omega (arith, ints, limits.low, limits.high, limits.size)))

pub returns-in-High : goal.returns-in-High
returns-in-High c = λ a.
    let limits : AreLimited c.in-Some.bounds = subst AreLimitedWhere c.in-Some.is c.self.invariant in
    peek_high a c.args.self.now c.in-Some.bounds (sym (ap (λ (o : ArrayChange). o.bounds) c.self.view_is) ∙ c.in-Some.is) c.args.op.now _ c.in-High.is
    (first_of (search rules, omega (arith, ints, limits.low, limits.high, limits.size)))

pub returns-in-Size : goal.returns-in-Size
returns-in-Size c = λ a.
    let limits : AreLimited c.in-Some.bounds = subst AreLimitedWhere c.in-Some.is c.self.invariant in
    peek_size a c.args.self.now c.in-Some.bounds (sym (ap (λ (o : ArrayChange). o.bounds) c.self.view_is) ∙ c.in-Some.is) c.args.op.now _ c.in-Size.is
    (first_of (search rules, omega (arith, ints, limits.low, limits.high, limits.size)))
