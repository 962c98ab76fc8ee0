use Rattle.std.proofs.Common.{ap, arith}
use Rattle.packed_history.proofs.Kept.{kept_whole}
use Rattle.packed_history.proofs.arenas.Arenas.keep_whole.Goals as goal

pub returns-clause-ok : goal.returns-clause-ok
returns-clause-ok c =
    let inside = c.self.inside in
    kept_whole c.args.self.now (record { numbers = inside.numbers.items; steps = inside.steps; answers = inside.answers; whole = c.push.new.self.items })
    c.args.event.now c.in_ok-of.field-0 inside.whole.items c.len-place.result (ap (λ p. p.numbers) c.self.view_is) (ap (λ p. p.steps) c.self.view_is)
    (ap (λ p. p.answers) c.self.view_is) (ap (λ p. p.whole) c.self.view_is) c.in_ok-push.ensures.items c.in_ok-of.ensures
    (omega (arith, c.len-place.ensures, inside.whole.ok.0))
