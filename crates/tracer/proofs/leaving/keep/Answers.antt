use Rattle.std.proofs.Common.{eq-eqb}
use Rattle.std.proofs.lemmas.Bool.{ne_eqb}
use Rattle.std.proofs.lemmas.Result.{on_ok_weaker}
use Rattle.tracer.proofs.Putting.{kept_at_both, kept_at_one}
use Rattle.tracer.proofs.leaving.keep.Goals as goal

pub returns-then-one-other : goal.returns-then-one-other
returns-then-one-other c = λ past known.
    kept_at_one past (c.args.stamp, c.args.event.now) _ _ (c.in_ok-one.ensures past known) _ _ _ c.in_ok-keep_with_registry.ensures c.in_ok-keep_at.ensures
    (eq-eqb c.in_ok-one.one c.in_ok-one.other c.if-one-other.true)

pub returns : goal.returns
returns c = λ past known.
    on_ok_weaker c.keep_at-2.result
    (λ put. kept_at_both past (c.args.stamp, c.args.event.now) _ _ (c.in_ok-one.ensures past known) _ _ _ c.in_ok-keep_with_registry.ensures
    c.in_ok-keep_at.ensures _ put (ne_eqb c.in_ok-one.one c.in_ok-one.other c.if-one-other.false))
    c.keep_at-2.ensures
