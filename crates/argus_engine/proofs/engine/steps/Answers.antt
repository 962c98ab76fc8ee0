use Rattle.std.proofs.Common.{subst}
use Rattle.argus_engine.specs.Serving.{BeginsAnswers, MakesFirst, Writes}
use Rattle.stepping.proofs.Making.{made_none}
use Rattle.argus_engine.proofs.Stepped.{failed_later}
use Rattle.argus_engine.proofs.Progressed.{ends_begun, ends_nothing, buffered_gives, makes_none}
use Rattle.argus_engine.proofs.engine.steps.Goals as goal

pub returns-in_default-clause-begun : goal.returns-in_default-clause-begun
returns-in_default-clause-begun g c = ends_nothing _ _ _

pub returns-in_err-ended-clause-begun : goal.returns-in_err-ended-clause-begun
returns-in_err-ended-clause-begun g c =
    subst (λ input. Writes (g.W.Write.contents c.args.writer.now) (g.W.Write.contents c.finish-finished.new.writer) (λ written. BeginsAnswers input (g.M.MakesSteps.run c.args.world.now) written))
    (buffered_gives c.in-Ok.buffered _ (λ r. g.R.Read.remaining r.now) c.in-Ok.ensures.inner c.in-Ok.ensures.empty c.in-Ok.ensures.capacity)
    (ends_begun _ _ _ _ _ _ _ c.answer_all-ended.ensures.begun c.as_str.ensures.value c.finish-finished.ensures.front)

pub returns-in_err-finished-clause-begun : goal.returns-in_err-finished-clause-begun
returns-in_err-finished-clause-begun g c =
    subst (λ input. Writes (g.W.Write.contents c.args.writer.now) (g.W.Write.contents c.finish-finished.new.writer) (λ written. BeginsAnswers input (g.M.MakesSteps.run c.args.world.now) written))
    (buffered_gives c.in-Ok.buffered _ (λ r. g.R.Read.remaining r.now) c.in-Ok.ensures.inner c.in-Ok.ensures.empty c.in-Ok.ensures.capacity)
    (ends_begun _ _ _ _ _ _ _ c.answer_all-ended.ensures.begun c.as_str.ensures.value c.finish-finished.ensures.front)

pub returns-clause-begun : goal.returns-clause-begun
returns-clause-begun g c =
    subst (λ input. Writes (g.W.Write.contents c.args.writer.now) (g.W.Write.contents c.finish-finished.new.writer) (λ written. BeginsAnswers input (g.M.MakesSteps.run c.args.world.now) written))
    (buffered_gives c.in-Ok.buffered _ (λ r. g.R.Read.remaining r.now) c.in-Ok.ensures.inner c.in-Ok.ensures.empty c.in-Ok.ensures.capacity)
    (ends_begun _ _ _ _ _ _ _ c.answer_all-ended.ensures.begun c.as_str.ensures.value c.finish-finished.ensures.front)

pub returns-in_err-ended-clause-cause : goal.returns-in_err-ended-clause-cause
returns-in_err-ended-clause-cause g c =
    failed_later c.in_err-ended.field-0.0 c.from_residual.result c.from_residual.ensures.1 (made_none g.M.MakesSteps.run g.M.MakesSteps.leaves c.args.world.now)
    c.in_err-ended.ensures.cause

pub returns-in_default-clause-steps : goal.returns-in_default-clause-steps
returns-in_default-clause-steps g c = makes_none (g.R.Read.remaining c.args.reader.now) (g.M.MakesSteps.run c.args.world.now)

pub returns-in_err-ended-clause-steps : goal.returns-in_err-ended-clause-steps
returns-in_err-ended-clause-steps g c =
    subst (λ input. MakesFirst input (g.M.MakesSteps.run c.args.world.now) (g.M.MakesSteps.run c.answer_all-ended.new.world))
    (buffered_gives c.in-Ok.buffered _ (λ r. g.R.Read.remaining r.now) c.in-Ok.ensures.inner c.in-Ok.ensures.empty c.in-Ok.ensures.capacity)
    c.answer_all-ended.ensures.steps

pub returns-in_err-finished-clause-steps : goal.returns-in_err-finished-clause-steps
returns-in_err-finished-clause-steps g c =
    subst (λ input. MakesFirst input (g.M.MakesSteps.run c.args.world.now) (g.M.MakesSteps.run c.answer_all-ended.new.world))
    (buffered_gives c.in-Ok.buffered _ (λ r. g.R.Read.remaining r.now) c.in-Ok.ensures.inner c.in-Ok.ensures.empty c.in-Ok.ensures.capacity)
    c.answer_all-ended.ensures.steps

pub returns-clause-steps : goal.returns-clause-steps
returns-clause-steps g c =
    subst (λ input. MakesFirst input (g.M.MakesSteps.run c.args.world.now) (g.M.MakesSteps.run c.answer_all-ended.new.world))
    (buffered_gives c.in-Ok.buffered _ (λ r. g.R.Read.remaining r.now) c.in-Ok.ensures.inner c.in-Ok.ensures.empty c.in-Ok.ensures.capacity)
    c.answer_all-ended.ensures.steps
