use Rattle.std.proofs.Common.{◌∙◌, IfSome, ap, inl, inr, subst}
use Rattle.run_model.specs.Texts.{Spells}
use Rattle.run_model.specs.Runs.{world_after}
use Rattle.stepping.proofs.Making.{made_none, made_one}
use Rattle.argus_engine.specs.Serving.{GaveUp}
use Rattle.argus_engine.proofs.Stepped.{also, failed_here, fault_of_either}
use Rattle.argus_engine.proofs.GivenUp.{gave_up_here, passed_on}
use Rattle.argus_engine.proofs.engine.answer_line.Goals as goal

pub returns-in_default-clause-made : goal.returns-in_default-clause-made
returns-in_default-clause-made g c = made_none g.M.MakesSteps.run g.M.MakesSteps.leaves _

pub returns-in_err-answer-clause-fault : goal.returns-in_err-answer-clause-fault
returns-in_err-answer-clause-fault g c = fault_of_either c.in_err-answer.field-0.0 c.from_residual-in_err-answer.result c.from_residual-in_err-answer.ensures.1

pub returns-in_err-answer-clause-cause : goal.returns-in_err-answer-clause-cause
returns-in_err-answer-clause-cause g c =
    failed_here g.M.MakesSteps.run g.M.MakesSteps.leaves c.args.world.now c.step.new.self c.in-Some.step c.in_err-answer.field-0.0 c.from_residual-in_err-answer.result
    c.from_residual-in_err-answer.ensures.1 c.in_err-answer.ensures.err c.in_err-answer.ensures.stores

pub returns-clause-made : goal.returns-clause-made
returns-clause-made g c =
    made_one g.M.MakesSteps.run g.M.MakesSteps.leaves c.args.world.now c.step.new.self c.in-Some.step c.in_ok-answer.answer c.in_ok-answer.ensures.answer
    c.in_ok-answer.ensures.after c.in_ok-answer.ensures.stores

pub returns-in_err-answer-clause-once : goal.returns-in_err-answer-clause-once
returns-in_err-answer-clause-once g c = also c.from_residual-in_err-answer.result (inl c.in_err-answer.ensures.err)

pub returns-in_err-push_answer-clause-once : goal.returns-in_err-push_answer-clause-once
returns-in_err-push_answer-clause-once g c = also c.from_residual-in_err-push_answer.result (inr (
  c.in-Some.step,
  subst (λ r. IfSome r (λ s. Spells c.args.line.now s)) c.in-Some.is c.in_ok-step.ensures.found,
  c.in_ok-answer.ensures.after ∙ ap (λ a. world_after (g.M.MakesSteps.run c.args.world.now) c.in-Some.step a) c.in_ok-answer.ensures.answer,
))

pub returns-in_err-answer-clause-left : goal.returns-in_err-answer-clause-left
returns-in_err-answer-clause-left g c =
    let run = g.M.MakesSteps.run in
    let leaves = g.M.MakesSteps.leaves in
    passed_on (GaveUp run leaves c.args.world.now c.step.new.self) _ c.from_residual-in_err-answer.result c.from_residual-in_err-answer.ensures.1
    (gave_up_here run leaves c.args.world.now c.step.new.self c.in-Some.step c.in_err-answer.field-0.0 (made_none run leaves c.args.world.now)
    c.in_err-answer.ensures.err c.in_err-answer.ensures.stores)

pub returns-in_err-push_answer-clause-left : goal.returns-in_err-push_answer-clause-left
returns-in_err-push_answer-clause-left g c =
    let run = g.M.MakesSteps.run in
    let leaves = g.M.MakesSteps.leaves in
    passed_on (GaveUp run leaves c.args.world.now c.step.new.self) _ c.from_residual-in_err-push_answer.result c.from_residual-in_err-push_answer.ensures.1
    (inl (made_one run leaves c.args.world.now c.step.new.self c.in-Some.step c.in_ok-answer.answer c.in_ok-answer.ensures.answer
    c.in_ok-answer.ensures.after c.in_ok-answer.ensures.stores))
