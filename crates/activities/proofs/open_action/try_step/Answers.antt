use Rattle.activities.proofs.Failing.{quiet_over}
use Rattle.activities.proofs.Alone.{alone_after}
use Rattle.activities.proofs.Making.{result_tells}
use Rattle.activities.proofs.open_action.try_step.Goals as goal

pub returns-clause-told : goal.returns-clause-told
returns-clause-told g c = λ a about commits.
    result_tells a (g.W.ActivitySteps.run c.args.world.now) (g.W.ActivitySteps.run c.make.new.world) c.args.step c.is_done.result c.in_ok-answer.answer
    commits c.in_ok-answer.ensures.answered c.in_ok-answer.ensures.after c.is_done.ensures

pub returns-clause-after : goal.returns-clause-after
returns-clause-after g c = λ alone.
    alone_after c.args.step c.in_ok-answer.answer (g.W.ActivitySteps.run c.args.world.now) (g.W.ActivitySteps.run c.make.new.world) c.in_ok-answer.ensures.after (c.in_ok-answer.ensures.alone alone)

pub returns-in_err-answer-clause-over : goal.returns-in_err-answer-clause-over
returns-in_err-answer-clause-over g c = λ none.
    quiet_over g.W.ActivitySteps.alone g.W.ActivitySteps.fails (g.W.ActivitySteps.run c.args.world.now) (g.W.ActivitySteps.run c.make.new.world)
    c.args.step c.make.result c.requires.step c.make.ensures.answered c.make.ensures.began c.make.ensures.err none

pub returns-clause-over : goal.returns-clause-over
returns-clause-over g c = λ none.
    quiet_over g.W.ActivitySteps.alone g.W.ActivitySteps.fails (g.W.ActivitySteps.run c.args.world.now) (g.W.ActivitySteps.run c.make.new.world)
    c.args.step c.make.result c.requires.step c.make.ensures.answered c.make.ensures.began c.make.ensures.err none
