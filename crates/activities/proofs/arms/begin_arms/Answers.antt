use Rattle.std.proofs.Common.{[], ap, option_map, reverse, sym, ◌∙◌}
use Rattle.run_model.specs.Openings.{opening_in}
use Rattle.activities.proofs.ArmNames.{none_waits, waiting_begun, waiting_each}
use Rattle.activities.proofs.Making.{makes_named}
use Rattle.activities.proofs.arms.begin_arms.Goals as goal

pub returns-in_err-answer-clause-makes : goal.returns-in_err-answer-clause-makes
returns-in_err-answer-clause-makes g c =
    makes_named c.args.action.now.name c.in_ok-copy.field-0 [] (g.W.ActivitySteps.run c.args.world.now) (g.W.ActivitySteps.run c.make.new.world) c.in_ok-copy.ensures.ok.1 c.make.ensures.makes

pub returns-clause-makes : goal.returns-clause-makes
returns-clause-makes g c =
    makes_named c.args.action.now.name c.in_ok-copy.field-0 [] (g.W.ActivitySteps.run c.args.world.now) (g.W.ActivitySteps.run c.make.new.world) c.in_ok-copy.ensures.ok.1 c.make.ensures.makes

pub returns-clause-each : goal.returns-clause-each
returns-clause-each g c =
    waiting_each c.waiting_by.result (λ names. names.items) (opening_in (g.W.ActivitySteps.run c.args.world.now).lists) c.in_ok-answer.ensures.answered.past
    c.in_ok-copy.field-0 c.in_ok-kinds.kinds c.args.arms.now c.in_ok-answer.answer c.waiting_by.ensures
    c.in_ok-answer.ensures.answered.answered c.in_ok-kinds.ensures

pub returns-clause-began : goal.returns-clause-began
returns-clause-began g c =
    waiting_begun c.waiting_by.result (λ names. names.items) c.args.action.now.name c.in_ok-copy.field-0 (g.W.ActivitySteps.run c.args.world.now) (g.W.ActivitySteps.run c.make.new.world) c.in_ok-answer.answer
    c.in_ok-copy.ensures.ok.1 c.waiting_by.ensures c.in_ok-answer.ensures.began

pub returns-clause-none : goal.returns-clause-none
returns-clause-none g c = λ none.
    c.in_ok-answer.ensures.after
    ∙ none_waits (g.W.ActivitySteps.run c.args.world.now) (opening_in (g.W.ActivitySteps.run c.args.world.now).lists) c.in_ok-answer.ensures.answered.past c.in_ok-copy.field-0 c.in_ok-kinds.kinds c.in_ok-answer.answer
    c.in_ok-answer.ensures.answered.answered (sym (ap (option_map (λ names. reverse names.items)) none) ∙ c.waiting_by.ensures)
