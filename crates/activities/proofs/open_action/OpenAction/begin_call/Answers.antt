use Rattle.std.proofs.Common.{[], ap, sym, ◌∙◌}
use Rattle.activities.specs.Ends.{called}
use Rattle.activities.proofs.Making.{begins_named, makes_named}
use Rattle.activities.proofs.Waiting.{called_names}
use Rattle.activities.proofs.Steps.{call_begins_one}
use Rattle.run_model.specs.Openings.{opening_in}
use Rattle.activities.proofs.open_action.OpenAction.begin_call.Goals as goal

pub what_came-requires : goal.what_came-requires
what_came-requires g c names h =
    call_begins_one (opening_in (g.W.ActivitySteps.run c.args.world.now).lists) c.in_ok-copy.field-0 c.args.guardian
    c.in_ok-answer.ensures.answered.past names (sym h ∙ c.in_ok-answer.ensures.answered.answered)

pub returns-in_err-answer-clause-makes : goal.returns-in_err-answer-clause-makes
returns-in_err-answer-clause-makes g c =
    makes_named c.args.self.now.name c.in_ok-copy.field-0 [] (g.W.ActivitySteps.run c.args.world.now) (g.W.ActivitySteps.run c.make.new.world) c.in_ok-copy.ensures.ok.1 c.make.ensures.makes

pub returns-clause-makes : goal.returns-clause-makes
returns-clause-makes g c =
    makes_named c.args.self.now.name c.in_ok-copy.field-0 [] (g.W.ActivitySteps.run c.args.world.now) (g.W.ActivitySteps.run c.make.new.world) c.in_ok-copy.ensures.ok.1 c.make.ensures.makes

pub returns-clause-began : goal.returns-clause-began
returns-clause-began g c =
    begins_named c.args.self.now.name c.in_ok-copy.field-0 _ _ (g.W.ActivitySteps.run c.args.world.now) (g.W.ActivitySteps.run c.make.new.world) c.in_ok-copy.ensures.ok.1
    (sym (ap called c.what_came.ensures ∙ called_names c.in_ok-answer.answer (λ names h. call_begins_one (opening_in (g.W.ActivitySteps.run c.args.world.now).lists) c.in_ok-copy.field-0 c.args.guardian
    c.in_ok-answer.ensures.answered.past names (sym h ∙ c.in_ok-answer.ensures.answered.answered))))
    c.in_ok-answer.ensures.began
