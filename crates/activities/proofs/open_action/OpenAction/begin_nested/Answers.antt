use Rattle.std.proofs.Common.{[], ap, sym, ◌∙◌}
use Rattle.activities.specs.Ends.{named_by}
use Rattle.activities.proofs.Making.{begins_named, makes_named}
use Rattle.activities.proofs.Waiting.{begun_names}
use Rattle.activities.proofs.Steps.{nested_begins_one}
use Rattle.run_model.specs.Openings.{opening_in}
use Rattle.activities.proofs.open_action.OpenAction.begin_nested.Goals as goal

pub begun_by-requires : goal.begun_by-requires
begun_by-requires g c names h =
    nested_begins_one (opening_in (g.W.ActivitySteps.run c.args.world.now).lists) c.in_ok-copy.field-0
    c.in_ok-answer.ensures.answered.past names (sym h ∙ c.in_ok-answer.ensures.answered.answered)

pub returns-in_err-answer-clause-makes : goal.returns-in_err-answer-clause-makes
returns-in_err-answer-clause-makes g c =
    makes_named c.args.self.now.name c.in_ok-copy.field-0 [] (g.W.ActivitySteps.run c.args.world.now) (g.W.ActivitySteps.run c.make.new.world) c.in_ok-copy.ensures.ok.1 c.make.ensures.makes

pub returns-clause-makes : goal.returns-clause-makes
returns-clause-makes g c =
    makes_named c.args.self.now.name c.in_ok-copy.field-0 [] (g.W.ActivitySteps.run c.args.world.now) (g.W.ActivitySteps.run c.make.new.world) c.in_ok-copy.ensures.ok.1 c.make.ensures.makes

pub returns-clause-began : goal.returns-clause-began
returns-clause-began g c =
    begins_named c.args.self.now.name c.in_ok-copy.field-0 _ _ (g.W.ActivitySteps.run c.args.world.now) (g.W.ActivitySteps.run c.make.new.world) c.in_ok-copy.ensures.ok.1
    (sym (ap named_by c.begun_by.ensures ∙ begun_names c.in_ok-answer.answer (λ names h. nested_begins_one (opening_in (g.W.ActivitySteps.run c.args.world.now).lists) c.in_ok-copy.field-0
    c.in_ok-answer.ensures.answered.past names (sym h ∙ c.in_ok-answer.ensures.answered.answered))))
    c.in_ok-answer.ensures.began
