use Rattle.std.proofs.Common.{◌≡◌, rules, subst}
use Rattle.activities.specs.Acting.{acting}
use Rattle.activities.specs.Serial.{two_phases}
use Rattle.activities.specs.TopSteps.{ComesTo}
use Rattle.activities.proofs.open_action.OpenAction.commit_top.Goals as goal

pub returns-clause-makes : goal.returns-clause-makes
returns-clause-makes g c =
    let same : c.commit_with.new.steps.world.now ≡ c.world-1.given.0 = search rules in
    (subst (λ w. ComesTo g.W.ActivitySteps.alone g.W.ActivitySteps.fails c.args.self.now.name (two_phases (acting c.args.self.now)) c.commit_with.result
    (g.W.ActivitySteps.run c.args.world.now) (g.W.ActivitySteps.run w)) same c.commit_with.ensures.comes).makes

pub returns-clause-told : goal.returns-clause-told
returns-clause-told g c =
    let same : c.commit_with.new.steps.world.now ≡ c.world-1.given.0 = search rules in
    (subst (λ w. ComesTo g.W.ActivitySteps.alone g.W.ActivitySteps.fails c.args.self.now.name (two_phases (acting c.args.self.now)) c.commit_with.result
    (g.W.ActivitySteps.run c.args.world.now) (g.W.ActivitySteps.run w)) same c.commit_with.ensures.comes).told

pub returns-clause-means : goal.returns-clause-means
returns-clause-means g c =
    let same : c.commit_with.new.steps.world.now ≡ c.world-1.given.0 = search rules in
    (subst (λ w. ComesTo g.W.ActivitySteps.alone g.W.ActivitySteps.fails c.args.self.now.name (two_phases (acting c.args.self.now)) c.commit_with.result
    (g.W.ActivitySteps.run c.args.world.now) (g.W.ActivitySteps.run w)) same c.commit_with.ensures.comes).means

pub returns-clause-over : goal.returns-clause-over
returns-clause-over g c =
    let same : c.commit_with.new.steps.world.now ≡ c.world-1.given.0 = search rules in
    (subst (λ w. ComesTo g.W.ActivitySteps.alone g.W.ActivitySteps.fails c.args.self.now.name (two_phases (acting c.args.self.now)) c.commit_with.result
    (g.W.ActivitySteps.run c.args.world.now) (g.W.ActivitySteps.run w)) same c.commit_with.ensures.comes).over

pub returns-clause-failed : goal.returns-clause-failed
returns-clause-failed g c = c.commit_with.ensures.comes.failed
