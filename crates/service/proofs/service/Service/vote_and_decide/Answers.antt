use Rattle.std.proofs.lemmas.Iterator.{YieldsList-from_slice}
use Rattle.service.proofs.Phases.{driven, phases_conclude, phases_down, phases_stopped, phases_voted}
use Rattle.service.proofs.service.Service.vote_and_decide.Goals as goal

pub returns-clause-concludes : goal.returns-clause-concludes
returns-clause-concludes g c =
    let run = g.W.MakesOwnSteps.run in
    let sees = g.W.MakesOwnSteps.sees in
    let leaves = g.W.MakesOwnSteps.leaves in
    let gs = c.args.guardians.now in
    let drive = c.commit_by_two_phases in
    phases_conclude run sees leaves c.args.top.now gs drive.result c.args.self.now.world drive.new.steps.world
    (driven run sees leaves c.args.self.now drive.new.steps (λ s. s.world) c.args.top.now gs drive.result
    (drive.ensures gs (YieldsList-from_slice gs c.iter.ensures.rest).runs))

pub returns-clause-voted : goal.returns-clause-voted
returns-clause-voted g c =
    let run = g.W.MakesOwnSteps.run in
    let sees = g.W.MakesOwnSteps.sees in
    let leaves = g.W.MakesOwnSteps.leaves in
    let gs = c.args.guardians.now in
    let drive = c.commit_by_two_phases in
    phases_voted run sees leaves c.args.top.now gs drive.result c.args.self.now.world drive.new.steps.world
    (driven run sees leaves c.args.self.now drive.new.steps (λ s. s.world) c.args.top.now gs drive.result
    (drive.ensures gs (YieldsList-from_slice gs c.iter.ensures.rest).runs))

pub returns-clause-down : goal.returns-clause-down
returns-clause-down g c =
    let run = g.W.MakesOwnSteps.run in
    let sees = g.W.MakesOwnSteps.sees in
    let leaves = g.W.MakesOwnSteps.leaves in
    let gs = c.args.guardians.now in
    let drive = c.commit_by_two_phases in
    phases_down run sees leaves c.args.top.now gs drive.result c.args.self.now.world drive.new.steps.world
    (driven run sees leaves c.args.self.now drive.new.steps (λ s. s.world) c.args.top.now gs drive.result
    (drive.ensures gs (YieldsList-from_slice gs c.iter.ensures.rest).runs))

pub returns-clause-stopped : goal.returns-clause-stopped
returns-clause-stopped g c =
    let run = g.W.MakesOwnSteps.run in
    let sees = g.W.MakesOwnSteps.sees in
    let leaves = g.W.MakesOwnSteps.leaves in
    let gs = c.args.guardians.now in
    let drive = c.commit_by_two_phases in
    phases_stopped run sees leaves c.args.top.now gs drive.result c.args.self.now.world drive.new.steps.world
    (driven run sees leaves c.args.self.now drive.new.steps (λ s. s.world) c.args.top.now gs drive.result
    (drive.ensures gs (YieldsList-from_slice gs c.iter.ensures.rest).runs))
