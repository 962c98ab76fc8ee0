use Rattle.std.proofs.Common.{Err, Ok}
use Rattle.std.proofs.lemmas.Iterator.{YieldsList-from_slice}
use Rattle.service.specs.Ending.{IsEndingCut}
use Rattle.service.proofs.Ended.{error_with}
use Rattle.service.proofs.Phases.{abort_cut, driven, ended, phases_cut, told_cut}
use Rattle.service.proofs.service.Service.commit_top.Goals as goal

pub returns-in_err-committed-clause-cut : goal.returns-in_err-committed-clause-cut
returns-in_err-committed-clause-cut g c =
    let run = g.W.MakesOwnSteps.run in
    let sees = g.W.MakesOwnSteps.sees in
    let leaves = g.W.MakesOwnSteps.leaves in
    let top = c.args.top.now in
    let gs = c.args.participants.now in
    let old = c.args.self.now in
    let phased = c.commit_by_two_phases.new.steps in
    let fault = c.in_err-committed.field-0.0 in
    error_with c.from_residual.result fault (λ e. IsEndingCut run sees leaves top gs old.world phased.world e) c.from_residual.ensures.1
    (phases_cut run sees leaves top gs old.world phased.world fault
    (driven run sees leaves old phased (λ s. s.world) top gs (Err fault)
    (c.in_err-committed.ensures gs (YieldsList-from_slice gs c.iter.ensures.rest).runs)))

pub returns-in_err-abort_unless-clause-cut : goal.returns-in_err-abort_unless-clause-cut
returns-in_err-abort_unless-clause-cut g c =
    let run = g.W.MakesOwnSteps.run in
    let sees = g.W.MakesOwnSteps.sees in
    let leaves = g.W.MakesOwnSteps.leaves in
    let top = c.args.top.now in
    let gs = c.args.participants.now in
    let old = c.args.self.now in
    let phased = c.commit_by_two_phases.new.steps in
    let concluded = c.abort_unless.new.self in
    let fault = c.in_err-abort_unless.field-0.0 in
    error_with c.from_residual-in_err-abort_unless.result fault (λ e. IsEndingCut run sees leaves top gs old.world concluded.world e)
    c.from_residual-in_err-abort_unless.ensures.1
    (abort_cut run sees leaves top gs c.in_ok-committed.committed old.world phased.world concluded.world
    (driven run sees leaves old phased (λ s. s.world) top gs (Ok c.in_ok-committed.committed)
    (c.in_ok-committed.ensures gs (YieldsList-from_slice gs c.iter.ensures.rest).runs))
    fault c.in_err-abort_unless.ensures.aborts (λ e. (c.in_err-abort_unless.ensures.rests e).0))

pub returns-in_err-tell_all-clause-cut : goal.returns-in_err-tell_all-clause-cut
returns-in_err-tell_all-clause-cut g c =
    let run = g.W.MakesOwnSteps.run in
    let sees = g.W.MakesOwnSteps.sees in
    let leaves = g.W.MakesOwnSteps.leaves in
    let top = c.args.top.now in
    let gs = c.args.participants.now in
    let old = c.args.self.now in
    let phased = c.commit_by_two_phases.new.steps in
    let concluded = c.abort_unless.new.self in
    let new = c.tell_all.new.self in
    let fault = c.in_err-tell_all.field-0.0 in
    error_with c.from_residual-in_err-tell_all.result fault (λ e. IsEndingCut run sees leaves top gs old.world new.world e)
    c.from_residual-in_err-tell_all.ensures.1
    (told_cut run sees leaves top gs c.in_ok-committed.committed old.world phased.world concluded.world
    (driven run sees leaves old phased (λ s. s.world) top gs (Ok c.in_ok-committed.committed)
    (c.in_ok-committed.ensures gs (YieldsList-from_slice gs c.iter.ensures.rest).runs))
    c.in_ok-abort_unless.ensures.aborts (λ e. (c.in_ok-abort_unless.ensures.rests e).1) new.world fault c.in_err-tell_all.ensures.cut)

pub returns-clause-ended : goal.returns-clause-ended
returns-clause-ended g c =
    let run = g.W.MakesOwnSteps.run in
    let sees = g.W.MakesOwnSteps.sees in
    let leaves = g.W.MakesOwnSteps.leaves in
    let top = c.args.top.now in
    let gs = c.args.participants.now in
    let old = c.args.self.now in
    let phased = c.commit_by_two_phases.new.steps in
    let concluded = c.abort_unless.new.self in
    let new = c.tell_all.new.self in
    ended run sees leaves top gs c.in_ok-committed.committed old.world phased.world concluded.world
    (driven run sees leaves old phased (λ s. s.world) top gs (Ok c.in_ok-committed.committed)
    (c.in_ok-committed.ensures gs (YieldsList-from_slice gs c.iter.ensures.rest).runs))
    c.in_ok-abort_unless.ensures.aborts (λ e. (c.in_ok-abort_unless.ensures.rests e).1) new.world c.in_ok-tell_all.ensures.told
