use Rattle.std.proofs.Common.{arith, sym, ◌∙◌}
use Rattle.service.specs.Retrying.{goes_on}
use Rattle.service.proofs.Again.{goes_on_more, goes_on_none, last_of, last_so}
use Rattle.service.proofs.service.Service.transact_with_retries.Goals as goal

pub loop-init : goal.loop-init
loop-init g c =
    goes_on_none g.W.MakesOwnSteps.sees g.J.Work.does (goes_on g.J.Error.MayPass.obstacle c.args.retries.now) c.args.home (g.W.MakesOwnSteps.run c.args.self.now.world)
    c.args.work.now

pub returns-then-not-go_on_after : goal.returns-then-not-go_on_after
returns-then-not-go_on_after g c =
    let run = g.W.MakesOwnSteps.run in
    last_so g.W.MakesOwnSteps.sees g.J.Work.does (goes_on g.J.Error.MayPass.obstacle c.args.retries.now) c.args.home c.loop.counter c.args.retries.now.times
    (run c.args.self.now.world) (run c.loop.self.world) (run c.transact-ended.new.self.world) c.args.work.now c.loop.work c.transact-ended.new.work
    c.transact-ended.result c.loop-test.true c.loop.invariant
    (record { transacts = c.transact-ended.ensures.ended; once = c.transact-ended.ensures.once })
    (sym c.go_on_after.ensures ∙ c.if-not-go_on_after.true)

pub loop-preserved : goal.loop-preserved
loop-preserved g c =
    let run = g.W.MakesOwnSteps.run in
    goes_on_more g.W.MakesOwnSteps.sees g.J.Work.does (goes_on g.J.Error.MayPass.obstacle c.args.retries.now) c.args.home c.loop.counter (run c.args.self.now.world)
    (run c.loop.self.world) (run c.transact-ended.new.self.world) c.args.work.now c.loop.work c.transact-ended.new.work c.transact-ended.result c.loop.invariant
    (record { transacts = c.transact-ended.ensures.ended; once = c.transact-ended.ensures.once })
    (sym c.go_on_after.ensures ∙ c.if-not-go_on_after.false)

pub returns : goal.returns
returns g c =
    let run = g.W.MakesOwnSteps.run in
    last_of g.W.MakesOwnSteps.sees g.J.Work.does (goes_on g.J.Error.MayPass.obstacle c.args.retries.now) c.args.home c.loop.counter c.args.retries.now.times
    (run c.args.self.now.world) (run c.loop.self.world) (run c.transact.new.self.world) c.args.work.now c.loop.work c.transact.new.work c.transact.result (omega arith)
    c.loop-test.false c.loop.invariant (record { transacts = c.transact.ensures.ended; once = c.transact.ensures.once })
