use Rattle.std.proofs.Common.{string_bytes, subst, take}
use Rattle.std.specs.Io.BufRead.{FillKeeps}
use Rattle.argus_engine.specs.Reading.{AnswersLine, AreBefore}
use Rattle.argus_engine.proofs.Bytes.{gives_ready, line_goes_on, line_stops, made_of_line, takes_line}
use Rattle.argus_engine.proofs.Stepped.{also}
use Rattle.argus_engine.proofs.engine.answer_ready.Goals.{in-true, in-false}
use Rattle.argus_engine.proofs.engine.answer_ready.Goals as goal

pub returns-clause-ok : goal.returns-clause-ok
returns-clause-ok g c =
    let old = g.R.Read.remaining c.args.reader.now in
    let new = g.R.Read.remaining c.consume.new.self in
    let ready = c.in-Ok.ready.now in
    let rested = c.fill_buf.follows.lender-at-none in
    let filled =
    subst (FillKeeps _ (g.R.Read.remaining rested) (g.R.BufRead.consumable_len rested)) c.in-Ok.is c.fill_buf.follows.holds-at-none in
    let front = c.front_of-front.result in
    let before = subst (AreBefore ready front.count front.taken) c.in-LineFeed.is c.front_of-front.ensures.front in
    let taken = takes_line old (g.R.Read.remaining rested) new (g.R.BufRead.consumable_len rested) ready front.count front.taken before
    c.in-Ok.ensures.front c.in-Ok.ensures.end filled.0 filled.1 c.consume.ensures.bytes in
    let line = take front.count ready in
    let world = (g.M.MakesSteps.run c.args.world.now) in
    let after = (g.M.MakesSteps.run c.answer_line.new.world) in
    let pending = string_bytes c.args.answers.now in
    let grown = string_bytes c.answer_line.new.answers in
    let answers = AnswersLine line world after pending grown in
    elim c.if-branch.branch [
      | in-true w ↦ line_goes_on old new line world after pending grown c.if-branch.next taken (subst answers w.in-true.is c.in_ok-answer_line.ensures.ok) w.next-is
      | in-false w ↦ line_stops old new line world after pending grown c.if-branch.next taken before.3 (subst answers w.in-false.is c.in_ok-answer_line.ensures.ok) w.next-is
    ]

pub returns-in_err-answer_line-clause-once : goal.returns-in_err-answer_line-clause-once
returns-in_err-answer_line-clause-once g c =
    let old = g.R.Read.remaining c.args.reader.now in
    let ready = c.in-Ok.ready.now in
    let front = c.front_of-front.result in
    let before = subst (AreBefore ready front.count front.taken) c.in-LineFeed.is c.front_of-front.ensures.front in
    also c.from_residual.result (made_of_line old (take front.count ready) (g.M.MakesSteps.run c.args.world.now) (g.M.MakesSteps.run c.answer_line.new.world)
    (gives_ready old ready front.count front.taken before c.in-Ok.ensures.front) c.in_err-answer_line.ensures.once)
