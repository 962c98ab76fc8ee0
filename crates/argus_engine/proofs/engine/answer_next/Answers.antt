use Rattle.std.proofs.Common.{string_bytes, subst}
use Rattle.argus_engine.specs.Reading.{MayGoOn}
use Rattle.argus_engine.proofs.Bytes.{goes_on_after, made_after_none}
use Rattle.argus_engine.proofs.GivenUp.{answers_later}
use Rattle.stepping.proofs.Making.{fails_after, made_after}
use Rattle.argus_engine.proofs.engine.answer_next.Goals as goal

pub returns-in-None-clause-ok : goal.returns-in-None-clause-ok
returns-in-None-clause-ok g c =
    let old = g.R.Read.remaining c.args.reader.now in
    let mid = g.R.Read.remaining c.answer_ready.new.reader in
    let world = (g.M.MakesSteps.run c.args.world.now) in
    let now = (g.M.MakesSteps.run c.answer_ready.new.world) in
    let pending = string_bytes c.args.answers.now in
    let held = string_bytes c.answer_ready.new.answers in
    let idle = subst (MayGoOn old mid world now pending held) c.in-None.is c.in_ok-next.ensures.ok in
    goes_on_after old mid (g.R.Read.remaining c.answer_read.new.reader) world now (g.M.MakesSteps.run c.answer_read.new.world) pending held
    (string_bytes c.answer_read.new.answers) idle c.answer_read.result c.answer_read.ensures.ok

pub returns-in-None-clause-made : goal.returns-in-None-clause-made
returns-in-None-clause-made g c =
    made_after g.M.MakesSteps.run g.M.MakesSteps.leaves c.args.world.now c.answer_ready.new.world c.answer_read.new.world c.in_ok-next.ensures.made c.answer_read.result
    c.answer_read.ensures.made

pub returns-in-None-clause-cause : goal.returns-in-None-clause-cause
returns-in-None-clause-cause g c e =
    fails_after g.M.MakesSteps.run g.M.MakesSteps.leaves c.args.world.now c.answer_ready.new.world c.answer_read.new.world c.in_ok-next.ensures.made (c.answer_read.ensures.cause e)

pub returns-in-None-clause-once : goal.returns-in-None-clause-once
returns-in-None-clause-once g c =
    let old = g.R.Read.remaining c.args.reader.now in
    let mid = g.R.Read.remaining c.answer_ready.new.reader in
    let world = (g.M.MakesSteps.run c.args.world.now) in
    let now = (g.M.MakesSteps.run c.answer_ready.new.world) in
    let pending = string_bytes c.args.answers.now in
    let held = string_bytes c.answer_ready.new.answers in
    let idle = subst (MayGoOn old mid world now pending held) c.in-None.is c.in_ok-next.ensures.ok in
    made_after_none old mid world now (g.M.MakesSteps.run c.answer_read.new.world) pending held idle c.answer_read.result c.answer_read.ensures.once

pub returns-in-None-clause-left : goal.returns-in-None-clause-left
returns-in-None-clause-left g c =
    answers_later g.M.MakesSteps.run g.M.MakesSteps.leaves c.args.world.now c.answer_ready.new.world c.answer_read.new.world c.in_ok-next.ensures.made c.answer_read.result
    c.answer_read.ensures.left
