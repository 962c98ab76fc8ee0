use Rattle.std.proofs.Common.{inl, inr, string_bytes, refl}
use Rattle.stepping.proofs.Making.{made_more, made_none}
use Rattle.argus_engine.specs.Serving.{GaveUp}
use Rattle.argus_engine.proofs.GivenUp.{gave_up_later, gave_up_writing, passed_on}
use Rattle.argus_engine.proofs.Stepped.{failed_later}
use Rattle.argus_engine.proofs.Progressed.{started, went_on, sent_some, begun, begun_part, done, stopped, begun_of_answers, kept_at_no_step, made_no_more, makes_first, may_make_next}
use Rattle.argus_engine.proofs.engine.answer_all.Goals as goal

pub loop-number-init : goal.loop-number-init
loop-number-init g c = record { running = started _ _ _ _ c.requires; made = made_none g.M.MakesSteps.run g.M.MakesSteps.leaves _ }

pub returns-in_err-answer_next-clause-cause : goal.returns-in_err-answer_next-clause-cause
returns-in_err-answer_next-clause-cause g c =
    failed_later c.in_err-answer_next.field-0.0 c.from_residual.result c.from_residual.ensures.1 c.loop-number.invariant.made
    c.in_err-answer_next.ensures.cause

pub returns-in_err-answer_next-clause-begun : goal.returns-in_err-answer_next-clause-begun
returns-in_err-answer_next-clause-begun g c = begun (string_bytes c.answer_next.new.answers) c.loop-number.invariant.running c.in_err-answer_next.ensures.err

pub returns-in_err-answer_next-clause-steps : goal.returns-in_err-answer_next-clause-steps
returns-in_err-answer_next-clause-steps g c =
    may_make_next (g.M.MakesSteps.run c.answer_next.new.world) c.loop-number.invariant.running c.in_err-answer_next.ensures.once

pub returns-in_err-push_error-in-NoStep-clause-begun : goal.returns-in_err-push_error-in-NoStep-clause-begun
returns-in_err-push_error-in-NoStep-clause-begun g c =
    begun (string_bytes c.push_error.new.answers) c.loop-number.invariant.running
    (kept_at_no_step _ _ _ _ _ _ (string_bytes c.push_error.new.answers) c.in_ok-answer_next.field-0 c.in_ok-answer_next.ensures.ok c.in-NoStep.is c.in_err-push_error-in-NoStep.ensures.err)

pub returns-in-NoStep-clause-ok : goal.returns-in-NoStep-clause-ok
returns-in-NoStep-clause-ok g c =
    stopped (g.R.Read.remaining c.answer_next.new.reader) (g.M.MakesSteps.run c.answer_next.new.world) (string_bytes c.answer_next.new.answers) (string_bytes c.push_error.new.answers) c.in_ok-answer_next.field-0 c.loop-number.invariant.running
    c.in_ok-answer_next.ensures.ok c.in-NoStep.is c.in_ok-push_error-in-NoStep.ensures.ok

pub returns-in-NoStep-clause-begun : goal.returns-in-NoStep-clause-begun
returns-in-NoStep-clause-begun g c =
    begun_of_answers _ _ _ _ _ _ _ (stopped (g.R.Read.remaining c.answer_next.new.reader) (g.M.MakesSteps.run c.answer_next.new.world) (string_bytes c.answer_next.new.answers) (string_bytes c.push_error.new.answers) c.in_ok-answer_next.field-0 c.loop-number.invariant.running
    c.in_ok-answer_next.ensures.ok c.in-NoStep.is c.in_ok-push_error-in-NoStep.ensures.ok)

pub returns-in-End-clause-ok : goal.returns-in-End-clause-ok
returns-in-End-clause-ok g c = done (g.R.Read.remaining c.answer_next.new.reader) (g.M.MakesSteps.run c.answer_next.new.world) (string_bytes c.answer_next.new.answers) c.in_ok-answer_next.field-0 c.loop-number.invariant.running c.in_ok-answer_next.ensures.ok c.in-End.is

pub returns-in-End-clause-begun : goal.returns-in-End-clause-begun
returns-in-End-clause-begun g c = begun_of_answers _ _ _ _ _ _ _ (done (g.R.Read.remaining c.answer_next.new.reader) (g.M.MakesSteps.run c.answer_next.new.world) (string_bytes c.answer_next.new.answers) c.in_ok-answer_next.field-0 c.loop-number.invariant.running c.in_ok-answer_next.ensures.ok c.in-End.is)

pub returns-in_err-send_if_full-clause-begun : goal.returns-in_err-send_if_full-clause-begun
returns-in_err-send_if_full-clause-begun g c =
    begun_part (g.W.Write.contents c.send_if_full.new.writer) (string_bytes c.send_if_full.new.text)
    (went_on (g.R.Read.remaining c.answer_next.new.reader) (g.M.MakesSteps.run c.answer_next.new.world) (string_bytes c.answer_next.new.answers) c.in_ok-answer_next.field-0 c.loop-number.invariant.running c.in_ok-answer_next.ensures.ok c.in-Answered.is)
    c.in_err-send_if_full.ensures.err.0 c.in_err-send_if_full.ensures.err.1

pub loop-number-preserved : goal.loop-number-preserved
loop-number-preserved g c = record {
  running =
      sent_some (g.W.Write.contents c.send_if_full.new.writer) (string_bytes c.send_if_full.new.text)
      (went_on (g.R.Read.remaining c.answer_next.new.reader) (g.M.MakesSteps.run c.answer_next.new.world) (string_bytes c.answer_next.new.answers) c.in_ok-answer_next.field-0 c.loop-number.invariant.running c.in_ok-answer_next.ensures.ok c.in-Answered.is) c.in_ok-send_if_full.ensures.ok;
  made = made_more g.M.MakesSteps.run g.M.MakesSteps.leaves c.args.world.now c.loop-number.world c.answer_next.new.world c.loop-number.invariant.made c.in_ok-answer_next.ensures.made;
}

pub returns-clause-begun : goal.returns-clause-begun
returns-clause-begun g c = begun (string_bytes c.loop-number.answers) c.loop-number.invariant.running refl

pub returns-in_err-push_error-in-NoStep-clause-steps : goal.returns-in_err-push_error-in-NoStep-clause-steps
returns-in_err-push_error-in-NoStep-clause-steps g c =
    made_no_more (g.R.Read.remaining c.answer_next.new.reader) (g.M.MakesSteps.run c.answer_next.new.world) (string_bytes c.answer_next.new.answers) c.in_ok-answer_next.field-0 c.loop-number.invariant.running
    c.in_ok-answer_next.ensures.ok (inl c.in-NoStep.is)

pub returns-in-NoStep-clause-steps : goal.returns-in-NoStep-clause-steps
returns-in-NoStep-clause-steps g c =
    made_no_more (g.R.Read.remaining c.answer_next.new.reader) (g.M.MakesSteps.run c.answer_next.new.world) (string_bytes c.answer_next.new.answers) c.in_ok-answer_next.field-0 c.loop-number.invariant.running
    c.in_ok-answer_next.ensures.ok (inl c.in-NoStep.is)

pub returns-in-End-clause-steps : goal.returns-in-End-clause-steps
returns-in-End-clause-steps g c =
    made_no_more (g.R.Read.remaining c.answer_next.new.reader) (g.M.MakesSteps.run c.answer_next.new.world) (string_bytes c.answer_next.new.answers) c.in_ok-answer_next.field-0 c.loop-number.invariant.running
    c.in_ok-answer_next.ensures.ok (inr c.in-End.is)

pub returns-in_err-send_if_full-clause-steps : goal.returns-in_err-send_if_full-clause-steps
returns-in_err-send_if_full-clause-steps g c =
    makes_first (g.M.MakesSteps.run c.answer_next.new.world)
    (went_on (g.R.Read.remaining c.answer_next.new.reader) (g.M.MakesSteps.run c.answer_next.new.world) (string_bytes c.answer_next.new.answers) c.in_ok-answer_next.field-0 c.loop-number.invariant.running c.in_ok-answer_next.ensures.ok c.in-Answered.is)
    refl

pub returns-clause-steps : goal.returns-clause-steps
returns-clause-steps g c = makes_first (g.M.MakesSteps.run c.loop-number.world) c.loop-number.invariant.running refl

pub returns-in_err-answer_next-clause-left : goal.returns-in_err-answer_next-clause-left
returns-in_err-answer_next-clause-left g c =
    let run = g.M.MakesSteps.run in
    let leaves = g.M.MakesSteps.leaves in
    passed_on (GaveUp run leaves c.args.world.now c.answer_next.new.world) _ c.from_residual.result c.from_residual.ensures.1
    (gave_up_later run leaves c.args.world.now c.loop-number.world c.answer_next.new.world c.loop-number.invariant.made c.in_err-answer_next.field-0.0
    c.in_err-answer_next.ensures.left)

pub returns-in_err-push_error-in-NoStep-clause-left : goal.returns-in_err-push_error-in-NoStep-clause-left
returns-in_err-push_error-in-NoStep-clause-left g c =
    let run = g.M.MakesSteps.run in
    let leaves = g.M.MakesSteps.leaves in
    passed_on (GaveUp run leaves c.args.world.now c.answer_next.new.world) _ c.from_residual-in_err-push_error-in-NoStep.result
    c.from_residual-in_err-push_error-in-NoStep.ensures.1
    (inl (made_more run leaves c.args.world.now c.loop-number.world c.answer_next.new.world c.loop-number.invariant.made c.in_ok-answer_next.ensures.made))

pub returns-in-NoStep-clause-made : goal.returns-in-NoStep-clause-made
returns-in-NoStep-clause-made g c =
    let run = g.M.MakesSteps.run in
    let leaves = g.M.MakesSteps.leaves in
    made_more run leaves c.args.world.now c.loop-number.world c.answer_next.new.world c.loop-number.invariant.made c.in_ok-answer_next.ensures.made

pub returns-in-End-clause-made : goal.returns-in-End-clause-made
returns-in-End-clause-made g c =
    let run = g.M.MakesSteps.run in
    let leaves = g.M.MakesSteps.leaves in
    made_more run leaves c.args.world.now c.loop-number.world c.answer_next.new.world c.loop-number.invariant.made c.in_ok-answer_next.ensures.made

pub returns-in_err-send_if_full-clause-left : goal.returns-in_err-send_if_full-clause-left
returns-in_err-send_if_full-clause-left g c =
    let run = g.M.MakesSteps.run in
    let leaves = g.M.MakesSteps.leaves in
    passed_on (GaveUp run leaves c.args.world.now c.answer_next.new.world) _ c.from_residual-in_err-send_if_full.result
    c.from_residual-in_err-send_if_full.ensures.1
    (gave_up_writing run leaves c.args.world.now c.answer_next.new.world _
    (made_more run leaves c.args.world.now c.loop-number.world c.answer_next.new.world c.loop-number.invariant.made c.in_ok-answer_next.ensures.made)
    c.in_err-send_if_full.ensures.fault)
