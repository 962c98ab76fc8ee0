use Rattle.run_model.proofs.Cutting.{nothing_read}
use Rattle.traces.specs.Traces.{IsEvent, event_text}
use Rattle.traces.proofs.Lines.{no_line_event, no_line_stamp, no_owner, no_owner_cut, no_stamp_cut}
use Rattle.traces.proofs.line.Line.read.Goals as goal

pub returns-in_default : goal.returns-in_default
returns-in_default c = no_owner_cut c.args.text.now c.in_default.ensures

pub returns-in_default-owner : goal.returns-in_default-owner
returns-in_default-owner c = no_owner c.args.text.now c.in-Some.front.now c.in-Some.rest.now c.in-Some.ensures c.in_default-owner.ensures

pub returns-in_default-cut : goal.returns-in_default-cut
returns-in_default-cut c = no_stamp_cut c.args.text.now c.in-Some.front.now c.in-Some.rest.now c.in-Some.ensures c.in_default-cut.ensures

pub returns-in_default-stamp : goal.returns-in_default-stamp
returns-in_default-stamp c =
    no_line_stamp c.args.text.now c.in-Some.front.now c.in-Some.rest.now c.in-Some-cut.front.now c.in-Some-cut.rest.now c.in-Some.ensures c.in-Some-cut.ensures
    c.in_default-stamp.ensures

pub returns-in_default-2 : goal.returns-in_default-2
returns-in_default-2 c =
    no_line_event c.args.text.now c.in-Some.front.now c.in-Some.rest.now c.in-Some-cut.front.now c.in-Some-cut.rest.now c.in-Some.ensures c.in-Some-cut.ensures
    (nothing_read IsEvent event_text c.in-Some-cut.rest.now c.in_ok-event.field-0 c.in_default-2.is c.in_ok-event.ensures)
