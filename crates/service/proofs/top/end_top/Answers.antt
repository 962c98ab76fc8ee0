use Rattle.service.proofs.Concluded.{stays_down, stays_stopped, top_ended}
use Rattle.service.proofs.top.end_top.Goals as goal

pub returns-clause-ends : goal.returns-clause-ends
returns-clause-ends g c =
    top_ended _ _ _ _ _ _ _ _ _ _ _ _ _ c.as_slice.ensures.value c.as_slice-2.ensures.value c.is_yes.ensures c.decide_if-decided.ensures.concludes
    c.abort_unless-left.ensures c.tell_each-left.ensures

pub returns-clause-down : goal.returns-clause-down
returns-clause-down g c refuses commits =
    stays_down c.args.at.action _ _ _ _ _ _ _ _ c.abort_unless-left.ensures c.tell_each-left.ensures (c.decide_if-decided.ensures.down refuses commits)

pub returns-clause-stopped : goal.returns-clause-stopped
returns-clause-stopped g c =
    stays_stopped c.args.at.action _ _ _ _ _ _ _ _ c.abort_unless-left.ensures c.tell_each-left.ensures _ _ c.decide_if-decided.ensures.stopped
