use Rattle.std.proofs.Common.{◌∙◌, sym}
use Rattle.run_model.specs.Openings.{opening_in}
use Rattle.world_steps.specs.Standings.{standing}
use Rattle.argus_c.proofs.Calling.{home_is, home_is_not}
use Rattle.argus_c.proofs.called.is_home.Goals as goal

pub returns-in-Some-clause-yes : goal.returns-in-Some-clause-yes
returns-in-Some-clause-yes c e =
    let run = c.args.world.now.run in
    let opening = opening_in run.lists in
    home_is opening c.args.guardian run.past c.history.ensures.served.is_run c.args.action.now
    (sym (c.is_there.ensures (standing opening run.past c.args.guardian) c.in-Some.ensures.stands) ∙ e)

pub returns-in-Some-clause-no : goal.returns-in-Some-clause-no
returns-in-Some-clause-no c e begun low high =
    let run = c.args.world.now.run in
    let opening = opening_in run.lists in
    home_is_not opening c.args.guardian run.past c.history.ensures.served.is_run c.args.action.now
    (sym (c.is_there.ensures (standing opening run.past c.args.guardian) c.in-Some.ensures.stands) ∙ e) begun
