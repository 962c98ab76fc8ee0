use Rattle.std.proofs.Common.{sym}
use Rattle.action_names.proofs.Entries.{least_at-found, least_at-absent}
use Rattle.places.proofs.children.listed.Goals as goal

pub returns-in-Ok : goal.returns-in-Ok
returns-in-Ok c = sym (least_at-found c.args.places.now c.args.number c.in-Ok.at c.requires c.in-Ok.ensures.found (0, 0))

pub returns-in-Err : goal.returns-in-Err
returns-in-Err c = sym (least_at-absent c.args.places.now c.args.number _ c.in-Err.ensures.absent)
