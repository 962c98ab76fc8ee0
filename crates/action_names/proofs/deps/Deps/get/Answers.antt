use Rattle.std.proofs.Common.{sym, ◌∙◌}
use Rattle.action_names.specs.Deps.{IsAt}
use Rattle.action_names.proofs.Entries.{get_of, least_at-found, least_at-absent}
use Rattle.action_names.proofs.deps.Deps.get.Goals as goal

pub returns-in-Ok : goal.returns-in-Ok
returns-in-Ok c =
    let es = c.self.inside.least.items in
    let found : IsAt es c.args.guardian c.in-Ok.at = rw c.as_slice.ensures at c.in-Ok.ensures.found in
    rw (← c.self.view_is, c.as_slice-in-Ok.ensures)
    (sym (get_of es c.args.guardian c.self.invariant ∙ least_at-found es c.args.guardian c.in-Ok.at c.self.invariant found (0, 0)))

pub returns-in-Err : goal.returns-in-Err
returns-in-Err c =
    let es = c.self.inside.least.items in
    let absent = least_at-absent es c.args.guardian _ (rw c.as_slice.ensures at c.in-Err.ensures.absent) in
    rw (← c.self.view_is) (sym (get_of es c.args.guardian c.self.invariant ∙ absent))
