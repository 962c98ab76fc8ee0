use Rattle.std.proofs.Common.{[], ap, subst, sym, ◌∙◌}
use Rattle.run_model.proofs.Events.{step_is}
use Rattle.roster.proofs.Idle.{turn_fits, turn_made}
use Rattle.roster.specs.Entries.{FitsMade, IsMade}
use Rattle.roster.specs.Steps.{turn_in}
use Rattle.roster.specs.Tables.{table}
use Rattle.roster.proofs.roster.Roster.plan_turn.Goals as goal

pub returns-clause-fits : goal.returns-clause-fits
returns-clause-fits c =
    let roster = c.args.self.now in
    subst (FitsMade roster) (sym c.reset.ensures.made) (turn_fits roster c.reset.new.self.birth c.turn_in.result c.reset.ensures.maker)

pub returns-clause-planned : goal.returns-clause-planned
returns-clause-planned c = λ names.
    let t = table names c.args.self.now in
    let e = c.args.event.now in
    subst (IsMade t e []) (sym c.reset.ensures.made)
    (turn_made t e c.reset.new.self.birth c.turn_in.result c.requires.turn c.requires.begins c.reset.ensures.maker
    (c.turn_in.ensures ∙ ap turn_in (sym (step_is c.event.view_is))))
