use Rattle.std.proofs.Common.{None, Option, Some, ap, sym, ℕ, ◌∙◌, ◌≡◌}
use Rattle.std.specs.FinMap as tree
use Rattle.action_names.specs.Deps.{lesser}
use Rattle.run_model.specs.LocalReadings.{least_of}
use Rattle.layer_contracts.specs.Messages.{sent_by}
use Rattle.roster.specs.Steps.{above}
use Rattle.roster.specs.Tables.{placed, row_at, said, table}
use Rattle.roster.proofs.roster.Roster.plan_left.Goals as goal

pub returns-in_default : goal.returns-in_default
returns-in_default g c = λ f e stands commits new. sym c.in_ok-place.ensures ∙ c.in_default.is

pub returns : goal.returns
returns g c = λ f e stands commits new.
    let t = table c.args.places.now c.args.self.now in
    let a = c.args.action.now in
    let there : placed t (above a) ≡ Some c.in-Some.at = sym c.in_ok-place.ensures ∙ c.in-Some.is in (
      there,
      λ h.
          c.in_ok-depends.ensures h c.args.places.now
          ∙ ap (lesser (said (λ row. tree.get row.depends h) None (row_at t (Some c.in-Some.at)))) (c.came_of.ensures f e stands commits new h)
          ∙ ap (λ (p : Option ℕ). lesser (said (λ row. tree.get row.depends h) None (row_at t p)) (least_of (sent_by f e c.args.sending) a h)) (sym there),
    )
