use Rattle.std.proofs.Common.{Bor, None, Option, Some, ap, sym, ◌∙◌}
use Rattle.std.specs.FinMap as tree
use Rattle.std.specs.Option.{option_and_then}
use Rattle.action_names.specs.Deps.{lesser}
use Rattle.action_names.specs.declared.deps.Deps.{Deps}
use Rattle.roster.proofs.Entering.{lesser_none}
use Rattle.roster.specs.Tables.{row_at, said, table}
use Rattle.roster.proofs.roster.Roster.left_with.Goals as goal

pub returns-in_default : goal.returns-in_default
returns-in_default c = λ h names.
    let own = said (λ row. tree.get row.depends h) None (row_at (table names c.args.self.now) (Some c.args.at)) in
    c.in_ok-depends.ensures h names
    ∙ sym (lesser_none own)
    ∙ ap (λ (o : Option (Bor Deps)). lesser own (option_and_then (λ d. tree.get d.now h) o)) (sym c.in_default.is)

pub returns : goal.returns
returns c = λ h names.
    let own = said (λ row. tree.get row.depends h) None (row_at (table names c.args.self.now) (Some c.args.at)) in
    c.in_ok-merge.ensures.ok h
    ∙ ap (λ o. lesser o (tree.get c.in-Some.came.now h)) (c.in_ok-depends.ensures h names)
    ∙ ap (λ (o : Option (Bor Deps)). lesser own (option_and_then (λ d. tree.get d.now h) o)) (sym c.in-Some.is)
