use Rattle.std.proofs.Common.{None, Option, ap, ◌∙◌}
use Rattle.std.specs.FinMap as tree
use Rattle.std.specs.Ordering.{nat_cmp}
use Rattle.std.proofs.lemmas.Result.{IfOk-weaker}
use Rattle.roster.specs.Tables.{said}
use Rattle.roster.specs.declared.entry.Row.{Row}
use Rattle.roster.proofs.roster.Roster.depends_at.Goals as goal

pub returns-in-Some : goal.returns-in-Some
returns-in-Some c =
    IfOk-weaker c.copy.result _ _
    (λ d is h names. ap (λ deps. tree.get deps h) is ∙ ap (λ (r : Option Row). said (λ row. tree.get row.depends h) None r) (c.in-Some.ensures names))
    c.copy.ensures

pub returns-in-None : goal.returns-in-None
returns-in-None c = λ h names.
    ap (λ deps. tree.get deps h) c.new.ensures
    ∙ tree.get-empty nat_cmp h
    ∙ ap (λ (r : Option Row). said (λ row. tree.get row.depends h) None r) (c.in-None.ensures names)
