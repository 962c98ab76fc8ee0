use Rattle.std.proofs.Common.{ap}
use Rattle.roster.specs.Tables.{said}
use Rattle.roster.specs.declared.entry.Row.{Row}
use Rattle.roster.proofs.roster.Roster.home_at.Goals as goal

pub returns-in-Some : goal.returns-in-Some
returns-in-Some c = λ names. ap (said (λ (row : Row). row.home) 0) (c.in-Some.ensures names)

pub returns-in-None : goal.returns-in-None
returns-in-None c = λ names. ap (said (λ (row : Row). row.home) 0) (c.in-None.ensures names)
