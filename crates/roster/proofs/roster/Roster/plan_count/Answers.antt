use Rattle.std.proofs.Common.{None, Some, subst, ◌+◌, ◌<◌, ◌^◌, []}
use Rattle.std.specs.Option.{SomeIff}
use Rattle.roster.proofs.Planning.{can_count}
use Rattle.roster.specs.Tables.{table}
use Rattle.roster.proofs.roster.Roster.plan_count.Goals as goal

pub returns-in_default : goal.returns-in_default
returns-in_default c = can_count (table [] c.args.self.now) c.args.at c.args.more None (c.in_default.ensures []) tt

pub returns : goal.returns
returns c =
    let row = c.in-Some.row.now in
    let sum = row.unended + c.args.more in
    let fits = subst (λ o. SomeIff o (sum < 2 ^ 64) sum) c.in_ok-ok_or.ensures.ok_part c.checked_add.ensures in
    can_count (table [] c.args.self.now) c.args.at c.args.more (Some row) (c.in-Some.ensures []) fits.0
