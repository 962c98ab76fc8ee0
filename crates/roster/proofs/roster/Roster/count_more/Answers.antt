use Rattle.std.proofs.Common.{arith, refl, ◌+◌}
use Rattle.std.proofs.lemmas.Option.{slice_get_read}
use Rattle.roster.proofs.Written.{wrote, wrote_past}
use Rattle.roster.specs.Tables.{more_by, table}
use Rattle.roster.proofs.roster.Roster.count_more.Goals as goal

pub returns-in-Some-get_mut-clause-counted : goal.returns-in-Some-get_mut-clause-counted
returns-in-Some-get_mut-clause-counted c = λ names.
    let rows = c.args.self.now.rows in
    let row = c.in-Some-get_mut.row.now in
    let there = slice_get_read rows.items rows.len c.in-Some.at row rows.ok.0 (c.in-Some-get_mut.ensures.variant.0 refl) c.in-Some-get_mut.ensures.value in
    wrote (table names c.args.self.now) (more_by c.args.more) c.args.at c.in-Some.at row (record row { unended = row.unended + c.args.more }) c.in-Some.is there refl

pub returns-in_default-get_mut-clause-counted : goal.returns-in_default-get_mut-clause-counted
returns-in_default-get_mut-clause-counted c = λ names.
    let rows = c.args.self.now.rows in
    wrote_past (table names c.args.self.now) (more_by c.args.more) c.args.at c.in-Some.at c.in-Some.is (omega (arith, rows.ok.0, c.in_default-get_mut.ensures.item))
