use Rattle.std.proofs.Common.{arith, ap, refl}
use Rattle.std.proofs.lemmas.Option.{slice_get_read}
use Rattle.roster.proofs.Written.{wrote, wrote_past}
use Rattle.roster.specs.Tables.{one_less, table}
use Rattle.roster.proofs.roster.Roster.count_less.Goals as goal

pub returns-in-Some-get_mut : goal.returns-in-Some-get_mut
returns-in-Some-get_mut c = λ names.
    let rows = c.args.self.now.rows in
    let row = c.in-Some-get_mut.row.now in
    let there = slice_get_read rows.items rows.len c.in-Some.at row rows.ok.0 (c.in-Some-get_mut.ensures.variant.0 refl) c.in-Some-get_mut.ensures.value in
    wrote (table names c.args.self.now) one_less c.args.at c.in-Some.at row (record row { unended = c.saturating_sub-row.result }) c.in-Some.is there (ap (λ n. record row { unended = n }) c.saturating_sub-row.ensures)

pub returns-in_default-get_mut : goal.returns-in_default-get_mut
returns-in_default-get_mut c = λ names.
    let rows = c.args.self.now.rows in
    wrote_past (table names c.args.self.now) one_less c.args.at c.in-Some.at c.in-Some.is (omega (arith, rows.ok.0, c.in_default-get_mut.ensures.item))
