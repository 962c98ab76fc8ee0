use Rattle.std.proofs.Common.{Some, ap, arith, refl, sym, ◌∙◌}
use Rattle.std.proofs.lemmas.Option.{slice_get_read}
use Rattle.roster.proofs.Written.{wrote, wrote_past}
use Rattle.roster.specs.Tables.{merged, table, with_depends}
use Rattle.roster.proofs.roster.Roster.merge.Goals as goal

pub returns-in-Some-get_mut : goal.returns-in-Some-get_mut
returns-in-Some-get_mut c = λ names.
    let t = table names c.args.self.now in
    let rows = c.args.self.now.rows in
    let row = c.in-Some-get_mut.row.now in
    let there = slice_get_read rows.items rows.len c.in-Some.at row rows.ok.0 (c.in-Some-get_mut.ensures.variant.0 refl) c.in-Some-get_mut.ensures.value in
    wrote t (with_depends c.in-Some.depends) (Some c.in-Some.at) c.in-Some.at row (with_depends c.in-Some.depends row) refl there refl
    ∙ ap (λ m. merged m t) (sym c.in-Some.is)

pub returns-in_default-get_mut : goal.returns-in_default-get_mut
returns-in_default-get_mut c = λ names.
    let t = table names c.args.self.now in
    let rows = c.args.self.now.rows in
    wrote_past t (with_depends c.in-Some.depends) (Some c.in-Some.at) c.in-Some.at refl (omega (arith, rows.ok.0, c.in_default-get_mut.ensures.item))
    ∙ ap (λ m. merged m t) (sym c.in-Some.is)
