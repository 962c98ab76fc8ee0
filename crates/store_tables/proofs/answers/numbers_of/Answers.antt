use Rattle.std.proofs.Common.{arith, codes, subst, sym}
use Rattle.sqlite_rules.specs.Lists.{Has}
use Rattle.store_tables.specs.Listed.{Lists}
use Rattle.store_tables.specs.Shown.{ShowsNumber}
use Rattle.store_tables.specs.Holds.{numbers}
use Rattle.store_tables.proofs.Read.{three_rows, three_listed}
use Rattle.std.proofs.Common.{◌≡◌, inl, inr}
use Rattle.sqlite.specs.Order.{column}
use Rattle.store_tables.proofs.Legible.{one_number}
use Rattle.store_tables.proofs.Told.{told_by, three_are, version_at, count_at, next_at}
use Rattle.store_tables.proofs.answers.numbers_of.Goals as goal

pub returns-clause-listed : goal.returns-clause-listed
returns-clause-listed c =
    subst (λ rows. Lists ShowsNumber rows (Has (numbers c.in_ok-count.count c.in_ok-next_top.next_top)))
    (sym (three_rows c.args.rows.now c.version-item.result c.count-item.result c.next_top-item.result (omega (arith, c.in-len3.len_at_least, c.in-len3.len_below))
    c.version-item.is c.count-item.is c.next_top-item.is))
    (three_listed c.version-item.result c.count-item.result c.next_top-item.result c.in_ok-count.count c.in_ok-next_top.next_top
    (subst (λ n. ShowsNumber c.version-item.result (1, (codes "version", n))) c.if-branch-ne-VERSION.false c.in_ok-number_at.ensures.number)
    c.in_ok-count.ensures.number c.in_ok-next_top.ensures.number)

pub returns-in_default-clause-told : goal.returns-in_default-clause-told
returns-in_default-clause-told c is rise count next low high shown = omega (arith, c.in_default.len_below, three_are count next c.args.rows.now rise shown)

pub returns-in_default-2-clause-told : goal.returns-in_default-2-clause-told
returns-in_default-2-clause-told c is rise count next low high shown = omega (arith, c.in_default.len_at_least, three_are count next c.args.rows.now rise shown)

pub returns-in_err-number_at-clause-told : goal.returns-in_err-number_at-clause-told
returns-in_err-number_at-clause-told c is rise count next low high shown =
    c.in_err-number_at.ensures.told (told_by c.from_residual.result c.in_err-number_at.field-0.0 c.from_residual.ensures.1 is) 2
    (version_at count next c.args.rows.now rise shown c.version-item.result c.version-item.is)

pub returns-then-branch-ne-VERSION-clause-told : goal.returns-then-branch-ne-VERSION-clause-told
returns-then-branch-ne-VERSION-clause-told c is rise count next low high shown =
    c.if-branch-ne-VERSION.true (one_number (column c.version-item.result 2) c.in_ok-number_at.field-0 2 c.in_ok-number_at.ensures.number.number
    (version_at count next c.args.rows.now rise shown c.version-item.result c.version-item.is).number)

pub returns-in_err-count-clause-told : goal.returns-in_err-count-clause-told
returns-in_err-count-clause-told c is rise count next low high shown =
    c.in_err-count.ensures.told (told_by c.from_residual-in_err-count.result c.in_err-count.field-0.0 c.from_residual-in_err-count.ensures.1 is) count
    (count_at count next c.args.rows.now rise shown c.count-item.result c.count-item.is)

pub returns-in_err-next_top-clause-told : goal.returns-in_err-next_top-clause-told
returns-in_err-next_top-clause-told c is rise count next low high shown =
    c.in_err-next_top.ensures.told (told_by c.from_residual-in_err-next_top.result c.in_err-next_top.field-0.0 c.from_residual-in_err-next_top.ensures.1 is) next
    (next_at count next c.args.rows.now rise shown c.next_top-item.result c.next_top-item.is)

pub returns-then-next_top-eq0-clause-told : goal.returns-then-next_top-eq0-clause-told
returns-then-next_top-eq0-clause-told c is rise count next low high shown =
    let same : c.in_ok-next_top.next_top ≡ next = one_number (column c.next_top-item.result 2) c.in_ok-next_top.next_top next c.in_ok-next_top.ensures.number.number
    (next_at count next c.args.rows.now rise shown c.next_top-item.result c.next_top-item.is).number in
    elim c.then-next_top-eq0.either [ inl zero_ ↦ omega (arith, zero_, same, low) | inr above ↦ omega (arith, above, same, high) ]
