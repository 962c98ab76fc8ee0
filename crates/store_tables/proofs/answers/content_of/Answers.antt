use Rattle.std.proofs.Common.{arith, subst}
use Rattle.sqlite_rules.specs.Lists.{Has}
use Rattle.stable_store.specs.Held.{held}
use Rattle.store_tables.specs.Listed.{Lists}
use Rattle.store_tables.specs.Shown.{ShowsPart, ShowsHome, ShowsRecord, ShowsTop, ShowsNumber, IsValueText, IsAddedBy, IsValue, IsDelta}
use Rattle.store_tables.specs.Parts.{HasBase, HasHome, HasPart, IsDecided}
use Rattle.store_tables.specs.Holds.{numbers}
use Rattle.store_tables.proofs.Read.{six_answers}
use Rattle.std.proofs.Common.{sym}
use Rattle.sqlite_trees.specs.Tree.{IsTable}
use Rattle.store_tables.specs.Holds.{Holds}
use Rattle.store_tables.specs.Keyed.{AreKeyed, KeysDiffer, PartsDiffer}
use Rattle.store_tables.proofs.Told.{told_by, each_shows, six_are}
use Rattle.store_tables.proofs.answers.content_of.Goals as goal

pub returns-clause-found : goal.returns-clause-found
returns-clause-found c =
    let k = held (record {
      base = c.in_ok-base.base;
      prepared = c.in_ok-prepared.prepared;
      decided = c.in_ok-decided.decided;
      count = c.in_ok-numbers.numbers.count;
      next_top = c.in_ok-numbers.numbers.next_top;
    }) in
    six_answers c.args.answers.now c.numbers-item.result c.base-item.result c.homes-item.result c.values-item.result c.deltas-item.result c.decided-item.result
    k (omega (arith, c.in-len6.len_at_least, c.in-len6.len_below))
    c.numbers-item.is c.base-item.is c.homes-item.is c.values-item.is c.deltas-item.is c.decided-item.is
    (record {
      numbered = subst (λ rows. Lists ShowsNumber rows (Has (numbers k.count k.next_top))) c.deref.ensures.value c.in_ok-numbers.ensures.listed;
      next_low = c.in_ok-numbers.ensures.low;
      next_high = c.in_ok-numbers.ensures.high;
      base = subst (λ rows. Lists (ShowsPart 0) rows (HasBase k.base)) c.deref-2.ensures.value c.in_ok-base.ensures.listed;
      homes = subst (λ rows. Lists (ShowsHome 0) rows (HasHome k.prepared)) c.deref-3.ensures.value c.in_ok-prepared.ensures.homes;
      values = subst (λ rows. Lists (ShowsRecord IsValueText 0) rows (λ e. HasPart k.prepared e × IsValue e.1.1)) c.deref-4.ensures.value c.in_ok-prepared.ensures.values;
      deltas = subst (λ rows. Lists (ShowsRecord IsAddedBy 0) rows (λ e. HasPart k.prepared e × IsDelta e.1.1)) c.deref-5.ensures.value c.in_ok-prepared.ensures.deltas;
      rising = c.in_ok-prepared.ensures.rising;
      decided = subst (λ rows. Lists ShowsTop rows (IsDecided k.decided)) c.deref-6.ensures.value c.in_ok-decided.ensures.listed;
    })

pub returns-in_err-numbers-clause-told : goal.returns-in_err-numbers-clause-told
returns-in_err-numbers-clause-told c is len keyed k holds =
    let six = six_are c.args.answers.now c.numbers-item.result c.base-item.result c.homes-item.result c.values-item.result c.deltas-item.result c.decided-item.result
    (omega (arith, c.in-len6.len_at_least, c.in-len6.len_below))
    c.numbers-item.is c.base-item.is c.homes-item.is c.values-item.is c.deltas-item.is c.decided-item.is in
    let t = subst AreKeyed six keyed in
    let h = subst (λ t. Holds 0 t k) six holds in
    c.in_err-numbers.ensures.told (told_by c.from_residual.result c.in_err-numbers.field-0.0 c.from_residual.ensures.1 is)
    (subst IsTable (sym c.deref.ensures.value) t.numbers) k.count k.next_top h.next_low h.next_high
    (subst (λ rows. Lists ShowsNumber rows (Has (numbers k.count k.next_top))) (sym c.deref.ensures.value) h.numbered)

pub returns-in_err-base-clause-told : goal.returns-in_err-base-clause-told
returns-in_err-base-clause-told c is len keyed k holds =
    let six = six_are c.args.answers.now c.numbers-item.result c.base-item.result c.homes-item.result c.values-item.result c.deltas-item.result c.decided-item.result
    (omega (arith, c.in-len6.len_at_least, c.in-len6.len_below))
    c.numbers-item.is c.base-item.is c.homes-item.is c.values-item.is c.deltas-item.is c.decided-item.is in
    let t = subst AreKeyed six keyed in
    let h = subst (λ t. Holds 0 t k) six holds in
    c.in_err-base.ensures.told (told_by c.from_residual-in_err-base.result c.in_err-base.field-0.0 c.from_residual-in_err-base.ensures.1 is)
    (each_shows (ShowsPart 0) _ _ (subst (λ rows. Lists (ShowsPart 0) rows (HasBase k.base)) (sym c.deref-2.ensures.value) h.base))
    (subst KeysDiffer (sym c.deref-2.ensures.value) t.base)

pub returns-in_err-prepared-clause-told : goal.returns-in_err-prepared-clause-told
returns-in_err-prepared-clause-told c is len keyed k holds =
    let six = six_are c.args.answers.now c.numbers-item.result c.base-item.result c.homes-item.result c.values-item.result c.deltas-item.result c.decided-item.result
    (omega (arith, c.in-len6.len_at_least, c.in-len6.len_below))
    c.numbers-item.is c.base-item.is c.homes-item.is c.values-item.is c.deltas-item.is c.decided-item.is in
    let t = subst AreKeyed six keyed in
    let h = subst (λ t. Holds 0 t k) six holds in
    c.in_err-prepared.ensures.told (told_by c.from_residual-in_err-prepared.result c.in_err-prepared.field-0.0 c.from_residual-in_err-prepared.ensures.1 is)
    (subst KeysDiffer (sym c.deref-3.ensures.value) t.homes) (subst PartsDiffer (sym c.deref-4.ensures.value) t.values) (subst PartsDiffer (sym c.deref-5.ensures.value) t.deltas) k.prepared
    (subst (λ rows. Lists (ShowsHome 0) rows (HasHome k.prepared)) (sym c.deref-3.ensures.value) h.homes)
    (subst (λ rows. Lists (ShowsRecord IsValueText 0) rows (λ e. HasPart k.prepared e × IsValue e.1.1)) (sym c.deref-4.ensures.value) h.values)
    (subst (λ rows. Lists (ShowsRecord IsAddedBy 0) rows (λ e. HasPart k.prepared e × IsDelta e.1.1)) (sym c.deref-5.ensures.value) h.deltas)

pub returns-in_err-decided-clause-told : goal.returns-in_err-decided-clause-told
returns-in_err-decided-clause-told c is len keyed k holds =
    let six = six_are c.args.answers.now c.numbers-item.result c.base-item.result c.homes-item.result c.values-item.result c.deltas-item.result c.decided-item.result
    (omega (arith, c.in-len6.len_at_least, c.in-len6.len_below))
    c.numbers-item.is c.base-item.is c.homes-item.is c.values-item.is c.deltas-item.is c.decided-item.is in
    let t = subst AreKeyed six keyed in
    let h = subst (λ t. Holds 0 t k) six holds in
    c.in_err-decided.ensures.told (told_by c.from_residual-in_err-decided.result c.in_err-decided.field-0.0 c.from_residual-in_err-decided.ensures.1 is)
    (each_shows ShowsTop _ _ (subst (λ rows. Lists ShowsTop rows (IsDecided k.decided)) (sym c.deref-6.ensures.value) h.decided))
