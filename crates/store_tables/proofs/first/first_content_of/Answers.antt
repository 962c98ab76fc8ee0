use Rattle.std.proofs.Common.{arith, refl, subst, sym}
use Rattle.stable_store.specs.Held.{held}
use Rattle.store_tables.specs.Listed.{Lists}
use Rattle.store_tables.specs.Shown.{ShowsPart, ShowsHome, ShowsRecord, ShowsTop, IsText}
use Rattle.store_tables.specs.Parts.{HasBase, HasHome, HasPart, IsDecided}
use Rattle.store_tables.specs.First.{HoldsFirst}
use Rattle.store_tables.proofs.Told.{four_answers}
use Rattle.store_tables.specs.Keyed.{AreKeyedFirst, KeysDiffer, PartsDiffer}
use Rattle.store_tables.proofs.Told.{told_by, each_shows}
use Rattle.store_tables.proofs.first.first_content_of.Goals as goal

pub returns-clause-found : goal.returns-clause-found
returns-clause-found c =
    let k = held (record {
      base = c.in_ok-base.base;
      prepared = c.in_ok-prepared.prepared;
      decided = c.in_ok-decided.decided;
      count = c.args.count;
      next_top = c.next_after-next_top.result;
    }) in
    subst (λ t. HoldsFirst 0 t c.args.count k)
    (sym (four_answers c.args.answers.now c.base-item.result c.homes-item.result c.parts-item.result c.decided-item.result
    (omega (arith, c.in-len4.len_at_least, c.in-len4.len_below)) c.base-item.is c.homes-item.is c.parts-item.is c.decided-item.is))
    (record {
      base = subst (λ rows. Lists (ShowsPart 0) rows (HasBase k.base)) c.deref.ensures.value c.in_ok-base.ensures.listed;
      homes = subst (λ rows. Lists (ShowsHome 0) rows (HasHome k.prepared)) c.deref-2.ensures.value c.in_ok-prepared.ensures.homes;
      parts = subst (λ rows. Lists (ShowsRecord IsText 0) rows (HasPart k.prepared)) c.deref-3.ensures.value c.in_ok-prepared.ensures.parts;
      rising = c.in_ok-prepared.ensures.rising;
      decided = subst (λ rows. Lists ShowsTop rows (IsDecided k.decided)) c.deref-4.ensures.value c.in_ok-decided.ensures.listed;
      counted = refl;
      last = c.next_after-next_top.ensures.0;
      greatest = c.next_after-next_top.ensures.1;
      next = c.next_after-next_top.ensures.2;
    })

pub returns-in_err-base-clause-told : goal.returns-in_err-base-clause-told
returns-in_err-base-clause-told c is len keyed k holds =
    let four = four_answers c.args.answers.now c.base-item.result c.homes-item.result c.parts-item.result c.decided-item.result
    (omega (arith, c.in-len4.len_at_least, c.in-len4.len_below)) c.base-item.is c.homes-item.is c.parts-item.is c.decided-item.is in
    let t = subst AreKeyedFirst four keyed in
    let h = subst (λ t. HoldsFirst 0 t c.args.count k) four holds in
    c.in_err-base.ensures.told (told_by c.from_residual.result c.in_err-base.field-0.0 c.from_residual.ensures.1 is)
    (each_shows (ShowsPart 0) _ _ (subst (λ rows. Lists (ShowsPart 0) rows (HasBase k.base)) (sym c.deref.ensures.value) h.base))
    (subst KeysDiffer (sym c.deref.ensures.value) t.base)

pub returns-in_err-prepared-clause-told : goal.returns-in_err-prepared-clause-told
returns-in_err-prepared-clause-told c is len keyed k holds =
    let four = four_answers c.args.answers.now c.base-item.result c.homes-item.result c.parts-item.result c.decided-item.result
    (omega (arith, c.in-len4.len_at_least, c.in-len4.len_below)) c.base-item.is c.homes-item.is c.parts-item.is c.decided-item.is in
    let t = subst AreKeyedFirst four keyed in
    let h = subst (λ t. HoldsFirst 0 t c.args.count k) four holds in
    c.in_err-prepared.ensures.told (told_by c.from_residual-in_err-prepared.result c.in_err-prepared.field-0.0 c.from_residual-in_err-prepared.ensures.1 is)
    (subst KeysDiffer (sym c.deref-2.ensures.value) t.homes) (subst PartsDiffer (sym c.deref-3.ensures.value) t.parts) k.prepared
    (subst (λ rows. Lists (ShowsHome 0) rows (HasHome k.prepared)) (sym c.deref-2.ensures.value) h.homes)
    (subst (λ rows. Lists (ShowsRecord IsText 0) rows (HasPart k.prepared)) (sym c.deref-3.ensures.value) h.parts)

pub returns-in_err-decided-clause-told : goal.returns-in_err-decided-clause-told
returns-in_err-decided-clause-told c is len keyed k holds =
    let four = four_answers c.args.answers.now c.base-item.result c.homes-item.result c.parts-item.result c.decided-item.result
    (omega (arith, c.in-len4.len_at_least, c.in-len4.len_below)) c.base-item.is c.homes-item.is c.parts-item.is c.decided-item.is in
    let t = subst AreKeyedFirst four keyed in
    let h = subst (λ t. HoldsFirst 0 t c.args.count k) four holds in
    c.in_err-decided.ensures.told (told_by c.from_residual-in_err-decided.result c.in_err-decided.field-0.0 c.from_residual-in_err-decided.ensures.1 is)
    (each_shows ShowsTop _ _ (subst (λ rows. Lists ShowsTop rows (IsDecided k.decided)) (sym c.deref-4.ensures.value) h.decided))
