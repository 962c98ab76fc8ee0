use Rattle.std.proofs.Common.{◌≡◌, [], ◌∷◌, ◌++◌, Result, Ok, Err, sym, ap, subst, ◌∙◌, append_assoc}
use Rattle.std.specs.Prelude.{OnOk}
use Rattle.std.specs.List.{AllByRecursion}
use Rattle.std.proofs.lemmas.List.{append-nil}
use Rattle.std.specs.Map.Iter.{deref_pair}
use Rattle.std.proofs.lemmas.Map.Iter.{rest_all, rest_more}
use Rattle.stable_store.specs.Held.{records_of}
use Rattle.store_texts.specs.Texts.{IsRecord, record_data}
use Rattle.store_texts.proofs.Items.{all_push, element_more}
use Rattle.store_texts.proofs.Maps.{records_rise}
use Rattle.store_texts.proofs.writing.write_records.Goals as goal

pub loop-top-preserved : goal.loop-top-preserved
loop-top-preserved c =
    let h = c.loop-top.invariant in
    let taken = rest_more deref_pair _ _ _ (c.in-Some.field-0-0, c.in-Some.prepared) c.in-Some.is c.next.ensures.steps in
    let seen = ap records_of taken in
    let wrote = c.in_ok-write_record.ensures in
    record {
      tokens = element_more record_data _ _ _ (records_of c.args.records.now.entries) _ _ _ seen h.tokens wrote.ok;
      before = wrote.before ∙ h.before;
      fit = (
        h.fit.0 ++ _ ∷ [],
        append_assoc h.fit.0 (_ ∷ []) _ ∙ ap (λ l. h.fit.0 ++ l) (sym seen) ∙ h.fit.1,
        all_push IsRecord h.fit.0 _ h.fit.2 wrote.fits,
      );
    }

on_ok : {T E : Type 0} (r : Result T E) (P : Type 0) → P → OnOk r P
on_ok (Ok x) P p = p
on_ok (Err e) P p = tt

pub returns-clause-fits : goal.returns-clause-fits
returns-clause-fits c =
    let h = c.loop-top.invariant in
    let none = rest_all deref_pair _ _ _ c.in-None.is c.next.ensures.steps in
    let all : h.fit.0 ≡ records_of c.args.records.now.entries =
    sym (append-nil h.fit.0) ∙ ap (λ l. h.fit.0 ++ records_of l) (sym none) ∙ h.fit.1 in
    on_ok c.end_array.result _
    (records_rise c.args.records.now.entries c.into_iter-top-iterator.ensures.into_iter_gives.5, subst (AllByRecursion IsRecord) all h.fit.2)
