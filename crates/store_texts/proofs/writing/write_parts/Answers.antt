use Rattle.std.proofs.Common.{[], ◌∷◌, ◌++◌, sym, ap, ◌∙◌, append_assoc}
use Rattle.std.specs.Map.Iter.{deref_pair}
use Rattle.std.proofs.lemmas.Map.Iter.{rest_more}
use Rattle.store_texts.specs.Texts.{IsEntry, entry_data}
use Rattle.store_texts.proofs.Items.{all_push, element_more}
use Rattle.store_texts.proofs.writing.write_parts.Goals as goal

pub loop-object-preserved : goal.loop-object-preserved
loop-object-preserved c =
    let h = c.loop-object.invariant in
    let taken = rest_more deref_pair _ _ _ (c.in-Some.field-0-0, c.in-Some.part) c.in-Some.is c.next.ensures.steps in
    let wrote = c.in_ok-write_entry.ensures in
    record {
      tokens = element_more entry_data _ _ _ c.args.parts.now.entries _ _ _ taken h.tokens wrote.ok;
      before = wrote.before ∙ h.before;
      fit = (
        h.fit.0 ++ _ ∷ [],
        append_assoc h.fit.0 (_ ∷ []) _ ∙ ap (λ l. h.fit.0 ++ l) (sym taken) ∙ h.fit.1,
        all_push IsEntry h.fit.0 _ h.fit.2 wrote.fits,
      );
    }
