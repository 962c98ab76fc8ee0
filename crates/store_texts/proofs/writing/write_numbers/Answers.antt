use Rattle.std.proofs.Common.{[], ◌∷◌, ◌++◌, sym, ap, ◌∙◌, append_assoc}
use Rattle.store_texts.specs.Texts.{IsNumber, number_data}
use Rattle.store_texts.proofs.Items.{all_push, element_more}
use Rattle.store_texts.proofs.writing.write_numbers.Goals as goal

pub loop-number-preserved : goal.loop-number-preserved
loop-number-preserved c =
    let h = c.loop-number.invariant in
    let taken = c.in-Some.ensures.steps in
    let wrote = c.in_ok-write_number.ensures in
    record {
      tokens = element_more number_data _ _ _ c.args.numbers.now.keys _ _ _ taken h.tokens wrote.ok;
      before = wrote.before ∙ h.before;
      fit = (
        h.fit.0 ++ _ ∷ [],
        append_assoc h.fit.0 (_ ∷ []) _ ∙ ap (λ l. h.fit.0 ++ l) (sym taken) ∙ h.fit.1,
        all_push IsNumber h.fit.0 _ h.fit.2 wrote.fits,
      );
    }
