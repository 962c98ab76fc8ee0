use Rattle.std.proofs.Common.{◌≡◌, [], ◌∷◌, ◌++◌, sym, ap, ◌∙◌, append_assoc}
use Rattle.std.proofs.lemmas.List.{append-nil, nil_from_length}
use Rattle.std.specs.VecDeque.Iter.{deque_iter_rest}
use Rattle.json.specs.Tree.{json_tokens}
use Rattle.serde_json.specs.Written.{outline}
use Rattle.values.specs.Values.{IsValue, value_data}
use Rattle.values.specs.Chunks.{values_tokens}
use Rattle.values.proofs.Items.{all_push}
use Rattle.values.proofs.chunks.write_items.Goals as goal

pub loop-item-preserved : goal.loop-item-preserved
loop-item-preserved c =
    let h = c.loop-item.invariant in
    let v = c.in-Some.item.now in
    let left = deque_iter_rest c.next.new.self in
    let steps : deque_iter_rest c.loop-item.item-iterator ≡ v ∷ left = c.in-Some.ensures.steps in
    record {
      tokens =
          ap (λ ts. ts ++ values_tokens left) c.in_ok-write_tokens.ensures.ok ∙ append_assoc c.loop-item.out.tokens (json_tokens (outline (value_data v))) (values_tokens left)
          ∙ ap (λ l. c.loop-item.out.tokens ++ values_tokens l) (sym steps) ∙ h.tokens;
      before = c.in_ok-write_tokens.ensures.before ∙ h.before;
      fit = (
        h.fit.0 ++ v ∷ [],
        append_assoc h.fit.0 (v ∷ []) left ∙ ap (λ l. h.fit.0 ++ l) (sym steps) ∙ h.fit.1,
        all_push IsValue h.fit.0 v h.fit.2 c.in_ok-write_tokens.ensures.fits,
      );
    }

pub returns-clause-ok : goal.returns-clause-ok
returns-clause-ok c =
    let none : deque_iter_rest c.loop-item.item-iterator ≡ [] = nil_from_length _ c.in-None.ensures.steps.0 in
    sym (append-nil c.loop-item.out.tokens) ∙ ap (λ l. c.loop-item.out.tokens ++ values_tokens l) (sym none) ∙ c.loop-item.invariant.tokens
