use Rattle.std.proofs.Common.{◌≡◌, [], ◌∷◌, ◌++◌, sym, ap, ◌∙◌, subst, append_assoc, rules}
use Rattle.std.proofs.lemmas.List.{append-nil, nil_from_length}
use Rattle.std.proofs.lemmas.Result.{on_ok_weaker}
use Rattle.std.specs.List.{AllByRecursion}
use Rattle.std.specs.VecDeque.Iter.{deque_iter_rest}
use Rattle.json.specs.Tree.{items_tokens}
use Rattle.json.specs.Token.{begin_array}
use Rattle.serde_json.specs.Written.{items_outline}
use Rattle.values.specs.Values.{IsValue}
use Rattle.values.specs.Items.{item_elements}
use Rattle.values.specs.Chunks.{joined, values_tokens}
use Rattle.values.proofs.Joined.{each_chunked, tokens-append, tokens_of_array}
use Rattle.values.proofs.chunks.Chunks.write_tokens.Goals as goal

pub loop-chunk-preserved : goal.loop-chunk-preserved
loop-chunk-preserved c =
    let h = c.loop-chunk.invariant in
    let v = c.in-Some.chunk.now in
    let left = deque_iter_rest c.next.new.self in
    let steps : deque_iter_rest c.loop-chunk.chunk-iterator ≡ v ∷ left = c.in-Some.ensures.steps in
    record {
      tokens =
          ap (λ ts. ts ++ values_tokens (joined left)) c.in_ok-write_items-2.ensures.ok ∙ append_assoc c.loop-chunk.out.tokens (values_tokens v) (values_tokens (joined left))
          ∙ ap (λ ts. c.loop-chunk.out.tokens ++ ts) (sym (tokens-append v (joined left)))
          ∙ ap (λ l. c.loop-chunk.out.tokens ++ values_tokens (joined l)) (sym steps) ∙ h.tokens;
      before = c.in_ok-write_items-2.ensures.before ∙ h.before;
    }

pub returns-clause-ok : goal.returns-clause-ok
returns-clause-ok c =
    let none : deque_iter_rest c.loop-chunk.chunk-iterator ≡ [] = nil_from_length _ c.in-None.ensures.steps.0 in
    let middle = sym (append-nil c.loop-chunk.out.tokens) ∙ ap (λ l. c.loop-chunk.out.tokens ++ values_tokens (joined l)) (sym none) ∙ c.loop-chunk.invariant.tokens in
    let opened : c.begin_array.new.self.tokens ≡ c.args.out.now.tokens ++ begin_array ∷ [] = search rules in
    on_ok_weaker c.end_array.result
    (λ e. tokens_of_array c.self.inside.front.items (joined c.self.inside.middle.items) c.self.inside.back.items c.args.out.now.tokens c.begin_array.new.self.tokens
    c.write_items.new.out.tokens c.loop-chunk.out.tokens c.write_items-2.new.out.tokens c.end_array.new.self.tokens
    opened c.in_ok-write_items.ensures.ok middle c.in_ok-write_items-3.ensures.ok e
    ∙ ap (λ xs. c.args.out.now.tokens ++ begin_array ∷ items_tokens (items_outline (item_elements xs))) c.self.view_is)
    c.end_array.ensures.ok

pub returns-clause-fits : goal.returns-clause-fits
returns-clause-fits c =
    let each = each_chunked c.self.inside.front.items c.self.inside.middle.items c.self.inside.back.items c.in_ok-write_items.ensures.fits c.self.invariant.full c.in_ok-write_items-3.ensures.fits in
    on_ok_weaker c.end_array.result (λ e. subst (AllByRecursion IsValue) c.self.view_is each) c.end_array.ensures.ok
