use Rattle.std.proofs.Common.{◌≡◌, ◌+◌, [], ◌∷◌, ◌++◌, drop, sym, ap, ◌∙◌, arith}
use Rattle.std.proofs.lemmas.List.{drop_more}
use Rattle.sqlite.specs.Values.{bound}
use Rattle.store_writing.specs.Waiting.{parameters_of}
use Rattle.store_writing.proofs.Pairs.{two_more}
use Rattle.store_writing.proofs.waiting.push_parameters.Goals as goal

pub loop-part-preserved : goal.loop-part-preserved
loop-part-preserved c =
    let at = c.loop-part.part-index in
    let parts = c.args.parts.now in
    let w = c.part-item.result in
    let before = c.loop-part.all.items in
    let now = c.push-in-loop-part.new.self.items in
    let rest = drop (at + 1) parts in
    let taken : drop at parts ≡ w ∷ rest = drop_more parts at w (omega arith) ∙ ap (λ x. x ∷ rest) (sym c.part-item.is) in
    let pushed : now ≡ (before ++ c.number.result ∷ []) ++ c.words.result ∷ [] =
    c.in_ok-push-2.ensures.items ∙ ap (λ l. l ++ c.words.result ∷ []) c.in_ok-push.ensures.items in
    ap (λ l. bound l ++ parameters_of rest) pushed
    ∙ (two_more before c.number.result c.words.result w rest c.number.ensures c.words.ensures
    ∙ (ap (λ l. bound before ++ parameters_of l) (sym taken) ∙ c.loop-part.invariant))
