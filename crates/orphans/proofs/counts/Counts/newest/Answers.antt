use Rattle.std.proofs.Common.{ap, arith, get_or, length, reverse, sym, take, [], ◌++◌, ◌-◌, ◌<◌, ◌∙◌, ◌∷◌, ◌≡◌}
use Rattle.std.proofs.lemmas.List.{length-reverse}
use Rattle.orphans.proofs.Turned.{newest_more}
use Rattle.orphans.proofs.counts.Counts.newest.Goals as goal

pub loop-back-preserved : goal.loop-back-preserved
loop-back-preserved c =
    let xs = c.args.self.now.log.items in
    let i = c.loop-back.back in
    let d = c.index.result.now in
    let lt : i < length xs = omega (arith, c.loop-back-test.true, c.requires, length-reverse xs) in
    let many : c.len.result ≡ length xs = omega (arith, c.len.ensures, c.args.self.now.log.ok) in
    let here : d ≡ get_or xs (length xs - 1 - i) d = c.index.ensures ∙ ap (λ n. get_or xs (n - 1 - i) d) many in
    c.in_ok-push.ensures.items
    ∙ ap (λ ys. ys ++ d ∷ []) c.loop-back.invariant
    ∙ ap (λ x. take i (reverse xs) ++ x ∷ []) here
    ∙ sym (newest_more xs i d lt)
