use Rattle.std.proofs.Common.{◌≡◌, take, drop, ap, ◌∙◌, arith}
use Rattle.std.proofs.lemmas.Result.{IfOk-weaker}
use Rattle.values.proofs.chunks.chunk_from.Goals as goal

pub returns-clause-same : goal.returns-clause-same
returns-clause-same c =
    let all : c.loop-count.count ≡ 256 = omega (arith, c.loop-count-test.false, c.loop-count.auto.count-end) in
    IfOk-weaker c.of.result _ _ (λ chunk e. e ∙ c.loop-count.invariant.same ∙ ap (λ n. take n (drop c.args.place c.args.items.now.items)) all) c.of.ensures
