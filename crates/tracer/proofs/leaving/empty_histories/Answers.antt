use Rattle.std.proofs.Common.{◌≡◌, ℕ, [], replicate, ap, ◌∙◌, arith}
use Rattle.tracer.proofs.leaving.empty_histories.Goals as goal

pub returns : goal.returns
returns c = let all : c.loop.counter ≡ c.args.count = omega arith in c.loop.invariant ∙ ap (λ (n : ℕ). replicate n []) all
