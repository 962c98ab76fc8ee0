use Rattle.std.proofs.Common.{◌≡◌, ℕ, [], replicate, ap, ◌∙◌, arith}
use Rattle.traces.proofs.reader.empty_histories.Goals as goal

pub returns : goal.returns
returns c = let all : c.loop.counter ≡ 1025 = omega arith in c.loop.invariant ∙ ap (λ (n : ℕ). replicate n []) all
