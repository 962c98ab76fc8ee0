use Rattle.std.proofs.Common.{inl, inr}
use Rattle.service.proofs.transacting_together.both_in.Goals as goal

pub returns-clause-ran : goal.returns-clause-ran
returns-clause-ran g c = inl (c.in_ok-gave.gave, c.in_ok-gave.also_gave, c.both_of.ensures, c.in_ok-gave.ensures.ran)

pub returns-in_err-gave-clause-ran : goal.returns-in_err-gave-clause-ran
returns-in_err-gave-clause-ran g c =
    let (same, also_same) = c.in_err-gave.ensures.same in
    inr (c.in_err-gave.field-0.0, c.from_residual.ensures.1, c.in_err-gave.ensures.not, same, also_same)
