use Rattle.std.proofs.Common.{IfOk, subst, ◌≡◌}
use Rattle.world_steps.specs.Lending.{said_two}
use Rattle.world_steps.proofs.Agreed.{tellable}
use Rattle.world_steps.proofs.Saying.{two_say}
use Rattle.world_steps.proofs.answering.answer_two.Goals as goal

pub answer_of-requires : goal.answer_of-requires
answer_of-requires g c = (said_two c.requires.0 c.requires.1 c.requires.2, two_say _ _ _ c.requires.0 c.requires.1 c.requires.2 c.requires.3)

pub returns : goal.returns
returns g c = λ f a b lent tells.
    subst (λ k. IfOk c.answer_of.result (λ answer. answer ≡ k)) (tellable f a b c.args.step.now tells)
    (c.answer_of.ensures (said_two f a b) (two_say _ _ _ f a b lent))
