use Rattle.std.proofs.Common.{List, ap, ℕ}
use Rattle.run_model.specs.declared.step.Step.TheVariants as steps
use Rattle.service.specs.Calling.{BeganThese}
use Rattle.service.proofs.Shapes.{fits, shown}
use Rattle.service.proofs.service.Service.begin_arms.Goals as goal

pub began_these-requires : goal.began_these-requires
began_these-requires g c = fits _ _ _ _ _ _ _ c.in_ok-make.ensures

pub returns : goal.returns
returns g c = shown _ _ _ _ _ BeganThese _ _ _ _ (ap (λ (a : List ℕ). steps.Arms a c.args.kinds) c.in_ok-copy.ensures.ok.1) c.in_ok-make.ensures c.began_these.ensures
