use Rattle.std.proofs.Common.{List, ap, ℕ}
use Rattle.run_model.specs.declared.step.Step.TheVariants as steps
use Rattle.service.specs.Calling.{BeganOne}
use Rattle.service.proofs.Shapes.{fits, shown}
use Rattle.service.proofs.service.Service.begin_nested.Goals as goal

pub began_one-requires : goal.began_one-requires
began_one-requires g c = fits _ _ _ _ _ _ _ c.in_ok-make.ensures

pub returns : goal.returns
returns g c = shown _ _ _ _ _ BeganOne _ _ _ _ (ap (λ (a : List ℕ). steps.NestedTop a) c.in_ok-copy.ensures.ok.1) c.in_ok-make.ensures c.began_one.ensures
