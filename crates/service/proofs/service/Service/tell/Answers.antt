use Rattle.std.proofs.Common.{List, ap, ℕ}
use Rattle.run_model.specs.declared.step.Step.TheVariants as steps
use Rattle.service.specs.Calling.{Told}
use Rattle.service.proofs.Shapes.{fits, shown}
use Rattle.service.proofs.service.Service.tell.Goals as goal

pub told-requires : goal.told-requires
told-requires g c = fits _ _ _ _ _ _ _ c.in_ok-make.ensures

pub returns : goal.returns
returns g c = shown _ _ _ _ _ Told _ _ _ _ (ap (λ (a : List ℕ). steps.Tell c.args.guardian a) c.in_ok-copy.ensures.ok.1) c.in_ok-make.ensures c.told.ensures
