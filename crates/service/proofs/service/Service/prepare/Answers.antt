use Rattle.std.proofs.Common.{List, ap, ℕ}
use Rattle.run_model.specs.declared.step.Step.TheVariants as steps
use Rattle.service.specs.Calling.{IsVote}
use Rattle.service.proofs.Shapes.{fits, shown}
use Rattle.service.proofs.service.Service.prepare.Goals as goal

pub vote-requires : goal.vote-requires
vote-requires g c = fits _ _ _ _ _ _ _ c.in_ok-make.ensures

pub returns : goal.returns
returns g c = shown _ _ _ _ _ IsVote _ _ _ _ (ap (λ (a : List ℕ). steps.Prepare c.args.guardian a) c.in_ok-copy.ensures.ok.1) c.in_ok-make.ensures c.vote.ensures
