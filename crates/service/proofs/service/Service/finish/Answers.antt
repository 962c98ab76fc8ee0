use Rattle.std.proofs.Common.{refl}
use Rattle.service.specs.Calling.{IsDone}
use Rattle.service.proofs.Shapes.{finishing, fits, shown}
use Rattle.service.proofs.service.Service.finish.Goals as goal

pub returns : goal.returns
returns g c =
    shown _ _ _ _ _ IsDone _ _ _ tt refl c.in_ok-make.ensures
    (finishing c.args.step.now c.requires c.in_ok-make.field-0 (fits _ _ _ _ _ _ _ c.in_ok-make.ensures))
