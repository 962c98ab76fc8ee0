use Rattle.std.proofs.Common.{sym, ◌∙◌}
use Rattle.std.proofs.lemmas.Result.{IfOk-weaker}
use Rattle.object_laws.proofs.OnceTold.{parts_once_told}
use Rattle.atomic_object.specs.Kept.{seen}
use Rattle.atomic_object.proofs.object.Object.part_once_told.Goals as goal

pub returns : goal.returns
returns c =
    IfOk-weaker c.part_to_hold.result _ _
    (λ part is d s shows top untold below settled.
    is ∙ sym (parts_once_told d s (seen c.args.self.now) c.args.top.now c.args.outcomes.now shows top untold below settled)) c.part_to_hold.ensures
