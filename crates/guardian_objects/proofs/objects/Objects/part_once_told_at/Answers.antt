use Rattle.std.proofs.Common.{ap, sym, ◌∙◌}
use Rattle.std.specs.Option.{option_copied}
use Rattle.std.specs.Prelude.{is_some}
use Rattle.std.proofs.lemmas.Bool.{false≢true}
use Rattle.std.proofs.lemmas.Result.{IfOk-weaker}
use Rattle.guardian_objects.proofs.Parted.{part_is}
use Rattle.guardian_objects.proofs.objects.Objects.part_once_told_at.Goals as goal

pub returns-in-Some : goal.returns-in-Some
returns-in-Some c =
    IfOk-weaker c.part_once_told.result _ _
    (λ part says opening here e are top untold same tells below tree there.
    part_is c.args.self.now c.args.number c.args.top.now c.args.outcomes.now c.in-Some.object.now part (sym c.object.ensures ∙ ap (λ o. option_copied o) c.in-Some.is)
    says opening here e are top untold same tells below tree) c.part_once_told.ensures

pub returns-in-None : goal.returns-in-None
returns-in-None c = λ opening here e are top untold same tells below tree there.
    absurd (false≢true (sym (ap (λ o. is_some o) (sym c.object.ensures ∙ ap (λ o. option_copied o) c.in-None.is)) ∙ there))
