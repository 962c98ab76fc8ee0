use Rattle.std.proofs.Common.{◌≡◌, Some, None, sym, ap, ◌∙◌}
use Rattle.values.specs.Contents.{field_value}
use Rattle.atomic_types.specs.Records.{reply_with}
use Rattle.atomic_types.specs.declared.op.Reply.TheVariants.{Gives}
use Rattle.overlays.specs.RecordOverlayLaws.{value_laid}
use Rattle.overlays.proofs.record.RecordLayered.peek.Goals as goal

pub returns-in_ok-copy-in-Some : goal.returns-in_ok-copy-in-Some
returns-in_ok-copy-in-Some c = λ r fit known.
    let held : field_value c.args.overlay.now c.in-Get.name ≡ Some c.in-Some.value.now =
    ap (λ fs. field_value fs c.in-Get.name) (sym c.overlay.view_is ∙ sym c.deref.ensures.value) ∙ sym c.in-Some.ensures in
    rw c.in-Get.is (ap reply_with (value_laid r c.args.overlay.now c.in-Get.name (Some c.in-Some.value.now) fit held)
    ∙ ap (λ v. Gives v) (sym c.in_ok-copy-in-Some.ensures.same))

pub returns-in-None : goal.returns-in-None
returns-in-None c = λ r fit known.
    let held : field_value c.args.overlay.now c.in-Get.name ≡ None =
    ap (λ fs. field_value fs c.in-Get.name) (sym c.overlay.view_is ∙ sym c.deref.ensures.value) ∙ sym c.in-None.ensures in
    rw c.in-Get.is (ap reply_with (value_laid r c.args.overlay.now c.in-Get.name None fit held))
