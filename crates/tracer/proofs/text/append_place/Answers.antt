use Rattle.std.proofs.Common.{string_bytes, ◌∙◌, ap, ◌++◌, arith}
use Rattle.std.proofs.lemmas.Str.{encode_ascii}
use Rattle.tracer.proofs.Lines.{steps_more}
use Rattle.tracer.proofs.text.append_place.Goals as goal

pub loop-step-preserved : goal.loop-step-preserved
loop-step-preserved c =
    let so_far = c.loop-step.invariant in (
      so_far.0,
      so_far.1,
      steps_more (string_bytes c.args.text.now) (string_bytes c.loop-step.text) _ _ so_far.0 c.in-Some.others.now c.loop-step.step-index _ c.loop-step-test.true
          so_far.2 (c.in_ok-push.ensures.bytes ∙ ap (λ t. string_bytes c.loop-step.text ++ t) (encode_ascii 46 (omega arith))) c.in_ok-append_number-2.ensures,
    )
