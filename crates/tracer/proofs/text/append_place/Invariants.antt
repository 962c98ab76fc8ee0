use Rattle.std.proofs.Common.{◌≡◌, ◌∷◌, ◌++◌, take, string_bytes}
use Rattle.tracer.specs.declared.place.ClosingStep.{ClosingStep}
use Rattle.tracer.proofs.Lines.{steps_text}
use Rattle.tracer.proofs.text.append_place.Given as goal

-- the first step was written, and so many of the others
abbrev pub invariant-loop-step : goal.invariant-loop-step
invariant-loop-step l =
    (first : ClosingStep) × (l.place.steps.items ≡ first ∷ l.others)
    × (string_bytes l.text ≡ string_bytes l.fn.text ++ steps_text (first ∷ take l.step-index l.others))
