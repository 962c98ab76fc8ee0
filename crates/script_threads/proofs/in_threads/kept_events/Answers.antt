use Rattle.std.proofs.Common.{[], ap, reverse, sym, ◌++◌, ◌∙◌, ◌∷◌}
use Rattle.script_threads.proofs.Places.{next_taken}
use Rattle.script_threads.proofs.in_threads.kept_events.Goals as goal

pub loop-place-preserved : goal.loop-place-preserved
loop-place-preserved c =
    c.in_ok-push.ensures.items ∙ ap (λ events. events ++ (c.in-Some.stamp, c.in-Some.event) ∷ []) c.loop-place.invariant
    ∙ sym (next_taken (reverse c.args.kept.now) c.loop-place.place (c.in-Some.stamp, c.in-Some.event) (sym c.in_ok-stamp.ensures ∙ c.in-Some.is))
