use Rattle.std.proofs.Common.{Some, ap, arith, length, reverse, sym, ◌<◌, ◌∙◌}
use Rattle.std.proofs.lemmas.List.{length-reverse}
use Rattle.std.proofs.lemmas.Option.{slice_get-get_or, slice_get_within}
use Rattle.locked_run.proofs.Stamps.{event_at, no_event}
use Rattle.locked_run.proofs.stored.StoredHistory.event.Goals as goal

pub returns-in-Some : goal.returns-in-Some
returns-in-Some c =
    let h = c.self.inside in
    let i = c.args.place in
    let stamp = c.index.result.now in
    let at = sym c.in_ok-event.ensures ∙ c.in-Some.is in
    let counted = length-reverse h.events in
    let within = slice_get_within (reverse h.events) i c.in-Some.event at in
    let same = c.self.invariant in
    let below : i < length h.stamps.items = omega arith in
    event_at h.stamps.items h.events c.self.invariant c.self.view_is i stamp c.in-Some.event
    (slice_get-get_or h.stamps.items i stamp below ∙ ap (λ n. Some n) (sym c.index.ensures)) at

pub returns-in-None : goal.returns-in-None
returns-in-None c =
    no_event c.self.inside.stamps.items c.self.inside.events c.self.invariant c.self.view_is c.args.place (sym c.in_ok-event.ensures ∙ c.in-None.is)
