use Rattle.std.proofs.Common.{ap, drop, reverse, ◌∙◌}
use Rattle.packed_history.specs.Arenas.{events_in}
use Rattle.packed_history.proofs.Laid.{popped_events}
use Rattle.packed_history.proofs.history.PackedHistory.pop.Goals as goal

pub returns-in-Some : goal.returns-in-Some
returns-in-Some c =
    let inside = c.self.inside in
    let rows = c.pop.new.self.items in
    ap (λ p. events_in p (reverse rows)) c.cut.ensures
    ∙ popped_events inside.arenas rows inside.rows.items c.in-Some.row c.in-Some.ensures.items c.self.invariant
    ∙ ap (λ es. drop 1 es) c.self.view_is
