use Rattle.std.proofs.Common.{[], ap, ◌++◌, ◌∙◌, ◌∷◌}
use Rattle.packed_history.proofs.Laid.{pushed_events}
use Rattle.packed_history.proofs.history.PackedHistory.push.Goals as goal

pub returns-clause-ok : goal.returns-clause-ok
returns-clause-ok c =
    let inside = c.self.inside in
    let row = c.in_ok-row.row in
    pushed_events inside.arenas c.keep.new.self inside.rows.items c.push_reserved.new.self.items row c.args.event.now c.in_ok-row.ensures.ok
    (c.push_reserved.ensures.items ∙ ap (λ rs. rs ++ row ∷ []) c.in_ok-reserve.ensures.items) c.self.invariant
    ∙ ap (λ es. c.args.event.now ∷ es) c.self.view_is
