use Rattle.std.proofs.Common.{arith, ◌∙◌}
use Rattle.packed_history.specs.declared.answers.ShortAnswer.TheVariants.{BeganTop}
use Rattle.packed_history.specs.declared.arenas.Row.TheVariants.{Short}
use Rattle.packed_history.specs.declared.steps.ShortStep.TheVariants.{Top}
use Rattle.packed_history.proofs.Laid.{events_all, has_within}
use Rattle.packed_history.proofs.history.PackedHistory.unpacked.Goals as goal

pub event-requires : goal.event-requires
event-requires c =
    has_within c.self.inside.arenas c.self.inside.rows.items c.deref-row-items.result.now c.loop-row.row-index (Short 0 0 (Top 0) (BeganTop 0))
    c.deref-row-items.ensures.value c.self.invariant (omega arith)

pub returns : goal.returns
returns c =
    c.from_vec.ensures
    ∙ events_all c.self.inside.arenas c.self.inside.rows.items c.deref-row-items.result.now c.loop-row.events.items c.loop-row.row-index
    c.deref-row-items.ensures.value (omega arith) c.loop-row.invariant
    ∙ c.self.view_is
