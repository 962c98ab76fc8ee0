use Rattle.std.proofs.Common.{sym, ◌∙◌}
use Rattle.script_parts.proofs.Items.{list_found, list_fault}
use Rattle.script_parts.proofs.shapes.list.Goals as goal

pub returns-then-is_within : goal.returns-then-is_within
returns-then-is_within c = list_found _ _ c.in_ok-items.items.now _ _ c.in_ok-items.ensures (sym c.is_within.ensures ∙ c.if-is_within.true)

pub returns-else-is_within : goal.returns-else-is_within
returns-else-is_within c = λ h.
    list_fault _ _ c.in_ok-items.items.now _ _ _ c.in_ok-items.ensures (sym c.is_within.ensures ∙ c.if-is_within.false) (c.fault.ensures h)
