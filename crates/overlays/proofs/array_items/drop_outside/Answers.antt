use Rattle.std.proofs.Common.{rules}
use Rattle.overlays.proofs.Outside.{dropped_outside}
use Rattle.overlays.proofs.array_items.drop_outside.Goals as goal

pub returns : goal.returns
returns c = dropped_outside c.args.bounds c.args.items.now.entries c.drop_before.new.items.entries c.drop_from.new.items.entries _ _ c.drop_before.ensures c.drop_from.ensures (search rules) (search rules)
