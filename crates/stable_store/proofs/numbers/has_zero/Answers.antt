use Rattle.std.proofs.Common.{◌∙◌}
use Rattle.stable_store.proofs.Maps.{zero_found}
use Rattle.stable_store.proofs.numbers.has_zero.Goals as goal

pub returns : goal.returns
returns g c = c.contains_key.ensures ∙ zero_found c.args.map.now.entries
