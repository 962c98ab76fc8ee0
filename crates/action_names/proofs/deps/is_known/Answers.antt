use Rattle.std.proofs.Common.{◌∙◌}
use Rattle.action_names.proofs.Entries.{known_from_search}
use Rattle.action_names.proofs.deps.is_known.Goals as goal

pub returns : goal.returns
returns c = c.is_ok.ensures.value ∙ known_from_search c.args.least.now c.args.guardian c.search_near.result c.requires c.search_near.ensures.found c.search_near.ensures.absent
