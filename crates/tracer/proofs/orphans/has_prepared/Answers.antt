use Rattle.std.proofs.Common.{rules, tests}
use Rattle.std.proofs.lemmas.Iterator.Search.{any_from_yields_List}
use Rattle.std.proofs.lemmas.Iterator.Adapters.{YieldsList-from_rev_slice}
use Rattle.run_model.specs.Visibility.{votes_yes}
use Rattle.tracer.proofs.orphans.has_prepared.Goals as goal

pub returns : goal.returns
returns c =
    any_from_yields_List (λ e. votes_yes e.step e.answer c.args.guardian c.args.top.now) _ _ _ c.any.ensures.ran
    (YieldsList-from_rev_slice c.args.events.now (cc))
    (λ x b q k. search (rules, tests))
