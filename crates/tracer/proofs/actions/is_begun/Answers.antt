use Rattle.std.proofs.Common.{rules, tests, ap, ◌∙◌, reverse}
use Rattle.std.proofs.lemmas.Iterator.Search.{any_from_yields_List}
use Rattle.std.proofs.lemmas.Iterator.Adapters.{YieldsList-from_rev_slice}
use Rattle.run_model.specs.Actions.{begins, is_begun}
use Rattle.tracer.proofs.Going.{any_begins}
use Rattle.tracer.proofs.actions.is_begun.Goals as goal

pub returns : goal.returns
returns c =
    any_from_yields_List (λ e. begins e c.args.action.now) _ _ _ c.any.ensures.ran (YieldsList-from_rev_slice c.events.result.now (cc))
    (λ x b q k. search (rules, tests))
    ∙ any_begins c.args.action.now (reverse c.events.result.now)
    ∙ ap (is_begun c.args.action.now) c.events.ensures
