use Rattle.std.proofs.Common.{rules, tests, ap, ◌∙◌}
use Rattle.std.proofs.lemmas.Iterator.Search.{any_from_yields_List}
use Rattle.std.proofs.lemmas.Iterator.Adapters.{YieldsList-from_rev_slice}
use Rattle.run_model.specs.Actions.{step_aborts, is_aborted}
use Rattle.tracer.proofs.actions.is_aborted.Goals as goal

pub returns : goal.returns
returns c =
    any_from_yields_List (λ e. step_aborts e.step c.args.action.now) _ _ _ c.any.ensures.ran (YieldsList-from_rev_slice c.events.result.now (cc))
    (λ x b q k. search (rules, tests))
    ∙ ap (is_aborted c.args.action.now) c.events.ensures
