use Rattle.std.proofs.Common.{rules, tests, ap, ◌∙◌}
use Rattle.std.specs.List.{list_any}
use Rattle.std.proofs.lemmas.Iterator.{YieldsList-from_slice}
use Rattle.std.proofs.lemmas.Iterator.Search.{any_from_yields_List}
use Rattle.action_names.specs.Names.{Name}
use Rattle.run_model.specs.Actions.{is_aborted}
use Rattle.tracer.proofs.orphans.is_under_aborted.Goals as goal

pub returns : goal.returns
returns c =
    any_from_yields_List (λ a. is_aborted a c.args.history.now) _ _ _ c.any-aborted.ensures.ran
    (YieldsList-from_slice c.as_slice.result.now (cc))
    (λ x b q k. search (rules, tests))
    ∙ ap (λ names. list_any (λ (a : Name). is_aborted a c.args.history.now) names) (c.as_slice.ensures ∙ c.in_ok-names.ensures)
