use Rattle.std.proofs.Common.{rules, tests, ap, ◌∙◌}
use Rattle.std.proofs.lemmas.Iterator.{YieldsList-from_slice}
use Rattle.std.proofs.lemmas.Iterator.Search.{any_from_yields_List}
use Rattle.action_names.specs.Names.{has_name, same_name}
use Rattle.action_names.proofs.Paths.{list_any-has_name}
use Rattle.tracer.proofs.steps.begins.Goals as goal

pub returns : goal.returns
returns c =
    any_from_yields_List (λ b. same_name b c.args.path.now) _ _ _ c.any.ensures.ran (YieldsList-from_slice c.names_begun.result.now (cc))
    (λ x b q k. search (rules, tests))
    ∙ list_any-has_name c.names_begun.result.now c.args.path.now
    ∙ ap (λ names. has_name names c.args.path.now) c.names_begun.ensures
