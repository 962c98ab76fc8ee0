use Rattle.std.proofs.Common.{ap, ◌∙◌, rules, tests}
use Rattle.std.specs.Prelude.{is_some}
use Rattle.std.specs.List.{list_any}
use Rattle.std.specs.Map.Iter.{deref_pair}
use Rattle.std.proofs.lemmas.Iterator.Consumers.{YieldsList-from_rest}
use Rattle.std.proofs.lemmas.Iterator.Search.{any_from_yields_List, YieldsList-from_take_while}
use Rattle.action_names.specs.Names.{is_ancestor}
use Rattle.holders.proofs.Below.{any_in, first_from}
use Rattle.holders.proofs.trees.any_below.Goals as goal

pub returns : goal.returns
returns g c =
    let a = c.args.action.now in
    any_from_yields_List (λ r. is_some r.1) _ _ _ c.any.ensures.ran
    (YieldsList-from_take_while _ (λ r. is_ancestor a r.0) (YieldsList-from_rest {shows = deref_pair} _ (c.take_while.ensures.source ∙ c.range.ensures.between tt))
    c.take_while.ensures.closure c.take_while.ensures.done (λ x b q k. search (rules, tests)))
    (λ x b q k. search (rules, tests))
    ∙ ap (list_any (λ r. is_some r.1)) (first_from a c.args.rows.now.entries c.range.ensures.ordered)
    ∙ any_in (λ r. is_ancestor a r.0) (λ r. is_some r.1) c.args.rows.now.entries
