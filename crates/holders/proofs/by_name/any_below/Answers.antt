use Rattle.std.proofs.Common.{ap, drop, ◌∙◌, rules, tests}
use Rattle.std.specs.Prelude.{is_some}
use Rattle.std.specs.List.{list_any}
use Rattle.std.specs.Slice.Iter.{iter_rest}
use Rattle.std.proofs.lemmas.Iterator.{YieldsList-from_slice}
use Rattle.std.proofs.lemmas.Iterator.Search.{any_from_yields_List, YieldsList-from_take_while}
use Rattle.std.proofs.lemmas.List.{take_rest}
use Rattle.action_names.specs.Names.{is_ancestor}
use Rattle.holders.proofs.Below.{any_in, run_from}
use Rattle.holders.proofs.by_name.any_below.Goals as goal

pub returns : goal.returns
returns g c =
    let a = c.args.action.now in
    let rows = c.args.rows.now in
    let from = c.start-from.result in
    any_from_yields_List (λ r. is_some r.1) _ _ _ c.any.ensures.ran
    (YieldsList-from_take_while _ (λ r. is_ancestor a r.0)
    (YieldsList-from_slice (drop from rows) (ap iter_rest c.take_while.ensures.source ∙ (c.iter.ensures.rest ∙ take_rest rows from)))
    c.take_while.ensures.closure c.take_while.ensures.done (λ x b q k. search (rules, tests)))
    (λ x b q k. search (rules, tests))
    ∙ ap (list_any (λ r. is_some r.1)) (run_from a rows from c.requires c.start-from.ensures.start)
    ∙ any_in (λ r. is_ancestor a r.0) (λ r. is_some r.1) rows
