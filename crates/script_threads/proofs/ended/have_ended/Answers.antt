use Rattle.std.proofs.Common.{rules, tests, ap, sym, ◌∙◌}
use Rattle.std.proofs.lemmas.Iterator.{YieldsList-from_slice}
use Rattle.std.proofs.lemmas.Iterator.Search.{all_from_yields_List}
use Rattle.std.specs.List.{list_all}
use Rattle.run_model.specs.Actions.{names_begun}
use Rattle.run_model.specs.LocalHistories.{events_there}
use Rattle.script_threads.specs.Ended.{has_ended_there}
use Rattle.script_threads.proofs.ended.have_ended.Goals as goal

pub returns : goal.returns
returns g c f stands =
    all_from_yields_List (has_ended_there (events_there f.registry)) _ _ _ c.all.ensures.ran (YieldsList-from_slice c.as_slice.result.now (cc))
    (λ x b q k. search (rules, tests, stands))
    ∙ ap (list_all (has_ended_there (events_there f.registry))) (c.as_slice.ensures ∙ ap names_begun (sym c.in-Began.is))
