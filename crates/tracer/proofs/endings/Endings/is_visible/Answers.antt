use Rattle.std.proofs.Common.{◌||◌, ap, ◌∙◌, rules, tests}
use Rattle.std.specs.BTreeSet.{contains}
use Rattle.std.proofs.lemmas.Iterator.{YieldsList-from_slice}
use Rattle.std.proofs.lemmas.Iterator.Search.{all_from_yields_List}
use Rattle.std.specs.List.{list_all}
use Rattle.action_names.specs.Names.{Name, is_ancestor, name_cmp}
use Rattle.run_model.specs.Actions.{is_committed}
use Rattle.tracer.proofs.Ended.{list_all_same}
use Rattle.tracer.proofs.endings.Endings.is_visible.Goals as goal

pub returns : goal.returns
returns c = λ past are.
    all_from_yields_List (λ a. is_ancestor a c.args.to.now || contains name_cmp c.args.self.now.committed a) _ _ _ c.all-seen.ensures.ran
    (YieldsList-from_slice c.as_slice.result.now (cc))
    (λ x b q k. search (rules, tests))
    ∙ list_all_same (λ a. is_ancestor a c.args.to.now || contains name_cmp c.args.self.now.committed a)
    (λ a. is_ancestor a c.args.to.now || is_committed a past) c.as_slice.result.now
    (λ a. ap (λ t. is_ancestor a c.args.to.now || t) (are.committed a))
    ∙ ap (list_all (λ (a : Name). is_ancestor a c.args.to.now || is_committed a past)) (c.as_slice.ensures ∙ c.in_ok-names.ensures)
