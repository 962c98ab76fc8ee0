use Rattle.std.proofs.Common.{List, Some, cond, sym, ap, ◌∙◌}
use Rattle.std.specs.BTreeMap.{get}
use Rattle.action_names.specs.Names.{Name, has_name, name_cmp}
use Rattle.picture.proofs.Adding.{bars_more, begun_at, on_ok}
use Rattle.picture.proofs.bars.Bars.add.Goals as goal

pub returns : goal.returns
returns c = λ past are is.
    on_ok c.add_number-3.result c.add_number-3.ensures
    (λ aborted.
    bars_more c.args.self.now _ c.args.event.now c.home_in-home.result c.args.number past are is (c.home_in-home.ensures past are)
    (λ q. c.in_ok-add_begun.ensures q
    ∙ ap (λ (names : List Name). cond (has_name names q) (Some (begun_at c.home_in-home.result c.args.number)) (get name_cmp c.args.self.now.begun q))
    c.names_begun.ensures)
    (λ q. c.in_ok-add_number.ensures q ∙ ap (λ t. cond t (Some c.args.number) (get name_cmp c.args.self.now.closed q)) (sym (c.closed_by.ensures q)))
    (λ q. c.in_ok-add_number-2.ensures q ∙ ap (λ t. cond t (Some c.args.number) (get name_cmp c.args.self.now.committed q)) (sym (c.committed_by.ensures q)))
    (λ q. aborted q ∙ ap (λ t. cond t (Some c.args.number) (get name_cmp c.args.self.now.aborted q)) (sym (c.aborted_by.ensures q))))
