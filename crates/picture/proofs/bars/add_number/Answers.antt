use Rattle.std.proofs.Common.{Option, Some, cond, option_map, ap, sym, ◌∙◌}
use Rattle.std.specs.Borrow.{Bor}
use Rattle.std.specs.BTreeMap.{get}
use Rattle.action_names.specs.Names.{Name, name_cmp}
use Rattle.run_model.specs.Actions.{is_exactly}
use Rattle.picture.proofs.Beginnings.{get_more}
use Rattle.picture.proofs.bars.add_number.Goals as goal

pub returns-in_ok-insert : goal.returns-in_ok-insert
returns-in_ok-insert c = λ q.
    get_more c.args.numbers.now c.insert.new.self c.in_ok-copy.field-0 c.in-Some.name.now q (Some c.args.number) c.in_ok-copy.ensures.ok.1
    (c.in_ok-insert.ensures.updates.0 q)
    ∙ ap (λ (o : Option (Bor Name)). cond (is_exactly (option_map (λ a. a.now) o) q) (Some c.args.number) (get name_cmp c.args.numbers.now q)) (sym c.in-Some.is)
