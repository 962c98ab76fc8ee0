use Rattle.std.proofs.Common.{Some, ap, cond, sym, ◌∙◌}
use Rattle.std.specs.BTreeMap.{get}
use Rattle.action_names.specs.Names.{name_cmp}
use Rattle.tracer.proofs.Ended.{get_more}
use Rattle.tracer.proofs.endings.add_closed.Goals as goal

pub returns-in_ok-insert : goal.returns-in_ok-insert
returns-in_ok-insert c = λ q.
    get_more c.args.closing.now c.insert.new.self c.in_ok-copy.field-0 c.in-Some.name.now q (Some c.args.number) c.in_ok-copy.ensures.ok.1
    (c.in_ok-insert.ensures.updates.0 q)
    ∙ ap (λ t. cond t (Some c.args.number) (get name_cmp c.args.closing.now q)) (sym (c.in-Some.ensures q))
