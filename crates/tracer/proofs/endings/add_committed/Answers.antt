use Rattle.std.proofs.Common.{◌||◌, ap, sym, ◌∙◌}
use Rattle.std.specs.BTreeSet.{contains}
use Rattle.action_names.specs.Names.{name_cmp}
use Rattle.tracer.proofs.Ended.{contains_more}
use Rattle.tracer.proofs.endings.add_committed.Goals as goal

pub returns-in_ok-insert : goal.returns-in_ok-insert
returns-in_ok-insert c = λ q.
    contains_more c.args.committed.now c.insert.new.self c.in_ok-copy.field-0 c.in-Some.name.now q c.in_ok-copy.ensures.ok.1
    (c.in_ok-insert.ensures.updates.0 q)
    ∙ ap (λ t. t || contains name_cmp c.args.committed.now q) (sym (c.in-Some.ensures q))
