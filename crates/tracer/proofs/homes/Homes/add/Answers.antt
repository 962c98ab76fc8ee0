use Rattle.std.proofs.Common.{Option, Some, cond, ap, ◌∙◌, arith}
use Rattle.std.specs.Ordering.{eq_by_cmp}
use Rattle.std.specs.BTreeMap.{get}
use Rattle.action_names.specs.Names.{Name, name_cmp}
use Rattle.tracer.proofs.Kept.{all_added, one_added}
use Rattle.tracer.proofs.homes.Homes.add.Goals as goal

pub loop-name-preserved : goal.loop-name-preserved
loop-name-preserved c =
    one_added c.args.self.now.begun c.loop-name.self.begun c.insert.new.self _ c.names_begun-name-items.result.now c.loop-name.name-index c.name-item.result
    c.in_ok-copy.field-0 (omega arith) c.name-item.is c.in_ok-copy.ensures.ok.0 c.in_ok-copy.ensures.ok.1 c.loop-name.invariant
    (λ q. c.in_ok-insert.ensures.updates.0 q
    ∙ ap (λ (m : Option Name). cond (eq_by_cmp name_cmp c.in_ok-copy.field-0 q) (Some (record { home = c.home_in-home.result; maker = m })) (get name_cmp c.loop-name.self.begun q))
    c.in_ok-maker.ensures)

pub returns : goal.returns
returns c = λ past homes.
    all_added c.args.self.now c.loop-name.self c.args.step.now c.args.answer.now c.home_in-home.result c.names_begun-name-items.result.now c.loop-name.name-index past
    c.names_begun-name-items.ensures c.loop-name-test.false c.loop-name.invariant homes (c.home_in-home.ensures past homes)
