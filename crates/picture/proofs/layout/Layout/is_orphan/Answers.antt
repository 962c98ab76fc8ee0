use Rattle.std.proofs.Common.{◌≤◌, length, ap, sym, ◌∙◌, arith}
use Rattle.std.specs.List.{list_any}
use Rattle.action_names.specs.Names.{Name, ancestors}
use Rattle.picture.specs.Losses.{is_doomed}
use Rattle.picture.proofs.Settling.{any_here, any_top, any_up, orphan_is, parent_here, shorter, top_here}
use Rattle.picture.proofs.layout.Layout.is_orphan.Goals as goal

pub loop-name-smaller : goal.loop-name-smaller
loop-name-smaller c =
    let above = parent_here c.loop-name.name c.in_ok-parent.field-0 c.in-Some.parent c.in_ok-parent.ensures.parent c.in-Some.is in
    shorter c.loop-name.name c.in-Some.parent c.loop-name.invariant.named.not_empty above.1

pub loop-name-preserved : goal.loop-name-preserved
loop-name-preserved c =
    let above = parent_here c.loop-name.name c.in_ok-parent.field-0 c.in-Some.parent c.in_ok-parent.ensures.parent c.in-Some.is in
    record {
      named = above.0;
      same =
          ap (λ (a : Name). list_any (is_doomed c.args.self.now.bars c.args.self.now.stranded) (ancestors a)) above.1
          ∙ any_up (is_doomed c.args.self.now.bars c.args.self.now.stranded) c.loop-name.name c.loop-name.invariant.named.not_empty
          (sym c.is_doomed.ensures ∙ c.loop-name-test.true)
          ∙ c.loop-name.invariant.same;
    }

pub returns-in_default : goal.returns-in_default
returns-in_default c = λ past bars_are are.
    let same = ap length c.in_ok-name.ensures.ok.1 in
    let named : 1 ≤ length c.args.action.now = omega (arith, c.in_ok-name.ensures.ok.0.not_empty, same) in
    sym (any_top (is_doomed c.args.self.now.bars c.args.self.now.stranded) c.loop-name.name
    (top_here c.loop-name.name c.in_ok-parent.field-0 c.in_ok-parent.ensures.top c.in_default.is) (sym c.is_doomed.ensures ∙ c.loop-name-test.true))
    ∙ c.loop-name.invariant.same
    ∙ orphan_is c.args.self.now.bars c.args.self.now.stranded past c.args.action.now named bars_are are

pub returns : goal.returns
returns c = λ past bars_are are.
    let same = ap length c.in_ok-name.ensures.ok.1 in
    let named : 1 ≤ length c.args.action.now = omega (arith, c.in_ok-name.ensures.ok.0.not_empty, same) in
    sym (any_here (is_doomed c.args.self.now.bars c.args.self.now.stranded) c.loop-name.name c.loop-name.invariant.named.not_empty
    (sym c.is_doomed.ensures ∙ c.loop-name-test.false))
    ∙ c.loop-name.invariant.same
    ∙ orphan_is c.args.self.now.bars c.args.self.now.stranded past c.args.action.now named bars_are are
