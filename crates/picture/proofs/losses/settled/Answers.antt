use Rattle.std.proofs.Common.{is_some, sym, ap, ◌∙◌}
use Rattle.std.specs.BTreeMap.{get}
use Rattle.action_names.specs.Names.{name_cmp}
use Rattle.picture.specs.Losses.{settled}
use Rattle.picture.proofs.Settling.{parent_here, settled_here, settled_top, settled_up, shorter, sub_here, top_here}
use Rattle.picture.proofs.losses.settled.Goals as goal

pub loop-name-smaller : goal.loop-name-smaller
loop-name-smaller c =
    let above = parent_here c.loop-name.name c.in_ok-parent.field-0 c.in-Some.parent c.in_ok-parent.ensures.parent c.in-Some.is in
    shorter c.loop-name.name c.in-Some.parent c.loop-name.invariant.named.not_empty above.1

pub loop-name-preserved : goal.loop-name-preserved
loop-name-preserved c =
    let above = parent_here c.loop-name.name c.in_ok-parent.field-0 c.in-Some.parent c.in_ok-parent.ensures.parent c.in-Some.is in
    record {
      named = above.0;
      same =
          ap (settled (λ x. is_some (get name_cmp c.args.bars.now.committed x))) above.1
          ∙ settled_up (λ x. is_some (get name_cmp c.args.bars.now.committed x)) c.loop-name.name c.loop-name.invariant.named.not_empty
          (sub_here c.loop-name.name c.in_ok-parent.field-0 c.in-Some.parent c.in_ok-parent.ensures.top c.in-Some.is)
          (sym c.contains_key.ensures ∙ c.loop-name-test.true)
          ∙ c.loop-name.invariant.same;
    }

pub returns-in_default : goal.returns-in_default
returns-in_default c =
    settled_top (λ x. is_some (get name_cmp c.args.bars.now.committed x)) c.loop-name.name
    (top_here c.loop-name.name c.in_ok-parent.field-0 c.in_ok-parent.ensures.top c.in_default.is) (sym c.contains_key.ensures ∙ c.loop-name-test.true)
    ∙ c.loop-name.invariant.same

pub returns : goal.returns
returns c =
    settled_here (λ x. is_some (get name_cmp c.args.bars.now.committed x)) c.loop-name.name c.loop-name.invariant.named.not_empty
    (sym c.contains_key.ensures ∙ c.loop-name-test.false)
    ∙ c.loop-name.invariant.same
