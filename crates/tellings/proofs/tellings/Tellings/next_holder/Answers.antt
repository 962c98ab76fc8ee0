use Rattle.std.proofs.Common.{ap, not, sym, ◌∙◌}
use Rattle.action_names.specs.Names.{parent_of}
use Rattle.run_model.specs.Telling.{last_passing}
use Rattle.tellings.specs.Hearing.{is_told_committed, told_of}
use Rattle.tellings.proofs.Climbing.{height_falls, nearest_is_above, nearest_is_own, parent_named, up_from, up_from_parent}
use Rattle.tellings.proofs.Histories.{holder_told}
use Rattle.tellings.proofs.tellings.Tellings.next_holder.Goals as goal

pub loop-above-init : goal.loop-above-init
loop-above-init c = record {
  named = parent_named c.args.action.now c.in_ok-above.above c.in_ok-above.ensures.parent;
  same = ap (last_passing (λ b. not (is_told_committed (told_of c.args.places.now c.args.self.now b))))
      (up_from_parent c.args.action.now c.in_ok-above.above c.in_ok-above.ensures.top c.in_ok-above.ensures.parent);
}

pub returns-then-not-knows_commit : goal.returns-then-not-knows_commit
returns-then-not-knows_commit c = λ g here are.
    nearest_is_own c.loop-above.above c.in-Some.name c.in-Some.is c.loop-above.invariant.named (λ b. not (is_told_committed (told_of c.args.places.now c.args.self.now b)))
    (ap not (sym c.knows_commit.ensures ∙ c.if-not-knows_commit.true))
    ∙ c.loop-above.invariant.same
    ∙ holder_told c.args.places.now c.args.self.now g here are (parent_of c.args.action.now)

pub loop-above-smaller-in_ok-above-2 : goal.loop-above-smaller-in_ok-above-2
loop-above-smaller-in_ok-above-2 c =
    height_falls c.loop-above.above c.in-Some.name c.in-Some.is c.loop-above.invariant.named c.in_ok-above-2.above c.in_ok-above-2.ensures.parent

pub loop-above-smaller-in_ok-above-2-2 : goal.loop-above-smaller-in_ok-above-2-2
loop-above-smaller-in_ok-above-2-2 c =
    height_falls c.loop-above.above c.in-Some.name c.in-Some.is c.loop-above.invariant.named c.in_ok-above-2.above c.in_ok-above-2.ensures.parent

pub loop-above-preserved-in_ok-above-2 : goal.loop-above-preserved-in_ok-above-2
loop-above-preserved-in_ok-above-2 c = record {
  named = parent_named c.in-Some.name c.in_ok-above-2.above c.in_ok-above-2.ensures.parent;
  same =
      nearest_is_above c.loop-above.above c.in-Some.name c.in-Some.is c.loop-above.invariant.named c.in_ok-above-2.above c.in_ok-above-2.ensures.parent
      c.in_ok-above-2.ensures.top (λ b. not (is_told_committed (told_of c.args.places.now c.args.self.now b))) (ap not (sym c.knows_commit.ensures ∙ c.if-not-knows_commit.false))
      ∙ c.loop-above.invariant.same;
}

pub loop-above-preserved-in_ok-above-2-2 : goal.loop-above-preserved-in_ok-above-2-2
loop-above-preserved-in_ok-above-2-2 c = record {
  named = parent_named c.in-Some.name c.in_ok-above-2.above c.in_ok-above-2.ensures.parent;
  same =
      nearest_is_above c.loop-above.above c.in-Some.name c.in-Some.is c.loop-above.invariant.named c.in_ok-above-2.above c.in_ok-above-2.ensures.parent
      c.in_ok-above-2.ensures.top (λ b. not (is_told_committed (told_of c.args.places.now c.args.self.now b))) (ap not (sym c.knows_commit.ensures ∙ c.if-not-knows_commit.false))
      ∙ c.loop-above.invariant.same;
}

pub loop-above-smaller : goal.loop-above-smaller
loop-above-smaller c =
    height_falls c.loop-above.above c.in-Some.name c.in-Some.is c.loop-above.invariant.named c.in_ok-above-2.above c.in_ok-above-2.ensures.parent

pub loop-above-preserved : goal.loop-above-preserved
loop-above-preserved c = record {
  named = parent_named c.in-Some.name c.in_ok-above-2.above c.in_ok-above-2.ensures.parent;
  same =
      nearest_is_above c.loop-above.above c.in-Some.name c.in-Some.is c.loop-above.invariant.named c.in_ok-above-2.above c.in_ok-above-2.ensures.parent
      c.in_ok-above-2.ensures.top (λ b. not (is_told_committed (told_of c.args.places.now c.args.self.now b))) (ap not (sym c.knows_commit.ensures ∙ c.if-not-knows_commit.false))
      ∙ c.loop-above.invariant.same;
}

pub returns : goal.returns
returns c = λ g here are.
    ap (λ o. last_passing (λ b. not (is_told_committed (told_of c.args.places.now c.args.self.now b))) (up_from o)) (sym c.in_default.is)
    ∙ c.loop-above.invariant.same
    ∙ holder_told c.args.places.now c.args.self.now g here are (parent_of c.args.action.now)
