use Rattle.std.proofs.Common.{subst, sym, ◌∙◌}
use Rattle.std.proofs.lemmas.Result.{IfOk-weaker}
use Rattle.atomic_object.specs.Staying.{OutcomesRise}
use Rattle.volatile_state.proofs.Kept.{parts_are, parts_none, plan_within}
use Rattle.volatile_state.proofs.Sound.{inside}
use Rattle.volatile_state.proofs.memory.Memory.parts.Goals as goal

pub parts_once_told-requires : goal.parts_once_told-requires
parts_once_told-requires c = subst (λ l. OutcomesRise l) (sym (c.outcomes.ensures ∙ c.requires.3.brought)) c.requires.3.next.agrees.outcomes.once

pub returns-then-is_committed : goal.returns-then-is_committed
returns-then-is_committed c = λ s news at of vote.
    parts_none (inside c.self.view_is at) (plan_within c.self.view_is of) c.args.top.now c.is_committed.result c.new.result.entries c.is_committed.ensures
    c.if-is_committed.true c.new.ensures.empty

pub returns : goal.returns
returns c = λ s news at of vote.
    IfOk-weaker c.parts_once_told.result _ _
    (λ parts says.
    parts_are (inside c.self.view_is at) (plan_within c.self.view_is of) c.args.top.now c.is_committed.result parts.entries c.outcomes.result.now c.is_committed.ensures
    c.if-is_committed.false (c.outcomes.ensures ∙ of.brought) vote says)
    c.parts_once_told.ensures
