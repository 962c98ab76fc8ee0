use Rattle.std.proofs.Common.{sym, ◌∙◌}
use Rattle.script_parts.proofs.Asked.{ask_true, equal_texts, equal_ints}
use Rattle.script_parts.proofs.expressions.equal.Goals as goal

pub returns-then-is_of_texts : goal.returns-then-is_of_texts
returns-then-is_of_texts c =
    equal_texts c.args.scope.now _ _ _ _ _ _ _ _ c.member-inside.ensures c.in_ok-first.ensures c.sort_of-one.ensures c.sort_of-other.ensures
    (sym c.agree.ensures ∙ ask_true _ _ _ c.in_ok-ask.ensures) (sym c.is_of_texts.ensures ∙ c.if-is_of_texts.true) c.same_texts.ensures

pub returns-else-is_of_texts : goal.returns-else-is_of_texts
returns-else-is_of_texts c =
    equal_ints c.args.scope.now _ _ _ _ _ _ _ _ c.member-inside.ensures c.in_ok-first.ensures c.sort_of-one.ensures c.sort_of-other.ensures
    (sym c.agree.ensures ∙ ask_true _ _ _ c.in_ok-ask.ensures) (sym c.is_of_texts.ensures ∙ c.if-is_of_texts.false) c.same_ints.ensures
