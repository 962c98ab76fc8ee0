use Rattle.std.proofs.Common.{◌≡◌, ◌++◌, sym, ap, ap₂, ◌∙◌, arith, rules}
use Rattle.script_model.specs.declared.statement.Arm.{the_lemmas}
use Rattle.script_model.specs.Reaching.{called, called_by}
use Rattle.script.specs.Marks.{marked_all}
use Rattle.script.proofs.Marking.{marked_all-append, called-at, called-end, called_in_arms-at, called_in_arms-end}
use Rattle.script.proofs.recursion.+mark.Goals as goal

pub mark_calls-loop-statement-preserved : goal.mark_calls-loop-statement-preserved
mark_calls-loop-statement-preserved t c =
    let l = c.loop-statement in
    called-at c.args.statements.now l.statement-index c.statement-item.result l.marks _ (omega arith) c.statement-item.is c.mark_statement.ensures ∙ l.invariant

pub mark_calls-returns : goal.mark_calls-returns
mark_calls-returns t c =
    let l = c.loop-statement in
    called-end c.args.statements.now l.statement-index l.marks (omega arith) ∙ l.invariant

pub mark_arms-loop-arm-preserved : goal.mark_arms-loop-arm-preserved
mark_arms-loop-arm-preserved t c =
    let l = c.loop-arm in
    called_in_arms-at c.args.arms.now l.arm-index c.arm-item.result l.marks _ (omega arith) c.arm-item.is c.mark_arm.ensures ∙ l.invariant

pub mark_arms-returns : goal.mark_arms-returns
mark_arms-returns t c =
    let l = c.loop-arm in
    called_in_arms-end c.args.arms.now l.arm-index l.marks (omega arith) ∙ l.invariant

pub mark_statement-returns-in-TopAction : goal.mark_statement-returns-in-TopAction
mark_statement-returns-in-TopAction t c =
    let marks = c.args.marks.now in
    let whole : called_by c.args.statement.now ≡ called c.in-TopAction.body ++ called c.in-TopAction.signals = rw c.in-TopAction.is (search (rules, the_lemmas)) in
    c.mark_calls-in-TopAction-2.ensures ∙ ap (marked_all (called c.as_slice-in-TopAction-2.result.now)) c.mark_calls-in-TopAction.ensures
    ∙ sym (marked_all-append (called c.as_slice-in-TopAction.result.now) (called c.as_slice-in-TopAction-2.result.now) marks)
    ∙ ap₂ (λ a b. marked_all (called a ++ called b) marks) c.as_slice-in-TopAction.ensures c.as_slice-in-TopAction-2.ensures
    ∙ ap (λ ns. marked_all ns marks) (sym whole)

pub mark_statement-returns-in-If : goal.mark_statement-returns-in-If
mark_statement-returns-in-If t c =
    let marks = c.args.marks.now in
    let whole : called_by c.args.statement.now ≡ called c.in-If.first ++ called c.in-If.second = rw c.in-If.is (search (rules, the_lemmas)) in
    c.mark_calls-in-If-2.ensures ∙ ap (marked_all (called c.as_slice-in-If-2.result.now)) c.mark_calls-in-If.ensures
    ∙ sym (marked_all-append (called c.as_slice-in-If.result.now) (called c.as_slice-in-If-2.result.now) marks)
    ∙ ap₂ (λ a b. marked_all (called a ++ called b) marks) c.as_slice-in-If.ensures c.as_slice-in-If-2.ensures
    ∙ ap (λ ns. marked_all ns marks) (sym whole)
