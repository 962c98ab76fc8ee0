use Rattle.std.proofs.Common.{inl, inr, sym, ◌∙◌, arith}
use Rattle.std.proofs.lemmas.Bool.{eqb-true, eqb-false}
use Rattle.std.proofs.lemmas.Option.{MatchOption-at_none, MatchOption-at_some}
use Rattle.run_model.proofs.AnswerTexts.{no_name_after, no_names, one_name_more}
use Rattle.run_model.proofs.answer_reading.names.Goals as goal
use Rattle.run_model.proofs.answer_reading.names.Goals.{in_default, in_default-2, then-not-is_empty-via-then-not-is_empty, then-not-is_empty-via-else-not-is_empty+then-is_empty}

pub returns-in_default-2 : goal.returns-in_default-2
returns-in_default-2 c =
    no_name_after c.args.text.now c.loop-rest.rest.now c.loop-rest.names c.loop-rest.invariant c.in-32.len_at_least (omega arith)
    (MatchOption-at_none _ _ c.in_default-2.is c.in_ok-name.ensures)

pub loop-rest-preserved : goal.loop-rest-preserved
loop-rest-preserved c =
    one_name_more c.args.text.now c.loop-rest.rest.now c.in-Some.left.now c.loop-rest.names c.push.new.self c.in-Some.name c.loop-rest.invariant c.in-32.len_at_least (omega arith)
    (MatchOption-at_some _ _ (c.in-Some.name, c.in-Some.left) c.in-Some.is c.in_ok-name.ensures) c.in_ok-push.ensures.ok

pub returns-then-not-is_empty : goal.returns-then-not-is_empty
returns-then-not-is_empty c =
    no_names c.args.text.now c.loop-rest.rest.now c.loop-rest.names c.loop-rest.invariant
    (λ long space. elim c.if-rest-lt1.branch [ in_default w ↦ omega arith | in_default-2 w ↦ omega arith ])
    (elim c.then-not-is_empty.branch [
      | then-not-is_empty-via-then-not-is_empty w ↦ inl (let some = eqb-false _ _ (sym c.is_empty.ensures ∙ w.if-not-is_empty.true) in omega arith)
      | then-not-is_empty-via-else-not-is_empty+then-is_empty w ↦ inr (eqb-true _ _ (sym w.is_empty-else-not-is_empty.ensures ∙ w.if-is_empty.true))
    ])
