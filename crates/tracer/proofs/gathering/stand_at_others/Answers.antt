use Rattle.std.proofs.Common.{sym, ◌∙◌}
use Rattle.std.proofs.lemmas.Bool.{true≢false}
use Rattle.tracer.proofs.Elsewhere.{at_first, at_second, at_third}
use Rattle.tracer.proofs.gathering.stand_at_others.Goals as goal
use Rattle.tracer.proofs.gathering.stand_at_others.Goals.{then-lacks_copy, else-lacks_copy}

pub returns-then-lacks_copy-2 : goal.returns-then-lacks_copy-2
returns-then-lacks_copy-2 c named two = elim c.if-lacks_copy.branch [
  | then-lacks_copy w ↦ at_first c.args.limit c.args.one c.args.other c.args.turn.now named two c.if-lacks_copy.value c.if-lacks_copy-2.true (sym (w.if-lacks_copy.ensures))
  | else-lacks_copy w ↦
      at_second c.args.limit c.args.one c.args.other c.args.turn.now named two c.if-lacks_copy.value c.if-lacks_copy-2.true
      (sym (w.lacks_copy-else-lacks_copy.ensures) ∙ sym w.value-is ∙ c.if-lacks_copy-2.true)
]

pub returns-else-lacks_copy-2 : goal.returns-else-lacks_copy-2
returns-else-lacks_copy-2 c named two = elim c.if-lacks_copy.branch [
  | then-lacks_copy w ↦ absurd (true≢false (sym w.if-lacks_copy.true ∙ sym w.value-is ∙ c.if-lacks_copy-2.false))
  | else-lacks_copy w ↦
      at_third c.args.limit c.args.one c.args.other c.args.turn.now named two c.stand_beside.result (sym (w.if-lacks_copy.ensures))
      (sym (w.lacks_copy-else-lacks_copy.ensures) ∙ sym w.value-is ∙ c.if-lacks_copy-2.false) (c.stand_beside.ensures)
]
