use Rattle.std.proofs.Common.{◌≡◌, ◌+◌, ◌*◌, ◌++◌, Ok, drop}
use Rattle.serde_json.specs.View.{items_view}
use Rattle.script_model.specs.Reading.{and_then, each}
use Rattle.script_model.specs.StatementReading.{body_at, arm_in, statements}
use Rattle.script_parts.specs.Places.{pointer}
use Rattle.script.specs.Contexts.{context_of, Extends}
use Rattle.script.proofs.statements.Context.+body.Given as goal

-- by the levels that are left, and from a body's statements down to the bodies in them
abbrev pub decreases-body_at : goal.decreases-body_at
decreases-body_at l = 8 * l.levels + 1

abbrev pub decreases-signals : goal.decreases-signals
decreases-signals l = 8 * l.levels + 2

abbrev pub decreases-arm : goal.decreases-arm
decreases-arm l = 8 * l.levels + 3

abbrev pub decreases-coenter : goal.decreases-coenter
decreases-coenter l = 8 * l.levels + 4

abbrev pub decreases-top_action : goal.decreases-top_action
decreases-top_action l = 8 * l.levels + 4

abbrev pub decreases-branches : goal.decreases-branches
decreases-branches l = 8 * l.levels + 4

abbrev pub decreases-turns : goal.decreases-turns
decreases-turns l = 8 * l.levels + 4

abbrev pub decreases-op_statement : goal.decreases-op_statement
decreases-op_statement l = 8 * l.levels + 5

abbrev pub decreases-call_statement : goal.decreases-call_statement
decreases-call_statement l = 8 * l.levels + 5

abbrev pub decreases-plain_statement : goal.decreases-plain_statement
decreases-plain_statement l = 8 * l.levels + 5

abbrev pub decreases-statement : goal.decreases-statement
decreases-statement l = 8 * l.levels + 6

abbrev pub decreases-statements : goal.decreases-statements
decreases-statements l = 8 * l.levels + 7

-- what was read and what is left are the whole
abbrev pub invariant-coenter-loop-i : goal.invariant-coenter-loop-i
invariant-coenter-loop-i l = record {
  read : each (arm_in (body_at l.levels) (context_of l.self) l.initial.scope) 0 (items_view l.documents) (pointer l.place)
      ≡ and_then (each (arm_in (body_at l.levels) (context_of l.self) l.initial.scope) l.i (items_view (drop l.i l.documents))
      (pointer l.place)) (λ xs. Ok (l.arms ++ xs));
  kept : l.scope ≡ l.initial.scope;
}

abbrev pub invariant-statements-loop-i : goal.invariant-statements-loop-i
invariant-statements-loop-i l = record {
  read : statements (body_at l.levels) (context_of l.self) 0 l.initial.scope (items_view l.documents) (pointer l.place)
      ≡ and_then (statements (body_at l.levels) (context_of l.self) l.i l.scope (items_view (drop l.i l.documents)) (pointer l.place))
      (λ xs. Ok (l.body ++ xs));
  extends : Extends l.initial.scope l.scope;
}
