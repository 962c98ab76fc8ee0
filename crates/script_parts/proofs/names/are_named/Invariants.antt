use Rattle.std.proofs.Common.{◌≡◌}
use Rattle.serde_json.specs.View.{members_view}
use Rattle.script_model.specs.Shapes.{are_named}
use Rattle.script_parts.proofs.names.are_named.Given as goal

-- what is left decides
abbrev pub invariant-loop-name : goal.invariant-loop-name
invariant-loop-name l = are_named (members_view l.members.entries) ≡ are_named (members_view l.name-iterator)
