use Rattle.std.proofs.Common.{◌≡◌}
use Rattle.serde_json.specs.View.{members_view}
use Rattle.script_model.specs.ScriptReading.{first_if_ends}
use Rattle.script.proofs.endings.+ends.Given as goal

-- none of the members before is an `if`
abbrev pub invariant-first_if_ends-loop-name : goal.invariant-first_if_ends-loop-name
invariant-first_if_ends-loop-name l = first_if_ends (members_view l.members.entries) ≡ first_if_ends (members_view l.name-iterator)
