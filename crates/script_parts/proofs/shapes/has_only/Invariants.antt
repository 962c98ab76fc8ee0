use Rattle.std.proofs.Common.{◌≡◌, map}
use Rattle.serde_json.specs.View.{members_view}
use Rattle.script_model.specs.Shapes.{has_only}
use Rattle.script_parts.proofs.shapes.has_only.Given as goal

-- what is left decides
abbrev pub invariant-loop-name : goal.invariant-loop-name
invariant-loop-name l =
    has_only (map (λ n. n.now) l.names) (members_view l.members.entries) ≡ has_only (map (λ n. n.now) l.names) (members_view l.name-iterator)
