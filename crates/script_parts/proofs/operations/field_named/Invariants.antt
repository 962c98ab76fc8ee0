use Rattle.std.proofs.Common.{◌≡◌, drop}
use Rattle.values.specs.Fields.{field_value}
use Rattle.script_parts.proofs.operations.field_named.Given as goal

-- none of those before has the name
abbrev pub invariant-loop-field : goal.invariant-loop-field
invariant-loop-field l = field_value l.fields l.name ≡ field_value (drop l.field-index l.fields) l.name
