use Rattle.std.proofs.Common.{◌≡◌, drop}
use Rattle.values.specs.Tags.{tag_kind}
use Rattle.script_parts.proofs.operations.tag_named.Given as goal

-- none of those before has the name
abbrev pub invariant-loop-tag : goal.invariant-loop-tag
invariant-loop-tag l = tag_kind l.tags l.name ≡ tag_kind (drop l.tag-index l.tags) l.name
