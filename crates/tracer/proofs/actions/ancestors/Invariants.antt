use Rattle.std.proofs.Common.{◌≡◌, ◌++◌, IfSome, reverse}
use Rattle.action_names.specs.Names.{IsName, ancestors}
use Rattle.tracer.proofs.Going.{height, up_from}
use Rattle.tracer.proofs.actions.ancestors.Given as goal

-- the ancestors that are left, and those in the list, innermost first
abbrev pub invariant-loop-next : goal.invariant-loop-next
invariant-loop-next l = record {
  named : IfSome l.next IsName;
  all : up_from l.next ++ reverse l.names.items ≡ ancestors l.action;
}

abbrev pub decreases-loop-next : goal.decreases-loop-next
decreases-loop-next l = height l.next
