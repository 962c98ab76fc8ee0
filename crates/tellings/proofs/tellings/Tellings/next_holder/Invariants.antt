use Rattle.std.proofs.Common.{IfSome, not, ◌≡◌}
use Rattle.action_names.specs.Names.{IsName, parent_of}
use Rattle.run_model.specs.Telling.{holder_by, last_passing}
use Rattle.tellings.specs.Hearing.{is_told_committed, told_of}
use Rattle.tellings.proofs.Climbing.{height, up_from}
use Rattle.tellings.proofs.tellings.Tellings.next_holder.Given as goal

-- the ancestors that are left decide
abbrev pub invariant-loop-above : goal.invariant-loop-above
invariant-loop-above l = record {
  named : IfSome l.above IsName;
  same : last_passing (λ b. not (is_told_committed (told_of l.places l.self b))) (up_from l.above)
      ≡ holder_by (λ b. is_told_committed (told_of l.places l.self b)) (parent_of l.action);
}

abbrev pub decreases-loop-above : goal.decreases-loop-above
decreases-loop-above l = height l.above
