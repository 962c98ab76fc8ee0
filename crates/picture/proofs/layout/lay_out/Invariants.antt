use Rattle.std.proofs.Common.{◌≡◌, length, reverse, take}
use Rattle.picture.specs.Windows.{span_of}
use Rattle.picture.proofs.Laying.{AreSoFar}
use Rattle.picture.proofs.layout.lay_out.Given as goal

-- the events so far are laid out
abbrev pub invariant-loop-before : goal.invariant-loop-before
invariant-loop-before l = record {
  guardians : l.layout.guardians ≡ length l.setup;
  count : l.layout.count ≡ length l.events;
  so_far : AreSoFar (span_of l.fn.window (length l.events)) l.layout l.losses (reverse (take l.before l.events));
}
