use Rattle.std.proofs.Common.{length, ◌≡◌}
use Rattle.run_model.specs.Openings.{opening_in}
use Rattle.guardian_objects.proofs.Begun.{AreUntouched, HaveBegun}
use Rattle.guardian_objects.proofs.objects.Objects.new.Given as goal

-- so many objects have begun, which nobody touched
abbrev pub invariant-loop-place : goal.invariant-loop-place
invariant-loop-place l = record {
  count : length l.objects.items ≡ l.place;
  begun : HaveBegun (opening_in l.opening) l.guardian l.objects.items;
  untouched : AreUntouched (opening_in l.opening) l.guardian l.objects.items;
}
