use Rattle.std.proofs.Common.{None, drop, ◌≡◌}
use Rattle.std.specs.Option.{option_copied as name_of}
use Rattle.object_laws.specs.OnceTold.{is_left_below, last_in_front}
use Rattle.atomic_object.proofs.staying.last_staying.Given as goal

-- the rest goes on from the last one so far
abbrev pub invariant-loop-owner : goal.invariant-loop-owner
invariant-loop-owner l =
    last_in_front (is_left_below l.staying.outcomes.now l.staying.from.now) None l.owners
    ≡ last_in_front (is_left_below l.staying.outcomes.now l.staying.from.now) (name_of l.last) (drop l.owner-index l.owners)
