use Rattle.std.proofs.Common.{Some, [], length, map, slice_get, vec_capacity, vec_len, ℕ, ◌+◌, ◌≡◌, ◌≤◌}
use Rattle.run_model.specs.Openings.{opening_in}
use Rattle.guardian.specs.Guardians.{InParts, IsWhole}
use Rattle.world_steps.specs.Standings.{standing}
use Rattle.world.specs.Worlds.{store_in}
use Rattle.world.proofs.beginning.guardians.Given as goal

abbrev pub invariant-loop-memory : goal.invariant-loop-memory
invariant-loop-memory g l = record {
  can_next : (goal.iterator-loop-memory g).can_next l.memory-iterator;
  is_finite : (goal.iterator-loop-memory g).is_finite l.memory-iterator;
  each : (i : ℕ) (x : InParts _) → slice_get l.guardians.items i ≡ Some x → IsWhole g.S.Stable.seen x (standing (opening_in l.opening) [] (i + 1));
  stores : map store_in l.guardians.items ≡ map (λ p. p.1) l.yielded;
  len : vec_len l.guardians ≡ length l.yielded;
  room : length l.fn.memories.items ≤ vec_capacity l.guardians;
}
