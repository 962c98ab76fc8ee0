use Rattle.std.proofs.Common.{Some, [], length, slice_get, ℕ, ◌+◌, ◌≡◌}
use Rattle.run_model.specs.Openings.{opening_in}
use Rattle.volatile_state.specs.Memories.{InMemory, IsSound}
use Rattle.world_steps.specs.Standings.{standing}
use Rattle.world.proofs.beginning.memories.Given as goal

abbrev pub invariant-loop-index : goal.invariant-loop-index
invariant-loop-index l = record {
  count : length l.memories.items ≡ l.index;
  each : (i : ℕ) (m : InMemory) → slice_get l.memories.items i ≡ Some m → IsSound m (standing (opening_in l.opening.value) [] (i + 1));
}
