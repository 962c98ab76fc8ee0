use Rattle.std.proofs.Common.{length, ◌≡◌}
use Rattle.world.specs.Worlds.{AreEmpty}
use Rattle.world.proofs.beginning.empty_stores.Given as goal

abbrev pub invariant-loop : goal.invariant-loop
invariant-loop l = record {
  count : length l.stores.items ≡ l.counter;
  empty : AreEmpty l.stores.items;
}
