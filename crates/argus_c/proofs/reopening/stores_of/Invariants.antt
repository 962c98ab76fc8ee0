use Rattle.std.proofs.Common.{◌≡◌, ◌++◌, map}
use Rattle.stable_store.specs.Held.{held}
use Rattle.stable_store.specs.Plain.{plain_view}
use Rattle.store_recovery.specs.Settling.{contents}
use Rattle.argus_c.proofs.reopening.stores_of.Given as goal

-- what the stores contain and what is left are all
abbrev pub invariant-loop-kept : goal.invariant-loop-kept
invariant-loop-kept l = contents plain_view l.stores.items ++ map held l.kept-iterator.rest.items ≡ map held l.fn.left.items
