use Rattle.std.proofs.Common.{◌≡◌, ◌<◌, ℕ, List, ◌++◌, length, false, Ok}
use Rattle.sqlite.specs.State.{Survives}
use Rattle.sqlite.specs.Held.{state}
use Rattle.atomic_types.specs.declared.part.Part.{Part}
use Rattle.stable_store.specs.Stored.{Stored}
use Rattle.stable_store.specs.Numbers.{has_zero}
use Rattle.store_tables.specs.Changes.{with_base, all_put}
use Rattle.store_writing.specs.Steps.{While, Stays}
use Rattle.store_writing.specs.Waiting.{Takes, IsAny}
use Rattle.store_writing.proofs.installing.put_base.Given as goal

abbrev pub invariant-loop-object : goal.invariant-loop-object
invariant-loop-object g l = record {
  same : l.tx.conn.ghost_name ≡ l.fn.tx.conn.ghost_name;
  survives : Survives (state g.A.Store l.fn.tx.conn.now) (state g.A.Store l.tx.conn.now) (λ _. ⊥);
  few : length l.waiting.items < 16;
  steps : (c : Stored) → While (state g.A.Store l.fn.tx.conn.now) (has_zero l.fn.parts.entries ≡ false) → Stays (state g.A.Store l.fn.tx.conn.now) c
      → (so_far : List (ℕ × Part)) × (so_far ++ l.object-iterator ≡ l.fn.parts.entries)
      × Takes IsAny (state g.A.Store l.fn.tx.conn.now) (state g.A.Store l.tx.conn.now) l.waiting.items so_far (λ es. with_base (all_put es c.base) c) (Ok tt);
}
