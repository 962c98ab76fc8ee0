use Rattle.std.proofs.Common.{◌≡◌, ◌<◌, ℕ, List, [], ◌++◌, length, Ok}
use Rattle.sqlite.specs.State.{Survives}
use Rattle.sqlite.specs.Held.{state}
use Rattle.atomic_types.specs.declared.part.Part.{Part}
use Rattle.stable_store.specs.Stored.{Stored}
use Rattle.store_tables.specs.Changes.{with_record}
use Rattle.store_tables.specs.Shown.{IsValue}
use Rattle.store_writing.specs.Steps.{Stays}
use Rattle.store_writing.specs.Waiting.{Takes}
use Rattle.store_writing.proofs.preparing.put_parts.Given as goal

abbrev pub invariant-loop-object : goal.invariant-loop-object
invariant-loop-object g l = record {
  same : l.tx.conn.ghost_name ≡ l.fn.tx.conn.ghost_name;
  survives : Survives (state g.A.Store l.fn.tx.conn.now) (state g.A.Store l.tx.conn.now) (λ _. ⊥);
  few : length l.waiting.items < 16;
  steps : (home : ℕ) (c : Stored) → Stays (state g.A.Store l.fn.tx.conn.now) (with_record l.fn.top home [] c)
      → (so_far : List (ℕ × Part)) × (so_far ++ l.object-iterator ≡ l.fn.parts.entries)
      × Takes IsValue (state g.A.Store l.fn.tx.conn.now) (state g.A.Store l.tx.conn.now) l.waiting.items so_far (λ es. with_record l.fn.top home es c) (Ok tt);
}
