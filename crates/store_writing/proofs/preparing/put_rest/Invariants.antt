use Rattle.std.proofs.Common.{◌≡◌, ℕ, List, true, false, drop, nat_cmp, Ok}
use Rattle.std.specs.FinMap.{is_sorted}
use Rattle.sqlite.specs.State.{Survives}
use Rattle.sqlite.specs.Held.{state}
use Rattle.sqlite.specs.declared.error.Error.{Error}
use Rattle.atomic_types.specs.declared.part.Part.{Part}
use Rattle.stable_store.specs.Stored.{Stored}
use Rattle.stable_store.specs.Numbers.{has_zero}
use Rattle.store_tables.specs.Changes.{with_record}
use Rattle.store_tables.specs.Shown.{IsValue}
use Rattle.store_writing.specs.Steps.{Stays, Steps}
use Rattle.store_writing.specs.Waiting.{Waits}
use Rattle.store_writing.proofs.preparing.put_rest.Given as goal

abbrev pub invariant-loop-value : goal.invariant-loop-value
invariant-loop-value g l = record {
  same : l.tx.conn.ghost_name ≡ l.fn.tx.conn.ghost_name;
  survives : Survives (state g.A.Store l.fn.tx.conn.now) (state g.A.Store l.tx.conn.now) (λ _. ⊥);
  steps : (home : ℕ) (written all : List (ℕ × Part)) (c : Stored) → has_zero all ≡ false → is_sorted nat_cmp all ≡ true → Waits IsValue l.waiting written all
      → Stays (state g.A.Store l.fn.tx.conn.now) (with_record l.fn.top home written c)
      → (done : List (ℕ × Part)) × Waits IsValue (drop l.value-index l.waiting) done all
      × Steps {T = Unit {0}} {E = Error} (state g.A.Store l.fn.tx.conn.now) (state g.A.Store l.tx.conn.now) (with_record l.fn.top home done c) (Ok tt);
}
