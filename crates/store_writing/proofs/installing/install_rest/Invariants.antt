use Rattle.std.proofs.Common.{◌≡◌, ℕ, List, false, drop, Ok}
use Rattle.sqlite.specs.State.{Survives}
use Rattle.sqlite.specs.Held.{state}
use Rattle.sqlite.specs.declared.error.Error.{Error}
use Rattle.atomic_types.specs.declared.part.Part.{Part}
use Rattle.stable_store.specs.Stored.{Stored}
use Rattle.stable_store.specs.Numbers.{has_zero}
use Rattle.store_tables.specs.Changes.{with_base, all_put}
use Rattle.store_writing.specs.Steps.{While, Stays, Steps}
use Rattle.store_writing.specs.Waiting.{Waits, IsAny}
use Rattle.store_writing.proofs.installing.install_rest.Given as goal

abbrev pub invariant-loop-part : goal.invariant-loop-part
invariant-loop-part g l = record {
  same : l.tx.conn.ghost_name ≡ l.fn.tx.conn.ghost_name;
  survives : Survives (state g.A.Store l.fn.tx.conn.now) (state g.A.Store l.tx.conn.now) (λ _. ⊥);
  steps : (written all : List (ℕ × Part)) (c : Stored) → While (state g.A.Store l.fn.tx.conn.now) (has_zero all ≡ false) → Waits IsAny l.waiting written all
      → Stays (state g.A.Store l.fn.tx.conn.now) (with_base (all_put written c.base) c)
      → (done : List (ℕ × Part)) × Waits IsAny (drop l.part-index l.waiting) done all
      × Steps {T = Unit {0}} {E = Error} (state g.A.Store l.fn.tx.conn.now) (state g.A.Store l.tx.conn.now) (with_base (all_put done c.base) c) (Ok tt);
}
