-- What a reading leaves of a store.
use Rattle.std.proofs.Common.{◌≡◌, inl, Result, Ok, Err, IsTrue, sym, ap, subst, ◌∙◌}
use Rattle.sqlite.specs.Tree.{Trees}
use Rattle.sqlite.specs.Effect.{Database}
use Rattle.sqlite.specs.State.{State, HasCleanDisk}
use Rattle.stable_store.specs.Stored.{Stored}
use Rattle.stable_store.specs.declared.fault.StoreFault.{StoreFault}
use Rattle.store_tables.specs.Holds.{IsStore}
use Rattle.store_writing.specs.Steps.{IsAtRest, Stands, Carries}
use Rattle.sql_store.specs.Reading.{Quiets, ShowsTheSame, LooksUp}

pub quiets : (s : State) (c : Stored) → Stands s c → Quiets s
quiets s c stands clean up = let r = stands clean up in record { schema = r.schema; mode = r.mode; settled = r.settled }

module _ (old new : State) (c : Stored) (law : IsTrue old.is_open → (db : Trees) → old.may_leave db → db ≡ old.committed.trees) (stands : Stands old c) where
  still : ShowsTheSame old new → HasCleanDisk old → IsAtRest new c
  still same clean =
      let r = stands clean same.was_open in
      record { schema = ap (λ (d : Database). d.schema) same.now ∙ r.schema; store = subst (λ (d : Database). IsStore d.trees c) (sym same.now) r.store; mode = same.mode ∙ r.mode; settled = same.now ∙ (r.settled ∙ sym same.committed) }

  stops : {T : Type 0} (P : Database → T → Type 0) (r : Result T StoreFault) → LooksUp old new P r → HasCleanDisk new → IsTrue old.is_open
      → (db : Trees) → new.may_leave db → IsStore db c
  stops P r h clean up db may =
      let rest = stands (h.clean clean) up in
      subst (λ t. IsStore t c) (ap (λ (d : Database). d.trees) rest.settled ∙ sym (law up db (h.leaves clean up db may))) rest.store

  -- whatever is answered after it was read
  pub was_read : {T U E : Type 0} (P : Database → T → Type 0) (x : T) → LooksUp old new P (Ok x) → (r : Result U E)
      → Carries old new c c r
  was_read P x h (Ok y) = record {
    clean = h.clean;
    ok = λ clean. let s = (h.ok clean).0 in (s.was_open, s.is_open, still s (h.clean clean));
    err = tt;
    stop = λ clean up db may. inl (stops P (Ok x) h clean up db may);
  }
  was_read P x h (Err e) = record {
    clean = h.clean;
    ok = λ clean. tt;
    err = λ clean up. still (h.ok clean).0 (h.clean clean);
    stop = λ clean up db may. inl (stops P (Ok x) h clean up db may);
  }

  -- what was not read
  pub was_not_read : {T U E : Type 0} (P : Database → T → Type 0) (e : StoreFault) (d : E) (r : Result U E) → r ≡ Err d → LooksUp {T = T} old new P (Err e)
      → Carries old new c c r
  was_not_read {U = U} {E = E} P e d r is h = subst (Carries {T = U} {E = E} old new c c) (sym is) (record {
    clean = h.clean;
    ok = λ clean. tt;
    err = λ clean up. still (h.err clean up) (h.clean clean);
    stop = λ clean up db may. inl (stops P (Err e) h clean up db may);
  })
