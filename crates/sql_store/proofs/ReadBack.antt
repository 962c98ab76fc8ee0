-- What is read back within a transaction.
use Rattle.std.proofs.Common.{◌≡◌, ℕ, List, Vec, Global, Result, Ok, Err, IfOk, IsTrue, sym, subst, true}
use Rattle.std.specs.List.{AllByRecursion}
use Rattle.sqlite_trees.specs.View.{IsShaped}
use Rattle.sqlite_trees.specs.declared.store.Shape.TheVariants.{Table}
use Rattle.sqlite.specs.Order.{Row}
use Rattle.sqlite.specs.Effect.{Database}
use Rattle.sqlite.specs.State.{State, HasCleanDisk}
use Rattle.stable_store.specs.declared.fault.StoreFault.{StoreFault}
use Rattle.stable_store.specs.declared.kept.Kept.{Kept}
use Rattle.stable_store.specs.Held.{held}
use Rattle.store_tables.specs.Tables.{stable_schema}
use Rattle.store_tables.specs.Rows.{HaveRowids}
use Rattle.store_tables.specs.Answered.{answered, queries, rows_of}
use Rattle.store_tables.specs.Holds.{Holds, IsLaidOut}
use Rattle.store_tables.proofs.Viewed.{held_by}
use Rattle.sql_store.specs.Reading.{Looks, RunsInside, AreAnswered}
use Rattle.sql_store.specs.Failing.{rowid_queries}
use Rattle.sql_store.proofs.Queries.{views}
use Rattle.sql_store.proofs.Rowids.{all_keyed}
use Rattle.sql_store.proofs.Looking.{then_looks, then_inside, looks_ok, looks_err}

-- the rowids rise, and then the content is read
module _ (a b d : State) (ids rows : Vec (Vec Row Global) Global) where
  abbrev Answered : Database → List (List ℕ) → Vec (Vec Row Global) Global → Type 0
  Answered at texts all = AreAnswered at texts (rows_of all.items)

  pub laid_seen : (r : Result Kept StoreFault) → a.in_transaction ≡ true → Looks {E = StoreFault} a b (Answered a.now rowid_queries) (Ok ids)
      → (b.in_transaction ≡ true → Looks {E = StoreFault} b d (Answered b.now queries) (Ok rows)) → AllByRecursion (IsShaped Table) (rows_of ids.items)
      → IfOk r (λ k. Holds 0 (answered (rows_of rows.items)) (held k)) → Looks a d (λ k. IsLaidOut d.now.trees (held k)) r
  laid_seen r within first second up holds =
      then_looks a b d (Answered a.now rowid_queries) (λ k. IsLaidOut d.now.trees (held k)) ids r within first (λ w. turned r holds (second w))
    where
      turned : (q : Result Kept StoreFault) → IfOk q (λ k. Holds 0 (answered (rows_of rows.items)) (held k))
          → Looks {E = StoreFault} b d (Answered b.now queries) (Ok rows)
          → Looks b d (λ k. b.now ≡ a.now → Answered a.now rowid_queries ids → IsLaidOut d.now.trees (held k)) q
      turned (Ok k) h s = looks_ok b d (Answered b.now queries) (λ k. b.now ≡ a.now → Answered a.now rowid_queries ids → IsLaidOut d.now.trees (held k)) rows k s
          (λ schema same shown is keyed.
          subst (λ (x : Database). IsLaidOut x.trees (held k)) (sym same) (
            subst (λ (x : Database). HaveRowids x.trees) (sym is) (all_keyed a.now (rows_of ids.items) keyed up),
            held_by (answered (rows_of rows.items)) b.now.trees (held k) (views b.now (rows_of rows.items) shown) h,
          ))
      turned (Err e) h s =
          looks_err b d (Answered b.now queries) (λ k. b.now ≡ a.now → Answered a.now rowid_queries ids → IsLaidOut d.now.trees (held k)) (Ok rows) e s

-- what was written is read back
module _ (a b d : State) (within : a.in_transaction ≡ true) (before : HasCleanDisk b) where
  pub built_runs : {T : Type 0} (x : T) (r : Result Kept StoreFault) → (HasCleanDisk b → RunsInside {T = T} {E = StoreFault} a b (Ok x))
      → (IsTrue b.in_transaction → Looks b d (λ k. IsLaidOut d.now.trees (held k)) r) → RunsInside a d r
  built_runs x r wrote reads = let w = wrote before in then_inside a b d (λ k. IsLaidOut d.now.trees (held k)) x r w (reads (w.within within))

  pub built_seen : {T : Type 0} (x : T) (r : Result Kept StoreFault) → (HasCleanDisk b → RunsInside {T = T} {E = StoreFault} a b (Ok x))
      → (IsTrue b.in_transaction → Looks b d (λ k. IsLaidOut d.now.trees (held k)) r)
      → IfOk r (λ k. d.now.schema ≡ stable_schema → IsLaidOut d.now.trees (held k))
  built_seen x (Ok k) wrote reads = λ schema. ((reads ((wrote before).within within)).seen schema).1
  built_seen x (Err e) wrote reads = tt
