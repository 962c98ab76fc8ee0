-- What is known of a store that was just opened.
use Rattle.std.proofs.Common.{◌≡◌, Bool, Option, Some, None, option_map, IfSome, Ok, IsTrue, sym, ap, subst, ◌∙◌}
use Rattle.sqlite.specs.Effect.{Database}
use Rattle.sqlite.specs.State.{State, HasCleanDisk}
use Rattle.stable_store.specs.Stored.{Stored}
use Rattle.stable_store.specs.declared.kept.Kept.{Kept}
use Rattle.stable_store.specs.Held.{held}
use Rattle.store_tables.specs.Tables.{stable_schema}
use Rattle.store_tables.specs.Holds.{IsStore, IsLaidOut}
use Rattle.store_writing.specs.Steps.{Stands}
use Rattle.sql_store.specs.Reading.{Quiets, IsAlone, LooksUp, Knows}
use Rattle.sql_store.proofs.Back.{same_some}

store_of : (s : State) (c : Stored) → IsAlone s → IsTrue s.is_open → IsLaidOut s.now.trees c → IsStore s.now.trees c
store_of s c alone up h = record { sound = alone.sound up; placed = h.0; holds = h.1 }

pub made_alone : (s : State) (c : Stored) → IsAlone s → (HasCleanDisk s → s.now.schema ≡ stable_schema → IsLaidOut s.now.trees c) → Stands s c
made_alone s c alone made clean up =
    let q = alone.quiet up in
    record { schema = q.schema; store = store_of s c alone up (made clean q.schema); mode = q.mode; settled = q.settled }

pub quiet_alone : (s : State) → IsAlone s → Quiets s
quiet_alone s alone clean up = alone.quiet up

pub read_alone : (old new : State) (kept : Kept) → IsAlone old
    → LooksUp {T = Kept} old new (λ d k. IsLaidOut d.trees (held k)) (Ok kept) → Stands new (held kept)
read_alone old new kept alone reads clean up =
    let r = reads.ok clean in
    let same = r.0 in
    let q = alone.quiet same.was_open in
    record {
      schema = ap (λ (d : Database). d.schema) same.now ∙ q.schema;
      store = subst (λ (d : Database). IsStore d.trees (held kept)) (sym same.now) (store_of old (held kept) alone same.was_open r.1);
      mode = same.mode ∙ q.mode;
      settled = same.now ∙ (q.settled ∙ sym same.committed);
    }

-- the content that was found stands, where the schema is that of a store
pub found_stands : (s : State) (kept : Option Kept) (known : Bool) (c : Stored) → Knows s known → (IsTrue known → IfSome kept (λ k. Stands s (held k)))
    → (HasCleanDisk s → option_map held kept ≡ Some c) → (HasCleanDisk s → s.now.schema ≡ stable_schema) → Stands s c
found_stands s kept known c knows stands holds schema clean up = go kept (stands ((knows clean up).1 (schema clean))) (holds clean) clean up
  where
    go : (o : Option Kept) → IfSome o (λ k. Stands s (held k)) → option_map held o ≡ Some c → Stands s c
    go None h e = absurd (let q = e in cc)
    go (Some k) h e = subst (Stands s) (same_some (held k) c e) h
