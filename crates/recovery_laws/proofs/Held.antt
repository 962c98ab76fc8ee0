-- What a guardian's store holds by its own history, by the whole history.
use Rattle.std.proofs.Common.{List, [], ap, option_map, refl, subst, ℕ, sym, ◌∙◌, ◌∷◌, ◌≡◌}
use Rattle.std.specs.FinMap as map
use Rattle.std.specs.FinSet as set
use Rattle.run_model.specs.declared.history.Event.{Event}
use Rattle.run_model.specs.LocalHistories.{Stamped, events_of, local_history, numbered}
use Rattle.run_model.specs.Openings.{Opening}
use Rattle.run_model.specs.Runs.{IsRun}
use Rattle.run_model.specs.StableContent.{is_stably_decided, stable_base, stable_count, stable_next_top, stable_prepared}
use Rattle.local_laws.proofs.Roster.{guardian_same}
use Rattle.local_laws.proofs.Stable.{bases_same, decided_same, prepared_same}
use Rattle.stable_store.specs.Stored.{Stored}
use Rattle.guardian_laws.specs.Stored.{AreStored, record_of}

-- the store of g holds what the whole history says
pub record Holds (opening : Opening) (g : ℕ) (past : List Event) (s : Stored) : Type 0 where
  pub base : (n : ℕ) → map.get s.base n ≡ stable_base opening g n past
  pub prepared : (n : ℕ) → map.get s.prepared n ≡ option_map record_of (stable_prepared opening g (n ∷ []) past)
  pub decided : (n : ℕ) → set.contains s.decided n ≡ is_stably_decided opening g (n ∷ []) past
  pub count : s.count ≡ stable_count opening g past
  pub next_top : s.next_top ≡ stable_next_top opening g past

pub numbered_events : (past : List Event) → events_of (numbered past) ≡ past
numbered_events [] = refl
numbered_events (e ∷ past) = ap (λ l. e ∷ l) (numbered_events past)

holds_events : (opening : Opening) (run : List Stamped) (g : ℕ) (s : Stored) → IsRun opening (events_of run)
    → AreStored opening g (local_history opening run g) s → Holds opening g (events_of run) s
holds_events opening run g s r stored = record {
  base = λ n. stored.base n ∙ bases_same opening run g n r;
  prepared = λ n. stored.prepared n ∙ ap (λ o. option_map record_of o) (prepared_same opening run g (n ∷ []) r);
  decided = λ n. stored.decided n ∙ decided_same opening run g (n ∷ []) r;
  count = stored.count ∙ (guardian_same opening run g r).recovered opening;
  next_top = stored.next_top ∙ (guardian_same opening run g r).next_top opening;
}

pub holds : (opening : Opening) (past : List Event) (g : ℕ) (s : Stored) → IsRun opening past
    → AreStored opening g (local_history opening (numbered past) g) s → Holds opening g past s
holds opening past g s r stored =
    subst (λ p. Holds opening g p s) (numbered_events past)
    (holds_events opening (numbered past) g s (subst (λ p. IsRun opening p) (sym (numbered_events past)) r) stored)
