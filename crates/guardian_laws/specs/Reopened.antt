-- What the store of a guardian says of the time before, when the guardian is opened again by itself.
use Rattle.std.specs.Prelude.{◌≡◌, ◌≤◌, ℕ, ◌&&◌, List, [], ◌∷◌, map as each}
use Rattle.std.specs.FinMap as map
use Rattle.std.specs.FinSet as set
use Rattle.action_names.specs.Names.{Name, is_top, last_of}
use Rattle.run_model.specs.Openings.{Held, Opening, Setup}
use Rattle.run_model.specs.Reopening.{opened_alone}
use Rattle.run_model.specs.StableContent.{Prepared}
use Rattle.stable_store.specs.Stored.{Stored}
use Rattle.guardian_laws.specs.Stored.{prepared_of}

-- what it holds beside its records
abbrev pub held_by : Stored → Held
held_by s = record {
  base = λ n. map.get s.base n;
  decided = λ t. is_top t && set.contains s.decided (last_of t);
  count = s.count;
  next_top = s.next_top;
}

-- Its records, with the names of their top actions. Nothing tells in which order these were prepared: the greatest
-- number is taken to be the oldest.
abbrev pub records_in : Stored → List (Name × Prepared)
records_in s = each (λ e. (e.0 ∷ [], prepared_of e.1)) (map.entries s.prepared)

-- The opening is that of this guardian alone, by what its store holds. There is no guardian of the number 0.
pub record IsOpenedAlone (setup : Setup) (g : ℕ) (s : Stored) (opening : Opening) : Type 0 where
  pub guardians : opening.setup ≡ setup
  pub stores : (h : ℕ) → 1 ≤ h → opening.stores h ≡ (opened_alone setup g (held_by s)).stores h
  pub first_top : opening.first_top ≡ 1
