-- A stop within a step.
use Rattle.std.proofs.Common.{List, inl, inr, subst, sym, ◌∷◌}
use Rattle.run_model.specs.declared.history.Event.{Event}
use Rattle.run_model.specs.Openings.{Opening}
use Rattle.run_model.specs.Runs.{IsRun}
use Rattle.recovery_laws.specs.StoreLaws.{StopWithinAStep, StopWithinAnyStep}
use Rattle.recovery_laws.specs.OpenedStores.{AreLeftAfter}
use Rattle.recovery_laws.specs.Runs.{AreOfRun}
use Rattle.recovery_laws.specs.Following.{stores_after}
use Rattle.recovery_laws.proofs.Following.{all_follow, one_store_is_called}
use Rattle.recovery_laws.proofs.OpenedStores.{stores_hold_what_is_seen}
use Rattle.recovery_laws.proofs.Places.{one_of_two}
use Rattle.recovery_laws.proofs.Settled.{are_settled}
use Rattle.stable_store.specs.Stored.{Stored}

left_after : (opening : Opening) (past : List Event) (stores : List Stored) → IsRun opening past → AreOfRun opening past stores → AreLeftAfter opening past stores
left_after opening past stores r all = record {
  stores = all;
  held = are_settled opening past r stores all;
  seen = λ older. stores_hold_what_is_seen opening past stores older r all;
}

-- the law
pub stop_within_a_step : StopWithinAStep
stop_within_a_step opening e past old new left r before after differ between = elim (one_of_two old new left differ.0 differ.1 between) [
  | inl is ↦ inl (subst (λ ss. AreLeftAfter opening past ss) (sym is) (left_after opening past old r.2 before))
  | inr is ↦ inr (subst (λ ss. AreLeftAfter opening (e ∷ past) ss) (sym is) (left_after opening (e ∷ past) new r after))
]

pub stop_within_any_step : StopWithinAnyStep
stop_within_any_step opening e past stores left r all between =
    stop_within_a_step opening e past stores (stores_after opening e past stores) left r all (all_follow opening e past stores r all)
    (one_store_is_called opening e past stores) between
