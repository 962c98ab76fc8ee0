-- What is settled is what a new top action would see.
use Rattle.std.proofs.Common.{List, ap, false, sym, true, ◌∙◌, ◌≡◌}
use Rattle.action_names.specs.Names.{Name, is_top}
use Rattle.run_model.specs.declared.history.Event.{Event}
use Rattle.run_model.specs.declared.step.ObjectId.{ObjectId}
use Rattle.run_model.specs.Actions.{is_begun, is_committed}
use Rattle.run_model.specs.Keeping.{Performed, kept_on}
use Rattle.run_model.specs.Openings.{Opening, first_content}
use Rattle.run_model.specs.Places.{visible_by_grant, visible_by_place}
use Rattle.run_model.specs.Replay.{left_of}
use Rattle.run_model.specs.Runs.{IsRun}
use Rattle.run_model.specs.Visibility.{is_visible}
use Rattle.run_laws.proofs.Each.{each_map}
use Rattle.run_laws.proofs.Exchanged.{exchanges_leave_contents}
use Rattle.run_laws.proofs.Granted.{granting}
use Rattle.run_laws.proofs.Growth.{begun_stays, earlier, run_before}
use Rattle.run_laws.proofs.Names.{all_ancestors_from, all_ancestors_use}
use Rattle.run_laws.proofs.Order.{grant_to_place}
use Rattle.local_laws.proofs.Based.{WasGranted, all_granted}
use Rattle.local_laws.proofs.Kept.{filter_same}
use Rattle.recovery_laws.specs.Laws.{SettledIsSeen, SettledIsSeenByPlace}
use Rattle.recovery_laws.proofs.Laying.{both}
use Rattle.recovery_laws.proofs.NewTops.{committed_seen, no_orphan, seen_committed, sees}
use Rattle.recovery_laws.proofs.Resting.{is_all_committed, tops_at_rest}

-- it sees that of which all has committed
committed_is_seen : (opening : Opening) (past : List Event) (r : IsRun opening past) (t : Name) → is_top t ≡ true → is_begun t past ≡ false
    → (x : ObjectId) (o : Performed) → WasGranted x o past → is_all_committed past o.action ≡ is_visible o.action t past
committed_is_seen opening past r t top new x o w = both (is_all_committed past o.action) (is_visible o.action t past)
    (λ h. committed_seen opening past r t top new o.action (λ d k. all_ancestors_use (λ d. is_committed d past) o.action d h k))
    (λ v. all_ancestors_from (λ d. is_committed d past) o.action (seen_committed opening past r t top new o.action was_begun v))
  where
    was_begun : is_begun o.action past ≡ true
    was_begun = begun_stays o.action (earlier w.came) (granting opening o w.event w.before (run_before opening w.came r) w.grants).was_begun

-- the law
pub settled_is_seen : SettledIsSeen
settled_is_seen opening past x t older r top new =
    tops_at_rest opening past x older r
    ∙ ap (left_of (first_content opening x))
    (filter_same (λ o. is_all_committed past o.action) (λ o. is_visible o.action t past) (kept_on x past)
    (each_map _ _ (kept_on x past) (λ o w. committed_is_seen opening past r t top new x o w) (all_granted x past)))
    ∙ sym (sees opening past r t top new x)

-- the law
pub settled_is_seen_by_place : SettledIsSeenByPlace
settled_is_seen_by_place opening past x t older r top new =
    settled_is_seen opening past x t older r top new
    ∙ exchanges_leave_contents (first_content opening) (visible_by_grant t past) (visible_by_place t past)
    (grant_to_place opening past r t (no_orphan opening past r t top new)) x
