-- What each lock keeps of a run when an event is added to it.
use Rattle.std.proofs.Common.{Bool, Err, List, Ok, OnErr, OnOk, Result, Some, ap, ap₂, cond, false, length, map, refl, subst, suc, sym, true, ℕ, ◌==◌, ◌∙◌, ◌∷◌, ◌≡◌, ◌||◌}
use Rattle.std.proofs.lemmas.Bool.{or_left, or_right, false≢true}
use Rattle.std.specs.Result.{is_err}
use Rattle.one_run.specs.declared.piece.Piece.{Piece}
use Rattle.one_run.specs.Pieces.{GoesOn, seen_of}
use Rattle.one_run.specs.Rules.{Adds}
use Rattle.run_model.specs.declared.history.Event.{Event}
use Rattle.run_model.specs.declared.step.Step.{Step}
use Rattle.run_model.specs.LocalHistories.{RegistryEvent, Stamped, names_guardian, numbered, registry_history, takes_registry}
use Rattle.run_model.specs.LocalReadings.{LocalEvent}
use Rattle.run_model.specs.Openings.{Opening}
use Rattle.run_model.specs.Runs.{IsRun}
use Rattle.run_laws.proofs.Names.{eqb_self}
use Rattle.local_laws.proofs.Outcomes.{history_named}
use Rattle.layer_contracts.specs.Forests.{ForestState}
use Rattle.layer_contracts.specs.Guardians.{GuardianState}
use Rattle.world_steps.specs.Standings.{Names, forest_of}
use Rattle.shared_run.specs.Places.{touches}
use Rattle.shared_run.proofs.Following.{named_there}
use Rattle.shared_run.proofs.Histories.{history_stays, numbered_events, registry_stays}
use Rattle.locked_run.specs.Parts.{AreKept, AreLocked}
use Rattle.locked_run.specs.Stored.{guardian_events, registry_events, settled, settled_there, with_taken}
use Rattle.locked_run.proofs.Together.{first_before, names_before, registry_before, second_before}

abbrev stored_here : List LocalEvent → List Stamped
stored_here l = map (λ x. (x.stamp, x.event)) l

abbrev stored_there : List RegistryEvent → List Stamped
stored_there l = map (λ x. (x.stamp, x.event)) l

-- ---- by the run

-- while nothing touches the place
pub events_stay : (opening : Opening) (g : ℕ) (seen : List Event) {now : List Event} → GoesOn touches (Some (suc g)) seen now
    → guardian_events opening now g ≡ guardian_events opening seen g
events_stay opening g seen still = ap stored_here (history_stays opening g seen still)

pub registry_events_stay : (opening : Opening) (seen : List Event) {now : List Event} → GoesOn touches (Some 0) seen now
    → registry_events opening now ≡ registry_events opening seen
registry_events_stay opening seen still = ap stored_there (registry_stays opening seen still)

-- an event is the newest of the guardian that it names
pub named_event : (opening : Opening) (e : Event) (past : List Event) (g : ℕ) → names_guardian e.step past g ≡ true
    → guardian_events opening (e ∷ past) g ≡ (suc (length past), e) ∷ guardian_events opening past g
named_event opening e past g named =
    ap stored_here (history_named opening (suc (length past), e) (numbered past) g (ap (λ l. names_guardian e.step l g) (numbered_events past) ∙ named))

-- and of the registry, if it takes the registry
pub taken_event : (opening : Opening) (e : Event) (past : List Event)
    → registry_events opening (e ∷ past) ≡ with_taken e.step (suc (length past), e) (registry_events opening past)
taken_event opening e past = of (takes_registry e.step) _ (registry_history opening (numbered past))
  where
    of : (t : Bool) (x : RegistryEvent) (xs : List RegistryEvent) → stored_there (cond t (x ∷ xs) xs) ≡ cond t ((x.stamp, x.event) ∷ stored_there xs) (stored_there xs)
    of true x xs = refl
    of false x xs = refl

-- ---- in a history

pub on_ok : {T E : Type 0} (r : Result T E) (P : Type 0) → is_err r ≡ false → OnOk r P → P
on_ok (Ok x) P is h = h
on_ok (Err x) P is h = absurd (false≢true (sym is))

pub on_err : {T E : Type 0} (r : Result T E) (P : Type 0) → is_err r ≡ true → OnErr r P → P
on_err (Ok x) P is h = absurd (false≢true is)
on_err (Err x) P is h = h

-- the event was recorded, and then kept with this stamp
pub settled_kept : {E : Type 0} {kept : Result ℕ E} {stamp : ℕ} {e : Event} {x y z : List Stamped} → kept ≡ Ok stamp → y ≡ (0, e) ∷ x → z ≡ settled kept y
    → z ≡ (stamp, e) ∷ x
settled_kept is room set = set ∙ ap₂ (λ r l. settled r l) is room

pub settled_kept_there : {E : Type 0} (step : Step) (e : Event) (x : List Stamped) {kept : Result ℕ E} {stamp : ℕ} {y z : List Stamped} → kept ≡ Ok stamp
    → y ≡ with_taken step (0, e) x → z ≡ settled_there step kept y → z ≡ with_taken step (stamp, e) x
settled_kept_there {E} step e x {stamp = stamp} is room set = set ∙ ap₂ (λ r l. settled_there step r l) is room ∙ of (takes_registry step)
  where
    of : (t : Bool) → cond t (settled {E = E} (Ok stamp) (cond t ((0, e) ∷ x) x)) (cond t ((0, e) ∷ x) x) ≡ cond t ((stamp, e) ∷ x) x
    of true = refl
    of false = refl

-- or it was not kept
pub settled_back : {E : Type 0} {kept : Result ℕ E} {fault : E} {e : Event} {x y z : List Stamped} → kept ≡ Err fault → y ≡ (0, e) ∷ x → z ≡ settled kept y → z ≡ x
settled_back is room set = set ∙ ap₂ (λ r l. settled r l) is room

pub settled_back_there : {E : Type 0} (step : Step) (e : Event) (x : List Stamped) {kept : Result ℕ E} {fault : E} {y z : List Stamped} → kept ≡ Err fault
    → y ≡ with_taken step (0, e) x → z ≡ settled_there step kept y → z ≡ x
settled_back_there step e x {fault = fault} is room set = set ∙ ap₂ (λ r l. settled_there step r l) is room ∙ of (takes_registry step)
  where
    of : (t : Bool) → cond t (settled (Err fault) (cond t ((0, e) ∷ x) x)) (cond t ((0, e) ∷ x) x) ≡ x
    of true = refl
    of false = refl

-- ---- at two guardians and the registry

pub same_kept : {opening : Opening} {g h : ℕ} {past : List Event} {x y z x' y' z' : List Stamped} → AreKept opening g h past x y z → x' ≡ x → y' ≡ y → z' ≡ z
    → AreKept opening g h past x' y' z'
same_kept k p q r = record { first = p ∙ k.first; second = q ∙ k.second; registry = r ∙ k.registry }

pub kept_at : {opening : Opening} {g h : ℕ} {past now : List Event} {x y z : List Stamped} → AreKept opening g h past x y z → now ≡ past → AreKept opening g h now x y z
kept_at {opening} {g} {h} {x = x} {y = y} {z = z} k is = subst (λ l. AreKept opening g h l x y z) (sym is) k

module _ {opening : Opening} {forest : ForestState → Type 0} {one other : GuardianState → Type 0} {g h : ℕ} {v : List (Piece Event)}
    (a : AreLocked opening forest one other g h v) (e : Event) (r : IsRun opening (e ∷ seen_of v)) (n : Names (forest_of opening (seen_of v)) e.step g h) {number : ℕ}
    {w : List (Piece Event)} (adds : Adds (IsRun opening) touches e v number w) where
  named_now : (k : ℕ) → ((g == k) || (h == k)) ≡ true → names_guardian e.step adds.past k ≡ true
  named_now k is = sym (named_there opening e adds.past k adds.run.2) ∙ names_before a e r n adds k ∙ is

  -- once it was added and recorded, they have kept the longer run's
  pub kept_then : {x y z x' y' z' : List Stamped} → AreKept opening g h (seen_of v) x y z → x' ≡ (number, e) ∷ x → y' ≡ (number, e) ∷ y
      → z' ≡ with_taken e.step (number, e) z → AreKept opening g h (e ∷ adds.past) x' y' z'
  kept_then {x = x} {y = y} {z = z} k p q s = record {
    first =
        p ∙ ap₂ (λ m l. (m, e) ∷ l) adds.number (k.first ∙ sym (ap stored_here (first_before a e r n adds)))
        ∙ sym (named_event opening e adds.past g (named_now g (or_left (g == g) (h == g) (eqb_self g))));
    second =
        q ∙ ap₂ (λ m l. (m, e) ∷ l) adds.number (k.second ∙ sym (ap stored_here (second_before a e r n adds)))
        ∙ sym (named_event opening e adds.past h (named_now h (or_right (g == h) (h == h) (eqb_self h))));
    registry =
        s ∙ ap₂ (λ m l. with_taken e.step (m, e) l) adds.number (k.registry ∙ sym (ap stored_there (registry_before a e r n adds)))
        ∙ sym (taken_event opening e adds.past);
  }
