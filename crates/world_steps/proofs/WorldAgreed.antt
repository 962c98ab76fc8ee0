-- What a world has of the events that it keeps: a telling that the forest bears out, and events that agree with the guardians' histories.
use Rattle.std.proofs.Common.{List, [], ap, cond, inl, inr, subst, sym, true, ℕ, ◌==◌, ◌∙◌, ◌∷◌, ◌≡◌, ◌||◌, ◌⊎◌, length}
use Rattle.std.proofs.lemmas.Bool.{and_parts, or_cases, or_left}
use Rattle.run_model.specs.declared.history.Event.{Event}
use Rattle.run_model.specs.declared.step.Step.{Step}
use Rattle.run_model.specs.declared.step.Step.TheVariants.{Abort, Arms, Call, Close, Commit, Crash, Decide, NestedTop, Op, Prepare, Recover, Tell, Top}
use Rattle.run_model.specs.Actions.{is_committed}
use Rattle.run_model.specs.LocalHistories.{Stamped, carried, carried_lent, events_of, events_there, local_history, names_guardian, numbered, registry_history}
use Rattle.run_model.specs.LocalReadings.{Carried, LocalEvent, nothing_carried, told_committed_here}
use Rattle.run_model.specs.Openings.{Opening}
use Rattle.run_model.specs.Runs.{IsRun}
use Rattle.run_model.specs.Telling.{told_committed, was_told}
use Rattle.run_laws.proofs.Names.{eqb_self}
use Rattle.local_laws.proofs.Growing.{names_same}
use Rattle.local_laws.proofs.Lending.{lent_grows}
use Rattle.local_laws.proofs.Outcomes.{history_named}
use Rattle.local_laws.proofs.Registry.{registry_same}
use Rattle.local_laws.proofs.Told.{told_committed_same}
use Rattle.guardian_laws.specs.Laws.{Agrees}
use Rattle.guardian_laws.proofs.Agreement.{runs_agree}
use Rattle.layer_contracts.specs.Guardians.{GuardianState, lent_two, stamped}
use Rattle.world_steps.specs.Lending.{IsTellable}
use Rattle.world_steps.specs.Standings.{IsOut, Names, forest_of, standing}
use Rattle.world_steps.proofs.Led.{lent_or_out, out_at, runs}

-- of an action of which a guardian was told that it committed the forest says that it did
pub tellable_lent : (past : List Event) (opening : Opening) (step : Step) (low high p q : ℕ) (a b : GuardianState)
    → IsRun opening past → Names (forest_of opening past) step low high → a ≡ standing opening past p → b ≡ standing opening past q
    → ((g : ℕ) → ((low == g) || (high == g)) ≡ true → (((p == g) || (q == g)) ≡ true) ⊎ IsOut (length opening.setup) g)
    → IsTellable (forest_of opening past) a b step
tellable_lent past opening (Tell g c) low high p q a b r n x y h =
    λ t.
    let run : List Stamped = numbered past in
    let lent = lent_or_out opening past a b p q g r x y (h g (sym (n g) ∙ eqb_self g)) in
    let told : told_committed g c (events_of run) ≡ true =
    sym (told_committed_same opening run g c (runs opening past r)) ∙ sym (ap (λ l. told_committed_here c l) lent) ∙ t in
    (registry_same opening run (runs opening past r)).committed c
    ∙ (and_parts (was_told g c (events_of run)) (is_committed c (events_of run)) told).1
tellable_lent past opening (Top g) low high p q a b r n x y h = tt
tellable_lent past opening (NestedTop c) low high p q a b r n x y h = tt
tellable_lent past opening (Call c g) low high p q a b r n x y h = tt
tellable_lent past opening (Arms c kinds) low high p q a b r n x y h = tt
tellable_lent past opening (Op c o wanted) low high p q a b r n x y h = tt
tellable_lent past opening (Commit c) low high p q a b r n x y h = tt
tellable_lent past opening (Close t) low high p q a b r n x y h = tt
tellable_lent past opening (Prepare g t) low high p q a b r n x y h = tt
tellable_lent past opening (Decide t) low high p q a b r n x y h = tt
tellable_lent past opening (Abort c) low high p q a b r n x y h = tt
tellable_lent past opening (Crash g) low high p q a b r n x y h = tt
tellable_lent past opening (Recover g) low high p q a b r n x y h = tt

-- where one of the two that the step names is no guardian
pub tellable_low : (past : List Event) (opening : Opening) (step : Step) (low high : ℕ) (a : GuardianState)
    → IsRun opening past → Names (forest_of opening past) step low high → a ≡ standing opening past low → IsOut (length opening.setup) high
    → IsTellable (forest_of opening past) a a step
tellable_low past opening step low high a r n x o = tellable_lent past opening step low high low low a a r n x x (λ g h. of g (or_cases _ _ h))
  where
    of : (g : ℕ) → ((low == g) ≡ true) ⊎ ((high == g) ≡ true) → (((low == g) || (low == g)) ≡ true) ⊎ IsOut (length opening.setup) g
    of g (inl q) = inl (or_left _ _ q)
    of g (inr q) = inr (out_at (length opening.setup) high g o q)

pub tellable_high : (past : List Event) (opening : Opening) (step : Step) (low high : ℕ) (a : GuardianState)
    → IsRun opening past → Names (forest_of opening past) step low high → a ≡ standing opening past high → IsOut (length opening.setup) low
    → IsTellable (forest_of opening past) a a step
tellable_high past opening step low high a r n x o = tellable_lent past opening step low high high high a a r n x x (λ g h. of g (or_cases _ _ h))
  where
    of : (g : ℕ) → ((low == g) ≡ true) ⊎ ((high == g) ≡ true) → (((high == g) || (high == g)) ≡ true) ⊎ IsOut (length opening.setup) g
    of g (inl q) = inr (out_at (length opening.setup) low g o q)
    of g (inr q) = inl (or_left _ _ q)

-- what agrees says nothing of stamps
agrees_stamped : (opening : Opening) (g n : ℕ) (c : LocalEvent) (here : List LocalEvent) → Agrees opening g c here → Agrees opening g (record c { stamp = n }) here
agrees_stamped opening g n c here h = record {
  actions = record {
    new = h.actions.new;
    made = h.actions.made;
    known = h.actions.known;
    own = h.actions.own;
    rising = h.actions.rising;
    reaches = h.actions.reaches;
  };
  outcomes = record { brought = h.outcomes.brought; once = h.outcomes.once; aborts = h.outcomes.aborts; operation = h.outcomes.operation };
  votes = record { top = h.votes.top; sender = h.votes.sender };
  safe = λ x q. let k = h.safe x q in record { kept = k.kept; restored = k.restored };
  given = h.given;
}

abbrev carried_at : List LocalEvent → Carried
carried_at [] = nothing_carried
carried_at (c ∷ here) = c.carried

-- what is carried by what was lent is what the run carries
pub carried_there : (past : List Event) (opening : Opening) (e : Event) (low high g : ℕ) (a b : GuardianState)
    → IsRun opening (e ∷ past) → Names (forest_of opening past) e.step low high → a ≡ standing opening past low → b ≡ standing opening past high
    → names_guardian e.step (events_there (registry_history opening (numbered past))) g ≡ true
    → names_guardian e.step (events_of (numbered past)) g ≡ true
    → carried_lent opening e g (registry_history opening (numbered past)) (lent_two a b)
    ≡ carried opening e g (events_of (numbered past)) (λ h. local_history opening (numbered past) h)
carried_there past opening e low high g a b r n x y named run_named =
    let s : Stamped = (length (e ∷ past), e) in
    let lent : ℕ → List LocalEvent = lent_two a b in
    let R = registry_history opening (numbered past) in
    let grown = lent_grows opening s (numbered past) lent (runs opening (e ∷ past) r)
    (λ k m. lent_or_out opening past a b low high k r.2 x y
    (inl (sym (n k) ∙ m))) in
    sym (ap (λ t. carried_at (cond t (record { stamp = s.0; event = e; carried = carried_lent opening e g R lent } ∷ lent g) (lent g))) named)
    ∙ ap carried_at (grown.1 g named)
    ∙ ap carried_at (history_named opening s (numbered past) g run_named)

-- in a world an accepted event agrees with the histories of those lent
pub agrees_lent : (past : List Event) (opening : Opening) (e : Event) (low high g : ℕ) (a b : GuardianState)
    → IsRun opening (e ∷ past) → Names (forest_of opening past) e.step low high → a ≡ standing opening past low → b ≡ standing opening past high
    → ((low == g) || (high == g)) ≡ true
    → Agrees opening g (stamped 0 (record { event = e; carried = carried_lent opening e g (registry_history opening (numbered past)) (lent_two a b) })) (lent_two a b g)
agrees_lent past opening e low high g a b r n x y k =
    let named : names_guardian e.step (events_there (registry_history opening (numbered past))) g ≡ true =
    n g ∙ k in
    let run_named : names_guardian e.step (events_of (numbered past)) g ≡ true =
    sym (names_same (events_there (registry_history opening (numbered past))) (events_of (numbered past)) g
    (registry_same opening (numbered past) (runs opening past r.2)) e.step) ∙ named in
    subst (λ l. Agrees opening g (stamped 0 (record { event = e; carried = carried_lent opening e g (registry_history opening (numbered past)) (lent_two a b) })) l)
    (sym (lent_or_out opening past a b low high g r.2 x y (inl k)))
    (subst (λ m. Agrees opening g (stamped 0 (record { event = e; carried = m })) (local_history opening (numbered past) g))
    (sym (carried_there past opening e low high g a b r n x y named run_named))
    (agrees_stamped opening g 0 _ (local_history opening (numbered past) g)
    (runs_agree opening (length (e ∷ past), e) (numbered past) g (runs opening (e ∷ past) r) run_named)))
