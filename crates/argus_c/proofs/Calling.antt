-- Whose store a step calls.
use Rattle.std.proofs.Common.{◌≡◌, ◌==◌, ◌&&◌, ◌∙◌, ℕ, Bool, true, false, List, ap, sym, refl, eqb-true, ne_eqb}
use Rattle.std.specs.Prelude.{◌≢◌}
use Rattle.std.proofs.lemmas.Bool.{and_from, and_parts, false≢true, not-false}
use Rattle.action_names.specs.Names.{Name, same_name}
use Rattle.run_model.specs.declared.answer.Answer.{Answer}
use Rattle.run_model.specs.declared.answer.Answer.TheVariants.{Began, Granted, Waits, VoteYes, VoteNo, Done, Refused}
use Rattle.run_model.specs.declared.answer.Refusal.TheVariants as why
use Rattle.run_model.specs.declared.history.Event.{Event}
use Rattle.run_model.specs.declared.step.Step.{Step}
use Rattle.run_model.specs.declared.step.Step.TheVariants.{Decide, Prepare, Recover, Tell}
use Rattle.run_model.specs.Actions.{home_of, is_begun}
use Rattle.run_model.specs.LocalHistories.{events_of, local_history, names_guardian, numbered}
use Rattle.run_model.specs.LocalReadings.{events_here, is_at_home}
use Rattle.run_model.specs.Openings.{Opening}
use Rattle.run_model.specs.Runs.{IsRun, is_accepted}
use Rattle.run_model.specs.Visibility.{votes_yes}
use Rattle.run_laws.proofs.Accepted.{checked}
use Rattle.run_laws.proofs.Names.{eqb_self}
use Rattle.local_laws.proofs.Actions.{action_same}
use Rattle.local_laws.proofs.Roster.{begun_same}
use Rattle.guardian_laws.specs.Stored.{asks_store, has_record}
use Rattle.stable_store.specs.Stored.{Stored}
use Rattle.world_steps.specs.Standings.{asks_of, brought, event_next}
use Rattle.world_steps.proofs.Led.{numbered_events, runs}

-- ---- who is at home

module _ (opening : Opening) (g : ℕ) (past : List Event) (r : IsRun opening past) (a : Name) where
  pub home_is : is_at_home g a (local_history opening (numbered past) g) ≡ true → home_of a past ≡ g
  home_is h =
      let here = events_here (local_history opening (numbered past) g) in
      let p = and_parts (is_begun a here) (home_of a here == g) h in
      let own = begun_same opening (numbered past) g a (runs opening past r) p.0 in
      ap (λ l. home_of a l) (sym (numbered_events past)) ∙ sym own.1 ∙ eqb-true (home_of a here) g p.1

  pub home_is_not : is_at_home g a (local_history opening (numbered past) g) ≡ false → is_begun a past ≡ true → home_of a past ≢ g
  home_is_not h begun home =
      let b : is_begun a (events_of (numbered past)) ≡ true = ap (λ l. is_begun a l) (numbered_events past) ∙ begun in
      let at : home_of a (events_of (numbered past)) ≡ g = ap (λ l. home_of a l) (numbered_events past) ∙ home in
      let same = action_same opening (numbered past) g a (runs opening past r) b at in
      false≢true (sym h ∙ and_from _ _ (same.begun ∙ b) (ap (λ m. m == g) (same.home ∙ at) ∙ eqb_self g))

-- ---- whose store is called

not_last : (a b c : Bool) → c ≡ false → (a && (b && c)) ≡ false
not_last true true c e = e
not_last true false c e = refl
not_last false b c e = refl

not_named : (a b c : Bool) → b ≡ false → (a && (b && c)) ≡ false
not_named true b c e = ap (λ x. x && c) e
not_named false b c e = refl

no_vote : (h g : ℕ) (t : Name) (a : Answer) → h ≢ g → votes_yes (Prepare h t) a g t ≡ false
no_vote h g t (Began names) ne = refl
no_vote h g t (Granted r) ne = refl
no_vote h g t (Waits names) ne = refl
no_vote h g t VoteYes ne = ap (λ x. x && same_name t t) (ne_eqb h g ne)
no_vote h g t VoteNo ne = refl
no_vote h g t (Done n) ne = refl
no_vote h g t (Refused w) ne = refl

module _ (opening : Opening) (past : List Event) (g : ℕ) (s : Stored) where
  abbrev asks : Step → Bool
  asks step = asks_store g (brought opening (event_next opening step past) past g) s

  unasked : (step : Step) → asks step ≡ false → asks_of opening step past g s ≡ false
  unasked step e = not_last (is_accepted (event_next opening step past).answer) (names_guardian step past g) (asks step) e

  pub prepare_asks : (h : ℕ) (t : Name) → h ≢ g → asks_of opening (Prepare h t) past g s ≡ false
  prepare_asks h t ne = unasked (Prepare h t) (no_vote h g t (event_next opening (Prepare h t) past).answer ne)

  pub recover_asks : (h : ℕ) → h ≢ g → asks_of opening (Recover h) past g s ≡ false
  recover_asks h ne = unasked (Recover h) (ne_eqb h g ne)

  pub tell_asks : (h : ℕ) (a : Name) → h ≢ g → asks_of opening (Tell h a) past g s ≡ false
  tell_asks h a ne = unasked (Tell h a) (ap (λ x. x && has_record s a) (ne_eqb h g ne))

  and_false : (b c : Bool) → c ≡ false → (b && c) ≡ false
  and_false true c e = e
  and_false false c e = refl

  pub tell_unrecorded : (h : ℕ) (a : Name) → has_record s a ≡ false → asks_of opening (Tell h a) past g s ≡ false
  tell_unrecorded h a none = unasked (Tell h a) (and_false (h == g) (has_record s a) none)

  pub decide_asks : (t : Name) → home_of t past ≢ g → asks_of opening (Decide t) past g s ≡ false
  decide_asks t ne = not_named (is_accepted (event_next opening (Decide t) past).answer) (home_of t past == g) (asks (Decide t)) (ne_eqb (home_of t past) g ne)

  -- of a top action that is at home nowhere, if it has begun
  pub decide_nowhere : (t : Name) → IsRun opening past → (is_begun t past ≡ true → home_of t past ≢ g) → asks_of opening (Decide t) past g s ≡ false
  decide_nowhere t r none = of (is_accepted (event_next opening (Decide t) past).answer) refl
    where
      of : (b : Bool) → is_accepted (event_next opening (Decide t) past).answer ≡ b → asks_of opening (Decide t) past g s ≡ false
      of false e = ap (λ x. x && ((home_of t past == g) && asks (Decide t))) e
      of true e = decide_asks t (none (not-false _ (checked opening (event_next opening (Decide t) past) past (refl, e, r) why.NoAction)))

  pub no_call : (step : Step) → asks step ≡ false → asks_of opening step past g s ≡ false
  no_call = unasked
