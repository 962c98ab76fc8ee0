-- Each action of a run has ended, if the registry says so of each that its events began.
use Rattle.std.proofs.Common.{Bool, List, Some, [], ap, false, inl, inr, length, map, refl, reverse, slice_get, subst, suc, sym, take, true, zero, ℕ, ◌&&◌, ◌+◌, ◌<◌, ◌∙◌, ◌∷◌, ◌≡◌, ◌||◌}
use Rattle.std.proofs.lemmas.Bool.{and_parts, false≢true, or_cases}
use Rattle.std.proofs.lemmas.List.{reverse-append}
use Rattle.std.proofs.lemmas.List.Folds.{list_all-append}
use Rattle.std.proofs.lemmas.Option.{none-some, same_Some}
use Rattle.std.specs.List.{list_all}
use Rattle.action_names.specs.Names.{Name, has_name, same_name}
use Rattle.run_model.specs.Actions.{begun, is_aborted, is_begun, is_committed, is_ended, names_begun}
use Rattle.run_model.specs.LocalHistories.{RegistryEvent, Stamped, events_there, numbered, registry_history}
use Rattle.run_model.specs.Openings.{Opening, OpeningLists}
use Rattle.run_model.specs.Runs.{IsRun}
use Rattle.run_model.specs.declared.history.Event.{Event}
use Rattle.run_laws.proofs.Names.{has_name_append, same_name_true}
use Rattle.local_laws.specs.Registries.{IsRegistrySame}
use Rattle.local_laws.proofs.Registry.{registry_same}
use Rattle.world_steps.proofs.Led.{numbered_events, runs}
use Rattle.activities.specs.Continuing.{EndsAll}
use Rattle.locked_run.specs.Stored.{registry_events}
use Rattle.script_threads.specs.Ended.{has_ended_there, have_ended_there}
use Rattle.script_threads.specs.ThreadRuns.{begun_in}
use Rattle.script_threads.proofs.Places.{at_place, next_taken}

-- a test that all elements pass, in whatever order
all_reversed : {X : Type 0} (p : X → Bool) (xs : List X) → list_all p (reverse xs) ≡ true → list_all p xs ≡ true
all_reversed p [] all = refl
all_reversed p (x ∷ xs) all =
    let split : list_all p (reverse (x ∷ xs)) ≡ (list_all p (reverse xs) && list_all p (x ∷ [])) =
    ap (list_all p) (reverse-append (x ∷ []) xs) ∙ list_all-append p (reverse xs) (x ∷ []) in
    let parts = and_parts (list_all p (reverse xs)) (list_all p (x ∷ [])) (sym split ∙ all) in
    let first = and_parts (p x) true parts.1 in
    ap (λ b. b && list_all p xs) first.0 ∙ all_reversed p xs parts.0

-- a test that each of these names passes
name_passes : (p : Name → Bool) (names : List Name) (a : Name) → list_all p names ≡ true → has_name names a ≡ true → p a ≡ true
name_passes p [] a all has = absurd (false≢true has)
name_passes p (b ∷ names) a all has =
    let parts = and_parts (p b) (list_all p names) all in
    elim (or_cases (same_name b a) (has_name names a) has) [
      | inl same ↦ subst (λ c. p c ≡ true) (same_name_true b a same) parts.0
      | inr later ↦ name_passes p names a parts.1 later
    ]

-- a test that each action passes which these events began
begun_passes : (p : Name → Bool) (history : List Stamped) (a : Name) → list_all (λ s. list_all p (names_begun s.1.answer)) history ≡ true
    → is_begun a (map (λ s. s.1) history) ≡ true → p a ≡ true
begun_passes p [] a all has = absurd (false≢true has)
begun_passes p (s ∷ rest) a all has =
    let names = names_begun s.1.answer in
    let earlier = begun (map (λ (s : Stamped). s.1) rest) in
    let parts = and_parts (list_all p names) (list_all (λ (s : Stamped). list_all p (names_begun s.1.answer)) rest) all in
    elim (or_cases (has_name names a) (has_name earlier a) (sym (has_name_append names earlier a) ∙ has)) [
      | inl here ↦ name_passes p names a parts.0 here
      | inr before ↦ begun_passes p rest a parts.1 before
    ]

-- the events that the registry's lock has kept are those of the registry's history
events_kept : (registry : List RegistryEvent) → map (λ (s : Stamped). s.1) (map (λ (c : RegistryEvent). (c.stamp, c.event)) registry) ≡ events_there registry
events_kept [] = refl
events_kept (c ∷ registry) = ap (λ l. c.event ∷ l) (events_kept registry)

module _ (lists : OpeningLists) (opening : Opening) (past : List Event) (is_run : IsRun opening past) where
  abbrev pub there : List Event
  there = events_there (registry_history opening (numbered past))

  same : IsRegistrySame there past
  same = subst (IsRegistrySame there) (numbered_events past) (registry_same opening (numbered past) (runs opening past is_run))

  ended_same : (a : Name) → is_ended a there ≡ is_ended a past
  ended_same a = ap (λ b. b || is_aborted a there) (same.committed a) ∙ ap (λ b. is_committed a past || b) (same.aborted a)

  pub all_ended : have_ended_there there (reverse (registry_events opening past)) ≡ true → EndsAll (begun_in lists) (record { lists = lists; past = past })
  all_ended all a begun_now begun_before =
      let fine = all_reversed (λ (s : Stamped). list_all (has_ended_there there) (names_begun s.1.answer)) (registry_events opening past) all in
      let kept : begun (map (λ (s : Stamped). s.1) (registry_events opening past)) ≡ begun past =
      ap begun (events_kept (registry_history opening (numbered past))) ∙ same.begun in
      let has : is_begun a (map (λ (s : Stamped). s.1) (registry_events opening past)) ≡ true = ap (λ names. has_name names a) kept ∙ begun_now in
      let passes = begun_passes (has_ended_there there) (registry_events opening past) a fine has in
      sym (ended_same a) ∙ (and_parts (is_begun a there) (is_ended a there) passes).1

-- ---- going over events one after another

and_false : (b : Bool) → (b && false) ≡ false
and_false true = refl
and_false false = refl

-- not all elements pass a test that one does not
fails_at : {X : Type 0} (p : X → Bool) (xs : List X) (i : ℕ) (x : X) → slice_get xs i ≡ Some x → p x ≡ false → list_all p xs ≡ false
fails_at p [] i x at fails = absurd (none-some x at)
fails_at p (y ∷ ys) zero x at fails = ap (λ b. b && list_all p ys) (ap p (same_Some y x at) ∙ fails)
fails_at p (y ∷ ys) (suc i) x at fails = ap (λ b. p y && b) (fails_at p ys i x at fails) ∙ and_false (p y)

module _ (there : List Event) (history : List Stamped) (place : ℕ) (within : place < length history) (fine : Bool)
    (is_fine : (s : Stamped) → slice_get history place ≡ Some s → fine ≡ list_all (has_ended_there there) (names_begun s.1.answer)) where
  pub not_ended : fine ≡ false → false ≡ have_ended_there there history
  not_ended fails =
      let at = at_place history place within in
      sym (fails_at (λ (s : Stamped). list_all (has_ended_there there) (names_begun s.1.answer)) history place at.0 at.1
      (sym (is_fine at.0 at.1) ∙ fails))

  pub one_more_ended : fine ≡ true → have_ended_there there (take place history) ≡ true → have_ended_there there (take (place + 1) history) ≡ true
  one_more_ended passes before =
      let at = at_place history place within in
      let p = λ (s : Stamped). list_all (has_ended_there there) (names_begun s.1.answer) in
      let last : (p at.0 && true) ≡ true = ap (λ b. b && true) (sym (is_fine at.0 at.1) ∙ passes) in
      ap (list_all p) (next_taken history place at.0 at.1) ∙ list_all-append p (take place history) (at.0 ∷ [])
      ∙ ap (λ b. b && (p at.0 && true)) before ∙ last
