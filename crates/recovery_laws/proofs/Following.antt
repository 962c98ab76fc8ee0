-- The stores follow the run, and a step calls at most one of them.
use Rattle.std.proofs.Common.{Bool, List, None, Option, Some, [], ap, arith, cond, false, length, option_map, refl, slice_get, subst, suc, sym, true, zero, ℕ, ◌+◌, ◌-◌, ◌==◌, ◌∙◌, ◌∷◌, ◌≡◌, ◌≢◌}
use Rattle.std.proofs.lemmas.Bool.{and_left, false≢true, ne_eqb}
use Rattle.std.proofs.lemmas.List.{length-map}
use Rattle.std.proofs.lemmas.Option.{same_Some, slice_get-map}
use Rattle.std.specs.FinMap as map
use Rattle.std.specs.FinSet as set
use Rattle.std.specs.Ordering.{nat_cmp}
use Rattle.action_names.specs.Names.{Name, last_of, same_name}
use Rattle.run_model.specs.declared.answer.Answer.{Answer}
use Rattle.run_model.specs.declared.answer.Answer.TheVariants.{VoteYes}
use Rattle.run_model.specs.declared.history.Event.{Event}
use Rattle.run_model.specs.declared.step.Step.{Step}
use Rattle.run_model.specs.declared.step.Step.TheVariants.{Abort, Arms, Call, Close, Commit, Crash, Decide, NestedTop, Op, Prepare, Recover, Tell, Top}
use Rattle.run_model.specs.Actions.{home_of}
use Rattle.run_model.specs.LocalHistories.{Stamped, events_of, local_history, names_guardian, numbered}
use Rattle.run_model.specs.LocalReadings.{Carried, LocalEvent, or_zero, outcome_in, says_committed, standing_here}
use Rattle.run_model.specs.Openings.{Opening, fresh}
use Rattle.run_model.specs.Runs.{IsRun}
use Rattle.run_model.specs.StableContent.{parts_by}
use Rattle.run_model.specs.Visibility.{votes_yes}
use Rattle.guardian_laws.specs.Laws.{kept_event}
use Rattle.guardian_laws.proofs.Votes.{agrees_on_votes}
use Rattle.local_laws.proofs.Outcomes.{history_named, history_unnamed}
use Rattle.recovery_laws.specs.Following.{content_after, contents_from, stores_after, stores_through}
use Rattle.recovery_laws.specs.StoreLaws.{NewStores, OneStoreIsCalled, StoresFollow}
use Rattle.recovery_laws.specs.Runs.{AreOfRun}
use Rattle.recovery_laws.proofs.Held.{numbered_events}
use Rattle.stable_store.specs.Stored.{Stored, after_bump, after_decide, after_discard, after_install, after_prepare, empty}
use Rattle.guardian_laws.specs.Stored.{AreStored, after_event, asks_store, has_record}
use Rattle.guardian_laws.proofs.Following.{nothing_is_stored, store_follows}

-- ---- one store

module _ (opening : Opening) (e : Event) (past : List Event) where
  abbrev now : Stamped
  now = (suc (length past), e)

  abbrev here : ℕ → List LocalEvent
  here g = local_history opening (numbered past) g

  named_so : (g : ℕ) → names_guardian e.step (events_of (numbered past)) g ≡ names_guardian e.step past g
  named_so g = ap (λ p. names_guardian e.step p g) (numbered_events past)

  follows : IsRun opening (e ∷ past) → (g : ℕ) (s : Stored) → AreStored opening g (here g) s
      → AreStored opening g (local_history opening (numbered (e ∷ past)) g) (content_after opening e past g s)
  follows r g s stored = of (names_guardian e.step past g) refl
    where
      run : IsRun opening (events_of (now ∷ numbered past))
      run = subst (λ p. IsRun opening p) (sym (numbered_events (e ∷ past))) r

      of : (b : Bool) → names_guardian e.step past g ≡ b → AreStored opening g (local_history opening (numbered (e ∷ past)) g)
          (cond b (after_event opening g (kept_event opening (0, e) (numbered past) g) (here g) s) s)
      of true n =
          subst (λ l. AreStored opening g l (after_event opening g (kept_event opening (0, e) (numbered past) g) (here g) s))
          (sym (history_named opening now (numbered past) g (named_so g ∙ n)))
          (store_follows opening g (kept_event opening now (numbered past) g) (here g) s stored (agrees_on_votes opening now (numbered past) g run))
      of false n = subst (λ l. AreStored opening g l s) (sym (history_unnamed opening now (numbered past) g (named_so g ∙ n))) stored

  -- ---- all stores

  content_at : (g : ℕ) (stores : List Stored) (i : ℕ)
      → slice_get (contents_from opening e past g stores) i ≡ option_map (λ s. content_after opening e past (g + i) s) (slice_get stores i)
  content_at g [] i = refl
  content_at g (s ∷ stores) zero = let k : g ≡ g + 0 = omega arith in ap (λ h. Some (content_after opening e past h s)) k
  content_at g (s ∷ stores) (suc i) =
      let k : (g + 1) + i ≡ g + suc i = omega arith in
      content_at (g + 1) stores i ∙ ap (λ h. option_map (λ s. content_after opening e past h s) (slice_get stores i)) k

  content_then : (stores : List Stored) (i : ℕ)
      → slice_get (stores_after opening e past stores) i ≡ option_map (λ s. content_after opening e past (i + 1) s) (slice_get stores i)
  content_then stores i =
      let k : 1 + i ≡ i + 1 = omega arith in
      content_at 1 stores i ∙ ap (λ h. option_map (λ s. content_after opening e past h s) (slice_get stores i)) k

  as_many : (g : ℕ) (stores : List Stored) → length (contents_from opening e past g stores) ≡ length stores
  as_many g [] = refl
  as_many g (s ∷ stores) = ap suc (as_many (g + 1) stores)

  pub all_follow : (stores : List Stored) → IsRun opening (e ∷ past) → AreOfRun opening past stores
      → AreOfRun opening (e ∷ past) (stores_after opening e past stores)
  all_follow stores r all = record {
    count = as_many 1 stores ∙ all.count;
    each = λ i u at. of i u (slice_get stores i) refl (sym (content_then stores i) ∙ at);
  }
    where
      of : (i : ℕ) (u : Stored) (o : Option Stored) → slice_get stores i ≡ o
          → option_map (λ s. content_after opening e past (i + 1) s) o ≡ Some u
          → AreStored opening (i + 1) (local_history opening (numbered (e ∷ past)) (i + 1)) u
      of i u None k q = absurd (let p : ◌≡◌ {A = Option Stored} None (Some u) = q in cc)
      of i u (Some s) k q =
          subst (λ t. AreStored opening (i + 1) (local_history opening (numbered (e ∷ past)) (i + 1)) t)
          (same_Some (content_after opening e past (i + 1) s) u q) (follows r (i + 1) s (all.each i s k))

-- ---- which store a step calls

-- the one guardian whose store a step may call
abbrev called : Step → List Event → ℕ
called (Prepare h t) past = h
called (Tell h a) past = h
called (Decide t) past = home_of t past
called (Recover h) past = h
called _ past = 0

no_vote : (h g : ℕ) (t : Name) (answer : Answer) → (h == g) ≡ false → votes_yes (Prepare h t) answer g t ≡ false
no_vote h g t VoteYes q = and_left (h == g) (same_name t t) q
no_vote h g t _ q = refl

module _ (opening : Opening) (g : ℕ) (s : Stored) (carried : Carried) (answer : Answer) where
  abbrev event : Step → LocalEvent
  event step = record { stamp = 0; event = record { step = step; answer = answer }; carried = carried }

  -- where no call is asked for, the content stays
  idle : (step : Step) (here : List LocalEvent) → asks_store g (event step) s ≡ false → after_event opening g (event step) here s ≡ s
  idle (Prepare h t) here q =
      ap (λ v. cond v (after_prepare (last_of t) (or_zero carried.sender) (parts_by opening g (λ x. standing_here (event (Prepare h t) ∷ here) x) t) s) s) q
  idle (Decide t) here q = ap (λ v. cond v (after_decide (last_of t) s) s) q
  idle (Tell h a) here q =
      ap (λ v. cond v (cond (says_committed (outcome_in carried.outcomes a)) (after_install (last_of a) s) (after_discard (last_of a) s)) s) q
  idle (Recover h) here q = ap (λ v. cond v (after_bump s) s) q
  idle (Top h) here q = refl
  idle (NestedTop a) here q = refl
  idle (Call a h) here q = refl
  idle (Arms a kinds) here q = refl
  idle (Op a x wanted) here q = refl
  idle (Commit a) here q = refl
  idle (Close t) here q = refl
  idle (Abort a) here q = refl
  idle (Crash h) here q = refl

  -- another guardian that the event names is asked for none
  none_asked : (step : Step) (past : List Event) → (called step past == g) ≡ false → names_guardian step past g ≡ true
      → asks_store g (event step) s ≡ false
  none_asked (Prepare h t) past q n = no_vote h g t answer q
  none_asked (Decide t) past q n = absurd (false≢true (sym q ∙ n))
  none_asked (Tell h a) past q n = and_left (h == g) (has_record s a) q
  none_asked (Recover h) past q n = q
  none_asked _ past q n = refl

  uncalled : (step : Step) (past : List Event) (here : List LocalEvent) → (called step past == g) ≡ false
      → cond (names_guardian step past g) (after_event opening g (event step) here s) s ≡ s
  uncalled step past here q = of (names_guardian step past g) refl
    where
      of : (b : Bool) → names_guardian step past g ≡ b → cond b (after_event opening g (event step) here s) s ≡ s
      of true n = idle step here (none_asked step past q n)
      of false n = refl

-- the law
pub one_store_is_called : OneStoreIsCalled
one_store_is_called opening e past stores = (called e.step past - 1, λ i apart. content_then opening e past stores i ∙ of i apart (slice_get stores i))
  where
    of : (i : ℕ) → i ≢ called e.step past - 1 → (o : Option Stored) → option_map (λ s. content_after opening e past (i + 1) s) o ≡ o
    of i apart None = refl
    of i apart (Some s) =
        let other : (called e.step past == (i + 1)) ≡ false = ne_eqb (called e.step past) (i + 1) (λ k. apart (omega arith)) in
        ap (λ t. Some t)
        (uncalled opening (i + 1) s (kept_event opening (0, e) (numbered past) (i + 1)).carried e.answer e.step past (local_history opening (numbered past) (i + 1)) other)

-- ---- the laws

pub stores_follow : StoresFollow
stores_follow opening [] first r all = all
stores_follow opening (e ∷ past) first r all = all_follow opening e past (stores_through opening past first) r (stores_follow opening past first r.2 all)

pub new_stores_are_empty : NewStores
new_stores_are_empty setup = record {
  count = length-map setup (λ contents. empty);
  each = λ i s at.
      of i s (slice_get setup i) (sym (slice_get-map (λ contents. empty) setup i) ∙ at);
}
  where
    of : {X : Type 0} (i : ℕ) (s : Stored) (o : Option X) → option_map (λ contents. empty) o ≡ Some s → AreStored (fresh setup) (i + 1) [] s
    of i s None q = absurd (let p : ◌≡◌ {A = Option Stored} None (Some s) = q in cc)
    of i s (Some x) q =
        subst (λ t. AreStored (fresh setup) (i + 1) [] t) (same_Some empty s q)
        (nothing_is_stored (fresh setup) (i + 1) empty (λ n. map.get-empty nat_cmp n) refl (λ n. set.contains-empty nat_cmp n) refl refl)
