-- What each event makes of the way in which an object stands.
use Rattle.std.proofs.Common.{Bool, List, [], ap, ap₂, cond, false, filter, length, not, refl, subst, suc, sym, true, ℕ, ◌&&◌, ◌++◌, ◌==◌, ◌∙◌, ◌∷◌, ◌≡◌, ◌||◌, eqb-true}
use Rattle.std.proofs.lemmas.Bool.{and_parts, false≢true}
use Rattle.std.specs.List.{list_any}
use Rattle.action_names.specs.Names.{Name, ancestors}
use Rattle.atomic_types.specs.declared.part.Part.{Part}
use Rattle.atomic_types.specs.Operations as op
use Rattle.run_model.specs.declared.answer.Answer.{Answer}
use Rattle.run_model.specs.declared.answer.Answer.TheVariants.{Began, Done, Granted, Refused, VoteNo, VoteYes, Waits}
use Rattle.run_model.specs.declared.step.ObjectId.{ObjectId}
use Rattle.run_model.specs.declared.step.Step.{Step}
use Rattle.run_model.specs.declared.step.Step.TheVariants.{Abort, Arms, Call, Close, Commit, Crash, Decide, NestedTop, Op, Prepare, Recover, Tell, Top}
use Rattle.run_model.specs.Actions.{step_crashes}
use Rattle.run_model.specs.Keeping.{Performed, outlives_crash, performed_by, same_object, undoes_by}
use Rattle.run_model.specs.LocalReadings.{Carried, LocalEvent, brings, events_here, given_back, kept_here, restored_here, says_aborted, standing_here, told_committed_here}
use Rattle.run_laws.proofs.Each.{Each, each_filter}
use Rattle.run_laws.proofs.Names.{eqb_self}
use Rattle.local_laws.proofs.Kept.{filter_same}
use Rattle.object_laws.specs.Changes.{crashed, with_operation}
use Rattle.object_laws.specs.EventLaws.{CrashLeaves, OperationIsKept, OutcomesAreHeard, is_crash, is_granted_on}
use Rattle.object_laws.proofs.Filters.{all_pass, none_any, same_test}

-- an event of which only the step, the answer and the outcomes are looked at
abbrev event_of : ℕ → Step → Answer → Carried → LocalEvent
event_of n step answer m = record { stamp = n; event = record { step = step; answer = answer }; carried = m }

-- where no store gave anything back, nothing is
nothing_given : (step : Step) (x : ObjectId) → given_back step [] x ≡ []
nothing_given (Prepare g t) x = of (g == x.guardian)
  where
    none : List (Name × Part)
    none = []

    of : (t : Bool) → cond t none none ≡ none
    of true = refl
    of false = refl
nothing_given (Top g) x = refl
nothing_given (NestedTop a) x = refl
nothing_given (Call a g) x = refl
nothing_given (Arms a kinds) x = refl
nothing_given (Op a y wanted) x = refl
nothing_given (Commit a) x = refl
nothing_given (Close t) x = refl
nothing_given (Decide t) x = refl
nothing_given (Abort a) x = refl
nothing_given (Tell g a) x = refl
nothing_given (Crash g) x = refl
nothing_given (Recover g) x = refl

-- what is restored once nothing more was given back
same_restored : (c : LocalEvent) (here : List LocalEvent) (x : ObjectId) → c.carried.restored ≡ []
    → restored_here x (c ∷ here) ≡ filter (λ r. not (list_any (λ b. says_aborted (brings c b)) (ancestors r.0))) (restored_here x here)
same_restored c here x h =
    ap (λ l. l ++ filter (λ r. not (list_any (λ b. says_aborted (brings c b)) (ancestors r.0))) (restored_here x here))
    (ap (λ l. given_back c.event.step l x) h ∙ nothing_given c.event.step x)

-- a step that is no crash crashes nobody
no_crash : (step : Step) (g : ℕ) → is_crash step ≡ false → step_crashes step g ≡ false
no_crash (Crash h) g k = absurd (false≢true (sym k))
no_crash (Top h) g k = refl
no_crash (NestedTop a) g k = refl
no_crash (Call a h) g k = refl
no_crash (Arms a kinds) g k = refl
no_crash (Op a y wanted) g k = refl
no_crash (Commit a) g k = refl
no_crash (Close t) g k = refl
no_crash (Prepare h t) g k = refl
no_crash (Decide t) g k = refl
no_crash (Abort a) g k = refl
no_crash (Tell h a) g k = refl
no_crash (Recover h) g k = refl

or_false : (a b c : Bool) → b ≡ false → (a || (b && c)) ≡ a
or_false true b c h = refl
or_false false b c h = ap (λ t. t && c) h

-- an operation is performed on x where it was granted there
not_performed : (n : ℕ) (x : ObjectId) (step : Step) (answer : Answer) → is_granted_on x step answer ≡ false
    → filter (λ o. same_object o.object x) (performed_by n step answer) ≡ []
not_performed n x (Op a y wanted) (Granted r) h =
    ap (λ t. cond t (record { number = n; action = a; object = y; operation = wanted; reply = r } ∷ []) []) h
not_performed n x (Op a y wanted) (Began names) h = refl
not_performed n x (Op a y wanted) (Waits names) h = refl
not_performed n x (Op a y wanted) VoteYes h = refl
not_performed n x (Op a y wanted) VoteNo h = refl
not_performed n x (Op a y wanted) (Done k) h = refl
not_performed n x (Op a y wanted) (Refused why) h = refl
not_performed n x (Top g) answer h = refl
not_performed n x (NestedTop a) answer h = refl
not_performed n x (Call a g) answer h = refl
not_performed n x (Arms a kinds) answer h = refl
not_performed n x (Commit a) answer h = refl
not_performed n x (Close t) answer h = refl
not_performed n x (Prepare g t) answer h = refl
not_performed n x (Decide t) answer h = refl
not_performed n x (Abort a) answer h = refl
not_performed n x (Tell g a) answer h = refl
not_performed n x (Crash g) answer h = refl
not_performed n x (Recover g) answer h = refl

-- what stays of the kept operations where nobody crashed
undone_only : (c : LocalEvent) (here : List LocalEvent) (x : ObjectId) → is_crash c.event.step ≡ false
    → filter (λ o. not (undoes_by (λ b. says_aborted (brings c b)) c.event.step (events_here here) o)) (kept_here x here)
    ≡ filter (λ o. not (list_any (λ b. says_aborted (brings c b)) (ancestors o.action))) (kept_here x here)
undone_only c here x h =
    same_test _ _ (kept_here x here) (λ o.
    ap not (or_false (list_any (λ b. says_aborted (brings c b)) (ancestors o.action)) (step_crashes c.event.step o.object.guardian)
    (not (outlives_crash o (events_here here))) (no_crash c.event.step o.object.guardian h)))

pub outcomes_are_heard_is : OutcomesAreHeard
outcomes_are_heard_is c here x h k r = λ i. record {
  told = λ b. told_committed_here b (c ∷ here);
  kept = (ap (λ l. l ++ filter (λ o. not (undoes_by (λ b. says_aborted (brings c b)) c.event.step (events_here here) o)) (kept_here x here))
      (not_performed (suc (length here)) x c.event.step c.event.answer k) ∙ undone_only c here x h) i;
  restored = same_restored c here x r i;
}

-- the kept operations on x are on x
kept_on_it : (x : ObjectId) (here : List LocalEvent) → Each (λ o. same_object o.object x ≡ true) (kept_here x here)
kept_on_it x [] = tt
kept_on_it x (c ∷ here) =
    both (filter (λ o. same_object o.object x) (performed_by (suc (length here)) c.event.step c.event.answer))
    (filter (λ o. not (undoes_by (λ b. says_aborted (brings c b)) c.event.step (events_here here) o)) (kept_here x here))
    (passed (performed_by (suc (length here)) c.event.step c.event.answer))
    (each_filter (λ o. same_object o.object x ≡ true) (λ o. not (undoes_by (λ b. says_aborted (brings c b)) c.event.step (events_here here) o)) (kept_here x here)
    (weaker (kept_here x here) (kept_on_it x here)))
  where
    both : (os ps : List Performed) → Each (λ o. same_object o.object x ≡ true) os → Each (λ o. same_object o.object x ≡ true) ps
        → Each (λ o. same_object o.object x ≡ true) (os ++ ps)
    both [] ps h k = k
    both (o ∷ os) ps h k = (h.0, both os ps h.1 k)

    itself : (os : List Performed) → Each (λ o. same_object o.object x ≡ true → same_object o.object x ≡ true) os
    itself [] = tt
    itself (o ∷ os) = (λ h. h, itself os)

    passed : (os : List Performed) → Each (λ o. same_object o.object x ≡ true) (filter (λ o. same_object o.object x) os)
    passed os = each_filter (λ o. same_object o.object x ≡ true) (λ o. same_object o.object x) os (itself os)

    weaker : (os : List Performed) → Each (λ o. same_object o.object x ≡ true) os
        → Each (λ o. not (undoes_by (λ b. says_aborted (brings c b)) c.event.step (events_here here) o) ≡ true → same_object o.object x ≡ true) os
    weaker [] h = tt
    weaker (o ∷ os) h = (λ q. h.0, weaker os h.1)

pub operation_is_kept_is : OperationIsKept
operation_is_kept_is c here x a wanted r s h o g =
    subst (λ step. P step c.event.answer c.carried.outcomes c.carried.restored) (sym s)
    (subst (λ answer. P (Op a x wanted) answer c.carried.outcomes c.carried.restored) (sym h)
    (subst (λ outcomes. P (Op a x wanted) (Granted r) outcomes c.carried.restored) (sym o)
    (subst (λ restored. P (Op a x wanted) (Granted r) [] restored) (sym g) granted)))
  where
    with_event : Step → Answer → List (Name × Bool) → List (ℕ × Part) → LocalEvent
    with_event step answer outcomes restored =
        event_of c.stamp step answer (record c.carried { outcomes = outcomes; restored = restored })

    P : Step → Answer → List (Name × Bool) → List (ℕ × Part) → Type 0
    P step answer outcomes restored =
        standing_here (with_event step answer outcomes restored ∷ here) x
        ≡ with_operation (record { number = suc (length here); action = a; object = x; operation = wanted; reply = r }) (standing_here here x)

    on_it : same_object x x ≡ true
    on_it = ap₂ ◌&&◌ (eqb_self x.guardian) (eqb_self x.number)

    o_new : Performed
    o_new = record { number = suc (length here); action = a; object = x; operation = wanted; reply = r }

    granted : P (Op a x wanted) (Granted r) [] []
    granted = λ i. record {
      told = λ b. told_committed_here b here;
      kept = (ap (λ t. cond t (o_new ∷ []) [] ++ filter (λ p. not (undoes_by (λ b. false) (Op a x wanted) (events_here here) p)) (kept_here x here)) on_it
          ∙ ap (λ l. o_new ∷ l) (all_pass (λ p. not (undoes_by (λ b. false) (Op a x wanted) (events_here here) p)) (kept_here x here)
          (λ p. ap not (ap (λ t. t || false) (none_any (λ b. false) (ancestors p.action) (λ b. refl)))))) i;
      restored = all_pass (λ q. not (list_any (λ b. false) (ancestors q.0))) (restored_here x here)
          (λ q. ap not (none_any (λ b. false) (ancestors q.0) (λ b. refl))) i;
    }

pub crash_leaves_is : CrashLeaves
crash_leaves_is c here x s o g =
    subst (λ step. P step c.carried.outcomes c.carried.restored) (sym s)
    (subst (λ outcomes. P (Crash x.guardian) outcomes c.carried.restored) (sym o)
    (subst (λ restored. P (Crash x.guardian) [] restored) (sym g) left))
  where
    P : Step → List (Name × Bool) → List (ℕ × Part) → Type 0
    P step outcomes restored =
        standing_here (event_of c.stamp step c.event.answer (record c.carried { outcomes = outcomes; restored = restored }) ∷ here) x
        ≡ crashed (λ o. outlives_crash o (events_here here)) (standing_here here x)

    twice_not : (t : Bool) → not (not t) ≡ t
    twice_not true = refl
    twice_not false = refl

    outlived : (p : Performed) → same_object p.object x ≡ true
        → not (undoes_by (λ b. false) (Crash x.guardian) (events_here here) p) ≡ outlives_crash p (events_here here)
    outlived p h =
        ap not (ap₂ (λ t u. t || (u && not (outlives_crash p (events_here here)))) (none_any (λ b. false) (ancestors p.action) (λ b. refl))
        (ap (λ k. x.guardian == k) (eqb-true p.object.guardian x.guardian (and_parts _ _ h).0) ∙ eqb_self x.guardian))
        ∙ twice_not (outlives_crash p (events_here here))

    each_outlived : (os : List Performed) → Each (λ p. same_object p.object x ≡ true) os
        → Each (λ p. not (undoes_by (λ b. false) (Crash x.guardian) (events_here here) p) ≡ outlives_crash p (events_here here)) os
    each_outlived [] h = tt
    each_outlived (p ∷ os) h = (outlived p h.0, each_outlived os h.1)

    left : P (Crash x.guardian) [] []
    left = λ i. record {
      told = λ b. told_committed_here b here;
      kept = filter_same (λ p. not (undoes_by (λ b. false) (Crash x.guardian) (events_here here) p)) (λ p. outlives_crash p (events_here here)) (kept_here x here)
          (each_outlived (kept_here x here) (kept_on_it x here)) i;
      restored = all_pass (λ q. not (list_any (λ b. false) (ancestors q.0))) (restored_here x here)
          (λ q. ap not (none_any (λ b. false) (ancestors q.0) (λ b. refl))) i;
    }
