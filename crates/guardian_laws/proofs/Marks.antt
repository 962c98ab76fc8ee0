-- What is kept on an object stands in its guardian's own history beside the votes that came after it as it does in the flat one.
use Rattle.std.proofs.Common.{Bool, List, [], ap, ap₂, arith, cond, eqb-true, false, filter, le_refl, length, map, nat_lt, not, refl, subst, suc, sym, true, ℕ, ◌&&◌, ◌++◌, ◌<◌, ◌==◌, ◌∙◌, ◌∷◌, ◌≡◌, ◌≤◌, ◌||◌}
use Rattle.std.proofs.lemmas.Bool.Decides.{nat_tests}
use Rattle.std.proofs.lemmas.Bool.{and_left, and_parts, lt-ltb, not-false}
use Rattle.std.proofs.lemmas.List.{map-append}
use Rattle.std.specs.List.{list_any}
use Rattle.action_names.specs.Names.{Name, ancestors, top_of}
use Rattle.atomic_types.specs.Operations.{is_read}
use Rattle.run_model.specs.declared.answer.Answer.{Answer}
use Rattle.run_model.specs.declared.answer.Answer.TheVariants.{Granted}
use Rattle.run_model.specs.declared.answer.Refusal.TheVariants as why
use Rattle.run_model.specs.declared.history.Event.{Event}
use Rattle.run_model.specs.declared.step.ObjectId.{ObjectId}
use Rattle.run_model.specs.declared.step.Step.{Step}
use Rattle.run_model.specs.declared.step.Step.TheVariants.{Op}
use Rattle.run_model.specs.Actions.{home_of, is_aborted, is_ended, step_crashes}
use Rattle.run_model.specs.Keeping.{Performed, kept_on, performed_by, prepared_after, same_object, undoes, undoes_by}
use Rattle.run_model.specs.LocalHistories.{Stamped, events_of, local_history, names_guardian}
use Rattle.run_model.specs.LocalReadings.{LocalEvent, brings, events_here, kept_here, says_aborted}
use Rattle.run_model.specs.Openings.{Opening}
use Rattle.run_model.specs.Refusals.{checks}
use Rattle.run_model.specs.Runs.{IsRun}
use Rattle.run_model.specs.Telling.{tells, told_since_crash}
use Rattle.run_model.specs.Visibility.{votes_yes}
use Rattle.run_laws.proofs.Accepted.{NoneApplies, checked}
use Rattle.run_laws.proofs.Each.{Each, each_filter, each_map}
use Rattle.local_laws.specs.Standings.{unnumbered}
use Rattle.local_laws.proofs.Kept.{Marked, any_same, filter_same, kept_more}
use Rattle.local_laws.proofs.Outcomes.{aborts_told, history_named, history_unnamed, local_event, unnamed_crashes, unnamed_tells, unnamed_votes}
use Rattle.local_laws.proofs.Told.{told_same}

-- an operation without its number, and whether its guardian prepared its top action since it was granted
abbrev pub mark : List Event → Performed → Marked
mark past o = (unnumbered o, prepared_after o.number o.object.guardian (top_of o.action) past)

-- which aborts an event tells each guardian
abbrev Aborts : Type 0
Aborts = ℕ → Name → Bool

-- the event leaves the operation
abbrev stays : Aborts → Step → Marked → Bool
stays aborts step m = not (list_any (aborts m.0.object.guardian) (ancestors m.0.action)
    || (step_crashes step m.0.object.guardian && not (not (is_read m.0.operation) && m.1)))

abbrev remark : Step → Answer → Marked → Marked
remark step answer m = (m.0, m.1 || votes_yes step answer m.0.object.guardian (top_of m.0.action))

-- what it grants on x
abbrev fresh : ObjectId → Step → Answer → List Marked
fresh x step answer = map (λ o. (o, false)) (filter (λ o. same_object o.object x) (performed_by 0 step answer))

-- numbers are not above the length
abbrev pub IsLow : ObjectId → ℕ → Performed → Type 0
IsLow x n o = (o.number ≤ n) × (o.object.guardian ≡ x.guardian)

-- what is numbered later is not prepared yet
pub prepared_low : (n g : ℕ) (t : Name) (past : List Event) → length past ≤ n → prepared_after n g t past ≡ false
prepared_low n g t [] l = refl
prepared_low n g t (e ∷ past) l =
    ap₂ ◌||◌ (prepared_low n g t past (omega arith)) (and_left _ _ (not_below n (length past) l))
  where
    not_below : (n m : ℕ) → suc m ≤ n → nat_lt n (suc m) ≡ false
    not_below n m h = grind (arith, nat_tests)

-- a new operation is not prepared
marked_new : (x : ObjectId) (e : Event) (past : List Event)
    → map (λ o. mark (e ∷ past) o) (filter (λ o. same_object o.object x) (performed_by (suc (length past)) e.step e.answer)) ≡ fresh x e.step e.answer
marked_new x e past = of e.step e.answer (λ g t. prepared_low (suc (length past)) g t (e ∷ past) (le_refl (suc (length past))))
  where
    of : (step : Step) (answer : Answer) → ((g : ℕ) (t : Name) → prepared_after (suc (length past)) g t (e ∷ past) ≡ false)
        → map (λ o. mark (e ∷ past) o) (filter (λ o. same_object o.object x) (performed_by (suc (length past)) step answer)) ≡ fresh x step answer
    of (Op a y o) (Granted r) h = one (same_object y x)
      where
        one : (t : Bool)
            → map (λ o. mark (e ∷ past) o) (cond t (record { number = suc (length past); action = a; object = y; operation = o; reply = r } ∷ []) [])
            ≡ map (λ o. (o, false)) (cond t (record { number = 0; action = a; object = y; operation = o; reply = r } ∷ []) [])
        one true = ap (λ t. (record { number = 0; action = a; object = y; operation = o; reply = r }, t) ∷ []) (h y.guardian (top_of a))
        one false = refl
    of _ _ h = refl

-- what is left of earlier ones
marked_old : (x : ObjectId) (aborts : Aborts) (e : Event) (past : List Event) (os : List Performed) → Each (IsLow x (length past)) os
    → map (λ o. mark (e ∷ past) o) (filter (λ o. not (undoes_by (aborts o.object.guardian) e.step past o)) os)
    ≡ map (λ m. remark e.step e.answer m) (filter (λ m. stays aborts e.step m) (map (λ o. mark past o) os))
marked_old x aborts e past [] h = refl
marked_old x aborts e past (o ∷ os) h = of (not (undoes_by (aborts o.object.guardian) e.step past o)) _ _ (marked_old x aborts e past os h.1)
  where
    later : mark (e ∷ past) o ≡ remark e.step e.answer (mark past o)
    later = ap (λ t. (unnumbered o, prepared_after o.number o.object.guardian (top_of o.action) past || (t && votes_yes e.step e.answer o.object.guardian (top_of o.action))))
        (lt-ltb o.number (suc (length past)) (low o.number (length past) h.0.0))
      where
        low : (m n : ℕ) → m ≤ n → m < suc n
        low m n l = omega arith

    of : (t : Bool) (xs : List Performed) (ys : List Marked) → map (λ o. mark (e ∷ past) o) xs ≡ map (λ m. remark e.step e.answer m) ys
        → map (λ o. mark (e ∷ past) o) (cond t (o ∷ xs) xs) ≡ map (λ m. remark e.step e.answer m) (cond t (mark past o ∷ ys) ys)
    of true xs ys q = ap₂ (λ m ms. m ∷ ms) later q
    of false xs ys q = q

-- the next marks
marked_next : (x : ObjectId) (aborts : Aborts) (e : Event) (past : List Event) (os : List Performed) → Each (IsLow x (length past)) os
    → map (λ o. mark (e ∷ past) o)
    (filter (λ o. same_object o.object x) (performed_by (suc (length past)) e.step e.answer)
    ++ filter (λ o. not (undoes_by (aborts o.object.guardian) e.step past o)) os)
    ≡ fresh x e.step e.answer ++ map (λ m. remark e.step e.answer m) (filter (λ m. stays aborts e.step m) (map (λ o. mark past o) os))
marked_next x aborts e past os h =
    map-append (λ o. mark (e ∷ past) o) _ _ ∙ ap₂ ◌++◌ (marked_new x e past) (marked_old x aborts e past os h)

-- a new operation is numbered by its event
fresh_low : (x : ObjectId) (n : ℕ) (step : Step) (answer : Answer)
    → Each (IsLow x n) (filter (λ o. same_object o.object x) (performed_by n step answer))
fresh_low x n (Op a y o) (Granted r) = of (same_object y x) refl
  where
    of : (t : Bool) → same_object y x ≡ t
        → Each (IsLow x n) (cond t (record { number = n; action = a; object = y; operation = o; reply = r } ∷ []) [])
    of true q = ((le_refl n, eqb-true y.guardian x.guardian (and_parts _ _ q).0), tt)
    of false q = tt
fresh_low x n _ _ = tt

-- facts of each of two lists
each_append : {X : Type 0} (P : X → Type 0) (xs ys : List X) → Each P xs → Each P ys → Each P (xs ++ ys)
each_append P [] ys h k = k
each_append P (x ∷ xs) ys h k = (h.0, each_append P xs ys h.1 k)

-- what stays of a list has its facts
each_left : {X : Type 0} (P : X → Type 0) (p : X → Bool) (xs : List X) → Each P xs → Each P (filter p xs)
each_left P p xs h = each_filter P p xs (each_map P (λ x. p x ≡ true → P x) xs (λ x q k. q) h)

-- a greater bound
low_more : (x : ObjectId) (n : ℕ) (os : List Performed) → Each (IsLow x n) os → Each (IsLow x (suc n)) os
low_more x n os h = each_map (IsLow x n) (IsLow x (suc n)) os (λ o q. (more o.number n q.0, q.1)) h
  where
    more : (a n : ℕ) → a ≤ n → a ≤ suc n
    more a n l = omega arith

-- numbers of what is kept
kept_low : (x : ObjectId) (past : List Event) → Each (IsLow x (length past)) (kept_on x past)
kept_low x [] = tt
kept_low x (e ∷ past) =
    let P : List Performed → Type 0 = λ os. Each (IsLow x (suc (length past))) os in
    subst P (sym (kept_more x e past))
    (each_append _ _ _ (fresh_low x (suc (length past)) e.step e.answer)
    (each_left _ (λ o. not (undoes e past o)) _ (low_more x (length past) _ (kept_low x past))))

here_low : (x : ObjectId) (here : List LocalEvent) → Each (IsLow x (length here)) (kept_here x here)
here_low x [] = tt
here_low x (c ∷ here) =
    each_append _ _ _ (fresh_low x (suc (length here)) c.event.step c.event.answer)
    (each_left _ (λ o. not (undoes_by (λ b. says_aborted (brings c b)) c.event.step (events_here here) o)) _
    (low_more x (length here) _ (here_low x here)))

-- the guardian of what is marked
abbrev IsAt : ObjectId → Marked → Type 0
IsAt x m = m.0.object.guardian ≡ x.guardian

marks_at : (x : ObjectId) (past : List Event) (n : ℕ) (os : List Performed) → Each (IsLow x n) os → Each (IsAt x) (map (λ o. mark past o) os)
marks_at x past n [] h = tt
marks_at x past n (o ∷ os) h = (h.0.1, marks_at x past n os h.1)

-- a test that all pass
filter_all : {X : Type 0} (p : X → Bool) (xs : List X) → Each (λ x. p x ≡ true) xs → filter p xs ≡ xs
filter_all p [] h = refl
filter_all p (x ∷ xs) h = ap₂ (λ t ys. cond t (x ∷ ys) ys) h.0 (filter_all p xs h.1)

map_all : {X : Type 0} (f : X → X) (xs : List X) → Each (λ x. f x ≡ x) xs → map f xs ≡ xs
map_all f [] h = refl
map_all f (x ∷ xs) h = ap₂ (λ y ys. y ∷ ys) h.0 (map_all f xs h.1)

any_none : (p : Name → Bool) (names : List Name) → ((b : Name) → p b ≡ false) → list_any p names ≡ false
any_none p [] h = refl
any_none p (b ∷ names) h = ap₂ ◌||◌ (h b) (any_none p names h)

-- an event that does not name a guardian grants nothing there
fresh_unnamed : (opening : Opening) (e : Event) (past : List Event) (x : ObjectId) → IsRun opening (e ∷ past)
    → names_guardian e.step past x.guardian ≡ false → fresh x e.step e.answer ≡ []
fresh_unnamed opening e past x r n = of e.step e.answer (checked opening e past r) n
  where
    of : (step : Step) (answer : Answer) → NoneApplies (checks opening step past) → names_guardian step past x.guardian ≡ false
        → fresh x step answer ≡ []
    of (Op a y o) (Granted q) f n =
        ap (λ t. map (λ o. (o, false)) (cond t (record { number = 0; action = a; object = y; operation = o; reply = q } ∷ []) [])) (and_left _ _ elsewhere)
      where
        elsewhere : (y.guardian == x.guardian) ≡ false
        elsewhere = ap (λ h. h == x.guardian) (eqb-true y.guardian (home_of a past) (not-false _ (f why.Elsewhere))) ∙ n
    of _ _ f n = refl

same_length : (here : List LocalEvent) → length (events_here here) ≡ length here
same_length [] = refl
same_length (c ∷ here) = ap suc (same_length here)

-- The marks of what is kept are the same.
pub marks_same : (opening : Opening) (run : List Stamped) (x : ObjectId) → IsRun opening (events_of run)
    → map (λ o. mark (events_here (local_history opening run x.guardian)) o) (kept_here x (local_history opening run x.guardian))
    ≡ map (λ o. mark (events_of run) o) (kept_on x (events_of run))
marks_same opening [] x r = refl
marks_same opening (s ∷ run) x r = of (names_guardian s.1.step (events_of run) x.guardian) refl (marks_same opening run x r.2)
  where
    g : ℕ
    g = x.guardian

    past : List Event
    past = events_of run

    here : List LocalEvent
    here = local_history opening run g

    flat : Aborts
    flat h c = tells s.1 past h c && is_aborted c past

    brought : Aborts
    brought h c = says_aborted (brings (local_event opening s run g) c)

    before : List Marked
    before = map (λ o. mark past o) (kept_on x past)

    at_x : Each (IsAt x) before
    at_x = marks_at x past (length past) (kept_on x past) (kept_low x past)

    -- the flat marks after the event
    flat_next : map (λ o. mark (s.1 ∷ past) o) (kept_on x (s.1 ∷ past))
        ≡ fresh x s.1.step s.1.answer ++ map (λ m. remark s.1.step s.1.answer m) (filter (λ m. stays flat s.1.step m) before)
    flat_next = ap (λ os. map (λ o. mark (s.1 ∷ past) o) os) (kept_more x s.1 past) ∙ marked_next x flat s.1 past (kept_on x past) (kept_low x past)

    -- and those of the guardian's own history
    own_next : map (λ o. mark (s.1 ∷ events_here here) o) (kept_here x (local_event opening s run g ∷ here))
        ≡ fresh x s.1.step s.1.answer
        ++ map (λ m. remark s.1.step s.1.answer m) (filter (λ m. stays brought s.1.step m) (map (λ o. mark (events_here here) o) (kept_here x here)))
    own_next =
        ap (λ n. map (λ o. mark (s.1 ∷ events_here here) o)
        (filter (λ o. same_object o.object x) (performed_by (suc n) s.1.step s.1.answer)
        ++ filter (λ o. not (undoes_by (λ b. says_aborted (brings (local_event opening s run g) b)) s.1.step (events_here here) o)) (kept_here x here)))
        (sym (same_length here))
        ∙ marked_next x brought s.1 (events_here here) (kept_here x here)
        (subst (λ n. Each (IsLow x n) (kept_here x here)) (sym (same_length here)) (here_low x here))

    agree : Each (λ m. stays brought s.1.step m ≡ stays flat s.1.step m) before
    agree = each_map (IsAt x) (λ m. stays brought s.1.step m ≡ stays flat s.1.step m) before (λ m q.
        ap (λ t. not (t || (step_crashes s.1.step m.0.object.guardian && not (not (is_read m.0.operation) && m.1))))
        (any_same _ _ (ancestors m.0.action) (λ c. aborts_told opening s.1 past here g c r (λ d. told_same opening run g d r.2)
        ∙ ap (λ h. tells s.1 past h c && is_aborted c past) (sym q)))) at_x

    of : (t : Bool) → names_guardian s.1.step past g ≡ t
        → map (λ o. mark (events_here here) o) (kept_here x here) ≡ before
        → map (λ o. mark (events_here (local_history opening (s ∷ run) g)) o) (kept_here x (local_history opening (s ∷ run) g))
        ≡ map (λ o. mark (s.1 ∷ past) o) (kept_on x (s.1 ∷ past))
    of true n ih =
        ap (λ l. map (λ o. mark (events_here l) o) (kept_here x l)) (history_named opening s run g n)
        ∙ own_next
        ∙ ap (λ ms. fresh x s.1.step s.1.answer ++ map (λ m. remark s.1.step s.1.answer m) (filter (λ m. stays brought s.1.step m) ms)) ih
        ∙ ap (λ ms. fresh x s.1.step s.1.answer ++ map (λ m. remark s.1.step s.1.answer m) ms) (filter_same _ _ before agree)
        ∙ sym flat_next
    of false n ih =
        ap (λ l. map (λ o. mark (events_here l) o) (kept_here x l)) (history_unnamed opening s run g n)
        ∙ ih
        ∙ sym (flat_next
        ∙ ap₂ ◌++◌ (fresh_unnamed opening s.1 past x r n) (ap (λ ms. map (λ m. remark s.1.step s.1.answer m) ms) (filter_all _ before quiet) ∙ map_all _ before unvoted))
      where
        quiet : Each (λ m. stays flat s.1.step m ≡ true) before
        quiet = each_map (IsAt x) (λ m. stays flat s.1.step m ≡ true) before (λ m q.
            ap₂ (λ t u. not (t || (u && not (not (is_read m.0.operation) && m.1))))
            (any_none _ (ancestors m.0.action) (λ c. and_left _ _ (ap (λ h. tells s.1 past h c) q ∙ unnamed_tells s.1.step past g c (told_since_crash g c past) (is_ended c past) n)))
            (ap (λ h. step_crashes s.1.step h) q ∙ unnamed_crashes s.1.step past g n)) at_x

        unvoted : Each (λ m. remark s.1.step s.1.answer m ≡ m) before
        unvoted = each_map (IsAt x) (λ m. remark s.1.step s.1.answer m ≡ m) before (λ m q.
            ap (λ t. (m.0, m.1 || t)) (ap (λ h. votes_yes s.1.step s.1.answer h (top_of m.0.action)) q ∙ unnamed_votes s.1.step s.1.answer past g (top_of m.0.action) n)
            ∙ ap (λ t. (m.0, t)) (whole m.1)) at_x
          where
            whole : (t : Bool) → (t || false) ≡ t
            whole true = refl
            whole false = refl
