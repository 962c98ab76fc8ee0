-- A run is gathered from the histories that it leaves.
use Rattle.std.proofs.Common.{◌≡◌, ℕ, zero, suc, ◌-◌, ◌<◌, ◌≤◌, Bool, true, false, not, cond, ◌&&◌, ◌||◌, eqb, max, List, [], ◌∷◌, ◌++◌, length, map, filter, reverse, Option, Some, None, eq-eqb, refl, sym, ap, subst, ◌∙◌, append_assoc, arith, ◌⊎◌, inl, inr, IsTrue}
use Rattle.std.specs.Prelude.{◌==◌, find, nat_le, nat_lt, option_map, slice_get, unwrap_or}
use Rattle.std.specs.List.{AllByRecursion, list_any}
use Rattle.std.proofs.lemmas.Bool.{eqb-false, eqb-true, false≢true, ltb-false, ne_eqb, or_parts, true≢false}
use Rattle.std.proofs.lemmas.Bool.Decides.{nat_tests}
use Rattle.std.proofs.lemmas.List.{reverse-append}
use Rattle.std.proofs.lemmas.List.Folds.{list_any-append}
use Rattle.std.proofs.lemmas.Option.{same_Some}
use Rattle.std.proofs.lemmas.Slice.Eq.{bytes_eq-Decides}
use Rattle.run_model.specs.declared.answer.Answer.{Answer}
use Rattle.run_model.specs.declared.answer.Refusal.TheVariants as why
use Rattle.run_model.specs.declared.history.Event.{Event}
use Rattle.run_model.specs.declared.step.Step.{Step}
use Rattle.run_model.specs.declared.step.Step.TheVariants.{Op, Crash, Recover}
use Rattle.run_model.specs.Actions.{home_of}
use Rattle.run_model.specs.Answers.{answer_of}
use Rattle.run_model.specs.Gathering.{Histories, IsGathered, all_copies, by_stamp, differ, events_below, fails_with, has_stamp, has_two_events, history_at, is_misplaced, is_out_of_order, is_wrong, joined, same_answer, same_event, stands_late}
use Rattle.run_model.specs.Lists.{down_from, guardians_of, up_to}
use Rattle.run_model.specs.LocalReadings.{LocalEvent}
use Rattle.run_model.specs.LocalHistories.{RegistryEvent, Stamped, events_of, local_history, names_guardian, numbered, registry_history, takes_registry}
use Rattle.run_model.specs.Openings.{Opening}
use Rattle.run_model.specs.Refusals.{checks}
use Rattle.run_model.specs.Runs.{IsRun, is_accepted}
use Rattle.run_model.specs.Texts.{answer_text, step_text}
use Rattle.run_laws.proofs.Accepted.{NoneApplies, checked}
use Rattle.tracer.specs.Leaving.{RunsAreGathered, histories_of, left_at, left_with_registry}
use Rattle.tracer.proofs.ByStamp.{AreBelow, AreFalling, at_by_stamp, at_stamp, by_stamp_falls, found_at_head, last_of, lt_is, not_lt, or_else, same_falling}
use Rattle.tracer.proofs.Elsewhere.{up_false, up_true}

-- ---- facts about all events of a list

all_append : {X : Type 0} (P : X → Type 0) (xs ys : List X) → AllByRecursion P xs → AllByRecursion P ys → AllByRecursion P (xs ++ ys)
all_append P [] ys all more = more
all_append P (x ∷ xs) ys all more = (all.0, all_append P xs ys all.1 more)

all_more : {X : Type 0} (P Q : X → Type 0) → ((x : X) → P x → Q x) → (xs : List X) → AllByRecursion P xs → AllByRecursion Q xs
all_more P Q f [] all = tt
all_more P Q f (x ∷ xs) all = (f x all.0, all_more P Q f xs all.1)

all_both : {X : Type 0} (P Q R : X → Type 0) → ((x : X) → P x → Q x → R x) → (xs : List X) → AllByRecursion P xs → AllByRecursion Q xs → AllByRecursion R xs
all_both P Q R f [] all more = tt
all_both P Q R f (x ∷ xs) all more = (f x all.0 more.0, all_both P Q R f xs all.1 more.1)

all_reverse : {X : Type 0} (P : X → Type 0) (xs : List X) → AllByRecursion P xs → AllByRecursion P (reverse xs)
all_reverse P [] all = tt
all_reverse P (x ∷ xs) all =
    subst (AllByRecursion P) (sym (reverse-append (x ∷ []) xs)) (all_append P (reverse xs) (x ∷ []) (all_reverse P xs all.1) (all.0, tt))

-- ---- the events that pass a test, each with its number, the oldest first

abbrev pub passing : (Step → List Event → Bool) → List Event → List Stamped
passing p [] = []
passing p (e ∷ past) = cond (p e.step past) (passing p past ++ (suc (length past), e) ∷ []) (passing p past)

events_numbered : (past : List Event) → events_of (numbered past) ≡ past
events_numbered [] = refl
events_numbered (e ∷ past) = ap (λ (es : List Event). e ∷ es) (events_numbered past)

reverse_next : {X : Type 0} (f : X → Stamped) (t : Bool) (x : X) (xs : List X)
    → reverse (map f (cond t (x ∷ xs) xs)) ≡ cond t (reverse (map f xs) ++ f x ∷ []) (reverse (map f xs))
reverse_next f true x xs = reverse-append (f x ∷ []) (map f xs)
reverse_next f false x xs = refl

pub registry_is : (opening : Opening) (past : List Event) → left_with_registry opening past ≡ passing (λ step past. takes_registry step) past
registry_is opening [] = refl
registry_is opening (e ∷ past) =
    reverse_next (λ (c : RegistryEvent). (c.stamp, c.event)) (takes_registry e.step) _ (registry_history opening (numbered past))
    ∙ ap (λ (cs : List Stamped). cond (takes_registry e.step) (cs ++ (suc (length past), e) ∷ []) cs) (registry_is opening past)

pub guardian_is : (opening : Opening) (past : List Event) (g : ℕ) → left_at opening past g ≡ passing (λ step past. names_guardian step past g) past
guardian_is opening [] g = refl
guardian_is opening (e ∷ past) g =
    reverse_next (λ (c : LocalEvent). (c.stamp, c.event)) (names_guardian e.step (events_of (numbered past)) g) _ (local_history opening (numbered past) g)
    ∙ ap (λ (es : List Event). cond (names_guardian e.step es g) (left_at opening past g ++ (suc (length past), e) ∷ []) (left_at opening past g)) (events_numbered past)
    ∙ ap (λ (cs : List Stamped). cond (names_guardian e.step past g) (cs ++ (suc (length past), e) ∷ []) cs) (guardian_is opening past g)

-- ---- their stamps

below_next : (n : ℕ) (cs : List Stamped) → AreBelow (suc n) cs → AreBelow (suc (suc n)) cs
below_next n cs all = all_more (λ c. c.0 < suc n) (λ c. c.0 < suc (suc n)) (λ c lt. omega (arith, lt)) cs all

passing_below : (p : Step → List Event → Bool) (past : List Event) → AreBelow (suc (length past)) (passing p past)
passing_below p [] = tt
passing_below p (e ∷ past) = go (p e.step past) (below_next (length past) (passing p past) (passing_below p past))
  where
    go : (t : Bool) → AreBelow (suc (suc (length past))) (passing p past)
        → AreBelow (suc (suc (length past))) (cond t (passing p past ++ (suc (length past), e) ∷ []) (passing p past))
    go true all = all_append (λ c. c.0 < suc (suc (length past))) (passing p past) ((suc (length past), e) ∷ []) all (omega arith, tt)
    go false all = all

numbered_below : (past : List Event) → AreBelow (suc (length past)) (numbered past)
numbered_below [] = tt
numbered_below (e ∷ past) = (omega arith, below_next (length past) (numbered past) (numbered_below past))

numbered_falls : (past : List Event) → AreFalling (numbered past)
numbered_falls [] = tt
numbered_falls (e ∷ past) = (numbered_below past, numbered_falls past)

-- ---- none of them stands late

-- stamps rise, and are above these
abbrev NoneLate : List ℕ → List Stamped → Type 0
NoneLate seen [] = Unit {0}
NoneLate seen (c ∷ cs) = AllByRecursion (λ t. t < c.0) seen × NoneLate (c.0 ∷ seen) cs

none_at_least : (s : ℕ) (seen : List ℕ) → AllByRecursion (λ t. t < s) seen → list_any (λ t. nat_le s t) seen ≡ false
none_at_least s [] all = refl
none_at_least s (t ∷ seen) all = ap (λ (b : Bool). b || list_any (λ u. nat_le s u) seen) (no s t all.0) ∙ none_at_least s seen all.1
  where
    no : (s t : ℕ) → t < s → nat_le s t ≡ false
    no s t lt = grind (arith, nat_tests)

none_stands_late : (s : ℕ) (seen : List ℕ) (cs : List Stamped) → NoneLate seen cs → stands_late s seen cs ≡ false
none_stands_late s seen [] none = refl
none_stands_late s seen (c ∷ cs) none = go (c.0 == s) refl (none_stands_late s (c.0 ∷ seen) cs none.1)
  where
    go : (b : Bool) → (c.0 == s) ≡ b → stands_late s (c.0 ∷ seen) cs ≡ false → ((b && list_any (λ t. nat_le s t) seen) || stands_late s (c.0 ∷ seen) cs) ≡ false
    go true is rest =
        ap (λ (b : Bool). b || stands_late s (c.0 ∷ seen) cs) (none_at_least s seen (subst (λ (n : ℕ). AllByRecursion (λ t. t < n) seen) (eqb-true c.0 s is) none.0)) ∙ rest
    go false is rest = rest

none_late_push : (seen : List ℕ) (cs : List Stamped) (c : Stamped) → NoneLate seen cs → AllByRecursion (λ t. t < c.0) seen → AreBelow c.0 cs → NoneLate seen (cs ++ c ∷ [])
none_late_push seen [] c none before below = (before, tt)
none_late_push seen (d ∷ cs) c none before below = (none.0, none_late_push (d.0 ∷ seen) cs c none.1 (below.0, before) below.1)

passing_not_late : (p : Step → List Event → Bool) (past : List Event) → NoneLate [] (passing p past)
passing_not_late p [] = tt
passing_not_late p (e ∷ past) = go (p e.step past) (passing_not_late p past)
  where
    go : (t : Bool) → NoneLate [] (passing p past) → NoneLate [] (cond t (passing p past ++ (suc (length past), e) ∷ []) (passing p past))
    go true none = none_late_push [] (passing p past) (suc (length past), e) none tt (passing_below p past)
    go false none = none

-- ---- each is an event of the run

abbrev IsOfRun : List Event → Stamped → Type 0
IsOfRun now c = at_stamp c.0 (numbered now) ≡ Some c

passing_of_run : (p : Step → List Event → Bool) (past : List Event) → AllByRecursion (IsOfRun past) (passing p past)
passing_of_run p [] = tt
passing_of_run p (e ∷ past) =
    go (p e.step past) (all_both (λ c. c.0 < suc (length past)) (IsOfRun past) (IsOfRun (e ∷ past)) further (passing p past) (passing_below p past) (passing_of_run p past))
  where
    further : (c : Stamped) → c.0 < suc (length past) → IsOfRun past c → IsOfRun (e ∷ past) c
    further c lt found =
        ap (λ (b : Bool). cond b (Some (suc (length past), e)) (at_stamp c.0 (numbered past))) (ne_eqb (suc (length past)) c.0 (λ same. omega (arith, lt, same))) ∙ found

    go : (t : Bool) → AllByRecursion (IsOfRun (e ∷ past)) (passing p past)
        → AllByRecursion (IsOfRun (e ∷ past)) (cond t (passing p past ++ (suc (length past), e) ∷ []) (passing p past))
    go true all =
        all_append (IsOfRun (e ∷ past)) (passing p past) ((suc (length past), e) ∷ []) all (found_at_head (suc (length past), e) (numbered past), tt)
    go false all = all

-- ---- and stands where it passes

none_has : (s : ℕ) (cs : List Stamped) → AreBelow s cs → has_stamp s cs ≡ false
none_has s [] all = refl
none_has s (c ∷ cs) all = ap (λ (b : Bool). b || has_stamp s cs) (ne_eqb c.0 s (λ same. omega (arith, all.0, same))) ∙ none_has s cs all.1

or_false : (b : Bool) → (b || false) ≡ b
or_false true = refl
or_false false = refl

or_true : (b : Bool) → (b || true) ≡ true
or_true true = refl
or_true false = refl

longer : (front : List Event) (e : Event) (past : List Event) → suc (length past) ≤ length (front ++ e ∷ past)
longer [] e past = omega arith
longer (f ∷ front) e past = let rest = longer front e past in omega (arith, rest)

passing_has : (p : Step → List Event → Bool) (front : List Event) (e : Event) (past : List Event) → has_stamp (suc (length past)) (passing p (front ++ e ∷ past)) ≡ p e.step past
passing_has p [] e past = go (p e.step past)
  where
    go : (t : Bool) → has_stamp (suc (length past)) (cond t (passing p past ++ (suc (length past), e) ∷ []) (passing p past)) ≡ t
    go true =
        list_any-append (λ (c : Stamped). c.0 == suc (length past)) (passing p past) ((suc (length past), e) ∷ [])
        ∙ ap (λ (b : Bool). has_stamp (suc (length past)) (passing p past) || (b || false)) (eq-eqb (suc (length past)) (suc (length past)) refl)
        ∙ or_true (has_stamp (suc (length past)) (passing p past))
    go false = none_has (suc (length past)) (passing p past) (passing_below p past)
passing_has p (f ∷ front) e past = go (p f.step (front ++ e ∷ past)) (passing_has p front e past)
  where
    go : (t : Bool) → has_stamp (suc (length past)) (passing p (front ++ e ∷ past)) ≡ p e.step past
        → has_stamp (suc (length past)) (cond t (passing p (front ++ e ∷ past) ++ (suc (length (front ++ e ∷ past)), f) ∷ []) (passing p (front ++ e ∷ past))) ≡ p e.step past
    go true rest =
        list_any-append (λ (c : Stamped). c.0 == suc (length past)) (passing p (front ++ e ∷ past)) ((suc (length (front ++ e ∷ past)), f) ∷ [])
        ∙ ap (λ (b : Bool). has_stamp (suc (length past)) (passing p (front ++ e ∷ past)) || (b || false))
        (ne_eqb (suc (length (front ++ e ∷ past))) (suc (length past)) (λ same. omega (arith, longer front e past, same)))
        ∙ or_false (has_stamp (suc (length past)) (passing p (front ++ e ∷ past))) ∙ rest
    go false rest = rest

-- ---- the numbers of guardians

up_next : (n : ℕ) → up_to (suc n) ≡ up_to n ++ suc n ∷ []
up_next n = reverse-append (suc n ∷ []) (down_from n)

pub up_count : (n : ℕ) → length (up_to n) ≡ n
up_count zero = refl
up_count (suc n) = ap length (up_next n) ∙ length_push (up_to n) (suc n) ∙ ap suc (up_count n)
  where
    length_push : (xs : List ℕ) (x : ℕ) → length (xs ++ x ∷ []) ≡ suc (length xs)
    length_push [] x = refl
    length_push (y ∷ xs) x = ap suc (length_push xs x)

get_front : {X : Type 0} (xs ys : List X) (k : ℕ) → k < length xs → slice_get (xs ++ ys) k ≡ slice_get xs k
get_front [] ys k lt = absurd (none lt)
  where
    none : k < 0 → ⊥
    none lt = omega (arith, lt)
get_front (x ∷ xs) ys zero lt = refl
get_front (x ∷ xs) ys (suc k) lt = get_front xs ys k (omega (arith, lt))

get_last : {X : Type 0} (xs : List X) (x : X) → slice_get (xs ++ x ∷ []) (length xs) ≡ Some x
get_last [] x = refl
get_last (y ∷ xs) x = get_last xs x

pub get_up : (n k : ℕ) → k < n → slice_get (up_to n) k ≡ Some (suc k)
get_up zero k lt = absurd (none lt)
  where
    none : k < 0 → ⊥
    none lt = omega (arith, lt)
get_up (suc n) k lt = ap (λ (gs : List ℕ). slice_get gs k) (up_next n) ∙ go (eqb k n) refl (λ before. get_up n k before)
  where
    go : (b : Bool) → eqb k n ≡ b → (k < n → slice_get (up_to n) k ≡ Some (suc k)) → slice_get (up_to n ++ suc n ∷ []) k ≡ Some (suc k)
    go true same behind =
        let at_end : k ≡ length (up_to n) = eqb-true k n same ∙ sym (up_count n) in
        ap (slice_get (up_to n ++ suc n ∷ [])) at_end ∙ get_last (up_to n) (suc n) ∙ ap (λ (m : ℕ). Some (suc m)) (sym (eqb-true k n same))
    go false other behind =
        let before : k < n = omega (arith, lt, differ) in
        get_front (up_to n) (suc n ∷ []) k (subst (λ (m : ℕ). k < m) (sym (up_count n)) before) ∙ behind before
      where
        differ : k ≡ n → ⊥
        differ same = true≢false (sym (eq-eqb k n same) ∙ other)

pub get_map : {X Y : Type 0} (f : X → Y) (xs : List X) (k : ℕ) → slice_get (map f xs) k ≡ option_map f (slice_get xs k)
get_map f [] k = refl
get_map f (x ∷ xs) zero = refl
get_map f (x ∷ xs) (suc k) = get_map f xs k

-- ---- the copies of all histories

any_map : {X Y : Type 0} (p : Y → Bool) (f : X → Y) (xs : List X) → list_any p (map f xs) ≡ list_any (λ x. p (f x)) xs
any_map p f [] = refl
any_map p f (x ∷ xs) = ap (λ (b : Bool). p (f x) || b) (any_map p f xs)

joined_has : (s : ℕ) (hs : List (List Stamped)) → has_stamp s (joined hs) ≡ list_any (λ h. has_stamp s h) hs
joined_has s [] = refl
joined_has s (h ∷ hs) = list_any-append (λ (c : Stamped). c.0 == s) h (joined hs) ∙ ap (λ (b : Bool). has_stamp s h || b) (joined_has s hs)

joined_all : (P : Stamped → Type 0) (f : ℕ → List Stamped) → ((g : ℕ) → AllByRecursion P (f g)) → (gs : List ℕ) → AllByRecursion P (joined (map f gs))
joined_all P f each [] = tt
joined_all P f each (g ∷ gs) = all_append P (f g) (joined (map f gs)) (each g) (joined_all P f each gs)

none_of : {X : Type 0} (p : X → Bool) → ((x : X) → p x ≡ false) → (xs : List X) → list_any p xs ≡ false
none_of p none [] = refl
none_of p none (x ∷ xs) = ap (λ (b : Bool). b || list_any p xs) (none x) ∙ none_of p none xs

-- the copies of a stamp: there are none, or the last of them is the run's event
last_copy : (now : List Event) (s : ℕ) (cs : List Stamped) → AllByRecursion (IsOfRun now) cs
    → ((last_of (filter (λ c. c.0 == s) cs) ≡ None) × (has_stamp s cs ≡ false))
    ⊎ ((last_of (filter (λ c. c.0 == s) cs) ≡ at_stamp s (numbered now)) × (has_stamp s cs ≡ true))
last_copy now s [] all = inl (refl, refl)
last_copy now s (c ∷ cs) all = go (c.0 == s) refl (last_copy now s cs all.1)
  where
    go : (b : Bool) → (c.0 == s) ≡ b
        → ((last_of (filter (λ d. d.0 == s) cs) ≡ None) × (has_stamp s cs ≡ false))
        ⊎ ((last_of (filter (λ d. d.0 == s) cs) ≡ at_stamp s (numbered now)) × (has_stamp s cs ≡ true))
        → ((last_of (cond b (c ∷ filter (λ d. d.0 == s) cs) (filter (λ d. d.0 == s) cs)) ≡ None) × ((b || has_stamp s cs) ≡ false))
        ⊎ ((last_of (cond b (c ∷ filter (λ d. d.0 == s) cs) (filter (λ d. d.0 == s) cs)) ≡ at_stamp s (numbered now)) × ((b || has_stamp s cs) ≡ true))
    go false is rest = rest
    go true is (inl none) = inr (ap (λ (o : Option Stamped). or_else o (Some c)) none.0 ∙ sym here, refl)
      where
        here : at_stamp s (numbered now) ≡ Some c
        here = ap (λ (t : ℕ). at_stamp t (numbered now)) (sym (eqb-true c.0 s is)) ∙ all.0
    go true is (inr some) =
        inr (ap (λ (o : Option Stamped). or_else o (Some c)) (some.0 ∙ here) ∙ sym here, refl)
      where
        here : at_stamp s (numbered now) ≡ Some c
        here = ap (λ (t : ℕ). at_stamp t (numbered now)) (sym (eqb-true c.0 s is)) ∙ all.0

-- where an event of the run is found, a copy is
abbrev HaveEach : List Event → List Stamped → Type 0
HaveEach now cs = (front : List Event) (e : Event) (past : List Event) → now ≡ front ++ e ∷ past → has_stamp (suc (length past)) cs ≡ true

has_found : (now : List Event) (cs : List Stamped) → HaveEach now cs → (s : ℕ) (c : Stamped) (front past : List Event) → now ≡ front ++ past → at_stamp s (numbered past) ≡ Some c → has_stamp s cs ≡ true
has_found now cs each s c front [] is found = absurd cc
has_found now cs each s c front (e ∷ past) is found =
    go (suc (length past) == s) refl found (λ h. has_found now cs each s c (front ++ e ∷ []) past (is ∙ sym (append_assoc front (e ∷ []) past)) h)
  where
    go : (b : Bool) → (suc (length past) == s) ≡ b → cond b (Some (suc (length past), e)) (at_stamp s (numbered past)) ≡ Some c
        → (at_stamp s (numbered past) ≡ Some c → has_stamp s cs ≡ true) → has_stamp s cs ≡ true
    go true same h behind = ap (λ (t : ℕ). has_stamp t cs) (sym (eqb-true (suc (length past)) s same)) ∙ each front e past is
    go false other h behind = behind h

-- the copies of the run's events, each with a copy, stand for the run
stand_for_run : (now : List Event) (cs : List Stamped) → AllByRecursion (IsOfRun now) cs → HaveEach now cs → by_stamp cs ≡ numbered now
stand_for_run now cs all each = same_falling (by_stamp cs) (numbered now) (by_stamp_falls cs) (numbered_falls now) (λ s. at_by_stamp s cs ∙ at s (last_copy now s cs all))
  where
    at : (s : ℕ)
        → ((last_of (filter (λ c. c.0 == s) cs) ≡ None) × (has_stamp s cs ≡ false))
        ⊎ ((last_of (filter (λ c. c.0 == s) cs) ≡ at_stamp s (numbered now)) × (has_stamp s cs ≡ true))
        → last_of (filter (λ c. c.0 == s) cs) ≡ at_stamp s (numbered now)
    at s (inr some) = some.0
    at s (inl none) = none.0 ∙ sym (missing (at_stamp s (numbered now)) refl)
      where
        missing : (o : Option Stamped) → at_stamp s (numbered now) ≡ o → at_stamp s (numbered now) ≡ None
        missing None h = h
        missing (Some c) h = absurd (false≢true (sym none.1 ∙ has_found now cs each s c [] now refl h))

-- ---- the events before one

-- an event of no smaller stamp is left out
not_kept : (s : ℕ) (c : Stamped) (cs : List Stamped) → s ≤ c.0 → filter (λ d. nat_lt d.0 s) (c ∷ cs) ≡ filter (λ d. nat_lt d.0 s) cs
not_kept s c cs le = ap (λ (b : Bool). cond b (c ∷ filter (λ d. nat_lt d.0 s) cs) (filter (λ d. nat_lt d.0 s) cs)) (not_lt c.0 s le)

below_one : (front : List Event) (e : Event) (past : List Event) → filter (λ c. nat_lt c.0 (suc (length past))) (numbered (front ++ e ∷ past)) ≡ numbered past
below_one [] e past =
    not_kept (suc (length past)) (suc (length past), e) (numbered past) (omega arith) ∙ all_kept (numbered past) (numbered_below past)
  where
    all_kept : (cs : List Stamped) → AreBelow (suc (length past)) cs → filter (λ c. nat_lt c.0 (suc (length past))) cs ≡ cs
    all_kept [] all = refl
    all_kept (c ∷ cs) all =
        ap (λ (b : Bool). cond b (c ∷ filter (λ d. nat_lt d.0 (suc (length past))) cs) (filter (λ d. nat_lt d.0 (suc (length past))) cs)) (lt_is c.0 (suc (length past)) all.0)
        ∙ ap (λ (ds : List Stamped). c ∷ ds) (all_kept cs all.1)
below_one (f ∷ front) e past =
    not_kept (suc (length past)) (suc (length (front ++ e ∷ past)), f) (numbered (front ++ e ∷ past)) (omega (arith, longer front e past))
    ∙ below_one front e past

at_one : (front : List Event) (e : Event) (past : List Event) → at_stamp (suc (length past)) (numbered (front ++ e ∷ past)) ≡ Some (suc (length past), e)
at_one [] e past = found_at_head (suc (length past), e) (numbered past)
at_one (f ∷ front) e past =
    ap (λ (b : Bool). cond b (Some (suc (length (front ++ e ∷ past)), f)) (at_stamp (suc (length past)) (numbered (front ++ e ∷ past))))
    (ne_eqb (suc (length (front ++ e ∷ past))) (suc (length past)) (λ same. omega (arith, longer front e past, same)))
    ∙ at_one front e past

run_before : (opening : Opening) (front past : List Event) → IsRun opening (front ++ past) → IsRun opening past
run_before opening [] past run = run
run_before opening (f ∷ front) past run = run_before opening front past run.2

-- ---- an event that does not take the registry names a guardian

pub record IsNamed (opening : Opening) (step : Step) (past : List Event) : Type 0 where
  pub guardian : ℕ
  pub some : 1 ≤ guardian
  pub within : guardian ≤ length opening.setup
  pub named : names_guardian step past guardian ≡ true

is_within : (n g : ℕ) → ((g == 0) || nat_lt n g) ≡ false → (1 ≤ g) × (g ≤ n)
is_within n g out = let p = or_parts _ _ out in bounds (eqb-false g 0 p.0) (ltb-false n g p.1)
  where
    bounds : (g ≡ 0 → ⊥) → g ≤ n → (1 ≤ g) × (g ≤ n)
    bounds some within = (omega (arith, some), within)

names_one : (opening : Opening) (step : Step) (past : List Event) → NoneApplies (checks opening step past) → takes_registry step ≡ false → IsNamed opening step past
names_one opening (Op a x wanted) past none takes =
    let there = is_within (length opening.setup) x.guardian (none why.NoGuardian) in
    record {
      guardian = x.guardian;
      some = there.0;
      within = there.1;
      named = eq-eqb (home_of a past) x.guardian (sym (eqb-true x.guardian (home_of a past) (not_false (x.guardian == home_of a past) (none why.Elsewhere))));
    }
  where
    not_false : (b : Bool) → not b ≡ false → b ≡ true
    not_false true h = refl
    not_false false h = absurd (true≢false h)
names_one opening (Crash h) past none takes =
    let there = is_within (length opening.setup) h (none why.NoGuardian) in
    record { guardian = h; some = there.0; within = there.1; named = eq-eqb h h refl }
names_one opening (Recover h) past none takes =
    let there = is_within (length opening.setup) h (none why.NoGuardian) in
    record { guardian = h; some = there.0; within = there.1; named = eq-eqb h h refl }
names_one opening _ past none takes = absurd (true≢false takes)

-- ---- no stamp fails

differ_same : (a b : Bool) → a ≡ b → differ a b ≡ false
differ_same true true same = refl
differ_same false false same = refl
differ_same true false same = absurd (true≢false same)
differ_same false true same = absurd (false≢true same)

same_self : (e : Event) → same_event e e ≡ true
same_self e =
    ap (λ (b : Bool). b && same_answer e.answer e.answer) ((bytes_eq-Decides (step_text e.step) (step_text e.step)).1 refl) ∙ (bytes_eq-Decides (answer_text e.answer) (answer_text e.answer)).1 refl

none_twice : (e : Event) (cs : List Stamped) → AllByRecursion (λ c. c.1 ≡ e) cs → list_any (λ c. list_any (λ d. not (same_event c.1 d.1)) cs) cs ≡ false
none_twice e cs all = over cs all
  where
    inner : (c : Stamped) (ds : List Stamped) → c.1 ≡ e → AllByRecursion (λ d. d.1 ≡ e) ds → list_any (λ d. not (same_event c.1 d.1)) ds ≡ false
    inner c [] is each = refl
    inner c (d ∷ ds) is each =
        ap (λ (b : Bool). not b || list_any (λ f. not (same_event c.1 f.1)) ds) ((λ k. same_event (is k) (each.0 k)) ∙ same_self e) ∙ inner c ds is each.1

    over : (xs : List Stamped) → AllByRecursion (λ c. c.1 ≡ e) xs → list_any (λ c. list_any (λ d. not (same_event c.1 d.1)) cs) xs ≡ false
    over [] each = refl
    over (c ∷ xs) each = ap (λ (b : Bool). b || list_any (λ d. list_any (λ f. not (same_event d.1 f.1)) cs) xs) (inner c cs each.0 all) ∙ over xs each.1

module _ (opening : Opening) (now : List Event) (run : IsRun opening now) where
  abbrev hs : Histories
  hs = histories_of opening now

  abbrev at_guardian : ℕ → List Stamped
  at_guardian g = left_at opening now g

  copies_of_run : AllByRecursion (IsOfRun now) (all_copies hs)
  copies_of_run =
      all_append (IsOfRun now) hs.registry (joined hs.guardians)
      (subst (AllByRecursion (IsOfRun now)) (sym (registry_is opening now)) (passing_of_run (λ step past. takes_registry step) now))
      (joined_all (IsOfRun now) at_guardian
      (λ g. subst (AllByRecursion (IsOfRun now)) (sym (guardian_is opening now g)) (passing_of_run (λ step past. names_guardian step past g) now)) (guardians_of opening))

  registry_has : (front : List Event) (e : Event) (past : List Event) → now ≡ front ++ e ∷ past → has_stamp (suc (length past)) hs.registry ≡ takes_registry e.step
  registry_has front e past is =
      ap (has_stamp (suc (length past))) (registry_is opening now ∙ ap (passing (λ step past. takes_registry step)) is) ∙ passing_has (λ step past. takes_registry step) front e past

  guardian_has : (front : List Event) (e : Event) (past : List Event) → now ≡ front ++ e ∷ past → (g : ℕ) → has_stamp (suc (length past)) (at_guardian g) ≡ names_guardian e.step past g
  guardian_has front e past is g =
      ap (has_stamp (suc (length past))) (guardian_is opening now g ∙ ap (passing (λ step past. names_guardian step past g)) is)
      ∙ passing_has (λ step past. names_guardian step past g) front e past

  have_each : HaveEach now (all_copies hs)
  have_each front e past is =
      list_any-append (λ (c : Stamped). c.0 == suc (length past)) hs.registry (joined hs.guardians)
      ∙ ap (λ (b : Bool). b || has_stamp (suc (length past)) (joined hs.guardians)) (registry_has front e past is)
      ∙ go (takes_registry e.step) refl
    where
      go : (b : Bool) → takes_registry e.step ≡ b → (b || has_stamp (suc (length past)) (joined hs.guardians)) ≡ true
      go true takes = refl
      go false takes =
          let n = names_one opening e.step past (checked opening e past (run_before opening front (e ∷ past) (subst (IsRun opening) is run))) takes in
          joined_has (suc (length past)) hs.guardians ∙ any_map (λ h. has_stamp (suc (length past)) h) at_guardian (guardians_of opening)
          ∙ up_true (λ g. has_stamp (suc (length past)) (at_guardian g)) (length opening.setup) n.guardian n.some n.within (guardian_has front e past is n.guardian ∙ n.named)

  pub stand_for : by_stamp (all_copies hs) ≡ numbered now
  stand_for = stand_for_run now (all_copies hs) copies_of_run have_each

  -- one event, and those before it
  module _ (front : List Event) (e : Event) (past : List Event) (is : now ≡ front ++ e ∷ past) where
    abbrev s : ℕ
    s = suc (length past)

    before : events_below s hs ≡ past
    before =
        ap (λ (cs : List Stamped). map (λ c. c.1) (filter (λ c. nat_lt c.0 s) cs)) (stand_for ∙ ap numbered is) ∙ ap (λ (cs : List Stamped). map (λ c. c.1) cs) (below_one front e past) ∙ events_numbered past

    in_order : is_out_of_order s hs ≡ false
    in_order =
        ap (λ (b : Bool). b || list_any (λ h. stands_late s [] h) hs.guardians)
        (ap (stands_late s []) (registry_is opening now) ∙ none_stands_late s [] (passing (λ step past. takes_registry step) now) (passing_not_late (λ step past. takes_registry step) now))
        ∙ any_map (λ h. stands_late s [] h) at_guardian (guardians_of opening)
        ∙ none_of (λ g. stands_late s [] (at_guardian g)) (λ g. ap (stands_late s []) (guardian_is opening now g)
        ∙ none_stands_late s [] (passing (λ step past. names_guardian step past g) now) (passing_not_late (λ step past. names_guardian step past g) now)) (guardians_of opening)

    of_stamp_s : (cs : List Stamped) → AllByRecursion (IsOfRun now) cs → AllByRecursion (λ c. c.1 ≡ e) (filter (λ c. c.0 == s) cs)
    of_stamp_s [] all = tt
    of_stamp_s (c ∷ cs) all = go (c.0 == s) refl (of_stamp_s cs all.1)
      where
        go : (b : Bool) → (c.0 == s) ≡ b → AllByRecursion (λ c. c.1 ≡ e) (filter (λ c. c.0 == s) cs) → AllByRecursion (λ c. c.1 ≡ e) (cond b (c ∷ filter (λ c. c.0 == s) cs) (filter (λ c. c.0 == s) cs))
        go true same rest =
            let found : Some c ≡ Some (s, e) =
            sym all.0 ∙ ap (λ (t : ℕ). at_stamp t (numbered now)) (eqb-true c.0 s same) ∙ ap (λ (es : List Event). at_stamp s (numbered es)) is ∙ at_one front e past in
            (ap (λ (d : Stamped). d.1) (same_Some c (s, e) found), rest)
        go false other rest = rest

    one_event : has_two_events s hs ≡ false
    one_event = none_twice e (filter (λ c. c.0 == s) (all_copies hs)) (of_stamp_s (all_copies hs) copies_of_run)

    history_is : (g : ℕ) → 1 ≤ g → g ≤ length opening.setup → history_at hs g ≡ at_guardian g
    history_is zero some within = absurd (none some)
      where
        none : 1 ≤ 0 → ⊥
        none le = omega (arith, le)
    history_is (suc k) some within =
        let place : suc k - 1 ≡ k = omega arith in
        ap (λ (i : ℕ). unwrap_or (slice_get hs.guardians i) []) place
        ∙ ap (λ (o : Option (List Stamped)). unwrap_or o []) (get_map at_guardian (guardians_of opening) k ∙ ap (option_map at_guardian) (get_up (length opening.setup) k (omega (arith, within))))

    limit_is : max (length opening.setup) (length hs.guardians) ≡ length opening.setup
    limit_is =
        ap (max (length opening.setup)) (length_map at_guardian (guardians_of opening) ∙ up_count (length opening.setup)) ∙ max_self (length opening.setup)
      where
        length_map : {X Y : Type 0} (f : X → Y) (xs : List X) → length (map f xs) ≡ length xs
        length_map f [] = refl
        length_map f (x ∷ xs) = ap suc (length_map f xs)

        max_self : (n : ℕ) → max n n ≡ n
        max_self n = omega arith

    abbrev misses : ℕ → Bool
    misses g = differ (has_stamp s (history_at hs g)) (names_guardian e.step (events_below s hs) g)

    in_place : is_misplaced opening s e hs ≡ false
    in_place =
        ap (λ (b : Bool). b || list_any misses (up_to (max (length opening.setup) (length hs.guardians))))
        (differ_same (has_stamp s hs.registry) (takes_registry e.step) (registry_has front e past is))
        ∙ ap (λ (n : ℕ). list_any misses (up_to n)) limit_is
        ∙ up_false misses (length opening.setup) (λ g some within.
        differ_same (has_stamp s (history_at hs g)) (names_guardian e.step (events_below s hs) g)
        (ap (has_stamp s) (history_is g some within) ∙ guardian_has front e past is g ∙ ap (λ (es : List Event). names_guardian e.step es g) (sym before)))

    answered : is_wrong opening s e hs ≡ false
    answered =
        let r = run_before opening front (e ∷ past) (subst (IsRun opening) is run) in
        let answer : answer_of opening e.step (events_below s hs) ≡ e.answer = ap (answer_of opening e.step) before ∙ sym r.0 in
        ap (λ (a : Answer). not (is_accepted a && same_answer a e.answer)) answer
        ∙ ap (λ (b : Bool). not (b && same_answer e.answer e.answer)) (accepted r.1)
        ∙ ap not ((bytes_eq-Decides (answer_text e.answer) (answer_text e.answer)).1 refl)
      where
        accepted : {b : Bool} → IsTrue b → b ≡ true
        accepted h = h

    fits : fails_with opening hs (s, e) ≡ false
    fits =
        ap (λ (b : Bool). b || (has_two_events s hs || (is_misplaced opening s e hs || is_wrong opening s e hs))) in_order
        ∙ ap (λ (b : Bool). b || (is_misplaced opening s e hs || is_wrong opening s e hs)) one_event
        ∙ ap (λ (b : Bool). b || is_wrong opening s e hs) in_place ∙ answered

  all_fit : (front past : List Event) → now ≡ front ++ past → AllByRecursion (λ c. fails_with opening hs c ≡ false) (numbered past)
  all_fit front [] is = tt
  all_fit front (e ∷ past) is = (fits front e past is, all_fit (front ++ e ∷ []) past (is ∙ sym (append_assoc front (e ∷ []) past)))

  nothing_found : (cs : List Stamped) → AllByRecursion (λ c. fails_with opening hs c ≡ false) cs → find (λ c. fails_with opening hs c) cs ≡ None
  nothing_found [] all = refl
  nothing_found (c ∷ cs) all = ap (λ (b : Bool). cond b (Some c) (find (λ d. fails_with opening hs d) cs)) all.0 ∙ nothing_found cs all.1

  pub gathered : IsGathered opening hs now
  gathered = record {
    nothing_fails =
        ap (option_map (λ (c : Stamped). c.0)) (
        ap (λ (cs : List Stamped). find (λ c. fails_with opening hs c) (reverse cs)) stand_for
        ∙ nothing_found (reverse (numbered now)) (all_reverse (λ c. fails_with opening hs c ≡ false) (numbered now) (all_fit [] now refl))
        );
    all_events = sym (ap (λ (cs : List Stamped). map (λ c. c.1) cs) stand_for ∙ events_numbered now);
  }

pub runs_are_gathered : RunsAreGathered
runs_are_gathered opening past run = gathered opening past run
