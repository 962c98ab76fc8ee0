-- Where histories fail at a stamp, by the copies of this stamp alone.
use Rattle.std.proofs.Common.{◌≡◌, ◌≢◌, ℕ, zero, suc, ◌+◌, ◌-◌, ◌<◌, ◌≤◌, Bool, true, false, not, cond, ◌&&◌, ◌||◌, List, [], ◌∷◌, ◌++◌, length, get_or, map, filter, reverse, max, eq-eqb, refl, sym, ap, ◌∙◌, arith}
use Rattle.std.specs.Prelude.{◌==◌, nat_le}
use Rattle.std.specs.List.{list_any}
use Rattle.std.proofs.lemmas.Bool.{and_parts, eqb-true, ne_eqb, true≢false}
use Rattle.std.proofs.lemmas.List.Elements.{filter-append}
use Rattle.std.proofs.lemmas.List.Folds.{list_any-append}
use Rattle.std.proofs.lemmas.List.Sorted.{IsPermutation-reverse, list_any-IsPermutation}
use Rattle.std.proofs.lemmas.List.{map-append}
use Rattle.std.proofs.lemmas.Option.{unwrap_or-slice_get}
use Rattle.std.proofs.lemmas.Slice.Eq.{bytes_eq-Decides}
use Rattle.run_model.specs.declared.history.Event.{Event}
use Rattle.run_model.specs.Gathering.{Histories, all_copies, differ, events_below, fails_with, has_stamp, has_two_events, history_at, is_misplaced, is_wrong, is_out_of_order, joined, same_answer, same_event, stands_late}
use Rattle.run_model.specs.Lists.{down_from, up_to}
use Rattle.run_model.specs.LocalHistories.{Stamped, names_guardian, takes_registry}
use Rattle.run_model.specs.Openings.{Opening}
use Rattle.run_model.specs.Texts.{answer_text, step_text}
use Rattle.tracer.specs.Copies.{Copied, copies_behind, copies_from, copies_in, has_copy, has_late, has_other, is_contradicted, of_stamp, stand_elsewhere, turn_fails}

abbrev pub stamped_of : Copied → Stamped
stamped_of c = (c.stamp, c.event)

-- ---- copies and histories

copies_from-map : (h : ℕ) (seen : List ℕ) (cs : List Stamped) → map stamped_of (copies_from h seen cs) ≡ cs
copies_from-map h seen [] = refl
copies_from-map h seen (c ∷ cs) = ap (λ (l : List Stamped). c ∷ l) (copies_from-map h (c.0 ∷ seen) cs)

map-behind : (h : ℕ) (hs : List (List Stamped)) → map stamped_of (copies_behind h hs) ≡ joined hs
map-behind h [] = refl
map-behind h (cs ∷ hs) =
    map-append stamped_of (copies_from h [] cs) (copies_behind (suc h) hs)
    ∙ ap (λ (l : List Stamped). l ++ map stamped_of (copies_behind (suc h) hs)) (copies_from-map h [] cs)
    ∙ ap (λ (l : List Stamped). cs ++ l) (map-behind (suc h) hs)

pub copies-map : (hs : Histories) → map stamped_of (copies_in hs) ≡ all_copies hs
copies-map hs = map-behind 0 (hs.registry ∷ hs.guardians)

-- the events of a stamp are those of its copies
pub of_stamp-map : (s : ℕ) (cs : List Copied) → filter (λ (c : Stamped). c.0 == s) (map stamped_of cs) ≡ map stamped_of (of_stamp s cs)
of_stamp-map s [] = refl
of_stamp-map s (c ∷ cs) = go (c.stamp == s) (of_stamp-map s cs)
  where
    go : (b : Bool) → filter (λ (d : Stamped). d.0 == s) (map stamped_of cs) ≡ map stamped_of (of_stamp s cs)
        → cond b (stamped_of c ∷ filter (λ (d : Stamped). d.0 == s) (map stamped_of cs)) (filter (λ (d : Stamped). d.0 == s) (map stamped_of cs))
        ≡ map stamped_of (cond b (c ∷ of_stamp s cs) (of_stamp s cs))
    go true e = ap (λ (l : List Stamped). stamped_of c ∷ l) e
    go false e = e

of_stamp-append : (s : ℕ) (cs ds : List Copied) → of_stamp s (cs ++ ds) ≡ of_stamp s cs ++ of_stamp s ds
of_stamp-append s cs ds = filter-append (λ c. c.stamp == s) cs ds

-- ---- out of order

late_from : (s h : ℕ) (seen : List ℕ) (cs : List Stamped) → stands_late s seen cs ≡ has_late (of_stamp s (copies_from h seen cs))
late_from s h seen [] = refl
late_from s h seen (c ∷ cs) = go (c.0 == s) refl (late_from s h (c.0 ∷ seen) cs)
  where
    go : (b : Bool) → (c.0 == s) ≡ b → stands_late s (c.0 ∷ seen) cs ≡ has_late (of_stamp s (copies_from h (c.0 ∷ seen) cs))
        → ((b && list_any (λ t. nat_le s t) seen) || stands_late s (c.0 ∷ seen) cs)
        ≡ has_late (cond b (record { stamp = c.0; history = h; is_late = list_any (λ t. nat_le c.0 t) seen; event = c.1 } ∷ of_stamp s (copies_from h (c.0 ∷ seen) cs)) (of_stamp s (copies_from h (c.0 ∷ seen) cs)))
    go true is e =
        ap (λ (b : Bool). list_any (λ t. nat_le s t) seen || b) e
        ∙ ap (λ (n : ℕ). list_any (λ t. nat_le n t) seen || has_late (of_stamp s (copies_from h (c.0 ∷ seen) cs))) (sym (eqb-true c.0 s is))
    go false is e = e

late_behind : (s h : ℕ) (hs : List (List Stamped)) → list_any (λ cs. stands_late s [] cs) hs ≡ has_late (of_stamp s (copies_behind h hs))
late_behind s h [] = refl
late_behind s h (cs ∷ hs) =
    ap (λ (b : Bool). b || list_any (λ ds. stands_late s [] ds) hs) (late_from s h [] cs)
    ∙ ap (λ (b : Bool). has_late (of_stamp s (copies_from h [] cs)) || b) (late_behind s (suc h) hs)
    ∙ sym (list_any-append (λ (c : Copied). c.is_late) (of_stamp s (copies_from h [] cs)) (of_stamp s (copies_behind (suc h) hs)))
    ∙ ap has_late (sym (of_stamp-append s (copies_from h [] cs) (copies_behind (suc h) hs)))

pub out_of_order : (s : ℕ) (hs : Histories) → is_out_of_order s hs ≡ has_late (of_stamp s (copies_in hs))
out_of_order s hs = late_behind s 0 (hs.registry ∷ hs.guardians)

-- ---- two events

-- events of one text are the same
same-is : (d e : Event) → same_event d e ≡ true → (step_text d.step ≡ step_text e.step) × (answer_text d.answer ≡ answer_text e.answer)
same-is d e h = let p = and_parts _ _ h in ((bytes_eq-Decides (step_text d.step) (step_text e.step)).0 p.0, (bytes_eq-Decides (answer_text d.answer) (answer_text e.answer)).0 p.1)

is-same : (d e : Event) → step_text d.step ≡ step_text e.step → answer_text d.answer ≡ answer_text e.answer → same_event d e ≡ true
is-same d e f g =
    ap (λ (b : Bool). b && same_answer d.answer e.answer) ((bytes_eq-Decides (step_text d.step) (step_text e.step)).1 f)
    ∙ (bytes_eq-Decides (answer_text d.answer) (answer_text e.answer)).1 g

-- what is the same as one event is the same
pub same_both : (d e f : Event) → same_event d f ≡ true → same_event e f ≡ true → same_event d e ≡ true
same_both d e f g h = let p = same-is d f g in let q = same-is e f h in is-same d e (p.0 ∙ sym q.0) (p.1 ∙ sym q.1)

abbrev others : Event → List Stamped → Bool
others e xs = list_any (λ c. not (same_event c.1 e)) xs

abbrev pairs : List Stamped → List Stamped → Bool
pairs ys xs = list_any (λ c. list_any (λ d. not (same_event c.1 d.1)) ys) xs

or_false : (a b : Bool) → (a || b) ≡ false → (a ≡ false) × (b ≡ false)
or_false true b e = absurd (true≢false e)
or_false false b e = (refl, e)

not_false : (b : Bool) → not b ≡ false → b ≡ true
not_false true e = refl
not_false false e = absurd (true≢false e)

none_other : (e : Event) (c : Stamped) (ys : List Stamped) → same_event c.1 e ≡ true → others e ys ≡ false → list_any (λ d. not (same_event c.1 d.1)) ys ≡ false
none_other e c [] same none = refl
none_other e c (d ∷ ys) same none =
    let p = or_false (not (same_event d.1 e)) (others e ys) none in
    ap (λ (b : Bool). not b || list_any (λ f. not (same_event c.1 f.1)) ys) (same_both c.1 d.1 e same (not_false (same_event d.1 e) p.0))
    ∙ none_other e c ys same p.1

no_pair : (e : Event) (ys xs : List Stamped) → others e ys ≡ false → others e xs ≡ false → pairs ys xs ≡ false
no_pair e ys [] all none = refl
no_pair e ys (c ∷ xs) all none =
    let p = or_false (not (same_event c.1 e)) (others e xs) none in
    ap (λ (b : Bool). b || pairs ys xs) (none_other e c ys (not_false (same_event c.1 e) p.0) all) ∙ no_pair e ys xs all p.1

or_true : (b : Bool) → (b || true) ≡ true
or_true true = refl
or_true false = refl

-- what passes one test passes the other
any_weaker : {X : Type 0} (p q : X → Bool) → ((x : X) → p x ≡ true → q x ≡ true) → (xs : List X) → list_any p xs ≡ true → list_any q xs ≡ true
any_weaker p q weaker [] e = e
any_weaker p q weaker (x ∷ xs) e = go (p x) refl (any_weaker p q weaker xs)
  where
    go : (b : Bool) → p x ≡ b → (list_any p xs ≡ true → list_any q xs ≡ true) → (q x || list_any q xs) ≡ true
    go true is rest = ap (λ (b : Bool). b || list_any q xs) (weaker x is)
    go false is rest = ap (λ (b : Bool). q x || b) (rest (ap (λ (b : Bool). b || list_any p xs) (sym is) ∙ e)) ∙ or_true (q x)

-- the last element passes
any_last : {X : Type 0} (p : X → Bool) (front : List X) (x : X) → p x ≡ true → list_any p (front ++ x ∷ []) ≡ true
any_last p [] x e = ap (λ (b : Bool). b || false) e
any_last p (y ∷ front) x e = ap (λ (b : Bool). p y || b) (any_last p front x e) ∙ or_true (p y)

two : (front : List Stamped) (x : Stamped) → pairs (front ++ x ∷ []) (front ++ x ∷ []) ≡ others x.1 (front ++ x ∷ [])
two front x = go (others x.1 (front ++ x ∷ [])) refl
  where
    go : (b : Bool) → others x.1 (front ++ x ∷ []) ≡ b → pairs (front ++ x ∷ []) (front ++ x ∷ []) ≡ b
    go true e =
        any_weaker (λ (c : Stamped). not (same_event c.1 x.1)) (λ (c : Stamped). list_any (λ (d : Stamped). not (same_event c.1 d.1)) (front ++ x ∷ []))
        (λ c h. any_last (λ (d : Stamped). not (same_event c.1 d.1)) front x h) (front ++ x ∷ []) e
    go false e = no_pair x.1 (front ++ x ∷ []) (front ++ x ∷ []) e e

others-map : (e : Event) (cs : List Copied) → others e (map stamped_of cs) ≡ has_other e cs
others-map e [] = refl
others-map e (c ∷ cs) = ap (λ (b : Bool). not (same_event c.event e) || b) (others-map e cs)

pub two_events : (s : ℕ) (hs : Histories) (front : List Copied) (c : Copied) → of_stamp s (copies_in hs) ≡ front ++ c ∷ [] → has_two_events s hs ≡ has_other c.event (front ++ c ∷ [])
two_events s hs front c turn =
    let xs : filter (λ (d : Stamped). d.0 == s) (all_copies hs) ≡ map stamped_of front ++ stamped_of c ∷ [] =
    ap (filter (λ (d : Stamped). d.0 == s)) (sym (copies-map hs)) ∙ of_stamp-map s (copies_in hs) ∙ ap (map stamped_of) turn ∙ map-append stamped_of front (c ∷ []) in
    ap (λ (l : List Stamped). pairs l l) xs ∙ two (map stamped_of front) (stamped_of c)
    ∙ ap (others c.event) (sym (map-append stamped_of front (c ∷ []))) ∙ others-map c.event (front ++ c ∷ [])

-- ---- where copies stand

copy_here : (s h : ℕ) (seen : List ℕ) (cs : List Stamped) → has_copy h (of_stamp s (copies_from h seen cs)) ≡ has_stamp s cs
copy_here s h seen [] = refl
copy_here s h seen (c ∷ cs) = go (c.0 == s) (copy_here s h (c.0 ∷ seen) cs)
  where
    go : (b : Bool) → has_copy h (of_stamp s (copies_from h (c.0 ∷ seen) cs)) ≡ has_stamp s cs
        → has_copy h (cond b (record { stamp = c.0; history = h; is_late = list_any (λ t. nat_le c.0 t) seen; event = c.1 } ∷ of_stamp s (copies_from h (c.0 ∷ seen) cs)) (of_stamp s (copies_from h (c.0 ∷ seen) cs)))
        ≡ (b || has_stamp s cs)
    go true e = ap (λ (b : Bool). b || has_copy h (of_stamp s (copies_from h (c.0 ∷ seen) cs))) (eq-eqb h h refl)
    go false e = e

no_copy_from : (s h g : ℕ) (seen : List ℕ) (cs : List Stamped) → h ≢ g → has_copy g (of_stamp s (copies_from h seen cs)) ≡ false
no_copy_from s h g seen [] other = refl
no_copy_from s h g seen (c ∷ cs) other = go (c.0 == s) (no_copy_from s h g (c.0 ∷ seen) cs other)
  where
    go : (b : Bool) → has_copy g (of_stamp s (copies_from h (c.0 ∷ seen) cs)) ≡ false
        → has_copy g (cond b (record { stamp = c.0; history = h; is_late = list_any (λ t. nat_le c.0 t) seen; event = c.1 } ∷ of_stamp s (copies_from h (c.0 ∷ seen) cs)) (of_stamp s (copies_from h (c.0 ∷ seen) cs)))
        ≡ false
    go true e = ap (λ (b : Bool). b || has_copy g (of_stamp s (copies_from h (c.0 ∷ seen) cs))) (ne_eqb h g other) ∙ e
    go false e = e

copy_split : (s g h : ℕ) (cs : List Stamped) (hs : List (List Stamped)) → has_copy g (of_stamp s (copies_behind h (cs ∷ hs)))
    ≡ (has_copy g (of_stamp s (copies_from h [] cs)) || has_copy g (of_stamp s (copies_behind (suc h) hs)))
copy_split s g h cs hs =
    ap (has_copy g) (of_stamp-append s (copies_from h [] cs) (copies_behind (suc h) hs))
    ∙ list_any-append (λ (c : Copied). c.history == g) (of_stamp s (copies_from h [] cs)) (of_stamp s (copies_behind (suc h) hs))

no_copy_behind : (s h g : ℕ) (hs : List (List Stamped)) → g < h → has_copy g (of_stamp s (copies_behind h hs)) ≡ false
no_copy_behind s h g [] lt = refl
no_copy_behind s h g (cs ∷ hs) lt =
    copy_split s g h cs hs
    ∙ ap (λ (b : Bool). b || has_copy g (of_stamp s (copies_behind (suc h) hs))) (no_copy_from s h g [] cs (λ e. omega arith))
    ∙ no_copy_behind s (suc h) g hs (omega arith)

or-false : (b : Bool) → (b || false) ≡ b
or-false true = refl
or-false false = refl

copy_at : (s h i : ℕ) (hs : List (List Stamped)) → has_copy (h + i) (of_stamp s (copies_behind h hs)) ≡ has_stamp s (get_or hs i [])
copy_at s h i [] = refl
copy_at s h zero (cs ∷ hs) =
    let same : h + 0 ≡ h = omega arith in
    ap (λ (g : ℕ). has_copy g (of_stamp s (copies_behind h (cs ∷ hs)))) same ∙ copy_split s h h cs hs
    ∙ ap (λ (b : Bool). b || has_copy h (of_stamp s (copies_behind (suc h) hs))) (copy_here s h [] cs)
    ∙ ap (λ (b : Bool). has_stamp s cs || b) (no_copy_behind s (suc h) h hs (omega arith)) ∙ or-false (has_stamp s cs)
copy_at s h (suc i) (cs ∷ hs) =
    let moved : h + suc i ≡ suc h + i = omega arith in
    copy_split s (h + suc i) h cs hs
    ∙ ap (λ (b : Bool). b || has_copy (h + suc i) (of_stamp s (copies_behind (suc h) hs))) (no_copy_from s h (h + suc i) [] cs (λ e. omega arith))
    ∙ ap (λ (g : ℕ). has_copy g (of_stamp s (copies_behind (suc h) hs))) moved ∙ copy_at s (suc h) i hs

pub registry_copy : (s : ℕ) (hs : Histories) → has_stamp s hs.registry ≡ has_copy 0 (of_stamp s (copies_in hs))
registry_copy s hs = sym (copy_at s 0 0 (hs.registry ∷ hs.guardians))

pub guardian_copy : (s g : ℕ) (hs : Histories) → 1 ≤ g → has_stamp s (history_at hs g) ≡ has_copy g (of_stamp s (copies_in hs))
guardian_copy s zero hs some = absurd (omega arith)
guardian_copy s (suc g) hs some =
    let place : suc g - 1 ≡ g = omega arith in
    let number : 0 + suc g ≡ suc g = omega arith in
    ap (has_stamp s) (unwrap_or-slice_get hs.guardians (suc g - 1) [] ∙ ap (λ (i : ℕ). get_or hs.guardians i []) place)
    ∙ sym (copy_at s 0 (suc g) (hs.registry ∷ hs.guardians)) ∙ ap (λ (n : ℕ). has_copy n (of_stamp s (copies_in hs))) number

-- tests that agree from 1 on
same_down : (p q : ℕ → Bool) → ((g : ℕ) → 1 ≤ g → p g ≡ q g) → (n : ℕ) → list_any p (down_from n) ≡ list_any q (down_from n)
same_down p q same zero = refl
same_down p q same (suc n) =
    ap (λ (b : Bool). b || list_any p (down_from n)) (same (suc n) (omega arith)) ∙ ap (λ (b : Bool). q (suc n) || b) (same_down p q same n)

pub same_up : (p q : ℕ → Bool) → ((g : ℕ) → 1 ≤ g → p g ≡ q g) → (n : ℕ) → list_any p (up_to n) ≡ list_any q (up_to n)
same_up p q same n =
    sym (list_any-IsPermutation p (down_from n) (reverse (down_from n)) (IsPermutation-reverse (down_from n))) ∙ same_down p q same n
    ∙ list_any-IsPermutation q (down_from n) (reverse (down_from n)) (IsPermutation-reverse (down_from n))

pub misplaced : (opening : Opening) (s : ℕ) (e : Event) (hs : Histories) (past : List Event) → events_below s hs ≡ past
    → is_misplaced opening s e hs ≡ stand_elsewhere (max (length opening.setup) (length hs.guardians)) e past (of_stamp s (copies_in hs))
misplaced opening s e hs past is =
    let turn : List Copied = of_stamp s (copies_in hs) in
    let limit : ℕ = max (length opening.setup) (length hs.guardians) in
    ap (λ (b : Bool). differ b (takes_registry e.step) || list_any (λ g. differ (has_stamp s (history_at hs g)) (names_guardian e.step (events_below s hs) g)) (up_to limit)) (registry_copy s hs)
    ∙ ap (λ (b : Bool). differ (has_copy 0 turn) (takes_registry e.step) || b)
    (ap (λ (evs : List Event). list_any (λ g. differ (has_stamp s (history_at hs g)) (names_guardian e.step evs g)) (up_to limit)) is
    ∙ same_up (λ g. differ (has_stamp s (history_at hs g)) (names_guardian e.step past g)) (λ g. differ (has_copy g turn) (names_guardian e.step past g))
    (λ g some. ap (λ (b : Bool). differ b (names_guardian e.step past g)) (guardian_copy s g hs some)) limit)

-- ---- the four ways to fail at a stamp

-- at a stamp whose copies are these, behind events of smaller stamps
pub fails_by_turn : (opening : Opening) (s : ℕ) (hs : Histories) (front : List Copied) (c : Copied) (past : List Event) → of_stamp s (copies_in hs) ≡ front ++ c ∷ [] → events_below s hs ≡ past
    → fails_with opening hs (s, c.event) ≡ turn_fails opening (max (length opening.setup) (length hs.guardians)) c.event past (front ++ c ∷ [])
fails_by_turn opening s hs front c past turn below =
    let limit : ℕ = max (length opening.setup) (length hs.guardians) in
    ap (λ (b : Bool). b || (has_two_events s hs || (is_misplaced opening s c.event hs || is_wrong opening s c.event hs))) (out_of_order s hs ∙ ap has_late turn)
    ∙ ap (λ (b : Bool). has_late (front ++ c ∷ []) || (b || (is_misplaced opening s c.event hs || is_wrong opening s c.event hs))) (two_events s hs front c turn)
    ∙ ap (λ (b : Bool). has_late (front ++ c ∷ []) || (has_other c.event (front ++ c ∷ []) || (b || is_wrong opening s c.event hs)))
    (misplaced opening s c.event hs past below ∙ ap (stand_elsewhere limit c.event past) turn)
    ∙ ap (λ (evs : List Event). has_late (front ++ c ∷ []) || (has_other c.event (front ++ c ∷ []) || (stand_elsewhere limit c.event past (front ++ c ∷ []) || is_contradicted opening c.event evs))) below
