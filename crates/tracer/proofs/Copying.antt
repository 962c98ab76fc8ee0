-- Taking the copies of histories, and sorting them by stamp.
use Rattle.std.proofs.Common.{Vec, Global, ◌≡◌, ℕ, suc, ◌+◌, ◌<◌, ◌≤◌, Bool, true, false, not, cond, ◌&&◌, ◌||◌, max, List, [], ◌∷◌, ◌++◌, length, get_or, take, filter, Option, Some, None, refl, sym, ap, subst, ◌∙◌, append_assoc, append-nil, add-zero, length-take, arith}
use Rattle.std.specs.Prelude.{◌==◌, nat_le}
use Rattle.std.specs.Ordering.{is_lt, nat_cmp}
use Rattle.std.specs.List.{list_any}
use Rattle.std.specs.List.Sorted.{IsNonDecreasingBy, IsStableByKey, ties}
use Rattle.std.proofs.lemmas.Bool.Decides.{nat_tests}
use Rattle.std.proofs.lemmas.List.{length-map, map-append, take_more}
use Rattle.std.proofs.lemmas.List.Sorted.{IsNonDecreasingBy-drop}
use Rattle.run_model.specs.declared.history.Event.{Event}
use Rattle.run_model.specs.declared.step.Step.TheVariants.{Top}
use Rattle.run_model.specs.declared.answer.Answer.TheVariants.{VoteYes}
use Rattle.run_model.specs.Gathering.{Histories}
use Rattle.run_model.specs.LocalHistories.{Stamped}
use Rattle.traces.specs.Traces.{lists_of}
use Rattle.tracer.specs.Copies.{AreByStamp, AreRisingFrom, Copied, copies_behind, copies_from, copies_in, of_stamp}
use Rattle.tracer.specs.Late.{IsHighest, is_at_most}

-- ---- the highest stamp so far

either : (s stamp highest : ℕ) → (nat_le s stamp || nat_le s highest) ≡ nat_le s (max highest stamp)
either s stamp highest = grind (arith, nat_tests)

or_false : (b : Bool) → (b || false) ≡ b
or_false true = refl
or_false false = refl

pub higher_is : (stamp top new : ℕ) (highest : Option ℕ) (seen : List ℕ) → highest ≡ Some top → new ≡ max top stamp → IsHighest highest seen → IsHighest (Some new) (stamp ∷ seen)
higher_is stamp top new highest seen is wrote h = λ s.
    ap (λ (b : Bool). nat_le s stamp || b) (h s ∙ ap (is_at_most s) is) ∙ either s stamp top ∙ ap (nat_le s) (sym wrote)

pub first_is : (stamp : ℕ) (highest : Option ℕ) (seen : List ℕ) → highest ≡ None → IsHighest highest seen → IsHighest (Some stamp) (stamp ∷ seen)
first_is stamp highest seen is h = λ s. ap (λ (b : Bool). nat_le s stamp || b) (h s ∙ ap (is_at_most s) is) ∙ or_false (nat_le s stamp)

-- ---- one history

abbrev pub seen_after : List ℕ → List Stamped → List ℕ
seen_after seen [] = seen
seen_after seen (c ∷ cs) = seen_after (c.0 ∷ seen) cs

seen-push : (seen : List ℕ) (cs : List Stamped) (c : Stamped) → seen_after seen (cs ++ c ∷ []) ≡ c.0 ∷ seen_after seen cs
seen-push seen [] c = refl
seen-push seen (d ∷ cs) c = seen-push (d.0 ∷ seen) cs c

copies-push : (h : ℕ) (seen : List ℕ) (cs : List Stamped) (c : Stamped) → copies_from h seen (cs ++ c ∷ [])
    ≡ copies_from h seen cs ++ record { stamp = c.0; history = h; is_late = list_any (λ t. nat_le c.0 t) (seen_after seen cs); event = c.1 } ∷ []
copies-push h seen [] c = refl
copies-push h seen (d ∷ cs) c =
    ap (λ (l : List Copied). record { stamp = d.0; history = h; is_late = list_any (λ t. nat_le d.0 t) seen; event = d.1 } ∷ l) (copies-push h (d.0 ∷ seen) cs c)

-- so many events of a history were gone over
pub record AreCopied (h i : ℕ) (events : List Stamped) (old now : List Copied) (highest : Option ℕ) : Type 0 where
  pub copies : now ≡ old ++ copies_from h [] (take i events)
  pub top : IsHighest highest (seen_after [] (take i events))

pub none_copied : (h : ℕ) (events : List Stamped) (old : List Copied) → AreCopied h 0 events old old None
none_copied h events old = record { copies = sym (append-nil old); top = λ s. refl }

pub one_copied : (h i : ℕ) (events : List Stamped) (old now new : List Copied) (highest next : Option ℕ) (c : Stamped) (late : Bool) → i < length events → c ≡ get_or events i c
    → AreCopied h i events old now highest → late ≡ is_at_most c.0 highest → new ≡ now ++ record { stamp = c.0; history = h; is_late = late; event = c.1 } ∷ []
    → ((seen : List ℕ) → IsHighest highest seen → IsHighest next (c.0 ∷ seen)) → AreCopied h (i + 1) events old new next
one_copied h i events old now new highest next c late lt item so_far is pushed higher =
    let more : take (i + 1) events ≡ take i events ++ c ∷ [] = take_more events i c lt ∙ ap (λ (x : Stamped). take i events ++ x ∷ []) (sym item) in
    let tests : late ≡ list_any (λ t. nat_le c.0 t) (seen_after [] (take i events)) = is ∙ sym (so_far.top c.0) in
    record {
      copies =
          pushed ∙ ap (λ (l : List Copied). l ++ record { stamp = c.0; history = h; is_late = late; event = c.1 } ∷ []) so_far.copies
          ∙ append_assoc old (copies_from h [] (take i events)) (record { stamp = c.0; history = h; is_late = late; event = c.1 } ∷ [])
          ∙ ap (λ (b : Bool). old ++ (copies_from h [] (take i events) ++ record { stamp = c.0; history = h; is_late = b; event = c.1 } ∷ [])) tests
          ∙ ap (λ (l : List Copied). old ++ l) (sym (ap (copies_from h []) more ∙ copies-push h [] (take i events) c));
      top = subst (IsHighest next) (sym (ap (seen_after []) more ∙ seen-push [] (take i events) c)) (higher (seen_after [] (take i events)) so_far.top);
    }

-- ---- several histories

behind-push : (h : ℕ) (hs : List (List Stamped)) (cs : List Stamped) → copies_behind h (hs ++ cs ∷ []) ≡ copies_behind h hs ++ copies_from (h + length hs) [] cs
behind-push h [] cs = append-nil (copies_from h [] cs) ∙ ap (λ (n : ℕ). copies_from n [] cs) (sym (add-zero h))
behind-push h (ds ∷ hs) cs =
    let moved : suc h + length hs ≡ h + length (ds ∷ hs) = omega arith in
    ap (λ (l : List Copied). copies_from h [] ds ++ l) (behind-push (suc h) hs cs)
    ∙ sym (append_assoc (copies_from h [] ds) (copies_behind (suc h) hs) (copies_from (suc h + length hs) [] cs))
    ∙ ap (λ (n : ℕ). (copies_from h [] ds ++ copies_behind (suc h) hs) ++ copies_from n [] cs) moved

pub history_copied : (i : ℕ) (first : List Copied) (gs : List (Vec Stamped Global)) (h : Vec Stamped Global) (events : List Stamped) (now new : List Copied) → i < length gs → h ≡ get_or gs i h → events ≡ h.items
    → now ≡ first ++ copies_behind 1 (lists_of (take i gs)) → new ≡ now ++ copies_from (i + 1) [] events → new ≡ first ++ copies_behind 1 (lists_of (take (i + 1) gs))
history_copied i first gs h events now new lt item are so_far added =
    let more : take (i + 1) gs ≡ take i gs ++ h ∷ [] = take_more gs i h lt ∙ ap (λ (x : Vec Stamped Global). take i gs ++ x ∷ []) (sym item) in
    let lists : lists_of (take (i + 1) gs) ≡ lists_of (take i gs) ++ h.items ∷ [] = ap lists_of more ∙ map-append (λ (v : Vec Stamped Global). v.items) (take i gs) (h ∷ []) in
    let place : 1 + length (lists_of (take i gs)) ≡ i + 1 = omega (arith, length-map (take i gs) (λ (v : Vec Stamped Global). v.items), length-take i gs) in
    added ∙ ap (λ (l : List Copied). l ++ copies_from (i + 1) [] events) so_far ∙ append_assoc first (copies_behind 1 (lists_of (take i gs))) (copies_from (i + 1) [] events)
    ∙ ap (λ (e : List Stamped). first ++ (copies_behind 1 (lists_of (take i gs)) ++ copies_from (i + 1) [] e)) are
    ∙ ap (λ (l : List Copied). first ++ l) (sym (ap (copies_behind 1) lists ∙ behind-push 1 (lists_of (take i gs)) h.items
    ∙ ap (λ (n : ℕ). copies_behind 1 (lists_of (take i gs)) ++ copies_from n [] h.items) place))

-- ---- by stamp

abbrev pub stamp_of : Copied → ℕ
stamp_of c = c.stamp

rising_from : (low : ℕ) (cs : List Copied) → ((d : Copied) → 0 < length cs → low ≤ stamp_of (get_or cs 0 d)) → IsNonDecreasingBy stamp_of cs → AreRisingFrom low cs
rising_from low [] first rising = tt
rising_from low (c ∷ cs) first rising = (first c (omega arith), rising_from c.stamp cs (λ d some. rising 0 1 d (omega arith) (omega arith)) (IsNonDecreasingBy-drop stamp_of 1 (c ∷ cs) rising))

filter_same : (p q : Copied → Bool) → ((c : Copied) → p c ≡ q c) → (cs : List Copied) → filter p cs ≡ filter q cs
filter_same p q same [] = refl
filter_same p q same (c ∷ cs) =
    ap (λ (b : Bool). cond b (c ∷ filter p cs) (filter p cs)) (same c) ∙ ap (λ (l : List Copied). cond (q c) (c ∷ l) l) (filter_same p q same cs)

tie_is : (s t : ℕ) → (not (is_lt (nat_cmp s t)) && not (is_lt (nat_cmp t s))) ≡ (t == s)
tie_is s t = grind (arith, nat_tests)

some_event : Event
some_event = record { step = Top 0; answer = VoteYes }

pub sorted_is : (hs : Histories) (copies sorted : List Copied) → copies ≡ copies_in hs → IsNonDecreasingBy stamp_of sorted → IsStableByKey stamp_of nat_cmp copies sorted → AreByStamp hs sorted
sorted_is hs copies sorted are rising stable = record {
  rising = rising_from 0 sorted (λ d some. omega arith) rising;
  same = λ s.
      let x : Copied = record { stamp = s; history = 0; is_late = false; event = some_event } in
      let lt : Copied → Copied → Bool = λ a b. is_lt (nat_cmp (stamp_of a) (stamp_of b)) in
      sym (filter_same (ties lt x) (λ c. c.stamp == s) (λ c. tie_is s c.stamp) sorted) ∙ stable x
      ∙ filter_same (ties lt x) (λ c. c.stamp == s) (λ c. tie_is s c.stamp) copies ∙ ap (of_stamp s) are;
}
