-- The events of a run that are a thread's own.
use Rattle.std.proofs.Common.{Bool, List, [], ap, arith, cond, false, inl, inr, length, refl, subst, suc, sym, true, ℕ, ◌++◌, ◌<◌, ◌==◌, ◌||◌, ◌∙◌, ◌∷◌, ◌≡◌, length-append}
use Rattle.std.proofs.Props.{props}
use Rattle.std.proofs.lemmas.Bool.{false≢true, or_cases, or_from, or_left, or_right}
use Rattle.std.proofs.lemmas.Bool.Decides.{nat_tests}
use Rattle.one_run.specs.Pieces.GoesOn.{longer, stays}
use Rattle.run_model.specs.declared.history.Event.{Event}
use Rattle.locked_run.specs.Behind.{IsBehind}
use Rattle.stepping.specs.Beside.{IsPartOf, beside, both, none}
use Rattle.sessions.specs.Sessions.{AreBehind, AreBelow, AreLater, has_length, own_of}

-- ---- lengths

unequal : (a b : ℕ) → a < b → (a == b) ≡ false
unequal a b h = grind (arith, nat_tests)

more_unequal : (a b : ℕ) → b < a → (a == b) ≡ false
more_unequal a b h = grind (arith, nat_tests)

equal_self : (a : ℕ) → (a == a) ≡ true
equal_self a = grind (arith, nat_tests)

equal_from : (a b : ℕ) → (a == b) ≡ true → a ≡ b
equal_from a b h = grind (arith, nat_tests)

pub has_append : (xs ys : List (List Event)) (n : ℕ) → has_length (xs ++ ys) n ≡ has_length xs n || has_length ys n
has_append [] ys n = refl
has_append (x ∷ xs) ys n = go (has_append xs ys n) (length x == n)
  where
    go : has_length (xs ++ ys) n ≡ has_length xs n || has_length ys n → (b : Bool) → b || has_length (xs ++ ys) n ≡ (b || has_length xs n) || has_length ys n
    go rest true = refl
    go rest false = rest

-- none has so many events
pub has_none : (runs : List (List Event)) (n : ℕ) → AreBelow runs n → has_length runs n ≡ false
has_none [] n below = refl
has_none (run ∷ runs) n below = or_from _ _ (unequal (length run) n below.0) (has_none runs n below.1)

pub below_more : (runs : List (List Event)) (m n : ℕ) → AreBelow runs m → m < suc n → AreBelow runs n
below_more [] m n below h = tt
below_more (run ∷ runs) m n below h = (let b = below.0 in omega arith, below_more runs m n below.1 h)

-- one of them has so many events, and all have fewer than m
below_has : (runs : List (List Event)) (n m : ℕ) → AreBelow runs m → has_length runs n ≡ true → n < m
below_has [] n m below has = absurd (false≢true has)
below_has (run ∷ runs) n m below has = elim (or_cases (length run == n) (has_length runs n) has) [
  | inl same ↦ let is = equal_from (length run) n same in let b = below.0 in omega arith
  | inr more ↦ below_has runs n m below.1 more
]

-- what stands before one of so many events has fewer
pub before_has : (before own : List (List Event)) (n : ℕ) → AreLater before own → has_length own n ≡ true → AreBelow before n
before_has before [] n later has = absurd (false≢true has)
before_has before (run ∷ own) n later has = elim (or_cases (length run == n) (has_length own n) has) [
  | inl same ↦ subst (AreBelow before) (equal_from (length run) n same) later.0
  | inr more ↦ before_has before own n later.1 more
]

-- what stands behind one of so many events has more
none_later : (before own : List (List Event)) (n m : ℕ) → AreLater before own → has_length before n ≡ true → m < suc n → has_length own m ≡ false
none_later before [] n m later has h = refl
none_later before (run ∷ own) n m later has h =
    let more = below_has before n (length run) later.0 has in or_from _ _ (more_unequal (length run) m (omega arith)) (none_later before own n m later.1 has h)

pub later_append : (before one other : List (List Event)) → AreLater before one → AreLater before other → AreLater before (one ++ other)
later_append before [] other a b = b
later_append before (run ∷ one) other a b = (a.0, later_append before one other a.1 b)

below_first : (one other : List (List Event)) (n : ℕ) → AreBelow (one ++ other) n → AreBelow one n
below_first [] other n below = tt
below_first (run ∷ one) other n below = (below.0, below_first one other n below.1)

pub later_first : (one other own : List (List Event)) → AreLater (one ++ other) own → AreLater one own
later_first one other [] later = tt
later_first one other (run ∷ own) later = (below_first one other (length run) later.0, later_first one other own later.1)

-- ---- beginnings

pub behind_length : {earlier past : List Event} → IsBehind earlier past → length earlier < suc (length past)
behind_length {earlier} stays = omega arith
behind_length (longer e quiet behind) = let less = behind_length behind in omega arith

pub behind_parts : {earlier past : List Event} → IsBehind earlier past → (more : List Event) × (past ≡ more ++ earlier)
behind_parts stays = ([], refl)
behind_parts (longer e quiet behind) = let (more, is) = behind_parts behind in (e ∷ more, ap (λ l. e ∷ l) is)

pub behind_nothing : (past : List Event) → IsBehind [] past
behind_nothing [] = stays
behind_nothing (e ∷ past) = longer e refl (behind_nothing past)

pub behind_further : {one other last : List Event} → IsBehind one other → IsBehind other last → IsBehind one last
behind_further a stays = a
behind_further a (longer e quiet b) = longer e quiet (behind_further a b)

pub all_further : (runs : List (List Event)) (seen last : List Event) → AreBehind runs seen → IsBehind seen last → AreBehind runs last
all_further [] seen last behind more = tt
all_further (run ∷ runs) seen last behind more = (behind_further behind.0 more, all_further runs seen last behind.1 more)

pub all_append : (one other : List (List Event)) (seen : List Event) → AreBehind one seen → AreBehind other seen → AreBehind (one ++ other) seen
all_append [] other seen a b = b
all_append (run ∷ one) other seen a b = (a.0, all_append one other seen a.1 b)

pub all_first : (one other : List (List Event)) (seen : List Event) → AreBehind (one ++ other) seen → AreBehind one seen
all_first [] other seen a = tt
all_first (run ∷ one) other seen a = (a.0, all_first one other seen a.1)

pub all_second : (one other : List (List Event)) (seen : List Event) → AreBehind (one ++ other) seen → AreBehind other seen
all_second [] other seen a = a
all_second (run ∷ one) other seen a = all_second one other seen a.1

pub all_below : (runs : List (List Event)) (seen : List Event) → AreBehind runs seen → AreBelow runs (suc (length seen))
all_below [] seen behind = tt
all_below (run ∷ runs) seen behind = (behind_length behind.0, all_below runs seen behind.1)

-- ---- own events

own_yes : (ends : List (List Event)) (e : Event) (past : List Event) → has_length ends (suc (length past)) ≡ true → own_of ends (e ∷ past) ≡ e ∷ own_of ends past
own_yes ends e past has = ap (λ b. cond b (e ∷ own_of ends past) (own_of ends past)) has

own_no : (ends : List (List Event)) (e : Event) (past : List Event) → has_length ends (suc (length past)) ≡ false → own_of ends (e ∷ past) ≡ own_of ends past
own_no ends e past has = ap (λ b. cond b (e ∷ own_of ends past) (own_of ends past)) has

pub own_part : (ends : List (List Event)) (past : List Event) → IsPartOf (own_of ends past) past
own_part ends [] = none
own_part ends (e ∷ past) = go (own_part ends past) (has_length ends (suc (length past)))
  where
    go : IsPartOf (own_of ends past) past → (b : Bool) → IsPartOf (cond b (e ∷ own_of ends past) (own_of ends past)) (e ∷ past)
    go rest true = both e rest
    go rest false = beside e rest

-- events that came later are not own ones
pub own_low : (ends : List (List Event)) (more past : List Event) → AreBelow ends (suc (length past)) → own_of ends (more ++ past) ≡ own_of ends past
own_low ends [] past below = refl
own_low ends (e ∷ more) past below =
    let long = length-append more past in
    own_no ends e (more ++ past) (has_none ends (suc (length (more ++ past))) (below_more ends (suc (length past)) (suc (length (more ++ past))) below (omega arith)))
    ∙ own_low ends more past below

pub own_more : (ends : List (List Event)) {seen last : List Event} → AreBehind ends seen → IsBehind seen last → own_of ends last ≡ own_of ends seen
own_more ends {seen = seen} behind on =
    let (more, is) = behind_parts on in ap (own_of ends) is ∙ own_low ends more seen (all_below ends seen behind)

-- nothing is own up to an end that stands before all
own_none : (before own : List (List Event)) (n : ℕ) → AreLater before own → has_length before n ≡ true → (past : List Event) → length past < suc n → own_of own past ≡ []
own_none before own n later has [] h = refl
own_none before own n later has (e ∷ past) h =
    own_no own e past (none_later before own n (suc (length past)) later has h) ∙ own_none before own n later has past (omega arith)

-- what is own by later ends comes first
pub own_split : (before own : List (List Event)) → AreLater before own → (past : List Event) → own_of (before ++ own) past ≡ own_of own past ++ own_of before past
own_split before own later [] = refl
own_split before own later (e ∷ past) = go (own_split before own later past) (has_length before n) refl (has_length own n) refl
  where
    n : ℕ
    n = suc (length past)

    go : own_of (before ++ own) past ≡ own_of own past ++ own_of before past → (a : Bool) → has_length before n ≡ a → (b : Bool) → has_length own n ≡ b → own_of (before ++ own) (e ∷ past) ≡ own_of own (e ∷ past) ++ own_of before (e ∷ past)
    go rest true first b second =
        let none : own_of own (e ∷ past) ≡ [] = own_none before own n later first (e ∷ past) (omega arith) in
        let none_behind : own_of own past ≡ [] = own_none before own n later first past (omega arith) in
        own_yes (before ++ own) e past (has_append before own n ∙ or_left _ _ first) ∙ ap (λ l. e ∷ l) (rest ∙ ap (λ l. l ++ own_of before past) none_behind)
        ∙ sym (ap (λ l. l ++ own_of before (e ∷ past)) none ∙ own_yes before e past first)
    go rest false first true second =
        own_yes (before ++ own) e past (has_append before own n ∙ or_right _ _ second) ∙ ap (λ l. e ∷ l) rest
        ∙ sym (ap (λ l. l ++ own_of before (e ∷ past)) (own_yes own e past second) ∙ ap (λ l. e ∷ (own_of own past ++ l)) (own_no before e past first))
    go rest false first false second =
        own_no (before ++ own) e past (has_append before own n ∙ or_from _ _ first second) ∙ rest
        ∙ sym (ap (λ l. l ++ own_of before (e ∷ past)) (own_no own e past second) ∙ ap (λ l. own_of own past ++ l) (own_no before e past first))

-- one receipt more
own_last : (run earlier : List Event) → length earlier < length run → own_of (run ∷ []) earlier ≡ []
own_last run [] h = refl
own_last run (d ∷ earlier) h =
    own_no (run ∷ []) d earlier (or_from _ _ (more_unequal (length run) (suc (length earlier)) (omega arith)) refl) ∙ own_last run earlier (omega arith)

pub own_next : (ends : List (List Event)) (e : Event) (past : List Event) → AreBelow ends (suc (length past)) → own_of (ends ++ (e ∷ past) ∷ []) (e ∷ past) ≡ e ∷ own_of ends past
own_next ends e past below =
    let last : List (List Event) = (e ∷ past) ∷ [] in
    let has : has_length last (suc (length past)) ≡ true = or_left _ _ (equal_self (suc (length past))) in
    let old : own_of ends (e ∷ past) ≡ own_of ends past = own_low ends (e ∷ []) past below in
    own_split ends last (below, tt) (e ∷ past) ∙ ap (λ l. l ++ own_of ends (e ∷ past)) (own_yes last e past has ∙ ap (λ l. e ∷ l) (own_last (e ∷ past) past (omega arith)))
    ∙ ap (λ l. e ∷ l) old

-- a list of such bounds has one proof
pub below_prop : (runs : List (List Event)) (n : ℕ) → IsProp (AreBelow runs n)
below_prop [] n = hlevel
below_prop (run ∷ runs) n = hlevel (props, below_prop runs n)
