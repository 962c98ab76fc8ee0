-- Going over the copies by stamp: what the turns so far say of the histories, and what one more says.
use Rattle.std.proofs.Common.{◌≡◌, ◌≢◌, ℕ, suc, ◌<◌, ◌≤◌, Bool, true, false, cond, max, List, [], ◌∷◌, ◌++◌, length, map, filter, reverse, Some, option_map, eq-eqb, refl, sym, ap, subst, ◌∙◌, append_assoc, append-nil, arith}
use Rattle.std.specs.Prelude.{◌==◌, find, nat_lt}
use Rattle.std.specs.List.{AllByRecursion}
use Rattle.std.proofs.lemmas.Bool.{ne_eqb}
use Rattle.std.proofs.lemmas.List.{map-append, reverse-append}
use Rattle.std.proofs.lemmas.List.Elements.{filter-append}
use Rattle.run_model.specs.declared.history.Event.{Event}
use Rattle.run_model.specs.Gathering.{Histories, IsGathered, all_copies, by_stamp, events_below, fails_with, least_failing}
use Rattle.run_model.specs.LocalHistories.{Stamped}
use Rattle.run_model.specs.Openings.{Opening}
use Rattle.tracer.specs.Copies.{AreByStamp, AreRisingFrom, Copied, copies_in, of_stamp, turn_fails}
use Rattle.tracer.proofs.ByStamp.{AreBelow, by_stamp_all, least_turn, lt_is, not_lt, same_by_stamp}
use Rattle.tracer.proofs.Turns.{copies-map, fails_by_turn, of_stamp-map, stamped_of}

-- what is known of the histories when these copies are left: the turns before them are the events old, at which nothing fails
pub record Going (opening : Opening) (hs : Histories) (rest : List Copied) (past : List Event) : Type 0 where
  pub low : ℕ
  pub old : List Stamped
  pub rising : AreRisingFrom low rest
  pub before : AreBelow low old
  pub fine : AllByRecursion (λ c. fails_with opening hs c ≡ false) old
  pub events : past ≡ map (λ c. c.1) old
  pub same : (s : ℕ) → low ≤ s → of_stamp s rest ≡ of_stamp s (copies_in hs)
  pub all : by_stamp (all_copies hs) ≡ by_stamp (map stamped_of rest) ++ old

-- the copies at the front that have one stamp, and those behind them
pub record IsTurn (rest front : List Copied) (c : Copied) (later : List Copied) : Type 0 where
  pub parts : rest ≡ (front ++ c ∷ []) ++ later
  pub one_stamp : AllByRecursion (λ d. d.stamp ≡ c.stamp) front
  pub rising : AreRisingFrom (suc c.stamp) later

-- ---- lists of copies

rising_weaker : (a b : ℕ) (cs : List Copied) → a ≤ b → AreRisingFrom b cs → AreRisingFrom a cs
rising_weaker a b [] le rising = tt
rising_weaker a b (c ∷ cs) le rising = (omega (arith, rising.0), rising.1)

all_at_least : (low : ℕ) (cs : List Copied) → AreRisingFrom low cs → AllByRecursion (λ (c : Stamped). low ≤ c.0) (map stamped_of cs)
all_at_least low [] rising = tt
all_at_least low (c ∷ cs) rising = (rising.0, all_at_least low cs (rising_weaker low c.stamp cs rising.0 rising.1))

none_of_stamp : (s : ℕ) (cs : List Copied) → AreRisingFrom (suc s) cs → of_stamp s cs ≡ []
none_of_stamp s [] rising = refl
none_of_stamp s (c ∷ cs) rising =
    ap (λ (b : Bool). cond b (c ∷ of_stamp s cs) (of_stamp s cs)) (ne_eqb c.stamp s (λ e. omega (arith, rising.0, e)))
    ∙ none_of_stamp s cs (rising_weaker (suc s) c.stamp cs rising.0 rising.1)

all_of_stamp : (s : ℕ) (cs : List Copied) → AllByRecursion (λ d. d.stamp ≡ s) cs → of_stamp s cs ≡ cs
all_of_stamp s [] all = refl
all_of_stamp s (c ∷ cs) all =
    ap (λ (b : Bool). cond b (c ∷ of_stamp s cs) (of_stamp s cs)) (eq-eqb c.stamp s all.0) ∙ ap (λ (l : List Copied). c ∷ l) (all_of_stamp s cs all.1)

no_other_stamp : (s t : ℕ) (cs : List Copied) → t ≢ s → AllByRecursion (λ d. d.stamp ≡ t) cs → of_stamp s cs ≡ []
no_other_stamp s t [] other all = refl
no_other_stamp s t (c ∷ cs) other all =
    ap (λ (b : Bool). cond b (c ∷ of_stamp s cs) (of_stamp s cs)) (ne_eqb c.stamp s (λ e. other (sym all.0 ∙ e))) ∙ no_other_stamp s t cs other all.1

turn_all : (front : List Copied) (c : Copied) → AllByRecursion (λ d. d.stamp ≡ c.stamp) front → AllByRecursion (λ d. d.stamp ≡ c.stamp) (front ++ c ∷ [])
turn_all [] c all = (refl, tt)
turn_all (d ∷ front) c all = (all.0, turn_all front c all.1)

-- ---- the turn

-- its copies are all that the histories have of its stamp
turn_is : (opening : Opening) (hs : Histories) (rest front later : List Copied) (c : Copied) (past : List Event) (going : Going opening hs rest past) → IsTurn rest front c later
    → going.low ≤ c.stamp → of_stamp c.stamp (copies_in hs) ≡ front ++ c ∷ []
turn_is opening hs rest front later c past going turn low =
    sym (going.same c.stamp low) ∙ ap (of_stamp c.stamp) turn.parts
    ∙ filter-append (λ (d : Copied). d.stamp == c.stamp) (front ++ c ∷ []) later
    ∙ ap (λ (l : List Copied). l ++ of_stamp c.stamp later) (all_of_stamp c.stamp (front ++ c ∷ []) (turn_all front c turn.one_stamp))
    ∙ ap (λ (l : List Copied). (front ++ c ∷ []) ++ l) (none_of_stamp c.stamp later turn.rising) ∙ append-nil (front ++ c ∷ [])

low_first : (low : ℕ) (front later : List Copied) (c : Copied) → AllByRecursion (λ d. d.stamp ≡ c.stamp) front → AreRisingFrom low ((front ++ c ∷ []) ++ later) → low ≤ c.stamp
low_first low [] later c all rising = rising.0
low_first low (d ∷ front) later c all rising = omega (arith, rising.0, all.0)

pub turn_low : (opening : Opening) (hs : Histories) (rest front later : List Copied) (c : Copied) (past : List Event) (going : Going opening hs rest past) → IsTurn rest front c later → going.low ≤ c.stamp
turn_low opening hs rest front later c past going turn = low_first going.low front later c turn.one_stamp (subst (AreRisingFrom going.low) turn.parts going.rising)

filter_none : (s : ℕ) (cs : List Stamped) → AllByRecursion (λ c. s ≤ c.0) cs → filter (λ (c : Stamped). nat_lt c.0 s) cs ≡ []
filter_none s [] all = refl
filter_none s (c ∷ cs) all = ap (λ (b : Bool). cond b (c ∷ filter (λ (d : Stamped). nat_lt d.0 s) cs) (filter (λ (d : Stamped). nat_lt d.0 s) cs)) (not_lt c.0 s all.0) ∙ filter_none s cs all.1

filter_all : (s t : ℕ) (cs : List Stamped) → t ≤ s → AreBelow t cs → filter (λ (c : Stamped). nat_lt c.0 s) cs ≡ cs
filter_all s t [] le all = refl
filter_all s t (c ∷ cs) le all =
    ap (λ (b : Bool). cond b (c ∷ filter (λ (d : Stamped). nat_lt d.0 s) cs) (filter (λ (d : Stamped). nat_lt d.0 s) cs)) (lt_is c.0 s (omega (arith, all.0)))
    ∙ ap (λ (l : List Stamped). c ∷ l) (filter_all s t cs le all.1)

-- the events of smaller stamps are those of the turns before
turn_below : (opening : Opening) (hs : Histories) (rest front later : List Copied) (c : Copied) (past : List Event) (going : Going opening hs rest past) → IsTurn rest front c later
    → going.low ≤ c.stamp → events_below c.stamp hs ≡ past
turn_below opening hs rest front later c past going turn low =
    let s : ℕ = c.stamp in
    let least : AreRisingFrom s rest = subst (AreRisingFrom s) (sym turn.parts) (rising_turn front c later turn.one_stamp (rising_weaker s (suc s) later (omega arith) turn.rising)) in
    let none = filter_none s (by_stamp (map stamped_of rest)) (by_stamp_all (λ d. s ≤ d.0) (map stamped_of rest) (all_at_least s rest least)) in
    ap (map (λ (d : Stamped). d.1))
    (ap (filter (λ (d : Stamped). nat_lt d.0 s)) going.all ∙ filter-append (λ (d : Stamped). nat_lt d.0 s) (by_stamp (map stamped_of rest)) going.old
    ∙ ap (λ (l : List Stamped). l ++ filter (λ (d : Stamped). nat_lt d.0 s) going.old) none ∙ filter_all s going.low going.old low going.before)
    ∙ sym going.events
  where
    rising_turn : (front : List Copied) (c : Copied) (later : List Copied) → AllByRecursion (λ d. d.stamp ≡ c.stamp) front → AreRisingFrom c.stamp later
        → AreRisingFrom c.stamp ((front ++ c ∷ []) ++ later)
    rising_turn [] c later all rising = (omega arith, rising)
    rising_turn (d ∷ front) c later all rising =
        (omega (arith, all.0), subst (λ (s : ℕ). AreRisingFrom s ((front ++ c ∷ []) ++ later)) (sym all.0) (rising_turn front c later all.1 rising))

-- whether the histories fail at the stamp of the turn
pub turn_says : (opening : Opening) (hs : Histories) (rest front later : List Copied) (c : Copied) (past : List Event) (going : Going opening hs rest past) → IsTurn rest front c later
    → fails_with opening hs (c.stamp, c.event) ≡ turn_fails opening (max (length opening.setup) (length hs.guardians)) c.event past (front ++ c ∷ [])
turn_says opening hs rest front later c past going turn =
    let low = turn_low opening hs rest front later c past going turn in
    fails_by_turn opening c.stamp hs front c past (turn_is opening hs rest front later c past going turn low) (turn_below opening hs rest front later c past going turn low)

-- ---- what stands for the turn

later_above : (s : ℕ) (cs : List Copied) → AreRisingFrom (suc s) cs → AllByRecursion (λ (c : Stamped). s < c.0) (map stamped_of cs)
later_above s [] rising = tt
later_above s (c ∷ cs) rising = (omega (arith, rising.0), later_above s cs (rising_weaker (suc s) c.stamp cs rising.0 rising.1))

stamps_of : (s : ℕ) (cs : List Copied) → AllByRecursion (λ d. d.stamp ≡ s) cs → AllByRecursion (λ (d : Stamped). d.0 ≡ s) (map stamped_of cs)
stamps_of s [] all = tt
stamps_of s (c ∷ cs) all = (all.0, stamps_of s cs all.1)

turn_stands : (opening : Opening) (hs : Histories) (rest front later : List Copied) (c : Copied) (past : List Event) (going : Going opening hs rest past) → IsTurn rest front c later
    → by_stamp (all_copies hs) ≡ by_stamp (map stamped_of later) ++ (stamped_of c ∷ going.old)
turn_stands opening hs rest front later c past going turn =
    let copies : map stamped_of rest ≡ (map stamped_of front ++ stamped_of c ∷ []) ++ map stamped_of later =
    ap (map stamped_of) turn.parts ∙ map-append stamped_of (front ++ c ∷ []) later
    ∙ ap (λ (l : List Stamped). l ++ map stamped_of later) (map-append stamped_of front (c ∷ [])) in
    going.all
    ∙ ap (λ (l : List Stamped). by_stamp l ++ going.old) copies
    ∙ ap (λ (l : List Stamped). l ++ going.old) (least_turn (map stamped_of front) (stamped_of c) (map stamped_of later) (stamps_of c.stamp front turn.one_stamp) (later_above c.stamp later turn.rising))
    ∙ append_assoc (by_stamp (map stamped_of later)) (stamped_of c ∷ []) going.old

-- a turn more at which nothing fails
pub goes_on : (opening : Opening) (hs : Histories) (rest front later : List Copied) (c : Copied) (past : List Event) (going : Going opening hs rest past) → IsTurn rest front c later
    → fails_with opening hs (c.stamp, c.event) ≡ false → Going opening hs later (c.event ∷ past)
goes_on opening hs rest front later c past going turn fine = record {
  low = suc c.stamp;
  old = stamped_of c ∷ going.old;
  rising = turn.rising;
  before = (omega arith, weaker going.old (omega (arith, turn_low opening hs rest front later c past going turn)) going.before);
  fine = (fine, going.fine);
  events = ap (λ (l : List Event). c.event ∷ l) going.events;
  same = λ s le.
      sym (ap (of_stamp s) turn.parts ∙ filter-append (λ (d : Copied). d.stamp == s) (front ++ c ∷ []) later
      ∙ ap (λ (l : List Copied). l ++ of_stamp s later) (no_other_stamp s c.stamp (front ++ c ∷ []) (λ e. omega (arith, e)) (turn_all front c turn.one_stamp)))
      ∙ going.same s (omega (arith, turn_low opening hs rest front later c past going turn));
  all = turn_stands opening hs rest front later c past going turn;
}
  where
    weaker : (cs : List Stamped) → going.low ≤ suc c.stamp → AreBelow going.low cs → AreBelow (suc c.stamp) cs
    weaker [] le all = tt
    weaker (d ∷ cs) le all = (omega (arith, all.0), weaker cs le all.1)

-- ---- the least that fails

find_behind : (p : Stamped → Bool) (xs ys : List Stamped) → AllByRecursion (λ c. p c ≡ false) xs → find p (reverse xs ++ ys) ≡ find p ys
find_behind p [] ys none = refl
find_behind p (x ∷ xs) ys none =
    ap (find p) (reverse_cons x xs ys) ∙ find_behind p xs (x ∷ ys) none.1 ∙ ap (λ (b : Bool). cond b (Some x) (find p ys)) none.0
  where
    reverse_cons : (z : Stamped) (zs ws : List Stamped) → reverse (z ∷ zs) ++ ws ≡ reverse zs ++ (z ∷ ws)
    reverse_cons z zs ws = ap (λ (l : List Stamped). l ++ ws) (reverse-append (z ∷ []) zs) ∙ append_assoc (reverse zs) (z ∷ []) ws

-- the turn at which they fail
pub stops : (opening : Opening) (hs : Histories) (rest front later : List Copied) (c : Copied) (past : List Event) (going : Going opening hs rest past) → IsTurn rest front c later
    → fails_with opening hs (c.stamp, c.event) ≡ true → least_failing opening hs ≡ Some c.stamp
stops opening hs rest front later c past going turn fails =
    let f : Stamped → Bool = λ d. fails_with opening hs d in
    let run : List Stamped = by_stamp (map stamped_of later) in
    ap (λ (l : List Stamped). option_map (λ (d : Stamped). d.0) (find f (reverse l))) (turn_stands opening hs rest front later c past going turn)
    ∙ ap (λ (l : List Stamped). option_map (λ (d : Stamped). d.0) (find f l)) (reverse-append run (stamped_of c ∷ going.old) ∙ turned (stamped_of c) going.old (reverse run))
    ∙ ap (option_map (λ (d : Stamped). d.0)) (find_behind f going.old (stamped_of c ∷ reverse run) going.fine ∙ ap (λ (b : Bool). cond b (Some (stamped_of c)) (find f (reverse run))) fails)
  where
    turned : (z : Stamped) (zs ws : List Stamped) → reverse (z ∷ zs) ++ ws ≡ reverse zs ++ (z ∷ ws)
    turned z zs ws = ap (λ (l : List Stamped). l ++ ws) (reverse-append (z ∷ []) zs) ∙ append_assoc (reverse zs) (z ∷ []) ws

-- no copies are left
pub gathered : (opening : Opening) (hs : Histories) (past : List Event) → Going opening hs [] past → IsGathered opening hs past
gathered opening hs past going =
    let f : Stamped → Bool = λ d. fails_with opening hs d in
    record {
      nothing_fails =
          ap (λ (l : List Stamped). option_map (λ (d : Stamped). d.0) (find f (reverse l))) going.all
          ∙ ap (λ (l : List Stamped). option_map (λ (d : Stamped). d.0) (find f l)) (sym (append-nil (reverse going.old)))
          ∙ ap (option_map (λ (d : Stamped). d.0)) (find_behind f going.old [] going.fine);
      all_events = going.events ∙ ap (map (λ (d : Stamped). d.1)) (sym going.all);
    }

-- ---- the beginning

pub begins : (opening : Opening) (hs : Histories) (copies : List Copied) (past : List Event) → AreByStamp hs copies → past ≡ [] → Going opening hs copies past
begins opening hs copies past sorted none = record {
  low = 0;
  old = [];
  rising = sorted.rising;
  before = tt;
  fine = tt;
  events = none;
  same = λ s le. sorted.same s;
  all =
      same_by_stamp (all_copies hs) (map stamped_of copies) (λ s.
      ap (filter (λ (c : Stamped). c.0 == s)) (sym (copies-map hs)) ∙ of_stamp-map s (copies_in hs) ∙ ap (map stamped_of) (sym (sorted.same s)) ∙ sym (of_stamp-map s copies))
      ∙ sym (append-nil (by_stamp (map stamped_of copies)));
}
