-- Going over copies that lie by stamp: what the first turn of those that are left is, and what is known after it.
use Rattle.std.proofs.Common.{◌≡◌, ◌≢◌, ℕ, suc, ◌+◌, ◌≤◌, Bool, true, false, not, cond, max, List, [], ◌∷◌, ◌++◌, length, take, drop, Some, None, eq-eqb, refl, sym, ap, ap₂, subst, ◌∙◌, length-drop, arith}
use Rattle.std.specs.Prelude.{◌==◌, slice_get}
use Rattle.std.specs.List.{AllByRecursion, prefix_len}
use Rattle.std.proofs.lemmas.Bool.{eqb-true, true≢false}
use Rattle.std.proofs.lemmas.List.{take-append-drop}
use Rattle.std.proofs.lemmas.List.Folds.{length-prefix_len}
use Rattle.std.proofs.lemmas.List.Sums.{prefix_len-le-length}
use Rattle.run_model.specs.declared.history.Event.{Event}
use Rattle.run_model.specs.Gathering.{Histories, fails_with, least_failing}
use Rattle.run_model.specs.Openings.{OpeningLists, opening_in}
use Rattle.tracer.specs.Copies.{AreRisingFrom, Copied, turn_fails}
use Rattle.tracer.proofs.Merged.{Going, IsTurn, goes_on, stops, turn_says}

-- ---- the copies of one stamp at the front

abbrev pub front_len : ℕ → List Copied → ℕ
front_len s cs = prefix_len (λ c. c.stamp == s) cs

front_stamps : (s : ℕ) (cs : List Copied) → AllByRecursion (λ d. d.stamp ≡ s) (take (front_len s cs) cs)
front_stamps s [] = tt
front_stamps s (c ∷ cs) = go (c.stamp == s) refl (front_stamps s cs)
  where
    go : (b : Bool) → (c.stamp == s) ≡ b → AllByRecursion (λ d. d.stamp ≡ s) (take (front_len s cs) cs)
        → AllByRecursion (λ d. d.stamp ≡ s) (take (cond b (1 + front_len s cs) 0) (c ∷ cs))
    go true e rest =
        let more : 1 + front_len s cs ≡ suc (front_len s cs) = omega arith in
        subst (λ (n : ℕ). AllByRecursion (λ (d : Copied). d.stamp ≡ s) (take n (c ∷ cs))) (sym more) (eqb-true c.stamp s e, rest)
    go false e rest = tt

behind_front : (s : ℕ) (cs : List Copied) → AreRisingFrom s cs → AreRisingFrom (suc s) (drop (front_len s cs) cs)
behind_front s [] rising = tt
behind_front s (c ∷ cs) rising = go (c.stamp == s) refl (λ r. behind_front s cs r)
  where
    go : (b : Bool) → (c.stamp == s) ≡ b → (AreRisingFrom s cs → AreRisingFrom (suc s) (drop (front_len s cs) cs))
        → AreRisingFrom (suc s) (drop (cond b (1 + front_len s cs) 0) (c ∷ cs))
    go true e rest =
        let more : 1 + front_len s cs ≡ suc (front_len s cs) = omega arith in
        subst (λ (n : ℕ). AreRisingFrom (suc s) (drop n (c ∷ cs))) (sym more) (rest (subst (λ (t : ℕ). AreRisingFrom t cs) (eqb-true c.stamp s e) rising.1))
    go false e rest = (omega (arith, rising.0, other), rising.1)
      where
        other : c.stamp ≢ s
        other h = true≢false (sym (eq-eqb c.stamp s h) ∙ e)

-- the first copy is of its own stamp
pub has_turn : (rest : List Copied) (first : Copied) (s : ℕ) → slice_get rest 0 ≡ Some first → s ≡ first.stamp → 1 ≤ front_len s rest
has_turn [] first s is same = absurd cc
has_turn (c ∷ cs) first s is same =
    let head : c ≡ first = cc in
    let own : (c.stamp == s) ≡ true = eq-eqb c.stamp s (ap (λ (d : Copied). d.stamp) head ∙ sym same) in
    let long : front_len s (c ∷ cs) ≡ 1 + front_len s cs = ap (λ (b : Bool). cond b (1 + front_len s cs) 0) own in
    omega arith

from_first : (low : ℕ) (rest : List Copied) (first : Copied) → slice_get rest 0 ≡ Some first → AreRisingFrom low rest → AreRisingFrom first.stamp rest
from_first low [] first is rising = tt
from_first low (c ∷ cs) first is rising =
    let head : c ≡ first = cc in
    (omega (arith, ap (λ (d : Copied). d.stamp) head), rising.1)

-- ---- the last of them

pub record HasLast (turn : List Copied) : Type 0 where
  pub others : List Copied
  pub last : Copied
  pub parts : turn ≡ others ++ last ∷ []

pub has_last : (turn : List Copied) → 1 ≤ length turn → HasLast turn
has_last [] some = absurd (omega arith)
has_last (c ∷ []) some = record { others = []; last = c; parts = refl }
has_last (c ∷ d ∷ turn) some =
    let rest = has_last (d ∷ turn) (omega arith) in
    record { others = c ∷ rest.others; last = rest.last; parts = ap (λ (l : List Copied). c ∷ l) rest.parts }

all_front : (P : Copied → Type 0) (xs : List Copied) (y : Copied) → AllByRecursion P (xs ++ y ∷ []) → AllByRecursion P xs × P y
all_front P [] y all = (tt, all.0)
all_front P (x ∷ xs) y all = let rest = all_front P xs y all.1 in ((all.0, rest.0), rest.1)

-- ---- a turn

all_of : (s : ℕ) (rest turn others : List Copied) (last : Copied) → turn ≡ take (front_len s rest) rest → turn ≡ others ++ last ∷ []
    → AllByRecursion (λ d. d.stamp ≡ s) others × (last.stamp ≡ s)
all_of s rest turn others last front parts =
    all_front (λ d. d.stamp ≡ s) others last (subst (AllByRecursion (λ (d : Copied). d.stamp ≡ s)) (sym front ∙ parts) (front_stamps s rest))

is_turn : (low s : ℕ) (rest turn later others : List Copied) (first last : Copied) → AreRisingFrom low rest → slice_get rest 0 ≡ Some first → s ≡ first.stamp
    → turn ≡ take (front_len s rest) rest → later ≡ drop (front_len s rest) rest → turn ≡ others ++ last ∷ [] → IsTurn rest others last later
is_turn low s rest turn later others first last rising head same front back parts =
    let stamps = all_of s rest turn others last front parts in
    record {
      parts =
          sym (take-append-drop (front_len s rest) rest) ∙ ap (λ (l : List Copied). l ++ drop (front_len s rest) rest) (sym front ∙ parts)
          ∙ ap (λ (l : List Copied). (others ++ last ∷ []) ++ l) (sym back);
      one_stamp = subst (λ (t : ℕ). AllByRecursion (λ (d : Copied). d.stamp ≡ t) others) (sym stamps.1) stamps.0;
      rising =
          subst (λ (t : ℕ). AreRisingFrom (suc t) later) (sym stamps.1)
          (subst (AreRisingFrom (suc s)) (sym back) (behind_front s rest (subst (λ (t : ℕ). AreRisingFrom t rest) (sym same) (from_first low rest first head rising))));
    }

not_true : (t : Bool) → true ≡ not t → t ≡ false
not_true true h = absurd (true≢false h)
not_true false h = refl

not_false : (t : Bool) → false ≡ not t → t ≡ true
not_false true h = refl
not_false false h = absurd (true≢false (sym h))

module _ (lists now : OpeningLists) (hs : Histories) (rest turn later : List Copied) (first : Copied) (past : List Event) (s mid limit : ℕ) (going : Going (opening_in lists) hs rest past)
    (head : slice_get rest 0 ≡ Some first) (same : s ≡ first.stamp) (long : mid ≡ front_len s rest) (front : turn ≡ take mid rest) (back : later ≡ drop mid rest)
    (opened : now ≡ lists) (guardians : limit ≡ max (length lists.setup) (length hs.guardians)) where
  -- what the test of the turn says
  abbrev Says : Bool → Type 0
  Says fine = (others : List Copied) (last : Copied) → turn ≡ others ++ last ∷ [] → fine ≡ not (turn_fails (opening_in now) limit last.event past turn)

  -- what has happened after it
  abbrev Adds : List Event → Type 0
  Adds after = (others : List Copied) (last : Copied) → turn ≡ others ++ last ∷ [] → after ≡ last.event ∷ past

  in_front : turn ≡ take (front_len s rest) rest
  in_front = front ∙ ap (λ (n : ℕ). take n rest) long

  turn_len : length turn ≡ front_len s rest
  turn_len = ap length in_front ∙ length-prefix_len (λ (c : Copied). c.stamp == s) rest

  pub some : 1 ≤ length turn
  some = omega (arith, turn_len, has_turn rest first s head same)

  pub shorter : length later + 1 ≤ length rest
  shorter =
      omega (arith, ap length back, length-drop mid rest, long, has_turn rest first s head same, prefix_len-le-length (λ (c : Copied). c.stamp == s) rest)

  ends : HasLast turn
  ends = has_last turn some

  turns : IsTurn rest ends.others ends.last later
  turns = is_turn going.low s rest turn later ends.others first ends.last going.rising head same in_front (back ∙ ap (λ (n : ℕ). drop n rest) long) ends.parts

  fails : (fine : Bool) → Says fine → fine ≡ not (fails_with (opening_in lists) hs (ends.last.stamp, ends.last.event))
  fails fine says =
      says ends.others ends.last ends.parts
      ∙ ap₂ (λ (l : OpeningLists) (n : ℕ). not (turn_fails (opening_in l) n ends.last.event past turn)) opened guardians
      ∙ ap (λ (l : List Copied). not (turn_fails (opening_in lists) (max (length lists.setup) (length hs.guardians)) ends.last.event past l)) ends.parts
      ∙ ap not (sym (turn_says (opening_in lists) hs rest ends.others later ends.last past going turns))

  -- the histories fail at it
  pub fails_here : (fine : Bool) → Says fine → fine ≡ false → least_failing (opening_in lists) hs ≡ Some s
  fails_here fine says bad =
      stops (opening_in lists) hs rest ends.others later ends.last past going turns (not_false _ (sym bad ∙ fails fine says))
      ∙ ap (λ (t : ℕ). Some t) (all_of s rest turn ends.others ends.last in_front ends.parts).1

  -- nothing fails at it
  pub goes_by : (fine : Bool) (after : List Event) → Says fine → fine ≡ true → Adds after → Going (opening_in lists) hs later after
  goes_by fine after says good adds =
      subst (Going (opening_in lists) hs later) (sym (adds ends.others ends.last ends.parts))
      (goes_on (opening_in lists) hs rest ends.others later ends.last past going turns (not_true _ (sym good ∙ fails fine says)))

  pub one_more : (after : List Event) → Adds after → length after ≡ suc (length past)
  one_more after adds = ap length (adds ends.others ends.last ends.parts)

-- ---- the end

pub none_left : (rest : List Copied) → slice_get rest 0 ≡ None → rest ≡ []
none_left [] is = refl
none_left (c ∷ cs) is = absurd cc
