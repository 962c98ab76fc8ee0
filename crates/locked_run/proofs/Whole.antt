-- As many receipts as a run has events, of which no two are of one event, are those of all its events.
use Rattle.std.proofs.Common.{◌≡◌, ◌==◌, ◌+◌, ◌-◌, ◌≤◌, ℕ, zero, suc, Bool, true, false, List, [], ◌∷◌, Option, cond, length, drop, map, refl, ap, ap₂, ◌∙◌, sym, subst, arith, eqb-true}
use Rattle.std.proofs.lemmas.Bool.{eqb-false}
use Rattle.std.proofs.lemmas.List.{length-map}
use Rattle.std.proofs.lemmas.List.Sorted.{IsPermutation-cons, IsPermutation-map, IsPermutation-middle, IsPermutation-refl, IsPermutation-trans}
use Rattle.std.specs.List.{AllByRecursion}
use Rattle.std.specs.List.Sorted.{IsPermutation}
use Rattle.one_run.specs.Pieces.{GoesOn}
use Rattle.one_run.specs.Pieces.GoesOn.{longer, stays}
use Rattle.run_model.specs.declared.history.Event.{Event}
use Rattle.locked_run.specs.Behind.{IsBehind}
use Rattle.locked_run.specs.Closing.{beginnings}
use Rattle.locked_run.specs.Receipts.{StandIn, run_at}
use Rattle.locked_run.proofs.Rising.{times}

-- ---- numbers

-- each is one of the numbers from 1 to this one
abbrev Within : ℕ → List ℕ → Type 0
Within m ns = AllByRecursion (λ n. (1 ≤ n) × (n ≤ m)) ns

-- how often a number stands there
abbrev alike : ℕ → List ℕ → ℕ
alike j ns = times (λ (n : ℕ). n) j ns

abbrev without : ℕ → List ℕ → List ℕ
without j [] = []
without j (n ∷ ns) = cond (n == j) (without j ns) (n ∷ without j ns)

abbrev down : ℕ → List ℕ
down zero = []
down (suc m) = suc m ∷ down m

left_out : (j : ℕ) (ns : List ℕ) → length ns ≡ alike j ns + length (without j ns)
left_out j [] = refl
left_out j (n ∷ ns) = of (n == j) (left_out j ns)
  where
    of : (b : Bool) → length ns ≡ alike j ns + length (without j ns)
        → suc (length ns) ≡ (cond {A = ℕ} b 1 0 + alike j ns) + length (cond b (without j ns) (n ∷ without j ns))
    of true rest = omega arith
    of false rest = omega arith

no_more : (i j : ℕ) (ns : List ℕ) → alike i (without j ns) ≤ alike i ns
no_more i j [] = omega arith
no_more i j (n ∷ ns) = of (n == j) (no_more i j ns)
  where
    of : (b : Bool) → alike i (without j ns) ≤ alike i ns
        → alike i (cond b (without j ns) (n ∷ without j ns)) ≤ cond {A = ℕ} (n == i) 1 0 + alike i ns
    of true rest = omega arith
    of false rest = omega arith

below : (m : ℕ) (ns : List ℕ) → Within (suc m) ns → Within m (without (suc m) ns)
below m [] all = tt
below m (n ∷ ns) all = of (n == suc m) refl (below m ns all.1)
  where
    of : (b : Bool) → (n == suc m) ≡ b → Within m (without (suc m) ns) → Within m (cond b (without (suc m) ns) (n ∷ without (suc m) ns))
    of true is rest = rest
    of false is rest = let apart = eqb-false n (suc m) is in let last = all.0.1 in ((all.0.0, omega arith), rest)

-- so many numbers, of which none stands twice, are no more than there are
few : (m : ℕ) (ns : List ℕ) → Within m ns → ((j : ℕ) → alike j ns ≤ 1) → length ns ≤ m
few zero [] all once = omega arith
few zero (n ∷ ns) all once = let first = all.0.0 in let last = all.0.1 in absurd (omega arith)
few (suc m) ns all once =
    let rest = few m (without (suc m) ns) (below m ns all) (λ j. let less = no_more j (suc m) ns in let one = once j in omega arith) in
    let whole = left_out (suc m) ns in
    let one = once (suc m) in
    omega arith

none_out : (j : ℕ) (ns : List ℕ) → alike j ns ≡ 0 → without j ns ≡ ns
none_out j [] none = refl
none_out j (n ∷ ns) none = of (n == j) none (λ h. none_out j ns h)
  where
    of : (b : Bool) → cond {A = ℕ} b 1 0 + alike j ns ≡ 0 → (alike j ns ≡ 0 → without j ns ≡ ns) → cond b (without j ns) (n ∷ without j ns) ≡ n ∷ ns
    of true h rest = absurd (omega arith)
    of false h rest = ap (λ l. n ∷ l) (rest (omega arith))

-- a number that stands once, and the others
front : (j : ℕ) (ns : List ℕ) → alike j ns ≡ 1 → IsPermutation ns (j ∷ without j ns)
front j [] one = absurd (omega arith)
front j (n ∷ ns) one = of (n == j) refl one (λ h. front j ns h)
  where
    of : (b : Bool) → (n == j) ≡ b → cond {A = ℕ} b 1 0 + alike j ns ≡ 1 → (alike j ns ≡ 1 → IsPermutation ns (j ∷ without j ns))
        → IsPermutation (n ∷ ns) (j ∷ cond b (without j ns) (n ∷ without j ns))
    of true is h others =
        let rest = none_out j ns (omega arith) in
        subst (λ l. IsPermutation (n ∷ ns) l) (ap₂ (λ (k : ℕ) (l : List ℕ). k ∷ l) (eqb-true n j is) (sym rest)) (IsPermutation-refl (n ∷ ns))
    of false is h others =
        IsPermutation-trans (n ∷ ns) (n ∷ j ∷ without j ns) (j ∷ n ∷ without j ns) (IsPermutation-cons n ns (j ∷ without j ns) (others (omega arith)))
        (IsPermutation-middle (n ∷ []) j (without j ns))

-- and if they are as many, they are all
all_numbers : (m : ℕ) (ns : List ℕ) → Within m ns → ((j : ℕ) → alike j ns ≤ 1) → length ns ≡ m → IsPermutation ns (down m)
all_numbers zero [] all once many = IsPermutation-refl []
all_numbers zero (n ∷ ns) all once many = absurd (omega arith)
all_numbers (suc m) ns all once many =
    let others = without (suc m) ns in
    let once_there : (j : ℕ) → alike j others ≤ 1 = λ j. let less = no_more j (suc m) ns in let one = once j in omega arith in
    let less = few m others (below m ns all) once_there in
    let whole = left_out (suc m) ns in
    let one = once (suc m) in
    IsPermutation-trans ns (suc m ∷ others) (suc m ∷ down m) (front (suc m) ns (omega arith))
    (IsPermutation-cons (suc m) others (down m) (all_numbers m others (below m ns all) once_there (omega arith)))

-- ---- runs

pub count_beginnings : (past : List Event) → length (beginnings past) ≡ length past
count_beginnings [] = refl
count_beginnings (e ∷ past) = ap suc (count_beginnings past)

-- a run that goes on from a beginning has it
pub longer_seen : {touches : Event → List Event → ℕ → Bool} {place : Option ℕ} {seen past : List Event} → GoesOn touches place seen past → length seen ≤ length past
longer_seen stays = omega arith
longer_seen (longer e quiet rest) = let less = longer_seen rest in omega arith

-- as it was after an event that was seen
pub run_before : {touches : Event → List Event → ℕ → Bool} {place : Option ℕ} {seen past : List Event} (n : ℕ) → n ≤ length seen → GoesOn touches place seen past
    → run_at n past ≡ run_at n seen
run_before n le stays = refl
run_before n le (longer {past = past} e quiet rest) =
    let less = longer_seen rest in
    let more : length (e ∷ past) - n ≡ suc (length past - n) = omega arith in
    ap (λ k. drop k (e ∷ past)) more ∙ run_before n le rest

pub whole_at : (past : List Event) → run_at (length past) past ≡ past
whole_at past = let none : length past - length past ≡ 0 = omega arith in ap (λ k. drop k past) none

one_more : (m : ℕ) (e : Event) (past : List Event) → m ≤ length past → map (λ n. run_at n (e ∷ past)) (down m) ≡ map (λ n. run_at n past) (down m)
one_more zero e past le = refl
one_more (suc m) e past le =
    let more : length (e ∷ past) - suc m ≡ suc (length past - suc m) = omega arith in
    ap₂ (λ (x : List Event) (l : List (List Event)). x ∷ l) (ap (λ k. drop k (e ∷ past)) more) (one_more m e past (omega arith))

all_runs : (past : List Event) → map (λ n. run_at n past) (down (length past)) ≡ beginnings past
all_runs [] = refl
all_runs (e ∷ past) =
    ap₂ (λ (x : List Event) (l : List (List Event)). x ∷ l) (whole_at (e ∷ past)) (one_more (length past) e past (omega arith) ∙ all_runs past)

module _ (past : List Event) where
  abbrev Each : List (List Event) → Type 0
  Each runs = AllByRecursion (λ run. (1 ≤ length run) × IsBehind run past) runs

  by_number : (runs : List (List Event)) → Each runs → map (λ n. run_at n past) (map length runs) ≡ runs
  by_number [] all = refl
  by_number (x ∷ xs) all =
      ap₂ (λ (y : List Event) (l : List (List Event)). y ∷ l) (run_before (length x) (omega arith) all.0.1 ∙ whole_at x) (by_number xs all.1)

  numbers : (runs : List (List Event)) → Each runs → Within (length past) (map length runs)
  numbers [] all = tt
  numbers (x ∷ xs) all = ((all.0.0, longer_seen all.0.1), numbers xs all.1)

  once_each : (j : ℕ) (runs : List (List Event)) → alike j (map length runs) ≡ times length j runs
  once_each j [] = refl
  once_each j (x ∷ xs) = let rest = once_each j xs in omega arith

  -- There are no more than the run has events.
  pub stand_few : (runs : List (List Event)) → StandIn past runs → length runs ≤ length past
  stand_few runs s =
      let many : length (map length runs) ≡ length runs = length-map runs length in
      let less = few (length past) (map length runs) (numbers runs s.each) (λ j. let same = once_each j runs in let one = s.once j in omega arith) in
      omega arith

  -- If they are as many, they are all.
  pub stand_for_all : (runs : List (List Event)) → StandIn past runs → length runs ≡ length past → IsPermutation runs (beginnings past)
  stand_for_all runs s many =
      let same : length (map length runs) ≡ length runs = length-map runs length in
      let all = all_numbers (length past) (map length runs) (numbers runs s.each) (λ j. let same = once_each j runs in let one = s.once j in omega arith) (same ∙ many) in
      subst (λ l. IsPermutation l (beginnings past)) (by_number runs s.each)
      (subst (λ l. IsPermutation (map (λ n. run_at n past) (map length runs)) l) (all_runs past)
      (IsPermutation-map (λ n. run_at n past) (map length runs) (down (length past)) all))
