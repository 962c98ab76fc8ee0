-- Entries of dependencies: where a search by guardian ends, and what a change at that place does.
use Rattle.std.proofs.Common.{◌≡◌, ℕ, List, zero, suc, ◌+◌, ◌-◌, ◌⊎◌, inl, inr, ◌<◌, ◌≤◌, T, Bool, true, false, cond, not, ◌&&◌, [], ◌∷◌, length, get_or, set, drop, Option, Some, None, is_some, IsSome, Result, Ok, Err, is_ok, IfOk, IfErr, refl, sym, ap, ◌∙◌, arith}
use Rattle.std.specs.List.{insert, refill, slice_get}
use Rattle.std.specs.List.Sorted.{IsSearchInRange, IsBinarySearchResult, IsNonDecreasingBy}
use Rattle.std.specs.Ordering.{nat_cmp, ordering_index, is_lt, is_eq, eq_by_cmp}
use Rattle.std.specs.declared.cmp.Ordering.{Ordering}
use Rattle.std.specs.declared.cmp.Ordering.TheVariants.{Less, Equal, Greater}
use Rattle.std.specs.Cmp.{nat_cmp_total}
use Rattle.std.specs.FinMap as map
use Rattle.std.specs.FinMap.Entries.{put, below_all, find-put, length-put, is_sorted-put}
use Rattle.std.proofs.lemmas.Bool.{cases_eq}
use Rattle.std.proofs.lemmas.Cmp.{ranked}
use Rattle.std.proofs.lemmas.List.{take-append-le, take_all}
use Rattle.std.proofs.lemmas.List.Sorted.{IsNonDecreasingBy-from_default}
use Rattle.std.proofs.lemmas.List.Sums.{sum_by-cons}
use Rattle.std.proofs.lemmas.Bool.Decides.{nat_tests}
use Rattle.action_names.specs.Deps.{lesser, lowered, Entries, IsRising, least_at, with_least, count_new, guardian_at, IsAt, IsGapFor}

-- ---- comparisons
both_first : (a b : Bool) → T (a && b) → T a
both_first true b h = tt
both_first false b h = h

both_second : (a b : Bool) → T (a && b) → T b
both_second true b h = h
both_second false b h = absurd h

lt_from_is_lt : (x y : ℕ) (r : Ordering) → r ≡ nat_cmp x y → T (is_lt r) → x < y
lt_from_is_lt x y Less e h = ranked x y Less e
lt_from_is_lt x y Equal e h = absurd h
lt_from_is_lt x y Greater e h = absurd h

cmp_less : (x y : ℕ) → x < y → nat_cmp x y ≡ Less
cmp_less x y h = grind (arith, nat_tests)

cmp_equal : (x y : ℕ) → x ≡ y → nat_cmp x y ≡ Equal
cmp_equal x y h = grind (arith, nat_tests)

cmp_greater : (x y : ℕ) → y < x → nat_cmp x y ≡ Greater
cmp_greater x y h = grind (arith, nat_tests)

-- ---- guardians that rise
guardian_above : (x : ℕ) (es : Entries) → T (below_all nat_cmp x es) → (i : ℕ) → i < length es → x < guardian_at es i
guardian_above x [] h i l = absurd (omega arith)
guardian_above x (e ∷ es) h zero l = lt_from_is_lt x e.0 (nat_cmp x e.0) refl (both_first _ _ h)
guardian_above x (e ∷ es) h (suc i) l = guardian_above x es (both_second _ _ h) i (omega arith)

-- a guardian that stands later is greater
guardians_rise : (es : Entries) → IsRising es → (i j : ℕ) → i < j → j < length es → guardian_at es i < guardian_at es j
guardians_rise [] s i j lt l = absurd (omega arith)
guardians_rise (e ∷ es) s i zero lt l = absurd (omega arith)
guardians_rise (e ∷ es) s zero (suc j) lt l = guardian_above e.0 es (both_first _ _ s) j (omega arith)
guardians_rise (e ∷ es) s (suc i) (suc j) lt l = guardians_rise es (both_second _ _ s) i j (omega arith) (omega arith)

rising_tail : (e : ℕ × ℕ) (es : Entries) → IsRising (e ∷ es) → IsRising es
rising_tail e es s = both_second _ _ s

-- what is left of rising entries rises
pub rising_drop : (es : Entries) (i : ℕ) → IsRising es → IsRising (drop i es)
rising_drop es zero s = s
rising_drop [] (suc i) s = s
rising_drop (e ∷ es) (suc i) s = rising_drop es i (rising_tail e es s)

-- ---- a search
module _ (es : Entries) (s : IsRising es) (g : ℕ) where
  -- the comparisons with g rise, as a binary search asks
  comparisons_rise : IsNonDecreasingBy (λ e. ordering_index (nat_cmp e.0 g)) es
  comparisons_rise = IsNonDecreasingBy-from_default (λ e. ordering_index (nat_cmp e.0 g)) es (0, 0) (λ i j le l.
      let rise : guardian_at es i ≤ guardian_at es j = grind (arith, guardians_rise es s i j, λ (same : i ≡ j). ap (guardian_at es) same) in
      grind (arith, nat_tests))

  -- it ends at the guardian's entry, or where that would go
  pub searched : (r : Result ℕ ℕ) → IsSearchInRange r (length es) → IsBinarySearchResult (λ e. nat_cmp e.0 g) es r → record { found : IfOk r (IsAt es g); absent : IfErr r (IsGapFor es g) }
  searched (Ok at) in_range equal = record { found = record { in_range = in_range; same = ranked _ g _ (sym (equal (0, 0))) }; absent = tt }
  searched (Err at) in_range parted = record {
    found = tt;
    absent = record {
      in_range = in_range;
      smaller_before = λ j lt. ranked _ g _ (sym ((parted comparisons_rise).0 j (0, 0) (omega arith) lt));
      greater_after = λ j le lt. ranked _ g _ (sym ((parted comparisons_rise).1 j (0, 0) le lt));
    };
  }

-- the guardian of the entry that a list shows at a place
shown_at : (es : Entries) (i : ℕ) (e : ℕ × ℕ) → Some e ≡ slice_get es i → guardian_at es i ≡ e.0
shown_at [] i e h = absurd (cc)
shown_at (x ∷ es) zero e h = ap (λ o. guardian_or o e.0) (sym h)
  where
    guardian_or : Option (ℕ × ℕ) → ℕ → ℕ
    guardian_or None d = d
    guardian_or (Some y) d = y.0
shown_at (x ∷ es) (suc i) e h = shown_at es i e h

-- a guardian greater than the last comes after all
pub past_last : (es : Entries) (g : ℕ) (e : ℕ × ℕ) → IsRising es → Some e ≡ slice_get es (length es - 1) → e.0 < g → IsGapFor es g (length es)
past_last es g e rises last less = record {
  in_range = omega arith;
  smaller_before = λ j lt. of j lt (cases_eq j (length es - 1));
  greater_after = λ j le lt. absurd (omega arith);
}
  where
    greatest : guardian_at es (length es - 1) ≡ e.0
    greatest = shown_at es (length es - 1) e last

    of : (j : ℕ) → j < length es → ((j ≡ length es - 1) ⊎ (j ≡ length es - 1 → ⊥)) → guardian_at es j < g
    of j lt (inl same) = rw (same, greatest) less
    of j lt (inr other) =
        let below : guardian_at es j < guardian_at es (length es - 1) = guardians_rise es rises j (length es - 1) (omega arith) (omega arith) in
        omega (arith, below, greatest, less)

-- ---- a place
at_tail : (e : ℕ × ℕ) (es : Entries) (g i : ℕ) → IsAt (e ∷ es) g (suc i) → IsAt es g i
at_tail e es g i at = record { in_range = omega (arith, at.in_range); same = at.same }

gap_tail : (e : ℕ × ℕ) (es : Entries) (g i : ℕ) → IsGapFor (e ∷ es) g (suc i) → IsGapFor es g i
gap_tail e es g i gap = record {
  in_range = omega (arith, gap.in_range);
  smaller_before = λ j lt. gap.smaller_before (suc j) (omega arith);
  greater_after = λ j le lt. gap.greater_after (suc j) (omega arith) (omega arith);
}

-- the guardian at a place has that entry
pub least_at-found : (es : Entries) (g i : ℕ) → IsRising es → IsAt es g i → (d : ℕ × ℕ) → least_at es g ≡ Some (get_or es i d).1
least_at-found [] g i s at d = absurd (omega (arith, at.in_range))
least_at-found (e ∷ es) g zero s at d = rw (cmp_equal g e.0 (sym at.same)) refl
least_at-found (e ∷ es) g (suc i) s at d =
    let later : e.0 < g = omega (arith, guardians_rise (e ∷ es) s 0 (suc i) (omega arith) at.in_range, at.same) in
    rw (cmp_greater g e.0 later) (least_at-found es g i (rising_tail e es s) (at_tail e es g i at) d)

-- a guardian that has a gap has no entry
pub least_at-absent : (es : Entries) (g i : ℕ) → IsGapFor es g i → least_at es g ≡ None
least_at-absent [] g i gap = refl
least_at-absent (e ∷ es) g zero gap =
    rw (cmp_less g e.0 (gap.greater_after 0 (omega arith) (omega arith)))
    (least_at-absent es g zero (record {
      in_range = omega arith;
      smaller_before = λ j lt. absurd (omega arith);
      greater_after = λ j le lt. gap.greater_after (suc j) (omega arith) (omega arith);
    }))
least_at-absent (e ∷ es) g (suc i) gap =
    rw (cmp_greater g e.0 (gap.smaller_before 0 (omega arith))) (least_at-absent es g i (gap_tail e es g i gap))

-- a new least incarnation is written over the entry
pub with_least-found : (es : Entries) (g n i : ℕ) → IsRising es → IsAt es g i → with_least es g n ≡ set es i (g, n)
with_least-found [] g n i s at = absurd (omega (arith, at.in_range))
with_least-found (e ∷ es) g n zero s at = rw (cmp_equal g e.0 (sym at.same)) (ap (λ k. (k, n) ∷ es) at.same)
with_least-found (e ∷ es) g n (suc i) s at =
    let later : e.0 < g = omega (arith, guardians_rise (e ∷ es) s 0 (suc i) (omega arith) at.in_range, at.same) in
    rw (cmp_greater g e.0 later) (ap (λ t. e ∷ t) (with_least-found es g n i (rising_tail e es s) (at_tail e es g i at)))

-- a new guardian's entry goes into the gap
pub with_least-absent : (es : Entries) (g n i : ℕ) → IsGapFor es g i → with_least es g n ≡ insert es i (g, n)
with_least-absent [] g n zero gap = refl
with_least-absent [] g n (suc i) gap = absurd (omega (arith, gap.in_range))
with_least-absent (e ∷ es) g n zero gap = rw (cmp_less g e.0 (gap.greater_after 0 (omega arith) (omega arith))) refl
with_least-absent (e ∷ es) g n (suc i) gap =
    rw (cmp_greater g e.0 (gap.smaller_before 0 (omega arith))) (ap (λ t. e ∷ t) (with_least-absent es g n i (gap_tail e es g i gap)))

-- a search tells whether the guardian has an entry
pub known_from_search : (es : Entries) (g : ℕ) (r : Result ℕ ℕ) → IsRising es → IfOk r (IsAt es g) → IfErr r (IsGapFor es g) → is_ok r ≡ is_some (least_at es g)
known_from_search es g (Ok i) s found absent = ap is_some (sym (least_at-found es g i s found (0, 0)))
known_from_search es g (Err i) s found absent = ap is_some (sym (least_at-absent es g i absent))

-- a list that is written over by one of its own length is that one
pub refill_same : {X : Type 0} (xs ws : List X) → length ws ≡ length xs → refill (length xs) xs ws ≡ ws
refill_same xs ws same =
    take-append-le (length xs) ws (drop (length ws) xs) (omega (arith, same)) ∙ take_all (length xs) ws (omega (arith, same))

-- ---- a new least incarnation
least_at-with_least : (es : Entries) (g n q : ℕ) → least_at (with_least es g n) q ≡ cond (eq_by_cmp nat_cmp q g) (Some n) (least_at es q)
least_at-with_least es g n q = find-put nat_cmp nat_cmp_total q g n es

pub rising_with_least : (es : Entries) (g n : ℕ) → IsRising es → IsRising (with_least es g n)
rising_with_least es g n s = is_sorted-put nat_cmp nat_cmp_total g n es s

-- the same, said of maps
pub insert-from_sorted : (es : Entries) (g n : ℕ) → IsRising es → map.from_sorted {R = nat_cmp} (with_least es g n) ≡ map.insert (map.from_sorted es) g n
insert-from_sorted es g n s =
    map.same_entries_map _ _ (map.entries-from_sorted nat_cmp (with_least es g n) (rising_with_least es g n s)
    ∙ ap (put nat_cmp g n) (sym (map.entries-from_sorted nat_cmp es s))
    ∙ sym (map.entries-insert nat_cmp_total (map.from_sorted es) g n))

-- ---- a merge
-- a guardian below all of the rest has no entry there
least_at-below : (x : ℕ) (es : Entries) → T (below_all nat_cmp x es) → least_at es x ≡ None
least_at-below x [] h = refl
least_at-below x (e ∷ es) h = rw (cmp_less x e.0 (lt_from_is_lt x e.0 (nat_cmp x e.0) refl (both_first _ _ h))) (least_at-below x es (both_second _ _ h))

lesser_lowered : (d : Option ℕ) (n : ℕ) → Some (lowered d n) ≡ lesser d (Some n)
lesser_lowered None n = refl
lesser_lowered (Some m) n = refl

-- one entry of the others is taken in, and those after it are left
pub merge_step : (es : Entries) (e : ℕ × ℕ) (rest : Entries) → IsRising (e ∷ rest) → (q : ℕ) → lesser (least_at (with_least es e.0 (lowered (least_at es e.0) e.1)) q) (least_at rest q) ≡ lesser (least_at es q) (least_at (e ∷ rest) q)
merge_step es e rest s q = rw (least_at-with_least es e.0 (lowered (least_at es e.0) e.1) q) (by_cmp (nat_cmp q e.0) refl)
  where
    by_cmp : (r : Ordering) → nat_cmp q e.0 ≡ r → lesser (cond (is_eq r) (Some (lowered (least_at es e.0) e.1)) (least_at es q)) (least_at rest q) ≡ lesser (least_at es q) (cond (is_eq r) (Some e.1) (least_at rest q))
    by_cmp Less is = refl
    by_cmp Greater is = refl
    by_cmp Equal is =
        let same : q ≡ e.0 = map.nat_cmp-IsAntisymmetric q e.0 is in
        rw (same, least_at-below e.0 rest (both_first _ _ s)) (lesser_lowered (least_at es e.0) e.1)

-- an entry counts where its guardian is new
pub count_new-cons : (es : Entries) (e : ℕ × ℕ) (rest : Entries) → count_new es (e ∷ rest) ≡ cond (not (is_some (least_at es e.0))) 1 0 + count_new es rest
count_new-cons es e rest = sum_by-cons (λ x. cond (not (is_some (least_at es x.0))) 1 0) e rest

-- a guardian that is known stays known
still_known : (es : Entries) (g n q : ℕ) → cond (not (is_some (least_at (with_least es g n) q))) 1 0 ≤ cond (not (is_some (least_at es q))) 1 0
still_known es g n q =
    rw (least_at-with_least es g n q)
    (elim (eq_by_cmp nat_cmp q g) as (λ b. cond (not (is_some (cond b (Some n) (least_at es q)))) 1 0 ≤ cond (not (is_some (least_at es q))) 1 0) [ true ↦ omega arith | false ↦ omega arith ])

count_new-with_least : (es : Entries) (g n : ℕ) (others : Entries) → count_new (with_least es g n) others ≤ count_new es others
count_new-with_least es g n [] = omega arith
count_new-with_least es g n (e ∷ others) =
    omega (arith, count_new-cons (with_least es g n) e others, count_new-cons es e others, still_known es g n e.0, count_new-with_least es g n others)

one_place : (b : Bool) (n : ℕ) → cond b n (n + 1) ≡ n + cond (not b) 1 0
one_place true n = omega arith
one_place false n = omega arith

-- an entry of the others takes a place only if its guardian is new
pub places_step : (es : Entries) (e : ℕ × ℕ) (rest : Entries) → IsRising es → (n : ℕ) → length (with_least es e.0 n) + count_new (with_least es e.0 n) rest ≤ length es + count_new es (e ∷ rest)
places_step es e rest s n =
    omega (arith, length-put nat_cmp nat_cmp_total e.0 n es s, one_place (is_some (least_at es e.0)) (length es), count_new-cons es e rest, count_new-with_least es e.0 n rest)

-- no place is counted where each guardian is known
pub count_new-known : (es others : Entries) → ((g : ℕ) → IsSome (least_at others g) → IsSome (least_at es g)) → count_new es others ≡ 0
count_new-known es [] known = refl
count_new-known es (e ∷ others) known =
    let none : cond {A = ℕ} (not (is_some (least_at es e.0))) 1 0 ≡ 0 = ap (λ b. cond (not b) 1 0) (known e.0 (rw (cmp_equal e.0 e.0 refl) refl)) in
    omega (arith, count_new-cons es e others, count_new-known es others (λ g some. known g (also g some)))
  where
    also : (g : ℕ) → IsSome (least_at others g) → IsSome (least_at (e ∷ others) g)
    also g some = elim (eq_by_cmp nat_cmp g e.0) as (λ b. IsSome (cond b (Some e.1) (least_at others g))) [ true ↦ refl | false ↦ some ]

-- ---- the map of rising entries
pub entries_of : (es : Entries) → IsRising es → map.entries (map.from_sorted {R = nat_cmp} es) ≡ es
entries_of es s = map.entries-from_sorted nat_cmp es s

pub len_of : (es : Entries) → IsRising es → map.len (map.from_sorted {R = nat_cmp} es) ≡ length es
len_of es s = map.len-entries (map.from_sorted es) ∙ ap length (entries_of es s)

pub get_of : (es : Entries) (g : ℕ) → IsRising es → map.get (map.from_sorted {R = nat_cmp} es) g ≡ least_at es g
get_of es g s = map.get-from_sorted nat_cmp es g s

pub empty_of : let none : map.FinMap nat_cmp ℕ = map.from_sorted [] in none ≡ map.empty
empty_of = map.empty_of_len (map.from_sorted []) (len_of [] tt)
