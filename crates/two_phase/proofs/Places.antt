-- The votes of a ballot rise by guardian: where a search ends, and what a change at that place does.
use Rattle.std.proofs.Common.{◌≡◌, ℕ, zero, suc, ◌<◌, ◌≤◌, T, Bool, true, false, cond, ◌&&◌, ◌||◌, ◌==◌, [], ◌∷◌, length, get_or, set, Some, None, is_some, Result, Ok, Err, is_ok, IfOk, IfErr, refl, sym, ap, ◌∙◌, subst, arith}
use Rattle.std.specs.List.{insert}
use Rattle.std.specs.List.Sorted.{IsSearchInRange, IsBinarySearchResult, IsNonDecreasingBy}
use Rattle.std.specs.Ordering.{nat_cmp, ordering_index, is_lt, eq_by_cmp}
use Rattle.std.specs.declared.cmp.Ordering.{Ordering}
use Rattle.std.specs.declared.cmp.Ordering.TheVariants.{Less, Equal, Greater}
use Rattle.std.specs.Cmp.{nat_cmp_total}
use Rattle.std.specs.FinMap.Entries.{put, below_all, find-put, is_sorted-put}
use Rattle.std.proofs.lemmas.Bool.{eqb-true}
use Rattle.std.proofs.lemmas.Cmp.{ranked}
use Rattle.std.proofs.lemmas.List.{get_or_read}
use Rattle.std.proofs.lemmas.List.Sorted.{IsNonDecreasingBy-from_default}
use Rattle.std.proofs.lemmas.Bool.Decides.{nat_tests}
use Rattle.two_phase.specs.Votes.{AreRising, IsGapFor, IsVoteAt, Votes, vote_in, voter_at}
use Rattle.two_phase.specs.Ballots.{is_yes}

both_first : (a b : Bool) → T (a && b) → T a
both_first true b h = tt
both_first false b h = h

both_second : (a b : Bool) → T (a && b) → T b
both_second true b h = h
both_second false b h = absurd h

lt_from_is_lt : (x y : ℕ) (r : Ordering) → r ≡ nat_cmp x y → T (is_lt r) → x < y
lt_from_is_lt x y Less e h = ranked x y Less e
lt_from_is_lt x y Equal e h = absurd h
lt_from_is_lt x y Greater e h = absurd h

cmp_less : (x y : ℕ) → x < y → nat_cmp x y ≡ Less
cmp_less x y h = grind (arith, nat_tests)

cmp_equal : (x y : ℕ) → x ≡ y → nat_cmp x y ≡ Equal
cmp_equal x y h = grind (arith, nat_tests)

cmp_greater : (x y : ℕ) → y < x → nat_cmp x y ≡ Greater
cmp_greater x y h = grind (arith, nat_tests)

same_test : (g q : ℕ) → eq_by_cmp nat_cmp q g ≡ (g == q)
same_test g q = grind (arith, nat_tests)

-- ---- guardians that rise

voter_above : (x : ℕ) (votes : Votes) → T (below_all nat_cmp x votes) → (i : ℕ) → i < length votes → x < voter_at votes i
voter_above x [] h i l = absurd (omega arith)
voter_above x (v ∷ votes) h zero l = lt_from_is_lt x v.0 (nat_cmp x v.0) refl (both_first _ _ h)
voter_above x (v ∷ votes) h (suc i) l = voter_above x votes (both_second _ _ h) i (omega arith)

-- a guardian that stands later is greater
voters_rise : (votes : Votes) → AreRising votes → (i j : ℕ) → i < j → j < length votes → voter_at votes i < voter_at votes j
voters_rise [] s i j lt l = absurd (omega arith)
voters_rise (v ∷ votes) s i zero lt l = absurd (omega arith)
voters_rise (v ∷ votes) s zero (suc j) lt l = voter_above v.0 votes (both_first _ _ s) j (omega arith)
voters_rise (v ∷ votes) s (suc i) (suc j) lt l = voters_rise votes (both_second _ _ s) i j (omega arith) (omega arith)

rising_tail : (v : ℕ × Bool) (votes : Votes) → AreRising (v ∷ votes) → AreRising votes
rising_tail v votes s = both_second _ _ s

-- ---- a search

module _ (votes : Votes) (s : AreRising votes) (g : ℕ) where
  -- the comparisons with g rise, as a binary search asks
  comparisons_rise : IsNonDecreasingBy (λ v. ordering_index (nat_cmp v.0 g)) votes
  comparisons_rise = IsNonDecreasingBy-from_default (λ v. ordering_index (nat_cmp v.0 g)) votes (0, false) (λ i j le l.
      let rise : voter_at votes i ≤ voter_at votes j = grind (arith, voters_rise votes s i j, λ (same : i ≡ j). ap (voter_at votes) same) in
      grind (arith, nat_tests))

  -- it ends at the guardian's vote, or where that would go
  pub searched : (r : Result ℕ ℕ) → IsSearchInRange r (length votes) → IsBinarySearchResult (λ v. nat_cmp v.0 g) votes r
      → record { found : IfOk r (IsVoteAt votes g); absent : IfErr r (IsGapFor votes g) }
  searched (Ok at) in_range equal = record { found = record { in_range = in_range; same = ranked _ g _ (sym (equal (0, false))) }; absent = tt }
  searched (Err at) in_range parted = record {
    found = tt;
    absent = record {
      in_range = in_range;
      smaller_before = λ j lt. ranked _ g _ (sym ((parted comparisons_rise).0 j (0, false) (omega arith) lt));
      greater_after = λ j le lt. ranked _ g _ (sym ((parted comparisons_rise).1 j (0, false) le lt));
    };
  }

-- ---- a place

at_tail : (v : ℕ × Bool) (votes : Votes) (g i : ℕ) → IsVoteAt (v ∷ votes) g (suc i) → IsVoteAt votes g i
at_tail v votes g i here = record { in_range = omega (arith, here.in_range); same = here.same }

gap_tail : (v : ℕ × Bool) (votes : Votes) (g i : ℕ) → IsGapFor (v ∷ votes) g (suc i) → IsGapFor votes g i
gap_tail v votes g i gap = record {
  in_range = omega (arith, gap.in_range);
  smaller_before = λ j lt. gap.smaller_before (suc j) (omega arith);
  greater_after = λ j le lt. gap.greater_after (suc j) (omega arith) (omega arith);
}

-- the vote at its guardian's place
pub vote_found : (votes : Votes) (g i : ℕ) → AreRising votes → IsVoteAt votes g i → (d : ℕ × Bool) → vote_in votes g ≡ Some (get_or votes i d).1
vote_found [] g i s here d = absurd (omega (arith, here.in_range))
vote_found (v ∷ votes) g zero s here d = rw (cmp_equal g v.0 (sym here.same)) refl
vote_found (v ∷ votes) g (suc i) s here d =
    let later : v.0 < g = omega (arith, voters_rise (v ∷ votes) s 0 (suc i) (omega arith) here.in_range, here.same) in
    rw (cmp_greater g v.0 later) (vote_found votes g i (rising_tail v votes s) (at_tail v votes g i here) d)

-- a guardian that has a gap has no vote
pub vote_absent : (votes : Votes) (g i : ℕ) → IsGapFor votes g i → vote_in votes g ≡ None
vote_absent [] g i gap = refl
vote_absent (v ∷ votes) g zero gap =
    rw (cmp_less g v.0 (gap.greater_after 0 (omega arith) (omega arith)))
    (vote_absent votes g zero (record {
      in_range = omega arith;
      smaller_before = λ j lt. absurd (omega arith);
      greater_after = λ j le lt. gap.greater_after (suc j) (omega arith) (omega arith);
    }))
vote_absent (v ∷ votes) g (suc i) gap =
    rw (cmp_greater g v.0 (gap.smaller_before 0 (omega arith))) (vote_absent votes g i (gap_tail v votes g i gap))

-- a search tells whether the guardian voted
pub known_from_search : (votes : Votes) (g : ℕ) (r : Result ℕ ℕ) → AreRising votes → IfOk r (IsVoteAt votes g) → IfErr r (IsGapFor votes g)
    → is_ok r ≡ is_some (vote_in votes g)
known_from_search votes g (Ok i) s found absent = ap is_some (sym (vote_found votes g i s found (0, false)))
known_from_search votes g (Err i) s found absent = ap is_some (sym (vote_absent votes g i absent))

-- a vote is written over
pub put_found : (votes : Votes) (g i : ℕ) (w : Bool) → AreRising votes → IsVoteAt votes g i → put nat_cmp g w votes ≡ set votes i (g, w)
put_found [] g i w s here = absurd (omega (arith, here.in_range))
put_found (v ∷ votes) g zero w s here = rw (cmp_equal g v.0 (sym here.same)) (ap (λ k. (k, w) ∷ votes) here.same)
put_found (v ∷ votes) g (suc i) w s here =
    let later : v.0 < g = omega (arith, voters_rise (v ∷ votes) s 0 (suc i) (omega arith) here.in_range, here.same) in
    rw (cmp_greater g v.0 later) (ap (λ t. v ∷ t) (put_found votes g i w (rising_tail v votes s) (at_tail v votes g i here)))

-- a first vote goes into the gap
pub put_absent : (votes : Votes) (g i : ℕ) (w : Bool) → IsGapFor votes g i → put nat_cmp g w votes ≡ insert votes i (g, w)
put_absent [] g zero w gap = refl
put_absent [] g (suc i) w gap = absurd (omega (arith, gap.in_range))
put_absent (v ∷ votes) g zero w gap = rw (cmp_less g v.0 (gap.greater_after 0 (omega arith) (omega arith))) refl
put_absent (v ∷ votes) g (suc i) w gap =
    rw (cmp_greater g v.0 (gap.smaller_before 0 (omega arith))) (ap (λ t. v ∷ t) (put_absent votes g i w (gap_tail v votes g i gap)))

pub rising_put : (votes : Votes) (g : ℕ) (w : Bool) → AreRising votes → AreRising (put nat_cmp g w votes)
rising_put votes g w s = is_sorted-put nat_cmp nat_cmp_total g w votes s

-- the guardians rise also then
pub rising_set : (votes : Votes) (g i : ℕ) (w : Bool) (old : ℕ × Bool) → AreRising votes → IsVoteAt votes g i → old ≡ get_or votes i old
    → AreRising (set votes i (old.0, w))
rising_set votes g i w old s here read =
    let own : old.0 ≡ g = ap (λ (x : ℕ × Bool). x.0) (get_or_read votes i old here.in_range read (0, false)) ∙ here.same in
    subst AreRising (put_found votes g i w s here ∙ ap (λ n. set votes i (n, w)) (sym own)) (rising_put votes g w s)

pub rising_tried : (votes new : Votes) (g i : ℕ) (w ok : Bool) → AreRising votes → IsGapFor votes g i → new ≡ cond ok (insert votes i (g, w)) votes → AreRising new
rising_tried votes new g i w true s gap is = subst AreRising (put_absent votes g i w gap ∙ sym is) (rising_put votes g w s)
rising_tried votes new g i w false s gap is = subst AreRising (sym is) s

-- who has which vote then
pub vote_put : (votes : Votes) (g q : ℕ) (w : Bool) → vote_in (put nat_cmp g w votes) q ≡ cond (g == q) (Some w) (vote_in votes q)
vote_put votes g q w = find-put nat_cmp nat_cmp_total q g w votes ∙ ap (λ t. cond t (Some w) (vote_in votes q)) (same_test g q)

-- a vote that is there already changes nothing
pub vote_kept : (votes : Votes) (g q : ℕ) (own : Bool) → vote_in votes g ≡ Some own → vote_in votes q ≡ cond (g == q) (Some own) (vote_in votes q)
vote_kept votes g q own e = by_case (g == q) refl where
  by_case : (t : Bool) → (g == q) ≡ t → vote_in votes q ≡ cond t (Some own) (vote_in votes q)
  by_case true same = ap (vote_in votes) (sym (eqb-true g q same)) ∙ e
  by_case false other = refl

-- what is noted once a guardian that voted votes again: with yes its vote is one, and with no it stays
pub noted_yes : (votes : Votes) (g i : ℕ) (v : Bool) (old : ℕ × Bool) → AreRising votes → IsVoteAt votes g i → old ≡ get_or votes i old → v ≡ true
    → set votes i (old.0, true) ≡ put nat_cmp g (v || is_yes (vote_in votes g)) votes
noted_yes votes g i v old s here read agrees =
    let own : old.0 ≡ g = ap (λ (x : ℕ × Bool). x.0) (get_or_read votes i old here.in_range read (0, false)) ∙ here.same in
    ap (λ n. set votes i (n, true)) own ∙ sym (put_found votes g i true s here) ∙ ap (λ b. put nat_cmp g (b || is_yes (vote_in votes g)) votes) (sym agrees)

pub noted_no : (votes : Votes) (g i q : ℕ) (v : Bool) → AreRising votes → IsVoteAt votes g i → v ≡ false
    → vote_in votes q ≡ cond (g == q) (Some (v || is_yes (vote_in votes g))) (vote_in votes q)
noted_no votes g i q v s here refuses =
    let found = vote_found votes g i s here (0, false) in
    vote_kept votes g q (get_or votes i (0, false)).1 found
    ∙ ap (λ b. cond (g == q) (Some b) (vote_in votes q)) (ap is_yes (sym found)) ∙ ap (λ b. cond (g == q) (Some (b || is_yes (vote_in votes g))) (vote_in votes q)) (sym refuses)

-- and once a guardian votes for the first time
pub noted_first : (votes : Votes) (g i : ℕ) (v : Bool) → IsGapFor votes g i → insert votes i (g, v) ≡ put nat_cmp g (v || is_yes (vote_in votes g)) votes
noted_first votes g i v gap =
    sym (put_absent votes g i v gap) ∙ ap (λ b. put nat_cmp g b votes) (alone v ∙ ap (λ o. v || is_yes o) (sym (vote_absent votes g i gap))) where
      alone : (b : Bool) → b ≡ b || false
      alone true = refl
      alone false = refl
