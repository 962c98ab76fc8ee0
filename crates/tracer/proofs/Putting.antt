-- Putting the events of a run behind the histories that have them.
use Rattle.std.proofs.Common.{Vec, Global, ◌≡◌, ℕ, zero, suc, ◌+◌, ◌<◌, ◌≤◌, Bool, true, false, cond, ◌&&◌, ◌||◌, List, [], ◌∷◌, ◌++◌, length, get_or, set, remove, map, take, reverse, replicate, eq-eqb, refl, sym, ap, subst, ◌∙◌, arith}
use Rattle.std.specs.Prelude.{◌==◌, option_map}
use Rattle.std.proofs.lemmas.Bool.{eqb-true, ne_eqb, true≢false}
use Rattle.std.proofs.lemmas.Bool.Decides.{nat_tests}
use Rattle.std.proofs.lemmas.List.{length-map, length-take, reverse-append, same_lists, take_all, take_more}
use Rattle.std.proofs.lemmas.Option.{get_or_from_slice_get}
use Rattle.run_model.specs.declared.history.Event.{Event}
use Rattle.run_model.specs.Lists.{guardians_of}
use Rattle.run_model.specs.LocalHistories.{Stamped, names_guardian, takes_registry}
use Rattle.run_model.specs.Openings.{Opening}
use Rattle.traces.specs.Traces.{lists_of}
use Rattle.traces.proofs.Kept.{put_one}
use Rattle.tracer.specs.declared.homes.Homes.{Homes}
use Rattle.tracer.specs.Homes.{AreHomes}
use Rattle.tracer.specs.Leaving.{IsKept, has_event, histories_of, left_at, put_behind}
use Rattle.tracer.proofs.Left.{get_map, get_up, guardian_is, passing, registry_is, up_count}

-- ---- one history

behind_past : (n : ℕ) (c : Stamped) (hs : List (List Stamped)) → length hs ≤ n → put_behind n c hs ≡ hs
behind_past n c [] past = refl
behind_past zero c (h ∷ hs) past = absurd (none past)
  where
    none : suc (length hs) ≤ 0 → ⊥
    none le = omega (arith, le)
behind_past (suc n) c (h ∷ hs) past = ap (λ (ls : List (List Stamped)). h ∷ ls) (behind_past n c hs (omega (arith, past)))

behind_set : (n : ℕ) (c : Stamped) (hs : List (List Stamped)) → n < length hs → put_behind n c hs ≡ set hs n (get_or hs n [] ++ c ∷ [])
behind_set n c [] lt = absurd (none lt)
  where
    none : n < 0 → ⊥
    none lt = omega (arith, lt)
behind_set zero c (h ∷ hs) lt = refl
behind_set (suc n) c (h ∷ hs) lt = ap (λ (ls : List (List Stamped)). h ∷ ls) (behind_set n c hs (omega (arith, lt)))

-- the history that a vector holds there has one event more
pub put_there : (vs : List (Vec Stamped Global)) (i : ℕ) (at new : Vec Stamped Global) (c : Stamped) → i < length vs → at ≡ get_or vs i at
    → new.items ≡ at.items ++ c ∷ [] → lists_of (set vs i new) ≡ put_behind i c (lists_of vs)
put_there vs i at new c lt is pushed =
    put_one vs i at new c lt is pushed
    ∙ sym (behind_set i c (lists_of vs) (subst (λ (n : ℕ). i < n) (sym (length-map vs (λ (v : Vec Stamped Global). v.items))) lt))

-- there is none
pub put_nowhere : (vs : List (Vec Stamped Global)) (i : ℕ) (c : Stamped) → length vs ≤ i → lists_of vs ≡ put_behind i c (lists_of vs)
put_nowhere vs i c past =
    sym (behind_past i c (lists_of vs) (subst (λ (n : ℕ). n ≤ i) (sym (length-map vs (λ (v : Vec Stamped Global). v.items))) past))

behind_count : (n : ℕ) (c : Stamped) (hs : List (List Stamped)) → length (put_behind n c hs) ≡ length hs
behind_count n c [] = refl
behind_count zero c (h ∷ hs) = refl
behind_count (suc n) c (h ∷ hs) = ap suc (behind_count n c hs)

-- one event more, if the test says so
abbrev more : Bool → Stamped → List Stamped → List Stamped
more b c xs = cond b (xs ++ c ∷ []) xs

behind_index : (n k : ℕ) (c : Stamped) (hs : List (List Stamped)) → k < length hs → get_or (put_behind n c hs) k [] ≡ more (n == k) c (get_or hs k [])
behind_index n k c [] lt = absurd (none lt)
  where
    none : k < 0 → ⊥
    none lt = omega (arith, lt)
behind_index zero zero c (h ∷ hs) lt = sym (ap (λ (b : Bool). more b c h) (eq-eqb 0 0 refl))
behind_index zero (suc k) c (h ∷ hs) lt = sym (ap (λ (b : Bool). more b c (get_or hs k [])) (ne_eqb 0 (suc k) (λ e. omega (arith, e))))
behind_index (suc n) zero c (h ∷ hs) lt = sym (ap (λ (b : Bool). more b c h) (ne_eqb (suc n) 0 (λ e. omega (arith, e))))
behind_index (suc n) (suc k) c (h ∷ hs) lt = behind_index n k c hs (omega (arith, lt)) ∙ ap (λ (b : Bool). more b c (get_or hs k [])) (same_next n k)
  where
    same_next : (m j : ℕ) → (m == j) ≡ (suc m == suc j)
    same_next m j = grind (arith, nat_tests)

-- ---- the histories of one event

-- behind the registry's
first_index : (k : ℕ) (t : Bool) (c : Stamped) (old new : List (List Stamped)) → new ≡ cond t (put_behind 0 c old) old → k < length old
    → get_or new k [] ≡ more (t && (0 == k)) c (get_or old k [])
first_index k true c old new is lt = ap (λ (hs : List (List Stamped)). get_or hs k []) is ∙ behind_index 0 k c old lt
first_index k false c old new is lt = ap (λ (hs : List (List Stamped)). get_or hs k []) is

first_count : (t : Bool) (c : Stamped) (old new : List (List Stamped)) → new ≡ cond t (put_behind 0 c old) old → length new ≡ length old
first_count true c old new is = ap length is ∙ behind_count 0 c old
first_count false c old new is = ap length is

-- behind a guardian's; 0 is no guardian
next_count : (n : ℕ) (c : Stamped) (old new : List (List Stamped)) → new ≡ cond (n == 0) old (put_behind n c old) → length new ≡ length old
next_count n c old new is = ap length is ∙ go (n == 0)
  where
    go : (b : Bool) → length (cond b old (put_behind n c old)) ≡ length old
    go true = refl
    go false = behind_count n c old

next_registry : (n : ℕ) (c : Stamped) (old new : List (List Stamped)) → new ≡ cond (n == 0) old (put_behind n c old) → 0 < length old
    → get_or new 0 [] ≡ get_or old 0 []
next_registry n c old new is lt = ap (λ (hs : List (List Stamped)). get_or hs 0 []) is ∙ go (n == 0) refl
  where
    go : (b : Bool) → (n == 0) ≡ b → get_or (cond b old (put_behind n c old)) 0 [] ≡ get_or old 0 []
    go true is = refl
    go false is = behind_index n 0 c old lt ∙ ap (λ (b : Bool). more b c (get_or old 0 [])) is

next_guardian : (n g : ℕ) (c : Stamped) (old new : List (List Stamped)) → new ≡ cond (n == 0) old (put_behind n c old) → suc g < length old
    → get_or new (suc g) [] ≡ more (n == suc g) c (get_or old (suc g) [])
next_guardian n g c old new is lt = ap (λ (hs : List (List Stamped)). get_or hs (suc g) []) is ∙ go (n == 0) refl
  where
    go : (b : Bool) → (n == 0) ≡ b → get_or (cond b old (put_behind n c old)) (suc g) [] ≡ more (n == suc g) c (get_or old (suc g) [])
    go false other = behind_index n (suc g) c old lt
    go true same =
        let nobody : n ≡ 0 = eqb-true n 0 same in
        sym (ap (λ (b : Bool). more b c (get_or old (suc g) [])) (ne_eqb n (suc g) (λ e. omega (arith, nobody, e))))

and_false : (t : Bool) → (t && false) ≡ false
and_false true = refl
and_false false = refl

and_true : (t : Bool) → (t && true) ≡ t
and_true true = refl
and_true false = refl

module _ (past : List Event) (c : Stamped) (one other : ℕ) (named : (g : ℕ) → names_guardian c.1.step past g ≡ ((one == g) || (other == g)))
    (old first second : List (List Stamped)) (put : first ≡ cond (takes_registry c.1.step) (put_behind 0 c old) old)
    (at_one : second ≡ cond (one == 0) first (put_behind one c first)) where
  first_long : length first ≡ length old
  first_long = first_count (takes_registry c.1.step) c old first put

  second_long : length second ≡ length old
  second_long = next_count one c first second at_one ∙ first_long

  second_registry : 0 < length old → get_or second 0 [] ≡ more (takes_registry c.1.step) c (get_or old 0 [])
  second_registry lt =
      next_registry one c first second at_one (subst (λ (n : ℕ). 0 < n) (sym first_long) lt)
      ∙ first_index 0 (takes_registry c.1.step) c old first put lt
      ∙ ap (λ (b : Bool). more (takes_registry c.1.step && b) c (get_or old 0 [])) (eq-eqb 0 0 refl)
      ∙ ap (λ (b : Bool). more b c (get_or old 0 [])) (and_true (takes_registry c.1.step))

  second_guardian : (g : ℕ) → suc g < length old → get_or second (suc g) [] ≡ more (one == suc g) c (get_or old (suc g) [])
  second_guardian g lt =
      next_guardian one g c first second at_one (subst (λ (n : ℕ). suc g < n) (sym first_long) lt)
      ∙ ap (λ (xs : List Stamped). more (one == suc g) c xs) (first_index (suc g) (takes_registry c.1.step) c old first put lt
      ∙ ap (λ (b : Bool). more (takes_registry c.1.step && b) c (get_or old (suc g) [])) (ne_eqb 0 (suc g) (λ e. omega (arith, e)))
      ∙ ap (λ (b : Bool). more b c (get_or old (suc g) [])) (and_false (takes_registry c.1.step)))

  -- the two guardians are one
  pub kept_at_one : (one == other) ≡ true → IsKept past c old second
  kept_at_one same = record { count = second_long; each = each }
    where
      or_same : (b : Bool) → b ≡ (b || b)
      or_same true = refl
      or_same false = refl

      each : (h : ℕ) → h < length old → get_or second h [] ≡ more (has_event h c.1.step past) c (get_or old h [])
      each zero lt = second_registry lt
      each (suc g) lt =
          second_guardian g lt
          ∙ ap (λ (b : Bool). more b c (get_or old (suc g) []))
          (or_same (one == suc g) ∙ ap (λ (n : ℕ). (one == suc g) || (n == suc g)) (eqb-true one other same) ∙ sym (named (suc g)))

  pub kept_at_both : (third : List (List Stamped)) → third ≡ cond (other == 0) second (put_behind other c second) → (one == other) ≡ false → IsKept past c old third
  kept_at_both third at_other differ = record { count = next_count other c second third at_other ∙ second_long; each = each }
    where
      -- not behind both
      or_one : (g : ℕ) (a b : Bool) → (one == suc g) ≡ a → (other == suc g) ≡ b → (xs : List Stamped) → more b c (more a c xs) ≡ more (a || b) c xs
      or_one g false b first second xs = refl
      or_one g true false first second xs = refl
      or_one g true true first second xs =
          absurd (true≢false (sym (eq-eqb one other (eqb-true one (suc g) first ∙ sym (eqb-true other (suc g) second))) ∙ differ))

      each : (h : ℕ) → h < length old → get_or third h [] ≡ more (has_event h c.1.step past) c (get_or old h [])
      each zero lt = next_registry other c second third at_other (subst (λ (n : ℕ). 0 < n) (sym second_long) lt) ∙ second_registry lt
      each (suc g) lt =
          next_guardian other g c second third at_other (subst (λ (n : ℕ). suc g < n) (sym second_long) lt)
          ∙ ap (λ (xs : List Stamped). more (other == suc g) c xs) (second_guardian g lt)
          ∙ or_one g (one == suc g) (other == suc g) refl refl (get_or old (suc g) [])
          ∙ ap (λ (b : Bool). more b c (get_or old (suc g) [])) (sym (named (suc g)))

-- ---- the histories of all events so far

-- what the history of this number has of a past
abbrev pub kept_of : ℕ → List Event → List Stamped
kept_of h past = passing (λ step before. has_event h step before) past

-- the histories are those of the past, for the registry and for so many guardians; the homes are known
pub record AreKeptTo (count : ℕ) (past : List Event) (homes : Homes) (hs : List (List Stamped)) : Type 0 where
  pub known : AreHomes homes past
  pub long : length hs ≡ count + 1
  pub each : (h : ℕ) → h < length hs → get_or hs h [] ≡ kept_of h past

-- so many histories without events
abbrev empty : ℕ → List (List Stamped)
empty n = replicate n []

length_empty : (n : ℕ) → length (empty n) ≡ n
length_empty zero = refl
length_empty (suc n) = ap suc (length_empty n)

get_empty : (n h : ℕ) → get_or (empty n) h [] ≡ []
get_empty zero h = refl
get_empty (suc n) zero = refl
get_empty (suc n) (suc h) = get_empty n h

none_kept : (count n : ℕ) (homes : Homes) (hs : List (List Stamped)) → AreHomes homes [] → n ≡ count + 1 → hs ≡ empty n → AreKeptTo count [] homes hs
none_kept count n homes hs known more are = record {
  known = known;
  long = ap length are ∙ length_empty n ∙ more;
  each = λ h lt. ap (λ (ls : List (List Stamped)). get_or ls h []) are ∙ get_empty n h;
}

-- before the first event
pub first_kept : (count n : ℕ) (es : List Event) (homes : Homes) (hs : List (List Stamped)) → AreHomes homes [] → n ≡ count + 1 → hs ≡ empty n
    → AreKeptTo count (reverse (take 0 es)) homes hs
first_kept count n [] homes hs known more are = none_kept count n homes hs known more are
first_kept count n (e ∷ es) homes hs known more are = none_kept count n homes hs known more are

one_kept : (count : ℕ) (past : List Event) (c : Stamped) (before after : Homes) (hs new : List (List Stamped)) → c.0 ≡ suc (length past)
    → AreKeptTo count past before hs → IsKept past c hs new → AreHomes after (c.1 ∷ past) → AreKeptTo count (c.1 ∷ past) after new
one_kept count past c before after hs new stamp so_far kept known = record {
  known = known;
  long = kept.count ∙ so_far.long;
  each = λ h lt.
      let old : h < length hs = subst (λ (n : ℕ). h < n) kept.count lt in
      kept.each h old
      ∙ ap (λ (xs : List Stamped). cond (has_event h c.1.step past) (xs ++ c ∷ []) xs) (so_far.each h old)
      ∙ ap (λ (n : ℕ). cond (has_event h c.1.step past) (kept_of h past ++ (n, c.1) ∷ []) (kept_of h past)) stamp;
}

-- the past after so many events of those in order
reverse_next : (es : List Event) (i : ℕ) (e : Event) → i < length es → e ≡ get_or es i e → reverse (take (i + 1) es) ≡ e ∷ reverse (take i es)
reverse_next es i e lt item =
    ap reverse (take_more es i e lt ∙ ap (λ (x : Event). take i es ++ x ∷ []) (sym item)) ∙ reverse-append (take i es) (e ∷ [])

length_push : {X : Type 0} (ys : List X) (y : X) → length (ys ++ y ∷ []) ≡ suc (length ys)
length_push [] y = refl
length_push (z ∷ ys) y = ap suc (length_push ys y)

length_reverse : {X : Type 0} (xs : List X) → length (reverse xs) ≡ length xs
length_reverse [] = refl
length_reverse (x ∷ xs) = ap length (reverse-append (x ∷ []) xs) ∙ length_push (reverse xs) x ∙ ap suc (length_reverse xs)

pub next_kept : (count i : ℕ) (es : List Event) (e : Event) (before after : Homes) (hs new : List (List Stamped)) → i < length es → e ≡ get_or es i e
    → AreKeptTo count (reverse (take i es)) before hs → ((past : List Event) → AreHomes before past → IsKept past (i + 1, e) hs new)
    → ((past : List Event) → AreHomes before past → AreHomes after (e ∷ past)) → AreKeptTo count (reverse (take (i + 1) es)) after new
next_kept count i es e before after hs new lt item so_far kept known =
    let stamp : i + 1 ≡ suc (length (reverse (take i es))) = omega (arith, lt, length_reverse (take i es), length-take i es) in
    subst (λ (now : List Event). AreKeptTo count now after new) (sym (reverse_next es i e lt item))
    (one_kept count (reverse (take i es)) (i + 1, e) before after hs new stamp so_far (kept (reverse (take i es)) so_far.known) (known (reverse (take i es)) so_far.known))

-- ---- at the end

-- all events were gone over
pub last_kept : (count i : ℕ) (es past : List Event) (homes : Homes) (hs : List (List Stamped)) → length es ≤ i → reverse es ≡ past
    → AreKeptTo count (reverse (take i es)) homes hs → AreKeptTo count past homes hs
last_kept count i es past homes hs le is kept = subst (λ (now : List Event). AreKeptTo count now homes hs) (ap reverse (take_all i es le) ∙ is) kept

pub some_kept : (count : ℕ) (past : List Event) (homes : Homes) (vs : List (Vec Stamped Global)) → AreKeptTo count past homes (lists_of vs) → 1 ≤ length vs
some_kept count past homes vs kept = omega (arith, kept.long, length-map vs (λ (v : Vec Stamped Global). v.items))

-- the first history taken off
pub off_first : (us new : List (Vec Stamped Global)) (r : Vec Stamped Global) → 1 ≤ length us → r ≡ get_or us 0 r → new ≡ remove us 0
    → lists_of us ≡ r.items ∷ lists_of new
off_first [] new r some first rest = absurd (none some)
  where
    none : 1 ≤ 0 → ⊥
    none le = omega (arith, le)
off_first (u ∷ us) new r some first rest =
    ap (λ (v : Vec Stamped Global). v.items ∷ lists_of us) (sym first) ∙ ap (λ (vs : List (Vec Stamped Global)). r.items ∷ lists_of vs) (sym rest)

pub all_kept : (opening : Opening) (past : List Event) (homes : Homes) (hs guardians : List (List Stamped)) (registry : List Stamped)
    → AreKeptTo (length opening.setup) past homes hs → hs ≡ registry ∷ guardians
    → record { registry = registry; guardians = guardians } ≡ histories_of opening past
all_kept opening past homes hs guardians registry kept parts =
    (λ k. record { registry = of_registry k; guardians = of_guardians k })
  where
    long : length guardians ≡ length opening.setup
    long = omega (arith, kept.long, ap length parts)

    of_registry : registry ≡ (histories_of opening past).registry
    of_registry =
        ap (λ (ls : List (List Stamped)). get_or ls 0 []) (sym parts) ∙ kept.each 0 (subst (λ (ls : List (List Stamped)). 0 < length ls) (sym parts) (omega arith))
        ∙ sym (registry_is opening past)

    each : (k : ℕ) → k < length guardians → get_or guardians k [] ≡ left_at opening past (suc k)
    each k lt =
        ap (λ (ls : List (List Stamped)). get_or ls (suc k) []) (sym parts)
        ∙ kept.each (suc k) (subst (λ (ls : List (List Stamped)). suc k < length ls) (sym parts) (omega (arith, lt)))
        ∙ sym (guardian_is opening past (suc k))

    within : {X : Type 0} (xs : List X) (k : ℕ) (d e : X) → k < length xs → get_or xs k d ≡ get_or xs k e
    within [] k d e lt = absurd (none lt)
      where
        none : k < 0 → ⊥
        none lt = omega (arith, lt)
    within (x ∷ xs) zero d e lt = refl
    within (x ∷ xs) (suc k) d e lt = within xs k d e (omega (arith, lt))

    of_guardians : guardians ≡ map (λ g. left_at opening past g) (guardians_of opening)
    of_guardians =
        same_lists guardians (map (λ g. left_at opening past g) (guardians_of opening))
        (long ∙ sym (length-map (guardians_of opening) (λ g. left_at opening past g) ∙ up_count (length opening.setup)))
        (λ k d lt. within guardians k d [] lt ∙ each k lt
        ∙ sym (get_or_from_slice_get (map (λ g. left_at opening past g) (guardians_of opening)) k (left_at opening past (suc k)) d
        (get_map (λ g. left_at opening past g) (guardians_of opening) k
        ∙ ap (option_map (λ g. left_at opening past g)) (get_up (length opening.setup) k (subst (λ (n : ℕ). k < n) long lt)))))
