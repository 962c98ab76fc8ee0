-- The histories that a reader keeps: an event more, and what is left of them at the end.
use Rattle.std.proofs.Common.{Vec, Global, Bool, true, false, nat_le, Option, Some, None, MatchOption, ◌≡◌, ◌≢◌, ℕ, zero, suc, max, ◌+◌, ◌-◌, ◌<◌, ◌≤◌, List, [], ◌∷◌, ◌++◌, length, take, get_or, set, remove, replicate, Result, Ok, Err, OnErr, refl, sym, ap, subst, ◌∙◌, append_assoc, append-nil, add-zero, add-one, arith, ◌⊎◌, inl, inr}
use Rattle.std.specs.Bool.{then_some}
use Rattle.std.specs.List.{AllByRecursion}
use Rattle.std.proofs.lemmas.Bool.Decides.{nat_tests}
use Rattle.std.proofs.lemmas.Bool.{cases_eq, cases_lt}
use Rattle.std.proofs.lemmas.List.{get_or-set_other, get_or-replicate, get_or-take, get_or_default, get_or_past, length-replicate, length-set, length-take, length-map, map-set, take-map}
use Rattle.std.proofs.Math.ListN.{get_or-map}
use Rattle.std.proofs.Math.Seq.{map-set_same}
use Rattle.run_model.specs.LocalHistories.{Stamped}
use Rattle.run_model.specs.Openings.{Setup}
use Rattle.run_model.specs.Reading.{Reads}
use Rattle.traces.specs.declared.line.Line.{Line}
use Rattle.traces.specs.Traces.{AreHistoriesOver, AreInOrder, IsLine, line_text, lines_from, lines_text, lists_of, owned_lines}
use Rattle.traces.specs.Reading.{IsKept, IsLineFrom, Reading, TakesLine, last_owner}
use Rattle.traces.proofs.OneLine.{one_line}
use Rattle.traces.proofs.OneTrace.{lines_in_order}

-- ---- lines behind lines

pub all_push : (xs : List Line) (l : Line) → AllByRecursion IsLine xs → IsLine l → AllByRecursion IsLine (xs ++ l ∷ [])
all_push [] l each fits = (fits, tt)
all_push (x ∷ xs) l each fits = (each.0, all_push xs l each.1 fits)

pub last_owner-append : (a : ℕ) (xs ys : List Line) → last_owner a (xs ++ ys) ≡ last_owner (last_owner a xs) ys
last_owner-append a [] ys = refl
last_owner-append a (x ∷ xs) ys = last_owner-append x.owner xs ys

pub order_push : (a : ℕ) (xs : List Line) (l : Line) → AreInOrder a xs → last_owner a xs ≤ l.owner → AreInOrder a (xs ++ l ∷ [])
order_push a [] l order le = (le, tt)
order_push a (x ∷ xs) l order le = (order.0, order_push x.owner xs l order.1 le)

pub order_last : (a : ℕ) (xs : List Line) (l : Line) → AreInOrder a (xs ++ l ∷ []) → last_owner a xs ≤ l.owner
order_last a [] l order = order.0
order_last a (x ∷ xs) l order = order_last x.owner xs l order.1

pub lines_text-push : (xs : List Line) (l : Line) → lines_text (xs ++ l ∷ []) ≡ lines_text xs ++ (line_text l ++ 10 ∷ [])
lines_text-push [] l = refl
lines_text-push (x ∷ xs) l =
    ap (λ (t : List ℕ). line_text x ++ 10 ∷ t) (lines_text-push xs l) ∙ sym (append_assoc (line_text x) (10 ∷ lines_text xs) (line_text l ++ 10 ∷ []))

-- ---- empty histories

-- no history from this place on has an event
abbrev pub EmptyFrom : ℕ → List (List Stamped) → Type 0
EmptyFrom n hs = (i : ℕ) → n ≤ i → get_or hs i [] ≡ []

no_lines : (o : ℕ) (hs : List (List Stamped)) → EmptyFrom 0 hs → lines_from o hs ≡ []
no_lines o [] empty = refl
no_lines o (h ∷ hs) empty =
    ap (λ (x : List Stamped). owned_lines o x ++ lines_from (suc o) hs) (empty 0 (omega arith)) ∙ no_lines (suc o) hs (λ i le. empty (suc i) (omega arith))

pub lines-take : (o n : ℕ) (hs : List (List Stamped)) → EmptyFrom n hs → lines_from o (take n hs) ≡ lines_from o hs
lines-take o n [] empty = ap (lines_from o) (take_none n)
  where
    take_none : (k : ℕ) → take {A = List Stamped} k [] ≡ []
    take_none zero = refl
    take_none (suc k) = refl
lines-take o zero (h ∷ hs) empty = sym (no_lines o (h ∷ hs) empty)
lines-take o (suc n) (h ∷ hs) empty = ap (λ (ls : List Line). owned_lines o h ++ ls) (lines-take (suc o) n hs (λ i le. empty (suc i) (omega arith)))

-- the last line is of a history that is there
owned_last : (a o : ℕ) (h : List Stamped) → (last_owner a (owned_lines o h) ≡ a) ⊎ (last_owner a (owned_lines o h) ≡ o)
owned_last a o [] = inl refl
owned_last a o (c ∷ h) = elim (owned_last o o h) [ inl e ↦ inr e | inr e ↦ inr e ]

last_below : (a o n : ℕ) (hs : List (List Stamped)) → EmptyFrom n hs → a < o + n → last_owner a (lines_from o hs) < o + n
last_below a o n [] empty lt = lt
last_below a o zero (h ∷ hs) empty lt = subst (λ (ls : List Line). last_owner a ls < o + 0) (sym (no_lines o (h ∷ hs) empty)) lt
last_below a o (suc n) (h ∷ hs) empty lt =
    let rest = last_below (last_owner a (owned_lines o h)) (suc o) n hs (λ i le. empty (suc i) (omega arith)) (elim (owned_last a o h) [ inl e ↦ omega arith | inr e ↦ omega arith ]) in
    omega (arith, rest, last_owner-append a (owned_lines o h) (lines_from (suc o) hs))

-- ---- an event more

owned_push : (o : ℕ) (h : List Stamped) (c : Stamped) → owned_lines o (h ++ c ∷ []) ≡ owned_lines o h ++ record { owner = o; stamped = c } ∷ []
owned_push o [] c = refl
owned_push o (d ∷ h) c = ap (λ (ls : List Line). record { owner = o; stamped = d } ∷ ls) (owned_push o h c)

lines-set : (o i : ℕ) (hs : List (List Stamped)) (c : Stamped) → i < length hs → EmptyFrom (suc i) hs
    → lines_from o (set hs i (get_or hs i [] ++ c ∷ [])) ≡ lines_from o hs ++ record { owner = o + i; stamped = c } ∷ []
lines-set o i [] c lt empty = absurd (omega arith)
lines-set o zero (h ∷ hs) c lt empty =
    let none : lines_from (suc o) hs ≡ [] = no_lines (suc o) hs (λ i le. empty (suc i) (omega arith)) in
    ap (λ (ls : List Line). owned_lines o (h ++ c ∷ []) ++ ls) none ∙ append-nil (owned_lines o (h ++ c ∷ [])) ∙ owned_push o h c
    ∙ ap (λ (n : ℕ). owned_lines o h ++ record { owner = n; stamped = c } ∷ []) (sym (add-zero o))
    ∙ ap (λ (ls : List Line). ls ++ record { owner = o + 0; stamped = c } ∷ []) (sym (append-nil (owned_lines o h)) ∙ ap (λ (ls : List Line). owned_lines o h ++ ls) (sym none))
lines-set o (suc i) (h ∷ hs) c lt empty =
    let moved : suc o + i ≡ o + suc i = omega arith in
    ap (λ (ls : List Line). owned_lines o h ++ ls) (lines-set (suc o) i hs c (omega arith) (λ k le. empty (suc k) (omega arith)))
    ∙ sym (append_assoc (owned_lines o h) (lines_from (suc o) hs) (record { owner = suc o + i; stamped = c } ∷ []))
    ∙ ap (λ (n : ℕ). (owned_lines o h ++ lines_from (suc o) hs) ++ record { owner = n; stamped = c } ∷ []) moved

-- the lists after a line
abbrev pub with_line : List (List Stamped) → Line → List (List Stamped)
with_line hs l = set hs l.owner (get_or hs l.owner [] ++ l.stamped ∷ [])

pub lines-with_line : (setup : Setup) (hs : List (List Stamped)) (last : ℕ) (l : Line) → IsKept setup hs last → IsLine l → last ≤ l.owner
    → lines_from 0 (with_line hs l) ≡ lines_from 0 hs ++ l ∷ []
lines-with_line setup hs last l kept fits le =
    lines-set 0 l.owner hs l.stamped (omega (arith, kept.all, fits.owner)) (λ i lt. kept.later i (omega arith))
    ∙ ap (λ (n : ℕ). lines_from 0 hs ++ record { owner = n; stamped = l.stamped } ∷ []) (zero-plus l.owner)
  where
    zero-plus : (n : ℕ) → 0 + n ≡ n
    zero-plus n = omega arith

pub kept_with_line : (setup : Setup) (hs : List (List Stamped)) (last : ℕ) (l : Line) → IsKept setup hs last → IsLine l → last ≤ l.owner
    → IsKept setup (with_line hs l) l.owner
kept_with_line setup hs last l kept fits le =
    let lines = lines-with_line setup hs last l kept fits le in
    record {
      each = subst (AllByRecursion IsLine) (sym lines) (all_push (lines_from 0 hs) l kept.each fits);
      last_is = ap (last_owner 0) lines ∙ last_owner-append 0 (lines_from 0 hs) (l ∷ []);
      all = length-set hs l.owner (get_or hs l.owner [] ++ l.stamped ∷ []) ∙ kept.all;
      fits = kept.fits;
      later = λ i lt. get_or-set_other hs l.owner i (get_or hs l.owner [] ++ l.stamped ∷ []) [] (λ e. omega arith) ∙ kept.later i (omega arith);
    }

-- ---- what is left at the end

-- so many histories are left, the registry's among them
abbrev pub count_left : Setup → ℕ → ℕ
count_left setup last = max last (length setup) + 1

pub empty_behind : (setup : Setup) (hs : List (List Stamped)) (last n : ℕ) → IsKept setup hs last → last < n → EmptyFrom n hs
empty_behind setup hs last n kept lt = λ i le. kept.later i (omega arith)

-- where the last line is of no registry, its history has an event
last_there : (setup : Setup) (hs : List (List Stamped)) (last : ℕ) → IsKept setup hs last → 1 ≤ last → get_or hs last [] ≢ []
last_there setup hs last kept some none =
    let below = last_below 0 0 last hs (λ i le. from_last i le) (omega arith) in
    omega (arith, below, kept.last_is)
  where
    from_last : (i : ℕ) → last ≤ i → get_or hs i [] ≡ []
    from_last i le = elim (cases_eq i last) [ inl e ↦ ap (λ k. get_or hs k []) e ∙ none | inr other ↦ kept.later i (omega arith) ]

-- the guardians' histories are those behind the registry's
pub over_setup : (setup : Setup) (hs : List (List Stamped)) (last n : ℕ) (r : List Stamped) (gs : List (List Stamped)) → IsKept setup hs last
    → n ≡ max last (length setup) + 1 → last ≤ 1024 → take n hs ≡ r ∷ gs → AreHistoriesOver setup gs
over_setup setup hs last n r gs kept is small left =
    let long : length gs + 1 ≡ n = omega (arith, ap length left, length-take n hs, kept.all, kept.fits) in
    record {
      each = omega arith;
      last = λ more none.
          let place : suc (length gs - 1) ≡ last = omega arith in
          last_there setup hs last kept (omega arith)
          (sym (get_or-take n hs last [] (omega arith)) ∙ ap (λ (l : List (List Stamped)). get_or l last []) left
          ∙ ap (λ i. get_or (r ∷ gs) i []) (sym place) ∙ none);
    }

-- the lines that are left are all
pub lines_left : (setup : Setup) (hs : List (List Stamped)) (last n : ℕ) (r : List Stamped) (gs : List (List Stamped)) → IsKept setup hs last
    → last < n → take n hs ≡ r ∷ gs → lines_from 0 (r ∷ gs) ≡ lines_from 0 hs
lines_left setup hs last n r gs kept lt left = ap (lines_from 0) (sym left) ∙ lines-take 0 n hs (empty_behind setup hs last n kept lt)

-- the last owner is an owner
pub last_fits : (setup : Setup) (hs : List (List Stamped)) (last : ℕ) → IsKept setup hs last → last ≤ 1024
last_fits setup hs last kept = omega (arith, kept.last_is, all_fit 0 (lines_from 0 hs) (omega arith) kept.each)
  where
    all_fit : (a : ℕ) (ls : List Line) → a ≤ 1024 → AllByRecursion IsLine ls → last_owner a ls ≤ 1024
    all_fit a [] le each = le
    all_fit a (l ∷ ls) le each = all_fit l.owner ls each.0.owner each.1

-- ---- no event yet

pub replicate_push : {X : Type 0} (n : ℕ) (x : X) → replicate n x ++ x ∷ [] ≡ replicate (n + 1) x
replicate_push n x = rw add-one (go n)
  where
    go : (k : ℕ) → replicate k x ++ x ∷ [] ≡ replicate (suc k) x
    go zero = refl
    go (suc k) = ap (λ (l : List _). x ∷ l) (go k)

abbrev none_yet : List Stamped
none_yet = []

empty_at : (n i : ℕ) → get_or (replicate n none_yet) i none_yet ≡ none_yet
empty_at n i = elim (cases_lt i n) [
  | inl lt ↦ get_or-replicate n i none_yet none_yet lt
  | inr ge ↦ get_or_past (replicate n none_yet) i none_yet (omega (arith, length-replicate n none_yet))
]

pub kept_new : (setup : Setup) → length setup ≤ 1024 → IsKept setup (replicate 1025 none_yet) 0
kept_new setup fits =
    let none : lines_from 0 (replicate 1025 none_yet) ≡ [] = no_lines 0 (replicate 1025 none_yet) (λ i le. empty_at 1025 i) in
    record {
      each = subst (AllByRecursion IsLine) (sym none) tt;
      last_is = ap (last_owner 0) none;
      all = length-replicate 1025 none_yet;
      fits = fits;
      later = λ i lt. empty_at 1025 i;
    }

pub no_lines_new : lines_from 0 (replicate 1025 none_yet) ≡ []
no_lines_new = no_lines 0 (replicate 1025 none_yet) (λ i le. empty_at 1025 i)

-- ---- lists that a vector holds

pub always_err : {T E : Type 0} (r : Result T E) {P : Type 0} → P → OnErr r P
always_err (Ok x) p = tt
always_err (Err e) p = p

pub put_nothing : (vs : List (Vec Stamped Global)) (i : ℕ) (at new : Vec Stamped Global) → at ≡ get_or vs i at → new.items ≡ at.items → lists_of (set vs i new) ≡ lists_of vs
put_nothing vs i at new is same = map-set_same (λ v. v.items) vs i new at (same ∙ ap (λ v. v.items) is)

pub put_one : (vs : List (Vec Stamped Global)) (i : ℕ) (at new : Vec Stamped Global) (c : Stamped) → i < length vs → at ≡ get_or vs i at → new.items ≡ at.items ++ c ∷ []
    → lists_of (set vs i new) ≡ set (lists_of vs) i (get_or (lists_of vs) i [] ++ c ∷ [])
put_one vs i at new c lt is pushed =
    map-set (λ v. v.items) vs i new
    ∙ ap (set (lists_of vs) i) (pushed ∙ ap (λ (l : List Stamped). l ++ c ∷ []) (ap (λ v. v.items) is ∙ sym (get_or-map (λ (v : Vec Stamped Global). v.items) vs i at)
    ∙ get_or_default (lists_of vs) i at.items [] (subst (λ (n : ℕ). i < n) (sym (length-map vs (λ (v : Vec Stamped Global). v.items))) lt)))

-- ---- what a call of the reader does

le_from : (m n : ℕ) → true ≡ nat_le m n → m ≤ n
le_from m n e = grind (arith, nat_tests)

not_le : (m n : ℕ) → false ≡ nat_le m n → m ≤ n → ⊥
not_le m n e le = grind (arith, nat_tests)

-- what is read, kept only if it passes a test
pub next_of : (last : ℕ) (text : List ℕ) (r o : Option Line) (Q : Line → Bool → Type 0) → ((x : Line) (b : Bool) → Q x b → b ≡ nat_le last x.owner) → Reads IsLine line_text text r
    → MatchOption r (o ≡ None) (λ x. (b : Bool) × Q x b × (o ≡ then_some b x)) → Reads (IsLineFrom last) line_text text o
next_of last text None o Q is read filtered = subst (Reads (IsLineFrom last) line_text text) (sym filtered) (λ l fits e. read l fits.0 e)
next_of last text (Some x) o Q is read filtered =
    subst (Reads (IsLineFrom last) line_text text) (sym filtered.2) (by_test filtered.0 (is x filtered.0 filtered.1))
  where
    by_test : (b : Bool) → b ≡ nat_le last x.owner → Reads (IsLineFrom last) line_text text (then_some b x)
    by_test true e = ((read.0, le_from last x.owner e), read.1)
    by_test false e = λ l fits same.
        let one = one_line l x fits.0 read.0 (sym same ∙ read.1) in
        not_le last x.owner e (subst (λ (k : Line). last ≤ k.owner) one fits.1)

-- the state of a reader
abbrev pub reading_of : Setup → List (List Stamped) → Reading
reading_of setup hs = record { setup = setup; lines = lines_from 0 hs }

pub no_next : (setup : Setup) (hs : List (List Stamped)) (last : ℕ) (r : Reading) (text : List ℕ) → IsKept setup hs last → reading_of setup hs ≡ r
    → Reads (IsLineFrom last) line_text text None → TakesLine text r r false
no_next setup hs last r text kept is none = (
  λ l fits order e.
      let le = order_last 0 (lines_from 0 hs) l (subst (λ (v : Reading). AreInOrder 0 (v.lines ++ l ∷ [])) (sym is) order) in
      none l (fits, omega (arith, le, kept.last_is)) e,
  refl,
)

pub takes : (setup : Setup) (hs new : List (List Stamped)) (last : ℕ) (l : Line) (r : Reading) (text : List ℕ) → IsKept setup hs last → reading_of setup hs ≡ r
    → Reads (IsLineFrom last) line_text text (Some l) → new ≡ with_line hs l → TakesLine text r (reading_of setup new) true
takes setup hs new last l r text kept is read put =
    let lines = ap (lines_from 0) put ∙ lines-with_line setup hs last l kept read.0.0 read.0.1 in
    let order = order_push 0 (lines_from 0 hs) l (lines_in_order 0 hs) (omega (arith, kept.last_is, read.0.1)) in (
      l,
      read.0.0,
      read.1,
      subst (λ (v : Reading). AreInOrder 0 (v.lines ++ l ∷ [])) is order,
      ap (λ (ls : List Line). record { setup = setup; lines = ls }) lines ∙ ap (λ (v : Reading). record { setup = v.setup; lines = v.lines ++ l ∷ [] }) is,
    )

pub kept_then : (setup : Setup) (hs new : List (List Stamped)) (last : ℕ) (l : Line) (text : List ℕ) → IsKept setup hs last
    → Reads (IsLineFrom last) line_text text (Some l) → new ≡ with_line hs l → IsKept setup new l.owner
kept_then setup hs new last l text kept read put =
    subst (λ (ls : List (List Stamped)). IsKept setup ls l.owner) (sym put) (kept_with_line setup hs last l kept read.0.0 read.0.1)

pub owner_there : (setup : Setup) (hs : List (List Stamped)) (last : ℕ) (l : Line) (text : List ℕ) → IsKept setup hs last
    → Reads (IsLineFrom last) line_text text (Some l) → l.owner < length hs
owner_there setup hs last l text kept read = omega (arith, kept.all, read.0.0.owner)

-- at what was found
pub read_some : {X : Type 0} (fits : X → Type 0) (spelling : X → List ℕ) (text : List ℕ) (o : Option X) (x : X) → o ≡ Some x → Reads fits spelling text o → Reads fits spelling text (Some x)
read_some fits spelling text o x e h = subst (Reads fits spelling text) e h

-- ---- the end

-- what is left, the registry's history taken off
pub left_is : (vs ts new : List (Vec Stamped Global)) (n : ℕ) (r : Vec Stamped Global) → 1 ≤ n → 1 ≤ length vs → ts ≡ take n vs → r ≡ get_or ts 0 r → new ≡ remove ts 0
    → take n (lists_of vs) ≡ r.items ∷ lists_of new
left_is vs ts new n r some long is first rest =
    take-map (λ (v : Vec Stamped Global). v.items) n vs ∙ ap lists_of (sym is) ∙ by_cases ts (omega (arith, ap length is, length-take n vs)) first rest
  where
    by_cases : (us : List (Vec Stamped Global)) → 1 ≤ length us → r ≡ get_or us 0 r → new ≡ remove us 0 → lists_of us ≡ r.items ∷ lists_of new
    by_cases [] more at after = absurd (omega arith)
    by_cases (u ∷ us) more at after = ap (λ (v : Vec Stamped Global). v.items ∷ lists_of us) (sym at) ∙ ap (λ (xs : List (Vec Stamped Global)). r.items ∷ lists_of xs) (sym after)

-- how many histories are left
pub count_fits : (setup : Setup) (hs : List (List Stamped)) (last : ℕ) → IsKept setup hs last → max last (length setup) ≤ 1024
count_fits setup hs last kept = omega (arith, last_fits setup hs last kept, kept.fits)

-- the lists of a vector are as many as it has
pub some_lists : (setup : Setup) (vs : List (Vec Stamped Global)) (last : ℕ) → IsKept setup (lists_of vs) last → 1 ≤ length vs
some_lists setup vs last kept = omega (arith, kept.all, length-map vs (λ (v : Vec Stamped Global). v.items))
