-- The events of all stamps, each once: which copy of a stamp stands for it, and what the copies of the least stamp add.
use Rattle.std.proofs.Common.{◌≡◌, ℕ, ◌<◌, ◌≤◌, Bool, true, false, cond, List, [], ◌∷◌, ◌++◌, filter, Option, Some, None, eq-eqb, refl, sym, ap, subst, ◌∙◌, arith, ◌⊎◌, inl, inr}
use Rattle.std.specs.Prelude.{◌==◌, find, nat_lt}
use Rattle.std.specs.List.{AllByRecursion}
use Rattle.std.proofs.lemmas.Bool.{cases_eq, cases_lt, eqb-true, ne_eqb}
use Rattle.std.proofs.lemmas.Bool.Decides.{nat_tests}
use Rattle.run_model.specs.Gathering.{by_stamp, insert_stamped}
use Rattle.run_model.specs.LocalHistories.{Stamped}

-- ---- tests that are decided

pub lt_is : (m n : ℕ) → m < n → nat_lt m n ≡ true
lt_is m n lt = grind (arith, nat_tests)

pub not_lt : (m n : ℕ) → n ≤ m → nat_lt m n ≡ false
not_lt m n le = grind (arith, nat_tests)

-- ---- all events of a list

abbrev pub AreBelow : ℕ → List Stamped → Type 0
AreBelow s cs = AllByRecursion (λ c. c.0 < s) cs

abbrev pub AreAbove : ℕ → List Stamped → Type 0
AreAbove s cs = AllByRecursion (λ c. s < c.0) cs

below_all : (s t : ℕ) (cs : List Stamped) → s ≤ t → AreBelow s cs → AreBelow t cs
below_all s t [] le all = tt
below_all s t (c ∷ cs) le all = (omega (arith, all.0), below_all s t cs le all.1)

insert_all : (P : Stamped → Type 0) (c : Stamped) (cs : List Stamped) → P c → AllByRecursion P cs → AllByRecursion P (insert_stamped c cs)
insert_all P c [] here all = (here, tt)
insert_all P c (d ∷ cs) here all = go (c.0 == d.0) (nat_lt d.0 c.0) (insert_all P c cs here all.1)
  where
    go : (a b : Bool) → AllByRecursion P (insert_stamped c cs) → AllByRecursion P (cond a (d ∷ cs) (cond b (c ∷ d ∷ cs) (d ∷ insert_stamped c cs)))
    go true b rest = all
    go false true rest = (here, all)
    go false false rest = (all.0, rest)

pub by_stamp_all : (P : Stamped → Type 0) (cs : List Stamped) → AllByRecursion P cs → AllByRecursion P (by_stamp cs)
by_stamp_all P [] all = tt
by_stamp_all P (c ∷ cs) all = insert_all P c (by_stamp cs) all.0 (by_stamp_all P cs all.1)

-- ---- stamps fall

abbrev pub AreFalling : List Stamped → Type 0
AreFalling [] = Unit {0}
AreFalling (c ∷ cs) = AreBelow c.0 cs × AreFalling cs

insert_falls : (c : Stamped) (cs : List Stamped) → AreFalling cs → AreFalling (insert_stamped c cs)
insert_falls c [] falls = (tt, tt)
insert_falls c (d ∷ cs) falls = go (c.0 == d.0) (nat_lt d.0 c.0) refl refl (insert_falls c cs falls.1)
  where
    go : (a b : Bool) → (c.0 == d.0) ≡ a → nat_lt d.0 c.0 ≡ b → AreFalling (insert_stamped c cs) → AreFalling (cond a (d ∷ cs) (cond b (c ∷ d ∷ cs) (d ∷ insert_stamped c cs)))
    go true b same less rest = falls
    go false true same less rest =
        let lt : d.0 < c.0 = grind (arith, nat_tests) in
        ((lt, below_all d.0 c.0 cs (omega arith) falls.0), falls)
    go false false same less rest =
        let lt : c.0 < d.0 = grind (arith, nat_tests) in
        (insert_all (λ x. x.0 < d.0) c cs lt falls.0, rest)

pub by_stamp_falls : (cs : List Stamped) → AreFalling (by_stamp cs)
by_stamp_falls [] = tt
by_stamp_falls (c ∷ cs) = insert_falls c (by_stamp cs) (by_stamp_falls cs)

-- ---- what stands for a stamp

abbrev pub at_stamp : ℕ → List Stamped → Option Stamped
at_stamp s cs = find (λ c. c.0 == s) cs

abbrev pub or_else : Option Stamped → Option Stamped → Option Stamped
or_else None o = o
or_else (Some c) o = Some c

pub none_below : (s t : ℕ) (cs : List Stamped) → t ≤ s → AreBelow t cs → at_stamp s cs ≡ None
none_below s t [] le all = refl
none_below s t (c ∷ cs) le all =
    ap (λ (b : Bool). cond b (Some c) (at_stamp s cs)) (ne_eqb c.0 s (λ e. omega (arith, all.0))) ∙ none_below s t cs le all.1

-- an event is found where none of its stamp stands
at_insert : (s : ℕ) (c : Stamped) (cs : List Stamped) → AreFalling cs → at_stamp s (insert_stamped c cs) ≡ or_else (at_stamp s cs) (cond (c.0 == s) (Some c) None)
at_insert s c [] falls = refl
at_insert s c (d ∷ cs) falls = go (c.0 == d.0) (nat_lt d.0 c.0) refl refl (at_insert s c cs falls.1)
  where
    go : (a b : Bool) → (c.0 == d.0) ≡ a → nat_lt d.0 c.0 ≡ b → at_stamp s (insert_stamped c cs) ≡ or_else (at_stamp s cs) (cond (c.0 == s) (Some c) None)
        → at_stamp s (cond a (d ∷ cs) (cond b (c ∷ d ∷ cs) (d ∷ insert_stamped c cs))) ≡ or_else (at_stamp s (d ∷ cs)) (cond (c.0 == s) (Some c) None)
    go true b same less rest = by_test (d.0 == s) refl
      where
        by_test : (t : Bool) → (d.0 == s) ≡ t → cond t (Some d) (at_stamp s cs) ≡ or_else (cond t (Some d) (at_stamp s cs)) (cond (c.0 == s) (Some c) None)
        by_test true is = refl
        by_test false is =
            sym (ap (λ (t : Bool). or_else (at_stamp s cs) (cond t (Some c) None)) (ap (λ (n : ℕ). n == s) (eqb-true c.0 d.0 same) ∙ is) ∙ or_none (at_stamp s cs))
          where
            or_none : (o : Option Stamped) → or_else o None ≡ o
            or_none None = refl
            or_none (Some x) = refl
    go false true same less rest = by_test (c.0 == s) refl
      where
        by_test : (t : Bool) → (c.0 == s) ≡ t → cond t (Some c) (at_stamp s (d ∷ cs)) ≡ or_else (at_stamp s (d ∷ cs)) (cond t (Some c) None)
        by_test true is =
            let lt : d.0 < s = grind (arith, nat_tests) in
            sym (ap (λ (o : Option Stamped). or_else o (Some c)) (none_below s s (d ∷ cs) (omega arith) (lt, below_all d.0 s cs (omega arith) falls.0)))
        by_test false is = or_none (at_stamp s (d ∷ cs))
          where
            or_none : (o : Option Stamped) → o ≡ or_else o None
            or_none None = refl
            or_none (Some x) = refl
    go false false same less rest = by_test (d.0 == s)
      where
        by_test : (t : Bool) → cond t (Some d) (at_stamp s (insert_stamped c cs)) ≡ or_else (cond t (Some d) (at_stamp s cs)) (cond (c.0 == s) (Some c) None)
        by_test true = refl
        by_test false = rest

-- the last of some events
abbrev pub last_of : List Stamped → Option Stamped
last_of [] = None
last_of (c ∷ cs) = or_else (last_of cs) (Some c)

pub at_by_stamp : (s : ℕ) (cs : List Stamped) → at_stamp s (by_stamp cs) ≡ last_of (filter (λ c. c.0 == s) cs)
at_by_stamp s [] = refl
at_by_stamp s (c ∷ cs) = at_insert s c (by_stamp cs) (by_stamp_falls cs) ∙ go (c.0 == s) (at_by_stamp s cs)
  where
    go : (b : Bool) → at_stamp s (by_stamp cs) ≡ last_of (filter (λ d. d.0 == s) cs)
        → or_else (at_stamp s (by_stamp cs)) (cond b (Some c) None) ≡ last_of (cond b (c ∷ filter (λ d. d.0 == s) cs) (filter (λ d. d.0 == s) cs))
    go true e = ap (λ (o : Option Stamped). or_else o (Some c)) e
    go false e = or_none (at_stamp s (by_stamp cs)) ∙ e
      where
        or_none : (o : Option Stamped) → or_else o None ≡ o
        or_none None = refl
        or_none (Some x) = refl

-- ---- lists that fall and find the same are the same

pub found_at_head : (c : Stamped) (cs : List Stamped) → at_stamp c.0 (c ∷ cs) ≡ Some c
found_at_head c cs = ap (λ (b : Bool). cond b (Some c) (at_stamp c.0 cs)) (eq-eqb c.0 c.0 refl)

-- the greatest stamp is no greater than the head's
no_greater : (c d : Stamped) (ds : List Stamped) → AreBelow d.0 ds → at_stamp c.0 (d ∷ ds) ≡ Some c → c.0 ≤ d.0
no_greater c d ds below found = elim (cases_lt d.0 c.0) [
  | inl lt ↦ (let none = sym (none_below c.0 c.0 (d ∷ ds) (omega arith) (lt, below_all d.0 c.0 ds (omega arith) below)) ∙ found in absurd cc)
  | inr le ↦ le
]

pub same_falling : (cs ds : List Stamped) → AreFalling cs → AreFalling ds → ((s : ℕ) → at_stamp s cs ≡ at_stamp s ds) → cs ≡ ds
same_falling [] [] f g same = refl
same_falling [] (d ∷ ds) f g same = let h = same d.0 ∙ found_at_head d ds in absurd cc
same_falling (c ∷ cs) [] f g same = let h = sym (same c.0) ∙ found_at_head c cs in absurd cc
same_falling (c ∷ cs) (d ∷ ds) f g same =
    let le : c.0 ≤ d.0 = no_greater c d ds g.0 (sym (same c.0) ∙ found_at_head c cs) in
    let ge : d.0 ≤ c.0 = no_greater d c cs f.0 (same d.0 ∙ found_at_head d ds) in
    let stamps : d.0 ≡ c.0 = omega arith in
    let found : Some d ≡ Some c =
    sym (ap (λ (b : Bool). cond b (Some d) (at_stamp c.0 ds)) (eq-eqb d.0 c.0 stamps)) ∙ sym (same c.0) ∙ found_at_head c cs in
    let heads : d ≡ c = cc in
    ap (λ (x : Stamped). x ∷ cs) (sym heads) ∙ ap (λ (l : List Stamped). d ∷ l) (same_falling cs ds f.1 g.1 (λ s. behind s (cases_eq c.0 s) stamps))
  where
    behind : (s : ℕ) → (c.0 ≡ s) ⊎ (c.0 ≡ s → ⊥) → d.0 ≡ c.0 → at_stamp s cs ≡ at_stamp s ds
    behind s (inl e) stamps = none_below s c.0 cs (omega arith) f.0 ∙ sym (none_below s d.0 ds (omega arith) g.0)
    behind s (inr other) stamps =
        sym (ap (λ (b : Bool). cond b (Some c) (at_stamp s cs)) (ne_eqb c.0 s other)) ∙ same s
        ∙ ap (λ (b : Bool). cond b (Some d) (at_stamp s ds)) (ne_eqb d.0 s (λ e. other (sym stamps ∙ e)))

-- copies that are the same stamp by stamp stand for the same events
pub same_by_stamp : (cs ds : List Stamped) → ((s : ℕ) → filter (λ (c : Stamped). c.0 == s) cs ≡ filter (λ (c : Stamped). c.0 == s) ds) → by_stamp cs ≡ by_stamp ds
same_by_stamp cs ds same =
    same_falling (by_stamp cs) (by_stamp ds) (by_stamp_falls cs) (by_stamp_falls ds) (λ s. at_by_stamp s cs ∙ ap last_of (same s) ∙ sym (at_by_stamp s ds))

-- ---- the copies of the least stamp

-- an event of a smaller stamp goes to the end
insert_least : (c : Stamped) (run : List Stamped) → AreAbove c.0 run → insert_stamped c run ≡ run ++ c ∷ []
insert_least c [] above = refl
insert_least c (d ∷ run) above =
    ap (λ (b : Bool). cond b (d ∷ run) (cond (nat_lt d.0 c.0) (c ∷ d ∷ run) (d ∷ insert_stamped c run))) (ne_eqb c.0 d.0 (λ e. omega (arith, above.0, e)))
    ∙ ap (λ (b : Bool). cond b (c ∷ d ∷ run) (d ∷ insert_stamped c run)) (not_lt d.0 c.0 (omega (arith, above.0)))
    ∙ ap (λ (l : List Stamped). d ∷ l) (insert_least c run above.1)

-- unless one of its stamp stands there
insert_known : (c k : Stamped) (run : List Stamped) → c.0 ≡ k.0 → AreAbove c.0 run → insert_stamped c (run ++ k ∷ []) ≡ run ++ k ∷ []
insert_known c k [] same above =
    ap (λ (b : Bool). cond b (k ∷ []) (cond (nat_lt k.0 c.0) (c ∷ k ∷ []) (k ∷ c ∷ []))) (eq-eqb c.0 k.0 same)
insert_known c k (d ∷ run) same above =
    ap (λ (b : Bool). cond b (d ∷ (run ++ k ∷ [])) (cond (nat_lt d.0 c.0) (c ∷ d ∷ (run ++ k ∷ [])) (d ∷ insert_stamped c (run ++ k ∷ [])))) (ne_eqb c.0 d.0 (λ e. omega (arith, above.0, e)))
    ∙ ap (λ (b : Bool). cond b (c ∷ d ∷ (run ++ k ∷ [])) (d ∷ insert_stamped c (run ++ k ∷ []))) (not_lt d.0 c.0 (omega (arith, above.0)))
    ∙ ap (λ (l : List Stamped). d ∷ l) (insert_known c k run same above.1)

-- the last copy of the least stamp stands for it, behind all others
pub least_turn : (front : List Stamped) (c : Stamped) (later : List Stamped) → AllByRecursion (λ d. d.0 ≡ c.0) front → AreAbove c.0 later
    → by_stamp ((front ++ c ∷ []) ++ later) ≡ by_stamp later ++ c ∷ []
least_turn [] c later same above = insert_least c (by_stamp later) (by_stamp_all (λ d. c.0 < d.0) later above)
least_turn (d ∷ front) c later same above =
    ap (insert_stamped d) (least_turn front c later same.1 above)
    ∙ insert_known d c (by_stamp later) same.0 (subst (λ (s : ℕ). AreAbove s (by_stamp later)) (sym same.0) (by_stamp_all (λ e. c.0 < e.0) later above))
