-- Copies that stand in other histories than those of the guardians that a step names.
use Rattle.std.proofs.Common.{◌≡◌, ℕ, zero, suc, ◌≤◌, Bool, true, false, not, ◌&&◌, ◌||◌, eqb, List, [], ◌∷◌, reverse, refl, sym, ap, ◌∙◌, eq-eqb, arith}
use Rattle.std.specs.Prelude.{◌==◌}
use mathlib.Core.Bool.{beq}
use Rattle.std.specs.List.{list_any}
use Rattle.std.proofs.lemmas.Bool.{eqb-true, true≢false}
use Rattle.std.proofs.lemmas.Bool.Decides.{nat_tests}
use Rattle.std.proofs.lemmas.List.Sorted.{IsPermutation-reverse, list_any-IsPermutation}
use Rattle.run_model.specs.declared.history.Event.{Event}
use Rattle.run_model.specs.Gathering.{differ}
use Rattle.run_model.specs.Lists.{up_to, down_from}
use Rattle.run_model.specs.LocalHistories.{names_guardian, takes_registry}
use Rattle.tracer.specs.Copies.{Copied, has_copy, stand_elsewhere}
use Rattle.tracer.specs.Gathered.{is_beside, is_guardian, lacks_copy}

or_first : (s t : Bool) → (s || t) ≡ false → s ≡ false
or_first true t h = h
or_first false t h = refl

or_second : (s t : Bool) → t ≡ true → (s || t) ≡ true
or_second true t h = refl
or_second false t h = h

or_rest : (s t : Bool) → (s || t) ≡ false → t ≡ false
or_rest true t h = absurd (true≢false h)
or_rest false t h = h

-- ---- tests over the numbers up to another

up_down : (p : ℕ → Bool) (n : ℕ) → list_any p (up_to n) ≡ list_any p (down_from n)
up_down p n = sym (list_any-IsPermutation p (down_from n) (reverse (down_from n)) (IsPermutation-reverse (down_from n)))

down_step : (p : ℕ → Bool) (n g : ℕ) → p g ≡ true → (g ≤ n → list_any p (down_from n) ≡ true) → g ≤ suc n → (b : Bool) → eqb g (suc n) ≡ b → list_any p (down_from (suc n)) ≡ true
down_step p n g holds before within true e = ap (λ (s : Bool). s || list_any p (down_from n)) (ap p (sym (eqb-true g (suc n) e)) ∙ holds)
down_step p n g holds before within false e = or_second (p (suc n)) (list_any p (down_from n)) (before (omega (arith, other)))
  where
    other : g ≡ suc n → ⊥
    other h = true≢false (sym (eq-eqb g (suc n) h) ∙ e)

down_true : (p : ℕ → Bool) (n g : ℕ) → 1 ≤ g → g ≤ n → p g ≡ true → list_any p (down_from n) ≡ true
down_true p zero g some within holds = absurd (omega arith)
down_true p (suc n) g some within holds = down_step p n g holds (λ less. down_true p n g some less holds) within (eqb g (suc n)) refl

down_false : (p : ℕ → Bool) (n : ℕ) → ((g : ℕ) → 1 ≤ g → g ≤ n → p g ≡ false) → list_any p (down_from n) ≡ false
down_false p zero none = refl
down_false p (suc n) none =
    ap (λ (s : Bool). s || list_any p (down_from n)) (none (suc n) (omega arith) (omega arith)) ∙ down_false p n (λ g some within. none g some (omega arith))

pub up_true : (p : ℕ → Bool) (n g : ℕ) → 1 ≤ g → g ≤ n → p g ≡ true → list_any p (up_to n) ≡ true
up_true p n g some within holds = up_down p n ∙ down_true p n g some within holds

pub up_false : (p : ℕ → Bool) (n : ℕ) → ((g : ℕ) → 1 ≤ g → g ≤ n → p g ≡ false) → list_any p (up_to n) ≡ false
up_false p n none = up_down p n ∙ down_false p n none

-- ---- copies

-- a history that has a copy, and passes
copy_step : (f : ℕ → Bool) (c : Copied) (turn : List Copied) (G : Type 0) → (list_any (λ d. f d.history) turn ≡ true → ((g : ℕ) → f g ≡ true → has_copy g turn ≡ true → G) → G)
    → list_any (λ d. f d.history) (c ∷ turn) ≡ true → ((g : ℕ) → f g ≡ true → has_copy g (c ∷ turn) ≡ true → G) → (b : Bool) → f c.history ≡ b → G
copy_step f c turn G behind e found true h = found c.history h (ap (λ (s : Bool). s || has_copy c.history turn) (eq-eqb c.history c.history refl))
copy_step f c turn G behind e found false h =
    behind (ap (λ (s : Bool). s || list_any (λ d. f d.history) turn) (sym h) ∙ e)
    (λ g passes has. found g passes (or_second (c.history == g) (has_copy g turn) has))

copy_passes : (f : ℕ → Bool) (turn : List Copied) (G : Type 0) → list_any (λ c. f c.history) turn ≡ true → ((g : ℕ) → f g ≡ true → has_copy g turn ≡ true → G) → G
copy_passes f [] G e found = absurd (true≢false (sym e))
copy_passes f (c ∷ turn) G e found = copy_step f c turn G (copy_passes f turn G) e found (f c.history) refl

-- none passes
copy_fails : (f : ℕ → Bool) (turn : List Copied) (g : ℕ) → list_any (λ c. f c.history) turn ≡ false → has_copy g turn ≡ true → f g ≡ false
copy_fails f [] g none has = absurd (true≢false (sym has))
copy_fails f (c ∷ turn) g none has =
    fails_step (copy_fails f turn g (or_rest (f c.history) (list_any (λ d. f d.history) turn) none)) (c.history == g) refl
  where
    fails_step : (has_copy g turn ≡ true → f g ≡ false) → (b : Bool) → (c.history == g) ≡ b → f g ≡ false
    fails_step behind true h = ap f (sym (eqb-true c.history g h)) ∙ or_first (f c.history) (list_any (λ d. f d.history) turn) none
    fails_step behind false h = behind (ap (λ (s : Bool). s || has_copy g turn) (sym h) ∙ has)

-- ---- guardians

low_of : (limit g : ℕ) → is_guardian limit g ≡ true → 1 ≤ g
low_of limit g e = grind (arith, nat_tests, e)

high_of : (limit g : ℕ) → is_guardian limit g ≡ true → g ≤ limit
high_of limit g e = grind (arith, nat_tests, e)

guardian_is : (limit g : ℕ) → 1 ≤ g → g ≤ limit → is_guardian limit g ≡ true
guardian_is limit g some within = grind (arith, nat_tests, some, within)

and_first : (s t : Bool) → (s && t) ≡ true → s ≡ true
and_first true t h = refl
and_first false t h = absurd (true≢false (sym h))

and_second : (s t : Bool) → (s && t) ≡ true → t ≡ true
and_second true t h = h
and_second false t h = absurd (true≢false (sym h))

not_true : (t : Bool) → not t ≡ true → t ≡ false
not_true true h = absurd (true≢false (sym h))
not_true false h = refl

not_false : (t : Bool) → not t ≡ false → t ≡ true
not_false true h = refl
not_false false h = absurd (true≢false h)

and_on : (s t : Bool) → s ≡ true → (s && t) ≡ false → t ≡ false
and_on true t h e = e
and_on false t h e = absurd (true≢false (sym h))

-- ---- together

module _ (limit one other : ℕ) (turn : List Copied) (named : ℕ → Bool) (two : (g : ℕ) → named g ≡ ((one == g) || (other == g))) where
  abbrev differs : ℕ → Bool
  differs g = differ (has_copy g turn) (named g)

  lacking : (g : ℕ) → named g ≡ true → lacks_copy g limit turn ≡ true → list_any differs (up_to limit) ≡ true
  lacking g is e =
      up_true differs limit g (low_of limit g (and_first (is_guardian limit g) (not (has_copy g turn)) e)) (high_of limit g (and_first (is_guardian limit g) (not (has_copy g turn)) e))
      (ap (λ (s : Bool). differ s (named g)) (not_true (has_copy g turn) (and_second (is_guardian limit g) (not (has_copy g turn)) e)) ∙ is)

  one_named : named one ≡ true
  one_named = two one ∙ ap (λ (s : Bool). s || (other == one)) (eq-eqb one one refl)

  other_named : named other ≡ true
  other_named = two other ∙ or_second (one == other) (other == other) (eq-eqb other other refl)

  beside : list_any (λ c. is_beside one other limit c.history) turn ≡ true → list_any differs (up_to limit) ≡ true
  beside e = copy_passes (is_beside one other limit) turn (list_any differs (up_to limit) ≡ true) e (λ g passes has.
      let within = and_first (is_guardian limit g) (not ((one == g) || (other == g))) passes in
      up_true differs limit g (low_of limit g within) (high_of limit g within)
      (ap (λ (s : Bool). differ s (named g)) has ∙ ap not (two g) ∙ and_second (is_guardian limit g) (not ((one == g) || (other == g))) passes))

  none : lacks_copy one limit turn ≡ false → lacks_copy other limit turn ≡ false → list_any (λ c. is_beside one other limit c.history) turn ≡ false → list_any differs (up_to limit) ≡ false
  none first second third = up_false differs limit (λ g some within. at g (guardian_is limit g some within) (has_copy g turn) refl)
    where
      no_copy : (g : ℕ) → is_guardian limit g ≡ true → has_copy g turn ≡ false → lacks_copy g limit turn ≡ true
      no_copy g is has = ap (λ (s : Bool). s && not (has_copy g turn)) is ∙ ap not has

      not_one : (g k : ℕ) → is_guardian limit g ≡ true → has_copy g turn ≡ false → lacks_copy k limit turn ≡ false → (b : Bool) → (k == g) ≡ b → b ≡ false
      not_one g k is has fails true e = absurd (true≢false (sym (no_copy g is has) ∙ ap (λ (j : ℕ). lacks_copy j limit turn) (sym (eqb-true k g e)) ∙ fails))
      not_one g k is has fails false e = refl

      at : (g : ℕ) → is_guardian limit g ≡ true → (b : Bool) → has_copy g turn ≡ b → differs g ≡ false
      at g is true has =
          ap (λ (s : Bool). differ s (named g)) has ∙ ap not (two g)
          ∙ and_on (is_guardian limit g) (not ((one == g) || (other == g))) is (copy_fails (is_beside one other limit) turn g third has)
      at g is false has =
          ap (λ (s : Bool). differ s (named g)) has ∙ two g
          ∙ ap (λ (s : Bool). s || (other == g)) (not_one g one is has first (one == g) refl) ∙ not_one g other is has second (other == g) refl

  -- a guardian of the two lacks a copy
  pub at_first : (r : Bool) → r ≡ true → lacks_copy one limit turn ≡ true → r ≡ list_any differs (up_to limit)
  at_first r is e = is ∙ sym (lacking one one_named e)

  pub at_second : (r : Bool) → r ≡ true → lacks_copy other limit turn ≡ true → r ≡ list_any differs (up_to limit)
  at_second r is e = is ∙ sym (lacking other other_named e)

  -- neither does
  pub at_third : (r : Bool) → lacks_copy one limit turn ≡ false → lacks_copy other limit turn ≡ false → r ≡ list_any (λ c. is_beside one other limit c.history) turn → r ≡ list_any differs (up_to limit)
  at_third r first second is = is ∙ go (list_any (λ c. is_beside one other limit c.history) turn) refl
    where
      go : (b : Bool) → list_any (λ d. is_beside one other limit d.history) turn ≡ b → b ≡ list_any differs (up_to limit)
      go true e = sym (beside e)
      go false e = sym (none first second e)

-- the registry's history has a copy where the step is for it
pub whole : (limit : ℕ) (e : Event) (past : List Event) (turn : List Copied) (a b r : Bool) → not (beq a b) ≡ false → a ≡ has_copy 0 turn → b ≡ takes_registry e.step
    → r ≡ list_any (λ g. differ (has_copy g turn) (names_guardian e.step past g)) (up_to limit) → r ≡ stand_elsewhere limit e past turn
whole limit e past turn a b r same first second is =
    is ∙ sym (ap (λ (s : Bool). s || list_any (λ g. differ (has_copy g turn) (names_guardian e.step past g)) (up_to limit))
    (ap (λ (s : Bool). differ s (takes_registry e.step)) (sym first) ∙ ap (differ a) (sym second) ∙ go a b same))
  where
    go : (s t : Bool) → not (beq s t) ≡ false → differ s t ≡ false
    go true true h = refl
    go true false h = h
    go false true h = h
    go false false h = refl
