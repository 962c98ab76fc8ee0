-- The steps of a world: what is lent answers as the flat history does, and what is kept leads on.
use Rattle.std.proofs.Common.{Bool, List, Some, [], ap, ap₂, arith, cond, eqb-true, false, inl, inr, length, refl, subst, sym, true, ℕ, ◌+◌, ◌-◌, ◌==◌, ◌∙◌, ◌∷◌, ◌≡◌, ◌≤◌, ◌||◌, ◌⊎◌, slice_get}
use Rattle.std.proofs.lemmas.Bool.{false≢true, or_cases, or_left}
use Rattle.run_model.specs.declared.history.Event.{Event}
use Rattle.run_model.specs.declared.step.Step.{Step}
use Rattle.run_model.specs.Answers.{answer_of}
use Rattle.run_model.specs.LocalHistories.{answer_lent, events_of, local_history, registry_history, numbered}
use Rattle.run_model.specs.LocalReadings.{LocalEvent}
use Rattle.run_model.specs.Openings.{Opening}
use Rattle.run_model.specs.Runs.{IsRun}
use Rattle.local_laws.proofs.Lending.{lent_answers}
use Rattle.stable_store.specs.Calls.{View}
use Rattle.layer_contracts.specs.Guardians.{GuardianState, lent_two}
use Rattle.layer_contracts.specs.Forests.{ForestState}
use Rattle.world_steps.specs.Lending.{AreLent, nobody}
use Rattle.world_steps.specs.Standings.{IsOut, IsWorld, Names, forest_of, standing}
use Rattle.world_steps.proofs.Inside.{outside_empty}

pub numbered_events : (past : List Event) → events_of (numbered past) ≡ past
numbered_events [] = refl
numbered_events (e ∷ past) = ap (λ l. e ∷ l) (numbered_events past)

pub runs : (opening : Opening) (past : List Event) → IsRun opening past → IsRun opening (events_of (numbered past))
runs opening past r = subst (λ p. IsRun opening p) (sym (numbered_events past)) r

-- whoever is lent has its history, and who is no guardian has none
pub lent_or_out : (opening : Opening) (past : List Event) (a b : GuardianState) (p q g : ℕ) → IsRun opening past → a ≡ standing opening past p → b ≡ standing opening past q
    → (((p == g) || (q == g)) ≡ true) ⊎ IsOut (length opening.setup) g → lent_two a b g ≡ local_history opening (numbered past) g
lent_or_out opening past a b p q g r x y h =
    ap₂ (λ u v. lent_two u v g) x y ∙ of (p == g) refl (q == g) refl
  where
    L : ℕ → List LocalEvent
    L = λ g. local_history opening (numbered past) g

    out : (((p == g) || (q == g)) ≡ true) ⊎ IsOut (length opening.setup) g → (p == g) ≡ false → (q == g) ≡ false → [] ≡ L g
    out (inl k) s t = absurd (false≢true (sym (ap₂ ◌||◌ s t) ∙ k))
    out (inr o) s t = sym (outside_empty opening (numbered past) g (runs opening past r) o)

    of : (t : Bool) → (p == g) ≡ t → (u : Bool) → (q == g) ≡ u → cond (p == g) (L p) (cond (q == g) (L q) []) ≡ L g
    of true s u t = ap (λ v. cond v (L p) (cond (q == g) (L q) [])) s ∙ ap L (eqb-true p g s)
    of false s true t = ap₂ (λ v w. cond v (L p) (cond w (L q) [])) s t ∙ ap L (eqb-true q g t)
    of false s false t = ap₂ (λ v w. cond v (L p) (cond w (L q) [])) s t ∙ out h s t

answered : (past : List Event) (opening : Opening) (step : Step) (low high : ℕ) (histories : ℕ → List LocalEvent)
    → IsRun opening past → Names (forest_of opening past) step low high
    → ((g : ℕ) → ((low == g) || (high == g)) ≡ true → histories g ≡ local_history opening (numbered past) g)
    → answer_lent opening (registry_history opening (numbered past)) histories step ≡ answer_of opening step past
answered past opening step low high histories r n h =
    lent_answers opening (numbered past) histories step (runs opening past r) (λ g k. h g (sym (n g) ∙ k))
    ∙ ap (λ p. answer_of opening step p) (numbered_events past)

pub answers_two : (past : List Event) (opening : Opening) (step : Step) (low high p q : ℕ) (a b : GuardianState)
    → IsRun opening past → Names (forest_of opening past) step low high → a ≡ standing opening past p → b ≡ standing opening past q
    → ((g : ℕ) → ((low == g) || (high == g)) ≡ true → (((p == g) || (q == g)) ≡ true) ⊎ IsOut (length opening.setup) g)
    → answer_lent opening (registry_history opening (numbered past)) (lent_two a b) step ≡ answer_of opening step past
answers_two past opening step low high p q a b r n x y h =
    answered past opening step low high (lent_two a b) r n (λ g k. lent_or_out opening past a b p q g r x y (h g k))

pub out_at : (count m g : ℕ) → IsOut count m → (m == g) ≡ true → IsOut count g
out_at count m g o q = subst (λ k. IsOut count k) (eqb-true m g q) o

pub answers_alone : (past : List Event) (opening : Opening) (step : Step) (low high : ℕ)
    → IsRun opening past → Names (forest_of opening past) step low high → IsOut (length opening.setup) low → IsOut (length opening.setup) high
    → answer_lent opening (registry_history opening (numbered past)) nobody step ≡ answer_of opening step past
answers_alone past opening step low high r n o p =
    answered past opening step low high nobody r n (λ g k. sym (outside_empty opening (numbered past) g (runs opening past r) (of g (or_cases _ _ k))))
  where
    of : (g : ℕ) → ((low == g) ≡ true) ⊎ ((high == g) ≡ true) → IsOut (length opening.setup) g
    of g (inl q) = out_at (length opening.setup) low g o q
    of g (inr q) = out_at (length opening.setup) high g p q

-- the guardian of a number
pub stands_at : {X : Type 0} {stored : X → View} {forest : ForestState → Type 0} (stands : X → GuardianState → Type 0) (opening : Opening) (past : List Event) (gs : List X)
    (n : ℕ) (x : X) → IsWorld stands stored forest opening past gs → 1 ≤ n → slice_get gs (n - 1) ≡ Some x → stands x (standing opening past n)
stands_at stands opening past gs n x w l s =
    let e : (n - 1) + 1 ≡ n = omega arith in
    subst (λ k. stands x (standing opening past k)) e (w.each (n - 1) x s)

-- two that stand where the run leads them are lent with the forest
pub lent_by : {X : Type 0} {stored : X → View} {forest : ForestState → Type 0} (stands : X → GuardianState → Type 0) (opening : Opening) (past : List Event) (gs : List X)
    (p q : ℕ) (x y : X) → IsWorld stands stored forest opening past gs → stands x (standing opening past p) → stands y (standing opening past q)
    → AreLent forest (stands x) (stands y) (forest_of opening past) (standing opening past p) (standing opening past q)
lent_by stands opening past gs p q x y w h k = record { forest = w.forest; first = h; second = k; opening = record { first = refl; second = refl } }

-- one of the two is no guardian
pub answers_low : (past : List Event) (opening : Opening) (step : Step) (low high : ℕ) (a : GuardianState)
    → IsRun opening past → Names (forest_of opening past) step low high → a ≡ standing opening past low → IsOut (length opening.setup) high
    → answer_lent opening (registry_history opening (numbered past)) (lent_two a a) step ≡ answer_of opening step past
answers_low past opening step low high a r n x o = answers_two past opening step low high low low a a r n x x (λ g h. of g (or_cases _ _ h))
  where
    of : (g : ℕ) → ((low == g) ≡ true) ⊎ ((high == g) ≡ true) → (((low == g) || (low == g)) ≡ true) ⊎ IsOut (length opening.setup) g
    of g (inl q) = inl (or_left _ _ q)
    of g (inr q) = inr (out_at (length opening.setup) high g o q)

pub answers_high : (past : List Event) (opening : Opening) (step : Step) (low high : ℕ) (a : GuardianState)
    → IsRun opening past → Names (forest_of opening past) step low high → a ≡ standing opening past high → IsOut (length opening.setup) low
    → answer_lent opening (registry_history opening (numbered past)) (lent_two a a) step ≡ answer_of opening step past
answers_high past opening step low high a r n x o = answers_two past opening step low high high high a a r n x x (λ g h. of g (or_cases _ _ h))
  where
    of : (g : ℕ) → ((low == g) ≡ true) ⊎ ((high == g) ≡ true) → (((high == g) || (high == g)) ≡ true) ⊎ IsOut (length opening.setup) g
    of g (inl q) = inr (out_at (length opening.setup) low g o q)
    of g (inr q) = inl (or_left _ _ q)
