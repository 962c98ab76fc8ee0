-- What keeping an event asks and leaves.
use Rattle.std.proofs.Common.{List, Some, [], ap, ap₂, arith, false, get_or, inl, inr, length, refl, set, subst, sym, true, ℕ, ◌++◌, ◌+◌, ◌-◌, ◌<◌, ◌==◌, ◌∙◌, ◌∷◌, ◌≡◌, ◌≤◌, ◌||◌, ◌⊎◌, slice_get}
use Rattle.std.proofs.lemmas.Option.{slice_get-get_or, slice_get_within}
use Rattle.std.proofs.lemmas.Bool.{cases_eq, false≢true, ne_eqb, or_left, or_right}
use Rattle.run_model.specs.declared.history.Event.{Event}
use Rattle.run_model.specs.declared.step.Step.{Step}
use Rattle.run_model.specs.declared.step.Step.TheVariants.{Op}
use Rattle.run_model.specs.LocalHistories.{Stamped, carried_lent, events_of, events_there, history_after_lent, local_history, names_guardian, registry_history, numbered}
use Rattle.run_model.specs.LocalReadings.{LocalEvent}
use Rattle.run_model.specs.Openings.{Opening}
use Rattle.run_model.specs.Runs.{IsRun}
use Rattle.run_laws.proofs.Names.{eqb_self}
use Rattle.local_laws.specs.Owed.{IsLocalRun, IsOwed}
use Rattle.local_laws.proofs.Lending.{lent_grows, unnamed_stay}
use Rattle.local_laws.proofs.Outcomes.{history_named, local_event}
use Rattle.local_laws.proofs.Owing.{local_runs, newest_owed}
use Rattle.local_laws.proofs.Registry.{registry_same}
use Rattle.local_laws.proofs.Growing.{names_same}
use Rattle.stable_store.specs.Calls.{View}
use Rattle.layer_contracts.specs.Stores.{IsStoreOf}
use Rattle.layer_contracts.specs.Guardians.{GuardianState, after_step, lent_two, stamped}
use Rattle.layer_contracts.specs.Forests.{ForestState}
use Rattle.layer_contracts.specs.Messages.{is_operation}
use Rattle.world_steps.specs.Keeping.{AreAnswered, IsDone, StandsStill}
use Rattle.world_steps.specs.Lending.{AreLent}
use Rattle.world_steps.specs.Standings.{AreSame, IsKeptAt, IsReady, IsWholeAt, IsWorld, Names, forest_of, standing}
use Rattle.world_steps.proofs.WorldAgreed.{agrees_lent}
use Rattle.world_steps.proofs.Inside.{IsInside, named_inside}
use Rattle.world_steps.proofs.Led.{answers_two, lent_by, lent_or_out, numbered_events, runs, stands_at}
use Rattle.world_steps.proofs.Places.{back_at, front_at, set_apart, set_back, set_front, set_other, set_there, some_eq, there}

pub inside : (past : List Event) (opening : Opening) (e : Event) (low high g : ℕ) → IsRun opening (e ∷ past) → Names (forest_of opening past) e.step low high
    → ((low == g) || (high == g)) ≡ true → IsInside opening g
inside past opening e low high g r n k =
    named_inside opening e past g r
    (ap (λ p. names_guardian e.step p g) (sym (numbered_events past))
    ∙ sym (names_same (events_there (registry_history opening (numbered past))) (events_of (numbered past)) g (registry_same opening (numbered past) (runs opening past r.2)) e.step)
    ∙ n g ∙ k)

-- both of those that the event names have a place among the guardians
pub place_of : {X : Type 0} {stored : X → View} {forest : ForestState → Type 0} (stands : X → GuardianState → Type 0) (past : List Event) (opening : Opening) (gs : List X)
    (e : Event) (low high g : ℕ)
    → IsWorld stands stored forest opening past gs → IsRun opening (e ∷ past) → Names (forest_of opening past) e.step low high → ((low == g) || (high == g)) ≡ true
    → (1 ≤ g) × (g ≤ length gs) × (g - 1 < length gs)
place_of stands past opening gs e low high g w r n k =
    let i = inside past opening e low high g r n k in
    let l : 1 ≤ g = i.low in
    let h : g ≤ length gs = subst (λ m. g ≤ m) (sym w.count) i.high in
    let lt : g - 1 < length gs = omega (arith, l, h) in
    (l, h, lt)

-- the history of the longer run owes nothing of the event
owed_there : (opening : Opening) (s : Stamped) (run : List Stamped) (g : ℕ) → IsRun opening (events_of (s ∷ run)) → names_guardian s.1.step (events_of run) g ≡ true
    → IsOwed opening g (local_event opening s run g) (local_history opening run g) s.1.step
owed_there opening s run g r n =
    let P : List LocalEvent → Type 0 = λ l. IsLocalRun opening g [] l in
    newest_owed opening g (local_event opening s run g) (local_history opening run g)
    (subst P (history_named opening s run g n) (local_runs opening (s ∷ run) g r))

-- an operation asks nothing of what is carried
owed_operation : (opening : Opening) (g : ℕ) (c d : LocalEvent) (here there : List LocalEvent) (step : Step) → is_operation step ≡ true → c.event ≡ d.event → here ≡ there
    → IsOwed opening g c here step → IsOwed opening g d there step
owed_operation opening g c d here there (Op a x wanted) o e h k =
    subst (λ l. IsOwed opening g d l (Op a x wanted)) h (k.0, sym (ap (λ v. v.answer) e) ∙ k.1)
owed_operation opening g c d here there _ o e h k = absurd (false≢true o)

-- two that stand where the run leads them answer its next event
pub are_answered : (past : List Event) (opening : Opening) (e : Event) (low high : ℕ) {forest : ForestState → Type 0} {one other : GuardianState → Type 0}
    → IsRun opening (e ∷ past) → Names (forest_of opening past) e.step low high
    → AreLent forest one other (forest_of opening past) (standing opening past low) (standing opening past high)
    → AreAnswered forest one other (forest_of opening past) (standing opening past low) (standing opening past high) e
are_answered past opening e low high r n lent =
    let a : GuardianState = standing opening past low in
    let b : GuardianState = standing opening past high in
    record {
      lent = lent;
      answered = record {
        answer = r.0 ∙ sym (answers_two past opening e.step low high low high a b r.2 n refl refl (λ g h. inl h));
        accepted = r.1;
        operation = λ g o m. owed_operation opening g (local_event opening (length (e ∷ past), e) (numbered past) g)
            (stamped 0 (record { event = e; carried = carried_lent opening e g (registry_history opening (numbered past)) (lent_two a b) }))
            (local_history opening (numbered past) g) (lent_two a b g) e.step o refl
            (sym (lent_or_out opening past a b low high g r.2 refl refl (inl (sym (n g) ∙ m))))
            (owed_there opening (length (e ∷ past), e) (numbered past) g (runs opening (e ∷ past) r)
            (sym (names_same (events_there (registry_history opening (numbered past))) (events_of (numbered past)) g (registry_same opening (numbered past) (runs opening past r.2)) e.step)
            ∙ m));
        agrees = λ g q m. agrees_lent past opening e low high g a b r n refl refl q;
      };
    }

-- an answered event may be kept
pub ready : {X : Type 0} {stored : X → View} {forest : ForestState → Type 0} (stands : X → GuardianState → Type 0) (past : List Event) (opening : Opening) (gs : List X) (e : Event)
    (low high : ℕ)
    → IsWorld stands stored forest opening past gs → Names (forest_of opening past) e.step low high → IsRun opening (e ∷ past) → 1 ≤ low → 1 ≤ high
    → IsReady stands forest (forest_of opening past) (λ g. standing opening past g) low high e gs
ready stands past opening gs e low high w n r l k = record {
  number = λ g. refl;
  each = λ x y sx sy.
      are_answered past opening e low high r n
      (lent_by stands opening past gs low high x y w (stands_at stands opening past gs low x w l sx) (stands_at stands opening past gs high y w k sy));
}

-- who is lent and named stands where the longer run leads it
after_is : (past : List Event) (opening : Opening) (e : Event) (lent : ℕ → List LocalEvent) (p : ℕ)
    → history_after_lent opening (length (e ∷ past), e) (registry_history opening (numbered past)) lent p ≡ local_history opening (numbered (e ∷ past)) p
    → after_step (standing opening past p) (length (e ∷ past), e) (registry_history opening (numbered past)) lent ≡ standing opening (e ∷ past) p
after_is past opening e lent p grown = ap (λ l. record { opening = opening; number = p; past = l }) grown

-- the forest and two guardians that have kept the event stand where the longer run leads them
pub led_on : (past : List Event) (opening : Opening) (e : Event) (low high : ℕ) {forest : ForestState → Type 0} {one other : GuardianState → Type 0}
    → IsRun opening (e ∷ past) → Names (forest_of opening past) e.step low high
    → IsDone forest one other (forest_of opening past) (standing opening past low) (standing opening past high) e (length (e ∷ past))
    → forest (forest_of opening (e ∷ past)) × one (standing opening (e ∷ past) low) × other (standing opening (e ∷ past) high)
led_on past opening e low high {forest = forest} {one = one} {other = other} r n done =
    let s : Stamped = (length (e ∷ past), e) in
    let lent : ℕ → List LocalEvent = lent_two (standing opening past low) (standing opening past high) in
    let R = registry_history opening (numbered past) in
    let grown = lent_grows opening s (numbered past) lent (runs opening (e ∷ past) r)
    (λ g m. lent_or_out opening past (standing opening past low) (standing opening past high) low high g r.2 refl refl (inl (sym (n g) ∙ m))) in
    let at : (p : ℕ) → ((low == p) || (high == p)) ≡ true → history_after_lent opening s R lent p ≡ local_history opening (numbered (e ∷ past)) p =
    λ p q. grown.1 p (n p ∙ q) in (
      subst (λ reg. forest (record { opening = opening; registry = reg })) grown.0 done.forest,
      subst one (after_is past opening e lent low (at low (or_left _ _ (eqb_self low)))) done.first,
      subst other (after_is past opening e lent high (at high (or_right _ _ (eqb_self high)))) done.second,
    )

-- The stores of all are still those of their histories, if those of the two are, of which each is that of any history in which its guardian stands.
stores_whole : {X : Type 0} {stands : X → GuardianState → Type 0} {stored : X → View} {low high : ℕ} {gs : List X} (states : ℕ → GuardianState)
    → IsWholeAt stands stored low gs → IsWholeAt stands stored high gs → ((i : ℕ) (x : X) → slice_get gs i ≡ Some x → stands x (states (i + 1)))
    → ((i : ℕ) (x : X) → (i ≡ low - 1 → ⊥) → (i ≡ high - 1 → ⊥) → slice_get gs i ≡ Some x → IsStoreOf (states (i + 1)) (stored x))
    → (i : ℕ) (x : X) → slice_get gs i ≡ Some x → IsStoreOf (states (i + 1)) (stored x)
stores_whole {X} {stands} {stored} {low} {high} {gs} states first second each others i x q = of (cases_eq i (low - 1)) (cases_eq i (high - 1))
  where
    of : (i ≡ low - 1) ⊎ (i ≡ low - 1 → ⊥) → (i ≡ high - 1) ⊎ (i ≡ high - 1 → ⊥) → IsStoreOf (states (i + 1)) (stored x)
    of (inl m) o = first.at x (states (i + 1)) (ap (λ j. slice_get gs j) (sym m) ∙ q) (each i x q)
    of (inr m) (inl o) = second.at x (states (i + 1)) (ap (λ j. slice_get gs j) (sym o) ∙ q) (each i x q)
    of (inr m) (inr o) = others i x m o q

-- a place that is that of no number
apart : (i p : ℕ) → (i ≡ p - 1 → ⊥) → p ≡ i + 1 → ⊥
apart i p m t = let back : i ≡ p - 1 = omega arith in m back

pub more : {X : Type 0} {stored : X → View} {stood : ForestState → Type 0} (stands : X → GuardianState → Type 0) (forest : ForestState → Type 0) (past : List Event)
    (opening : Opening) (gs gs' : List X) (e : Event) (low high : ℕ)
    → IsWorld stands stored stood opening past gs → Names (forest_of opening past) e.step low high → IsRun opening (e ∷ past) → 1 ≤ low → 1 ≤ high → low ≤ length gs
    → high ≤ length gs → length gs' ≡ length gs → IsKeptAt stands forest (forest_of opening past) (λ g. standing opening past g) low high (length (e ∷ past)) e gs gs'
    → IsWholeAt stands stored low gs' → IsWholeAt stands stored high gs' → IsWorld stands stored forest opening (e ∷ past) gs'
more {X} {stored} stands forest past opening gs gs' e low high w n r l1 l2 h1 h2 len k whole also =
    let lt3 : low - 1 < length gs' = omega arith in
    let lt4 : high - 1 < length gs' = omega arith in
    of (there gs' (low - 1) lt3).0 (there gs' (high - 1) lt4).0 (there gs' (low - 1) lt3).1 (there gs' (high - 1) lt4).1
  where
    s : Stamped
    s = (length (e ∷ past), e)

    -- who is not named stands where it stood
    stays : (i : ℕ) → (i ≡ low - 1 → ⊥) → (i ≡ high - 1 → ⊥) → standing opening past (i + 1) ≡ standing opening (e ∷ past) (i + 1)
    stays i m o =
        let unnamed : names_guardian e.step (events_there (registry_history opening (numbered past))) (i + 1) ≡ false =
        n (i + 1) ∙ ap₂ ◌||◌ (ne_eqb low (i + 1) (apart i low m)) (ne_eqb high (i + 1) (apart i high o)) in
        ap (λ l. record { opening = opening; number = i + 1; past = l }) (sym (unnamed_stay opening s (numbered past) (i + 1) (runs opening (e ∷ past) r) unnamed))

    of : (x y : X) → slice_get gs' (low - 1) ≡ Some x → slice_get gs' (high - 1) ≡ Some y → IsWorld stands stored forest opening (e ∷ past) gs'
    of x y sx sy =
        let led = led_on past opening e low high r n (k.two x y sx sy) in
        let each : (i : ℕ) (z : X) → slice_get gs' i ≡ Some z → stands z (standing opening (e ∷ past) (i + 1)) =
        λ i z q. each_of i z q x y sx sy led.1 led.2 (cases_eq i (low - 1)) (cases_eq i (high - 1)) in
        record {
          is_run = r;
          forest = led.0;
          count = len ∙ w.count;
          each = each;
          stores = stores_whole (λ g. standing opening (e ∷ past) g) whole also each (λ i z m o q.
              subst (λ t. IsStoreOf t (stored z)) (stays i m o) (w.stores i z (sym (k.others i m o) ∙ q)));
        }
      where
        each_of : (i : ℕ) (z : X) → slice_get gs' i ≡ Some z → (x y : X) → slice_get gs' (low - 1) ≡ Some x → slice_get gs' (high - 1) ≡ Some y
            → stands x (standing opening (e ∷ past) low) → stands y (standing opening (e ∷ past) high)
            → (i ≡ low - 1) ⊎ (i ≡ low - 1 → ⊥) → (i ≡ high - 1) ⊎ (i ≡ high - 1 → ⊥) → stands z (standing opening (e ∷ past) (i + 1))
        each_of i z q x y sx sy first second (inl m) o =
            let same : low ≡ i + 1 = omega arith in
            subst (λ u. stands u (standing opening (e ∷ past) (i + 1))) (some_eq x z (sym sx ∙ ap (λ j. slice_get gs' j) (sym m) ∙ q))
            (subst (λ j. stands x (standing opening (e ∷ past) j)) same first)
        each_of i z q x y sx sy first second (inr m) (inl o) =
            let same : high ≡ i + 1 = omega arith in
            subst (λ u. stands u (standing opening (e ∷ past) (i + 1))) (some_eq y z (sym sy ∙ ap (λ j. slice_get gs' j) (sym o) ∙ q))
            (subst (λ j. stands y (standing opening (e ∷ past) j)) same second)
        each_of i z q x y sx sy first second (inr m) (inr o) = subst (λ t. stands z t) (stays i m o) (w.each i z (sym (k.others i m o) ∙ q))

pub same : {X : Type 0} {stored : X → View} {stood : ForestState → Type 0} (stands : X → GuardianState → Type 0) (forest : ForestState → Type 0) (past : List Event)
    (opening : Opening) (gs gs' : List X) (low high : ℕ)
    → IsWorld stands stored stood opening past gs → length gs' ≡ length gs → AreSame stands stood forest gs gs'
    → ((i : ℕ) → (i ≡ low - 1 → ⊥) → (i ≡ high - 1 → ⊥) → slice_get gs' i ≡ slice_get gs i)
    → IsWholeAt stands stored low gs' → IsWholeAt stands stored high gs' → IsWorld stands stored forest opening past gs'
same {X} {stored} stands forest past opening gs gs' low high w len k others whole also = record {
  is_run = w.is_run;
  forest = k.forest (forest_of opening past) w.forest;
  count = len ∙ w.count;
  each = each;
  stores = stores_whole (λ g. standing opening past g) whole also each (λ i z m o q. w.stores i z (sym (others i m o) ∙ q));
}
  where
    before : (i : ℕ) (z : X) → slice_get gs' i ≡ Some z → i < length gs
    before i z q = let b = slice_get_within gs' i z q in omega arith

    each : (i : ℕ) (z : X) → slice_get gs' i ≡ Some z → stands z (standing opening past (i + 1))
    each i z q =
        let p = there gs i (before i z q) in
        k.each i p.0 z p.1 q (standing opening past (i + 1)) (w.each i p.0 p.1)

pub same_at : {X : Type 0} (stands : X → GuardianState → Type 0) (i : ℕ) (stood forest : ForestState → Type 0) (gs left right : List X) (a' b' d d' : X)
    → gs ≡ left ++ right → i < length left → 0 < length right → ((f : ForestState) → stood f → forest f) → StandsStill (stands (get_or left i d)) (stands a')
    → StandsStill (stands (get_or right 0 d')) (stands b')
    → AreSame stands stood forest gs (set left i a' ++ set right 0 b')
same_at {X} stands i stood forest gs left right a' b' d d' g lt lt2 h ka kb =
    record { forest = h; each = λ k x y q r s. of k x y q r s (cases_eq k i) (cases_eq k (length left)) }
  where
    of : (k : ℕ) (x y : X) → slice_get gs k ≡ Some x → slice_get (set left i a' ++ set right 0 b') k ≡ Some y → (s : GuardianState)
        → (k ≡ i) ⊎ (k ≡ i → ⊥) → (k ≡ length left) ⊎ (k ≡ length left → ⊥) → stands x s → stands y s
    of k x y q r s (inl m) o here =
        subst (λ u. stands u s) (sym (some_eq y a' (sym r ∙ ap (λ j. slice_get (set left i a' ++ set right 0 b') j) m ∙ set_front left (set right 0 b') i a' lt)))
        (ka s (subst (λ u. stands u s) (some_eq x (get_or left i d) (sym q ∙ ap₂ (λ l j. slice_get l j) g m ∙ front_at left right i d lt)) here))
    of k x y q r s (inr m) (inl o) here =
        subst (λ u. stands u s) (sym (some_eq y b' (sym r ∙ ap (λ j. slice_get (set left i a' ++ set right 0 b') j) o ∙ set_back left right i a' b' lt2)))
        (kb s (subst (λ u. stands u s) (some_eq x (get_or right 0 d') (sym q ∙ ap₂ (λ l j. slice_get l j) g o ∙ back_at left right d' lt2)) here))
    of k x y q r s (inr m) (inr o) here =
        subst (λ u. stands u s) (sym (some_eq y x (sym r ∙ set_other left right i k a' b' m o ∙ ap (λ l. slice_get l k) (sym g) ∙ q))) here

pub same_one : {X : Type 0} (stands : X → GuardianState → Type 0) (i : ℕ) (stood forest : ForestState → Type 0) (gs : List X) (a' d : X)
    → i < length gs → ((f : ForestState) → stood f → forest f) → StandsStill (stands (get_or gs i d)) (stands a') → AreSame stands stood forest gs (set gs i a')
same_one {X} stands i stood forest gs a' d lt h ka = record { forest = h; each = λ k x y q r s. of k x y q r s (cases_eq k i) }
  where
    of : (k : ℕ) (x y : X) → slice_get gs k ≡ Some x → slice_get (set gs i a') k ≡ Some y → (s : GuardianState) → (k ≡ i) ⊎ (k ≡ i → ⊥) → stands x s → stands y s
    of k x y q r s (inl m) here =
        subst (λ u. stands u s) (sym (some_eq y a' (sym r ∙ ap (λ j. slice_get (set gs i a') j) m ∙ set_there gs i a' lt)))
        (ka s (subst (λ u. stands u s) (some_eq x (get_or gs i d) (sym q ∙ ap (λ j. slice_get gs j) m ∙ slice_get-get_or gs i d lt)) here))
    of k x y q r s (inr m) here = subst (λ u. stands u s) (sym (some_eq y x (sym r ∙ set_apart gs i k a' m ∙ q))) here

-- two elements of what was split
pub kept_then : {X : Type 0} (stands : X → GuardianState → Type 0) (states : ℕ → GuardianState) (low high m n : ℕ) (e : Event) (forest : ForestState → Type 0) (f : ForestState)
    (gs left right : List X) (a' b' : X)
    → gs ≡ left ++ right → length left ≡ high - 1 → low - 1 < length left → 0 < length right → m ≡ n
    → IsDone forest (stands a') (stands b') f (states low) (states high) e m
    → IsKeptAt stands forest f states low high n e gs (set left (low - 1) a' ++ set right 0 b')
kept_then stands states low high m n e forest f gs left right a' b' g len lt lt2 number done = record {
  two = λ x y sx sy.
      let px = some_eq a' x (sym (set_front left (set right 0 b') (low - 1) a' lt) ∙ sx) in
      let py = some_eq b' y (sym (ap (λ m. slice_get (set left (low - 1) a' ++ set right 0 b') m) (sym len) ∙ set_back left right (low - 1) a' b' lt2) ∙ sy) in
      subst (λ u. IsDone forest (stands u) (stands y) f (states low) (states high) e n) px
      (subst (λ u. IsDone forest (stands a') (stands u) f (states low) (states high) e n) py
      (subst (λ k. IsDone forest (stands a') (stands b') f (states low) (states high) e k) number done));
  others = λ i p q. set_other left right (low - 1) i a' b' p (λ t. q (t ∙ len)) ∙ ap (λ l. slice_get l i) (sym g);
}

-- and one element
pub kept_one : {X : Type 0} (stands : X → GuardianState → Type 0) (states : ℕ → GuardianState) (low high m n : ℕ) (e : Event) (forest : ForestState → Type 0) (f : ForestState)
    (gs : List X) (a' : X)
    → low ≡ high → low - 1 < length gs → m ≡ n → IsDone forest (stands a') (stands a') f (states low) (states low) e m
    → IsKeptAt stands forest f states low high n e gs (set gs (low - 1) a')
kept_one stands states low high m n e forest f gs a' same lt number done =
    let put : slice_get (set gs (low - 1) a') (low - 1) ≡ Some a' = set_there gs (low - 1) a' lt in
    let put_high : slice_get (set gs (low - 1) a') (high - 1) ≡ Some a' = ap (λ k. slice_get (set gs (low - 1) a') (k - 1)) (sym same) ∙ put in
    record {
      two = λ x y sx sy.
          subst (λ u. IsDone forest (stands u) (stands y) f (states low) (states high) e n) (some_eq a' x (sym put ∙ sx))
          (subst (λ u. IsDone forest (stands a') (stands u) f (states low) (states high) e n) (some_eq a' y (sym put_high ∙ sy))
          (subst (λ g. IsDone forest (stands a') (stands a') f (states low) (states g) e n) same
          (subst (λ k. IsDone forest (stands a') (stands a') f (states low) (states low) e k) number done)));
      others = λ i p q. set_apart gs (low - 1) i a' p;
    }

-- and the one is answered as both
pub answered_one : {X : Type 0} (stands : X → GuardianState → Type 0) (states : ℕ → GuardianState) (low high : ℕ) (e : Event) (forest : ForestState → Type 0) (f : ForestState)
    (x : X) → low ≡ high → AreAnswered forest (stands x) (stands x) f (states low) (states high) e
    → AreAnswered forest (stands x) (stands x) f (states low) (states low) e
answered_one stands states low high e forest f x same h = subst (λ g. AreAnswered forest (stands x) (stands x) f (states low) (states g) e) (sym same) h

pub differ : (a b low high : ℕ) → a ≡ low → b ≡ high → (low == high) ≡ false → (a == b) ≡ false
differ a b low high p q h = ap₂ (λ m n. m == n) p q ∙ h
