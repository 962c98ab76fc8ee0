-- What a step of a world leaves of the stores.
use Rattle.std.proofs.Common.{Err, IsErrAnd, List, Ok, Option, Result, Some, ap, ap₂, refl, arith, Bool, false, get_or, inl, inr, length, set, subst, sym, true, ℕ, ◌&&◌, ◌++◌, ◌+◌, ◌-◌, ◌<◌, ◌==◌, ◌∙◌, ◌∷◌, ◌≡◌, ◌≤◌, ◌||◌, ◌⊎◌, slice_get}
use Rattle.std.proofs.lemmas.Bool.{cases_eq, ne_eqb, or_left, or_right}
use Rattle.std.proofs.lemmas.Option.{slice_get-get_or}
use Rattle.run_model.specs.declared.history.Event.{Event}
use Rattle.run_model.specs.declared.step.Step.{Step}
use Rattle.run_model.specs.Answers.{answer_of}
use Rattle.run_model.specs.LocalHistories.{carried_lent, events_of, events_there, local_history, names_guardian, registry_history, numbered}
use Rattle.run_model.specs.LocalReadings.{Carried, LocalEvent}
use Rattle.run_model.specs.Openings.{Opening}
use Rattle.run_model.specs.Runs.{IsRun, is_accepted}
use Rattle.run_laws.proofs.Names.{eqb_self}
use Rattle.local_laws.proofs.Growing.{names_same}
use Rattle.local_laws.proofs.Registry.{registry_same}
use Rattle.stable_store.specs.Calls.{View}
use Rattle.guardian_laws.specs.Stored.{after_event, asks_store}
use Rattle.layer_contracts.specs.Forests.{ForestState}
use Rattle.layer_contracts.specs.Guardians.{GuardianState, lent_two}
use Rattle.layer_contracts.specs.Stores.{CountsFailure, IsStoreOf, Leaves}
use Rattle.layer_contracts.specs.declared.guardian.Fault.{Fault}
use Rattle.layer_contracts.specs.declared.guardian.Fault.TheVariants.{Memory, Stable}
use Rattle.layer_contracts.proofs.Stores.{left_alone, refused_before, stays_same}
use Rattle.world_steps.specs.Keeping.{StoreLeft}
use Rattle.world_steps.specs.Standings.{HasFailed, IsLeftAt, IsWholeAt, IsWorld, Names, StoresLeft, asks_of, brought, content_then, event_next, forest_of, standing}
use Rattle.world_steps.proofs.WorldAgreed.{carried_there}
use Rattle.world_steps.proofs.Led.{numbered_events, runs}
use Rattle.world_steps.proofs.Places.{back_at, front_at, set_apart, set_back, set_front, set_other, set_there, some_eq}

-- ---- no guardian was touched

module _ {X : Type 0} (stored : X → View) (opening : Opening) (past : List Event) (step : Step) (gs : List X) where
  untouched : (fault : Option Fault) → ((i : ℕ) (x : X) → slice_get gs i ≡ Some x
      → Leaves (asks_of opening step past (i + 1) (stored x).content) (content_then opening step past (i + 1) (stored x).content) (stored x) (stored x) fault)
      → StoresLeft stored opening past step gs gs fault
  untouched fault h = record {
    each = λ i x y p q.
        subst (λ z. Leaves (asks_of opening step past (i + 1) (stored x).content) (content_then opening step past (i + 1) (stored x).content) (stored x) (stored z) fault)
        (some_eq x y (sym p ∙ q)) (h i x p);
  }

  -- memory ran out before any guardian was called
  pub stores_refused : (stands : X → GuardianState → Type 0) (forest : ForestState → Type 0) → IsWorld stands stored forest opening past gs
      → StoresLeft stored opening past step gs gs (Some Memory)
  stores_refused stands forest w = untouched (Some Memory) (λ i x p.
      let whole = w.stores i x p in
      refused_before (asks_of opening step past (i + 1) (stored x).content) (content_then opening step past (i + 1) (stored x).content) (stored x) (stored x)
      (stays_same (stored x)) whole.found whole.rests)

  -- a step that is not accepted asks for nothing
  pub stores_idle : (fault : Option Fault) → is_accepted (answer_of opening step past) ≡ false → StoresLeft stored opening past step gs gs fault
  stores_idle fault idle = untouched fault (λ i x p.
      left_alone (asks_of opening step past (i + 1) (stored x).content) (content_then opening step past (i + 1) (stored x).content) (stored x) (stored x) fault
      (ap (λ t. t && (names_guardian step past (i + 1) && asks_store (i + 1) (brought opening (event_next opening step past) past (i + 1)) (stored x).content)) idle)
      (stays_same (stored x)))

-- ---- the event was kept at the guardians that it names

-- what the event names by the registry it names by the run
named_run : (past : List Event) (opening : Opening) (e : Event) (g : ℕ) → IsRun opening past
    → names_guardian e.step (events_there (registry_history opening (numbered past))) g ≡ names_guardian e.step past g
named_run past opening e g r =
    names_same (events_there (registry_history opening (numbered past))) (events_of (numbered past)) g (registry_same opening (numbered past) (runs opening past r)) e.step
    ∙ ap (λ p. names_guardian e.step p g) (numbered_events past)

-- one of the two that the event names
pub left_at : (past : List Event) (opening : Opening) (e : Event) (low high g : ℕ) (old new : View) (fault : Option Fault)
    → IsRun opening (e ∷ past) → Names (forest_of opening past) e.step low high → ((low == g) || (high == g)) ≡ true
    → StoreLeft (forest_of opening past) (standing opening past low) (standing opening past high) e (standing opening past g) old new fault
    → Leaves (asks_of opening e.step past g old.content) (content_then opening e.step past g old.content) old new fault
left_at past opening e low high g old new fault r n k left =
    let a : GuardianState = standing opening past low in
    let b : GuardianState = standing opening past high in
    let here : List LocalEvent = local_history opening (numbered past) g in
    let P : Carried → Bool → Type 0 = λ m t.
    Leaves (t && asks_store g (record { stamp = 0; event = e; carried = m }) old.content)
    (after_event opening g (record { stamp = 0; event = e; carried = m }) here old.content) old new fault in
    let Q : Event → Bool → Bool → Type 0 = λ d u t.
    Leaves (u && (t && asks_store g (brought opening d past g) old.content)) (after_event opening g (brought opening d past g) here old.content) old new fault in
    let lent : names_guardian e.step (events_there (registry_history opening (numbered past))) g ≡ true = n g ∙ k in
    let run_named : names_guardian e.step past g ≡ true = sym (named_run past opening e g r.2) ∙ lent in
    let numbered_named : names_guardian e.step (events_of (numbered past)) g ≡ true = ap (λ l. names_guardian e.step l g) (numbered_events past) ∙ run_named in
    let answered : e ≡ event_next opening e.step past = ap (λ answer. record { step = e.step; answer = answer }) r.0 in
    let by_lent : P (carried_lent opening e g (registry_history opening (numbered past)) (lent_two a b)) true =
    subst (P (carried_lent opening e g (registry_history opening (numbered past)) (lent_two a b))) lent left in
    let by_run : Q e true true = subst (λ m. P m true) (carried_there past opening e low high g a b r n refl refl lent numbered_named) by_lent in
    subst (λ d. Q d (is_accepted d.answer) (names_guardian e.step past g)) answered
    (subst (λ u. Q e u (names_guardian e.step past g)) (sym r.1) (subst (λ t. Q e true t) (sym run_named) by_run))

module _ {X : Type 0} {stored : X → View} (past : List Event) (opening : Opening) (gs gs' : List X) (e : Event) (low high : ℕ) (fault : Option Fault)
    (n : Names (forest_of opening past) e.step low high) (r : IsRun opening (e ∷ past)) (l1 : 1 ≤ low) (l2 : 1 ≤ high)
    (k : IsLeftAt stored (forest_of opening past) (λ g. standing opening past g) low high e gs gs' fault) where
  abbrev LeftOf : ℕ → View → View → Type 0
  LeftOf g old new = Leaves (asks_of opening e.step past g old.content) (content_then opening e.step past g old.content) old new fault

  two_left : (i p : ℕ) (x y : X) → i ≡ p - 1 → 1 ≤ p → ((low == p) || (high == p)) ≡ true
      → StoreLeft (forest_of opening past) (standing opening past low) (standing opening past high) e (standing opening past p) (stored x) (stored y) fault
      → LeftOf (i + 1) (stored x) (stored y)
  two_left i p x y m l q left =
      let same : p ≡ i + 1 = omega arith in
      subst (λ g. LeftOf g (stored x) (stored y)) same (left_at past opening e low high p (stored x) (stored y) fault r n q left)

  other_left : (i : ℕ) (x y : X) → slice_get gs i ≡ Some x → slice_get gs' i ≡ Some y → (i ≡ low - 1 → ⊥) → (i ≡ high - 1 → ⊥) → LeftOf (i + 1) (stored x) (stored y)
  other_left i x y sx sy m o =
      let unnamed : names_guardian e.step past (i + 1) ≡ false =
      sym (named_run past opening e (i + 1) r.2) ∙ n (i + 1) ∙ ap₂ ◌||◌ (ne_eqb low (i + 1) (apart low m)) (ne_eqb high (i + 1) (apart high o)) in
      let accepted : is_accepted (answer_of opening e.step past) ≡ true = sym (ap is_accepted r.0) ∙ r.1 in
      subst (λ z. LeftOf (i + 1) (stored x) (stored z)) (some_eq x y (sym sx ∙ sym (k.others i m o) ∙ sy))
      (left_alone (asks_of opening e.step past (i + 1) (stored x).content) (content_then opening e.step past (i + 1) (stored x).content) (stored x) (stored x) fault
      (ap₂ (λ u t. u && (t && asks_store (i + 1) (brought opening (event_next opening e.step past) past (i + 1)) (stored x).content)) accepted unnamed)
      (stays_same (stored x)))
    where
      apart : (p : ℕ) → (i ≡ p - 1 → ⊥) → p ≡ i + 1 → ⊥
      apart p m t = let back : i ≡ p - 1 = omega arith in m back

  left_of : (i : ℕ) (x y : X) → slice_get gs i ≡ Some x → slice_get gs' i ≡ Some y
      → (i ≡ low - 1) ⊎ (i ≡ low - 1 → ⊥) → (i ≡ high - 1) ⊎ (i ≡ high - 1 → ⊥) → LeftOf (i + 1) (stored x) (stored y)
  left_of i x y sx sy (inl m) o =
      two_left i low x y m l1 (or_left _ _ (eqb_self low)) (k.first x y (ap (λ j. slice_get gs j) (sym m) ∙ sx) (ap (λ j. slice_get gs' j) (sym m) ∙ sy))
  left_of i x y sx sy (inr m) (inl o) =
      two_left i high x y o l2 (or_right _ _ (eqb_self high)) (k.second x y (ap (λ j. slice_get gs j) (sym o) ∙ sx) (ap (λ j. slice_get gs' j) (sym o) ∙ sy))
  left_of i x y sx sy (inr m) (inr o) = other_left i x y sx sy m o

  pub stores_kept : StoresLeft stored opening past e.step gs gs' fault
  stores_kept = record { each = λ i x y p q. left_of i x y p q (cases_eq i (low - 1)) (cases_eq i (high - 1)) }

-- ---- where the two stand in the list

module _ {X : Type 0} (stored : X → View) (states : ℕ → GuardianState) (low high : ℕ) (e : Event) (f : ForestState) (fault : Option Fault) where
  abbrev Left : GuardianState → X → X → Type 0
  Left s x y = StoreLeft f (states low) (states high) e s (stored x) (stored y) fault

  -- two elements of what was split
  pub left_two : (gs left right : List X) (a' b' d d' : X) → gs ≡ left ++ right → length left ≡ high - 1 → low - 1 < length left → 0 < length right
      → Left (states low) (get_or left (low - 1) d) a' → Left (states high) (get_or right 0 d') b'
      → IsLeftAt stored f states low high e gs (set left (low - 1) a' ++ set right 0 b') fault
  left_two gs left right a' b' d d' g len lt lt2 one other =
      let a0 : X = get_or left (low - 1) d in
      let b0 : X = get_or right 0 d' in
      let at_low : slice_get gs (low - 1) ≡ Some a0 = ap (λ l. slice_get l (low - 1)) g ∙ front_at left right (low - 1) d lt in
      let at_high : slice_get gs (high - 1) ≡ Some b0 = ap₂ (λ l m. slice_get l m) g (sym len) ∙ back_at left right d' lt2 in
      record {
        first = λ x y sx sy.
            subst (λ u. Left (states low) u y) (some_eq a0 x (sym at_low ∙ sx))
            (subst (λ u. Left (states low) a0 u) (some_eq a' y (sym (set_front left (set right 0 b') (low - 1) a' lt) ∙ sy)) one);
        second = λ x y sx sy.
            subst (λ u. Left (states high) u y) (some_eq b0 x (sym at_high ∙ sx))
            (subst (λ u. Left (states high) b0 u)
            (some_eq b' y (sym (ap (λ m. slice_get (set left (low - 1) a' ++ set right 0 b') m) (sym len) ∙ set_back left right (low - 1) a' b' lt2) ∙ sy)) other);
        others = λ i p q. set_other left right (low - 1) i a' b' p (λ t. q (t ∙ len)) ∙ ap (λ l. slice_get l i) (sym g);
      }

  -- one element
  pub left_one : (gs : List X) (a' d : X) → low ≡ high → low - 1 < length gs
      → StoreLeft f (states low) (states low) e (states low) (stored (get_or gs (low - 1) d)) (stored a') fault
      → IsLeftAt stored f states low high e gs (set gs (low - 1) a') fault
  left_one gs a' d q lt one =
      let a0 : X = get_or gs (low - 1) d in
      let at_low : slice_get gs (low - 1) ≡ Some a0 = slice_get-get_or gs (low - 1) d lt in
      let at_high : slice_get gs (high - 1) ≡ Some a0 = ap (λ n. slice_get gs (n - 1)) (sym q) ∙ at_low in
      let put : slice_get (set gs (low - 1) a') (low - 1) ≡ Some a' = set_there gs (low - 1) a' lt in
      let put_high : slice_get (set gs (low - 1) a') (high - 1) ≡ Some a' = ap (λ n. slice_get (set gs (low - 1) a') (n - 1)) (sym q) ∙ put in
      let both : Left (states low) a0 a' = subst (λ g. StoreLeft f (states low) (states g) e (states low) (stored a0) (stored a') fault) q one in
      record {
        first = λ x y sx sy.
            subst (λ u. Left (states low) u y) (some_eq a0 x (sym at_low ∙ sx))
            (subst (λ u. Left (states low) a0 u) (some_eq a' y (sym put ∙ sy)) both);
        second = λ x y sx sy.
            subst (λ u. Left (states high) u y) (some_eq a0 x (sym at_high ∙ sx))
            (subst (λ u. Left (states high) a0 u) (some_eq a' y (sym put_high ∙ sy)) (subst (λ g. Left (states g) a0 a') q both));
        others = λ i p q. set_apart gs (low - 1) i a' p;
      }

-- the guardian of a number says that its store is that of its history
pub whole_at : {X : Type 0} (stands : X → GuardianState → Type 0) (stored : X → View) (number : ℕ) (gs : List X) (y : X) → slice_get gs (number - 1) ≡ Some y
    → ((s : GuardianState) → stands y s → IsStoreOf s (stored y)) → IsWholeAt stands stored number gs
whole_at stands stored number gs y there whole = record {
  at = λ x s q here.
      let same = some_eq y x (sym there ∙ q) in
      subst (λ z. IsStoreOf s (stored z)) same (whole s (subst (λ z. stands z s) (sym same) here));
}

-- ---- whose store failed

-- what was handed on as a failure was one
pub stable_from : {T U : Type 0} (r : Result T Fault) (fault : Fault) → IsErrAnd r (λ y. y ≡ fault) → r ≡ Err Stable → (s : Result U Fault) → s ≡ Err fault
    → s ≡ Err Stable
stable_from (Ok x) fault is h s e = absurd is
stable_from (Err y) fault is h s e = same (Err y) y fault s refl h is e
  where
    same : {T U : Type 0} (r : Result T Fault) (y z : Fault) (s : Result U Fault) → r ≡ Err y → r ≡ Err Stable → y ≡ z → s ≡ Err z → s ≡ Err Stable
    same r y z s e h is f = cc

module _ {X : Type 0} (stored : X → View) (gs : List X) (low : ℕ) where
  -- it is that of one element
  pub one_failed : (a' d : X) → low - 1 < length gs → CountsFailure (stored (get_or gs (low - 1) d)) (stored a') → HasFailed stored gs (set gs (low - 1) a')
  one_failed a' d lt counts = (low - 1, get_or gs (low - 1) d, a', slice_get-get_or gs (low - 1) d lt, set_there gs (low - 1) a' lt, counts)

  -- or of one of two elements of what was split
  pub two_failed : (left right : List X) (a' b' d d' : X) → gs ≡ left ++ right → low - 1 < length left → 0 < length right
      → CountsFailure (stored (get_or left (low - 1) d)) (stored a') ⊎ CountsFailure (stored (get_or right 0 d')) (stored b')
      → HasFailed stored gs (set left (low - 1) a' ++ set right 0 b')
  two_failed left right a' b' d d' g lt lt2 (inl counts) =
      (low - 1, get_or left (low - 1) d, a', ap (λ l. slice_get l (low - 1)) g ∙ front_at left right (low - 1) d lt, set_front left (set right 0 b') (low - 1) a' lt, counts)
  two_failed left right a' b' d d' g lt lt2 (inr counts) =
      (length left, get_or right 0 d', b', ap (λ l. slice_get l (length left)) g ∙ back_at left right d' lt2, set_back left right (low - 1) a' b' lt2, counts)
