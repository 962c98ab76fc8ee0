-- Whom a step names, by the two that it names.
use Rattle.std.proofs.Common.{Bool, List, None, Option, Some, ap, ap₂, eqb-true, false, inl, inr, length, refl, subst, sym, true, ℕ, ◌==◌, ◌∙◌, ◌∷◌, ◌≡◌, ◌&&◌, ◌||◌, ◌⊎◌, arith}
use Rattle.std.proofs.lemmas.Bool.{and_parts, or_cases, or_left, or_right, ltb-true}
use Rattle.run_model.specs.declared.history.Event.{Event}
use Rattle.action_names.specs.Names.{Name, parent_of}
use Rattle.values.specs.declared.content.Content.{Content}
use Rattle.run_model.specs.declared.step.Step.{Step}
use Rattle.run_model.specs.declared.step.Step.TheVariants.{Abort, Arms, Call, Close, Commit, Crash, Decide, NestedTop, Op, Prepare, Recover, Tell, Top}
use Rattle.run_model.specs.Actions.{home_of, maker_of}
use Rattle.run_model.specs.LocalHistories.{events_of, events_there, names_guardian, numbered, registry_history}
use Rattle.run_model.specs.Answers.{answer_of}
use Rattle.run_model.specs.Openings.{Opening, OpeningLists, opening_in}
use Rattle.run_model.specs.Runs.{IsRun, is_accepted}
use Rattle.layer_contracts.specs.Forests.{ForestState}
use Rattle.world_steps.specs.declared.names.NamedGuardians.{NamedGuardians}
use Rattle.world_steps.specs.Naming.{AreNamed, first_named, home_of_maker, second_named}
use Rattle.world_steps.proofs.Naming.{named_are}
use Rattle.local_laws.specs.Registries.{IsRegistrySame}
use Rattle.local_laws.proofs.Registry.{registry_same}
use Rattle.run_laws.proofs.Names.{eqb_self}
use Rattle.shared_run.proofs.Following.{named_there}
use Rattle.shared_run.proofs.Histories.{numbered_events, runs}
use Rattle.world_steps.specs.Standings.{IsOut, Names, forest_of}
use Rattle.world_steps.proofs.Inside.{IsInside, named_inside}
use Rattle.locked_run.specs.Acting.{is_at_most, is_out, names_nobody, names_one, names_two}

either : (s t u v : Bool) → (s || t) ≡ (u || v) → (t || s) ≡ (u || v)
either true true u v h = h
either true false u v h = h
either false true u v h = h
either false false u v h = h

swap : (s t : Bool) → (s || t) ≡ (t || s)
swap true true = refl
swap true false = refl
swap false true = refl
swap false false = refl

-- just these two, in this order or the other
pub two_are : (first second g h : ℕ) → (((first == g) && (second == h)) || ((first == h) && (second == g))) ≡ true
    → (k : ℕ) → ((first == k) || (second == k)) ≡ ((g == k) || (h == k))
two_are first second g h is k = elim (or_cases _ _ is) [
  | inl q ↦ let p = and_parts (first == g) (second == h) q in
      ap₂ (λ x y. (x == k) || (y == k)) (eqb-true first g p.0) (eqb-true second h p.1)
  | inr q ↦ let p = and_parts (first == h) (second == g) q in
      ap₂ (λ x y. (x == k) || (y == k)) (eqb-true first h p.0) (eqb-true second g p.1) ∙ swap (h == k) (g == k)
]

-- who is out is no guardian
pub out_is : (count g : ℕ) → is_out count g ≡ true → IsOut count g
out_is count g h = elim (or_cases _ _ h) [
  | inl q ↦ inl (eqb-true g 0 q)
  | inr q ↦ inr (ltb-true count g q)
]

-- the one, or nobody
pub at_most : (count g k : ℕ) → is_at_most count g k ≡ true → ((k == g) ≡ true) ⊎ IsOut count k
at_most count g k h = elim (or_cases _ _ h) [
  | inl q ↦ inl q
  | inr q ↦ inr (out_is count k q)
]

-- a step names the two that it names, by what the registry knows
names_both : (f : ForestState) (step : Step) (k : ℕ) → names_guardian step (events_there f.registry) k
    ≡ ((first_named step (events_there f.registry) == k) || (second_named step (events_there f.registry) == k))
names_both f step k =
    named_are {stands = λ h. events_there h.registry ≡ events_there f.registry} {step = step}
    {named = record { first = first_named step (events_there f.registry); second = second_named step (events_there f.registry) }}
    (record { first = λ h q. ap (λ l. first_named step l) (sym q); second = λ h q. ap (λ l. second_named step l) (sym q) }) f refl k

inside_out : (opening : Opening) (g : ℕ) → IsInside opening g → IsOut (length opening.setup) g → ⊥
inside_out opening g i (inl z) = let l = i.low in omega arith
inside_out opening g i (inr z) = let h = i.high in omega arith

-- by the registry of a run a step names whom it names by the run
module _ (opening : Opening) (past : List Event) (r : IsRun opening past) where
  abbrev there : List Event
  there = events_there (registry_history opening (numbered past))

  same : IsRegistrySame there (events_of (numbered past))
  same = registry_same opening (numbered past) (runs opening past r)

  home_same : (a : Name) → home_of a there ≡ home_of a past
  home_same a = same.home a ∙ ap (λ l. home_of a l) (numbered_events past)

  maker_same : (a : Name) → maker_of a there ≡ maker_of a past
  maker_same a = same.maker a ∙ ap (λ l. maker_of a l) (numbered_events past)

  pub first_same : (step : Step) → first_named step there ≡ first_named step past
  first_same (Top g) = refl
  first_same (NestedTop a) = home_same a
  first_same (Call a g) = home_same a
  first_same (Arms a kinds) = home_same a
  first_same (Op a x wanted) = home_same a
  first_same (Commit a) = home_same a
  first_same (Close t) = home_same t
  first_same (Prepare g t) = home_same t
  first_same (Decide t) = home_same t
  first_same (Abort a) = home_same a
  first_same (Tell g a) = refl
  first_same (Crash g) = refl
  first_same (Recover g) = refl

  pub second_same : (step : Step) → second_named step there ≡ second_named step past
  second_same (Top g) = refl
  second_same (NestedTop a) = home_same a
  second_same (Call a g) = refl
  second_same (Arms a kinds) = home_same a
  second_same (Op a x wanted) = home_same a
  second_same (Commit a) = home_same (parent_of a)
  second_same (Close t) = home_same t
  second_same (Prepare g t) = refl
  second_same (Decide t) = home_same t
  second_same (Abort a) = made (maker_of a there) (maker_of a past) (maker_same a)
    where
      of : (m : Option Name) → home_of_maker m (home_of a there) there ≡ home_of_maker m (home_of a past) past
      of None = home_same a
      of (Some m) = home_same m

      made : (m n : Option Name) → m ≡ n → home_of_maker m (home_of a there) there ≡ home_of_maker n (home_of a past) past
      made m n q = ap (λ o. home_of_maker o (home_of a there) there) q ∙ of n
  second_same (Tell g a) = refl
  second_same (Crash g) = refl
  second_same (Recover g) = refl

-- what was read of whom a step names, of the run
module _ {stands : ForestState → Type 0} {step : Step} {named : NamedGuardians} (opening : Opening) (past : List Event) (r : IsRun opening past)
    (are : AreNamed stands step named) (at : stands (forest_of opening past)) where
  pub first_is : named.first ≡ first_named step past
  first_is = are.first (forest_of opening past) at ∙ first_same opening past r step

  pub second_is : named.second ≡ second_named step past
  second_is = are.second (forest_of opening past) at ∙ second_same opening past r step

  pub two_is : (g h : ℕ) → (((named.first == g) && (named.second == h)) || ((named.first == h) && (named.second == g))) ≡ names_two step past g h
  two_is g h = ap₂ (λ x y. ((x == g) && (y == h)) || ((x == h) && (y == g))) first_is second_is

  pub one_is : (count g : ℕ) → (is_at_most count g named.first && is_at_most count g named.second) ≡ names_one count step past g
  one_is count g = ap₂ (λ x y. is_at_most count g x && is_at_most count g y) first_is second_is

  pub nobody_is : (count : ℕ) → (is_out count named.first && is_out count named.second) ≡ names_nobody count step past
  nobody_is count = ap₂ (λ x y. is_out count x && is_out count y) first_is second_is

  -- the step names just these two
  pub names_two_are : (g h : ℕ) → (((named.first == g) && (named.second == h)) || ((named.first == h) && (named.second == g))) ≡ true
      → Names (forest_of opening past) step g h
  names_two_are g h is k = named_are are (forest_of opening past) at k ∙ two_are named.first named.second g h is k

  -- whom it names, as the world's laws have it
  pub names_are : Names (forest_of opening past) step named.first named.second
  names_are k = named_are are (forest_of opening past) at k

-- each that is named is the one, or nobody
pub covered : (count g first second : ℕ) → (is_at_most count g first && is_at_most count g second) ≡ true
    → (k : ℕ) → ((first == k) || (second == k)) ≡ true → (((g == k) || (g == k)) ≡ true) ⊎ IsOut count k
covered count g first second is k named =
    let p = and_parts (is_at_most count g first) (is_at_most count g second) is in
    elim (or_cases _ _ named) [
      | inl q ↦ of first q (at_most count g first p.0)
      | inr q ↦ of second q (at_most count g second p.1)
    ]
  where
    of : (j : ℕ) → (j == k) ≡ true → ((j == g) ≡ true) ⊎ IsOut count j → (((g == k) || (g == k)) ≡ true) ⊎ IsOut count k
    of j q (inl m) =
        let same : g ≡ k = sym (eqb-true j g m) ∙ eqb-true j k q in
        inl (or_left _ _ (ap (λ n. g == n) (sym same) ∙ eqb_self g))
    of j q (inr o) = inr (subst (λ n. IsOut count n) (eqb-true j k q) o)

-- none that is named is there
pub uncovered : (count first second : ℕ) → (is_out count first && is_out count second) ≡ true → (IsOut count first) × (IsOut count second)
uncovered count first second is =
    let p = and_parts (is_out count first) (is_out count second) is in
    (out_is count first p.0, out_is count second p.1)

-- An accepted event names guardians that are there; so one that names nobody but the one names the one.
pub names_just : (opening : Opening) (e : Event) (past : List Event) (g : ℕ) → IsRun opening (e ∷ past)
    → names_one (length opening.setup) e.step past g ≡ true → Names (forest_of opening past) e.step g g
names_just opening e past g r is k = names_both (forest_of opening past) e.step k ∙ of
  where
    there : List Event
    there = events_there (registry_history opening (numbered past))

    first : ℕ
    first = first_named e.step there

    second : ℕ
    second = second_named e.step there

    each : (is_at_most (length opening.setup) g first ≡ true) × (is_at_most (length opening.setup) g second ≡ true)
    each = and_parts (is_at_most (length opening.setup) g first) (is_at_most (length opening.setup) g second)
        (ap₂ (λ x y. is_at_most (length opening.setup) g x && is_at_most (length opening.setup) g y) (first_same opening past r.2 e.step) (second_same opening past r.2 e.step) ∙ is)

    there_is : (j : ℕ) → ((first == j) || (second == j)) ≡ true → ((j == g) ≡ true) ⊎ IsOut (length opening.setup) j → j ≡ g
    there_is j n (inl q) = eqb-true j g q
    there_is j n (inr o) =
        absurd (inside_out opening j (named_inside opening e past j r (sym (named_there opening e past j r.2) ∙ names_both (forest_of opening past) e.step j ∙ n)) o)

    first_is_g : first ≡ g
    first_is_g = there_is first (or_left _ _ (eqb_self first)) (at_most (length opening.setup) g first each.0)

    second_is_g : second ≡ g
    second_is_g = there_is second (or_right _ _ (eqb_self second)) (at_most (length opening.setup) g second each.1)

    of : ((first == k) || (second == k)) ≡ ((g == k) || (g == k))
    of = ap₂ (λ x y. (x == k) || (y == k)) first_is_g second_is_g

-- how many guardians the registry says there are
pub counted_is : (opening : Opening) (past : List Event) (lists : OpeningLists) (setup : List (List Content)) (count : ℕ) → opening_in lists ≡ opening → setup ≡ lists.setup
    → count ≡ length setup → count ≡ length opening.setup
counted_is opening past lists setup count is of counts = counts ∙ ap length of ∙ ap (λ o. length o.setup) is

-- A step that names nobody who is there is refused.
pub refused_nobody : (opening : Opening) (step : Step) (past : List Event) → IsRun opening past → names_nobody (length opening.setup) step past ≡ true
    → is_accepted (answer_of opening step past) ≡ false
refused_nobody opening step past r is = of (is_accepted (answer_of opening step past)) refl
  where
    there : List Event
    there = events_there (registry_history opening (numbered past))

    first : ℕ
    first = first_named step there

    out : IsOut (length opening.setup) first
    out = subst (λ k. IsOut (length opening.setup) k) (sym (first_same opening past r step))
        (out_is (length opening.setup) (first_named step past) (and_parts (is_out (length opening.setup) (first_named step past)) (is_out (length opening.setup) (second_named step past)) is).0)

    of : (b : Bool) → is_accepted (answer_of opening step past) ≡ b → is_accepted (answer_of opening step past) ≡ false
    of false q = q
    of true q =
        let e : Event = record { step = step; answer = answer_of opening step past } in
        let more : IsRun opening (e ∷ past) = (refl, q, r) in
        let named = sym (named_there opening e past first r) ∙ names_both (forest_of opening past) step first ∙ or_left _ _ (eqb_self first) in
        absurd (inside_out opening first (named_inside opening e past first more named) out)
