-- The registry and two guardians whose parts have seen one run.
use Rattle.std.proofs.Common.{List, Option, [], ap, arith, eqb-true, inl, inr, length, refl, subst, sym, true, suc, ℕ, ◌<◌, ◌++◌, ◌==◌, ◌∙◌, ◌∷◌, ◌≡◌, ◌||◌, ◌⊎◌}
use Rattle.std.proofs.lemmas.Bool.{or_cases}
use Rattle.one_run.specs.declared.piece.Piece.{Piece}
use Rattle.one_run.specs.Pieces.{AllFit, GoesOn, count, seen_of, witness, with_less, with_seen}
use Rattle.one_run.specs.Rules.{Adds, Looks, MayAdd, others_of}
use Rattle.one_run.proofs.Parts.{seen_count}
use Rattle.run_model.specs.declared.history.Event.{Event}
use Rattle.run_model.specs.LocalHistories.{RegistryEvent, events_there, local_history, names_guardian, numbered, registry_history}
use Rattle.run_model.specs.LocalReadings.{LocalEvent}
use Rattle.run_model.specs.Openings.{Opening}
use Rattle.run_model.specs.Runs.{IsRun}
use Rattle.layer_contracts.specs.Forests.{ForestState}
use Rattle.layer_contracts.specs.Guardians.{GuardianState}
use Rattle.world_steps.specs.Keeping.{AreAnswered, IsDone}
use Rattle.world_steps.specs.Lending.{AreLent}
use Rattle.world_steps.specs.Standings.{Names, forest_of, standing}
use Rattle.world_steps.proofs.Kept.{are_answered, led_on}
use Rattle.shared_run.specs.Places.{touches}
use Rattle.shared_run.proofs.Following.{may_add, named_there}
use Rattle.shared_run.proofs.Histories.{fits_at, history_stays, registry_stays}
use Rattle.locked_run.specs.Parts.{AreLocked, AreOfOne, HasGuardian, HasRegistry}

-- ---- parts that have all seen one run

pub seen_of_with : (q : List Event) (v : List (Piece Event)) (p : ℕ) → 0 < count p v → seen_of (with_seen q v) ≡ q
seen_of_with q [] p h = absurd (omega arith)
seen_of_with q (x ∷ xs) p h = refl

seen_twice : (p q : List Event) (v : List (Piece Event)) → with_seen p (with_seen q v) ≡ with_seen p v
seen_twice p q [] = refl
seen_twice p q (x ∷ xs) = ap (λ l. record x { seen = p } ∷ l) (seen_twice p q xs)

pub less_count : (p : ℕ) (v : List (Piece Event)) → count p (with_less v) ≡ count p v
less_count p [] = refl
less_count p (x ∷ xs) = refl

module _ (opening : Opening) (q : List Event) (v : List (Piece Event)) (r : IsRun opening q) where
  all_seen : (p : ℕ) → 0 < count p v → with_seen q v ≡ with_seen (seen_of (with_seen q v)) (with_seen q v)
  all_seen p h = sym (seen_twice q q v) ∙ ap (λ l. with_seen l (with_seen q v)) (sym (seen_of_with q v p h))

  counted : (p : ℕ) → 0 < count p v → 0 < count p (with_seen q v)
  counted p h = let same = seen_count {E = Event} p q v in omega (arith, same, h)

  pub has_registry : {forest : ForestState → Type 0} → 0 < count 0 v → forest (forest_of opening q) → HasRegistry opening forest (with_seen q v)
  has_registry {forest} h there =
      let same = sym (seen_of_with q v 0 h) in
      record { run = subst (λ l. IsRun opening l) same r; seen = all_seen 0 h; place = counted 0 h; there = subst (λ l. forest (forest_of opening l)) same there }

  pub has_guardian : {one : GuardianState → Type 0} (g : ℕ) → 0 < count (suc g) v → one (standing opening q g) → HasGuardian opening one g (with_seen q v)
  has_guardian {one} g h here =
      let same = sym (seen_of_with q v (suc g) h) in
      record { run = subst (λ l. IsRun opening l) same r; seen = all_seen (suc g) h; place = counted (suc g) h; here = subst (λ l. one (standing opening l g)) same here }

-- a run that goes on goes on further
pub goes_further : {place : Option ℕ} {one other last : List Event} → GoesOn touches place one other → GoesOn touches place other last → GoesOn touches place one last
goes_further f Rattle.one_run.specs.Pieces.GoesOn.stays = f
goes_further f (Rattle.one_run.specs.Pieces.GoesOn.longer e quiet rest) = Rattle.one_run.specs.Pieces.GoesOn.longer e quiet (goes_further f rest)

pub all_fit_seen : (q : List Event) (v : List (Piece Event)) → AllFit touches q (with_seen q v)
all_fit_seen q [] = tt
all_fit_seen q (x ∷ xs) = (Rattle.one_run.specs.Pieces.GoesOn.stays, all_fit_seen q xs)

module _ {opening : Opening} {forest : ForestState → Type 0} {one other : GuardianState → Type 0} {g h : ℕ} {v : List (Piece Event)}
    (a : AreLocked opening forest one other g h v) where
  abbrev past : List Event
  past = seen_of v

  pub lent : AreLent forest one other (forest_of opening past) (standing opening past g) (standing opening past h)
  lent = record { forest = a.registry.there; first = a.first.here; second = a.second.here; opening = record { first = refl; second = refl } }

  module _ (e : Event) (r : IsRun opening (e ∷ past)) (n : Names (forest_of opening past) e.step g h) where
    pub answered : AreAnswered forest one other (forest_of opening past) (standing opening past g) (standing opening past h) e
    answered = are_answered past opening e g h r n lent

    has_place : (p : ℕ) → 0 < count p v → 0 < count p (with_seen past v)
    has_place p c = let same = seen_count {E = Event} p past v in omega (arith, same, c)

    each_place : (k : ℕ) → ((g == k) || (h == k)) ≡ true → 0 < count (suc k) (with_seen past v)
    each_place k is = of (or_cases _ _ is)
      where
        of : ((g == k) ≡ true) ⊎ ((h == k) ≡ true) → 0 < count (suc k) (with_seen past v)
        of (inl q) = subst (λ m. 0 < count (suc m) (with_seen past v)) (eqb-true g k q) (has_place (suc g) a.first.place)
        of (inr q) = subst (λ m. 0 < count (suc m) (with_seen past v)) (eqb-true h k q) (has_place (suc h) a.second.place)

    -- their parts may add the event
    pub may_add_it : MayAdd (IsRun opening) touches e v
    may_add_it =
        subst (λ w. MayAdd (IsRun opening) touches e w) (sym a.registry.seen)
        (may_add opening e past v r (has_place 0 a.registry.place)
        (λ k named. each_place k (sym (n k) ∙ named_there opening e past k r.2 ∙ named)))

    module _ {number : ℕ} {w : List (Piece Event)} (adds : Adds (IsRun opening) touches e v number w) where
      abbrev now : List Event
      now = adds.past

      fits : AllFit touches now (with_seen past v)
      fits = subst (λ u. AllFit touches now u) a.registry.seen adds.fits

      pub registry_before : registry_history opening (numbered now) ≡ registry_history opening (numbered past)
      registry_before = registry_stays opening past (fits_at 0 past now v fits (has_place 0 a.registry.place))

      pub first_before : local_history opening (numbered now) g ≡ local_history opening (numbered past) g
      first_before = history_stays opening g past (fits_at (suc g) past now v fits (has_place (suc g) a.first.place))

      pub second_before : local_history opening (numbered now) h ≡ local_history opening (numbered past) h
      second_before = history_stays opening h past (fits_at (suc h) past now v fits (has_place (suc h) a.second.place))

      pub names_before : Names (forest_of opening now) e.step g h
      names_before = subst (λ (R : List RegistryEvent). (k : ℕ) → names_guardian e.step (events_there R) k ≡ ((g == k) || (h == k))) (sym registry_before) n

      -- what is said of the run that was seen is said of the run as it is
      pub moved_on : (P : List RegistryEvent → List LocalEvent → List LocalEvent → Type 0)
          → P (registry_history opening (numbered past)) (local_history opening (numbered past) g) (local_history opening (numbered past) h)
          → P (registry_history opening (numbered now)) (local_history opening (numbered now) g) (local_history opening (numbered now) h)
      moved_on P p =
          subst (λ R. P R (local_history opening (numbered now) g) (local_history opening (numbered now) h)) (sym registry_before)
          (subst (λ x. P (registry_history opening (numbered past)) x (local_history opening (numbered now) h)) (sym first_before)
          (subst (λ y. P (registry_history opening (numbered past)) (local_history opening (numbered past) g) y) (sym second_before) p))

      -- once it was added and kept, they stand where the longer run leads them
      pub have_kept : {stands : ForestState → Type 0} {one_new other_new : GuardianState → Type 0}
          → IsDone stands one_new other_new (forest_of opening past) (standing opening past g) (standing opening past h) e number
          → AreLocked opening stands one_new other_new g h (others_of w)
      have_kept {stands} {one_new} {other_new} done =
          let P : List RegistryEvent → List LocalEvent → List LocalEvent → Type 0 = λ R x y.
          IsDone stands one_new other_new (record { opening = opening; registry = R }) (record { opening = opening; number = g; past = x }) (record { opening = opening; number = h; past = y }) e number in
          let then : IsDone stands one_new other_new (forest_of opening now) (standing opening now g) (standing opening now h) e (length (e ∷ now)) =
          subst (λ k. IsDone stands one_new other_new (forest_of opening now) (standing opening now g) (standing opening now h) e k) adds.number (moved_on P done) in
          let led = led_on now opening e g h adds.run names_before then in
          let u : List (Piece Event) = with_less v in
          let c0 = less_count 0 v in
          let cg = less_count (suc g) v in
          let ch = less_count (suc h) v in
          let at0 : 0 < count 0 u = omega (arith, c0, a.registry.place) in
          let atg : 0 < count (suc g) u = omega (arith, cg, a.first.place) in
          let ath : 0 < count (suc h) u = omega (arith, ch, a.second.place) in
          subst (λ z. AreLocked opening stands one_new other_new g h z) (sym (ap others_of adds.seen))
          (record {
            registry = has_registry opening (e ∷ now) u adds.run at0 led.0;
            first = has_guardian opening (e ∷ now) u adds.run g atg led.1;
            second = has_guardian opening (e ∷ now) u adds.run h ath led.2;
          })

-- two witnesses that look at the run
pub of_one : (opening : Opening) (a b : List Event) (v w u : List (Piece Event)) → v ≡ witness a ∷ [] → w ≡ witness b ∷ []
    → Looks (IsRun opening) touches (v ++ w) u → AreOfOne opening a b
of_one opening a b v w u p q looks =
    let fits : AllFit touches looks.past (witness a ∷ witness b ∷ []) = subst (λ z. AllFit touches looks.past z) (λ i. p i ++ q i) looks.fits in
    record { past = looks.past; run = looks.run; first = fits.0; second = fits.1.0 }
