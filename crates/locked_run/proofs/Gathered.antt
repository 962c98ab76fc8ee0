-- What is known when all have given up their parts.
use Rattle.std.proofs.Common.{List, None, Option, Some, [], ap, arith, cond, length, map, refl, slice_get, subst, sym, suc, zero, ℕ, ◌+◌, ◌-◌, ◌<◌, ◌≤◌, ◌==◌, ◌∙◌, ◌∷◌, ◌≡◌, ◌≢◌}
use Rattle.std.specs.List.{AllZip}
use Rattle.std.specs.List.Sorted.{IsNonDecreasingBy}
use Rattle.std.proofs.lemmas.List.Sorted.{length_permutation}
use Rattle.one_run.specs.declared.piece.Piece.{Piece}
use Rattle.one_run.specs.Pieces.{AllFit, GoesOn, count, is_place}
use Rattle.one_run.specs.Rules.{Counts}
use Rattle.one_run.proofs.Parts.{seen_count}
use Rattle.run_model.specs.declared.history.Event.{Event}
use Rattle.run_model.specs.Openings.{Opening}
use Rattle.run_model.specs.Runs.{IsRun}
use Rattle.run_laws.proofs.Serving.{runs_are_served}
use Rattle.layer_contracts.specs.Forests.{ForestState}
use Rattle.layer_contracts.specs.Guardians.{GuardianState}
use Rattle.layer_contracts.specs.Stores.{IsStoreOf}
use Rattle.stable_store.specs.Calls.{View}
use Rattle.world_steps.specs.Standings.{standing}
use Rattle.shared_run.specs.Places.{touches}
use Rattle.shared_run.proofs.Histories.{fits_at, history_stays, registry_stays}
use Rattle.shared_run.proofs.Touching.{whole_seen}
use Rattle.locked_run.specs.declared.closing.Ended.{Ended}
use Rattle.locked_run.specs.declared.closing.Ends.{Ends}
use Rattle.locked_run.specs.Closing.{AreCounted, AreEnds, AreMissing, IsClosed, beginnings}
use Rattle.locked_run.specs.Parts.{InHeld, registry_part}
use Rattle.locked_run.specs.Receipts.{StandIn}
use Rattle.locked_run.specs.Settling.{HaveJoined, IsPartOf, IsSettled, IsSettledThere}
use Rattle.locked_run.proofs.Rising.{From, Under, counted_at, counting, rising, times}
use Rattle.locked_run.proofs.Whole.{count_beginnings, stand_for_all}

some_same : {X : Type 0} (a b : X) → Some a ≡ Some b → a ≡ b
some_same a b q = cc

none_some : {X : Type 0} (a : X) → None ≡ Some a → ⊥
none_some a q = cc

zip_length : {A B : Type 0} (R : A → B → Type 0) (xs : List A) (ys : List B) → AllZip R xs ys → length ys ≡ length xs
zip_length R [] [] all = refl
zip_length R [] (y ∷ ys) all = absurd all
zip_length R (x ∷ xs) [] all = absurd all
zip_length R (x ∷ xs) (y ∷ ys) all = ap suc (zip_length R xs ys all.1)

zip_at : {A B : Type 0} (R : A → B → Type 0) (xs : List A) (ys : List B) (i : ℕ) (y : B) → AllZip R xs ys → slice_get ys i ≡ Some y
    → (x : A) × (slice_get xs i ≡ Some x) × R x y
zip_at R xs [] i y all is = absurd (none_some y is)
zip_at R [] (w ∷ ys) i y all is = absurd all
zip_at R (x ∷ xs) (w ∷ ys) zero y all is = (x, refl, subst (λ z. R x z) (some_same w y is) all.0)
zip_at R (x ∷ xs) (w ∷ ys) (suc i) y all is = zip_at R xs ys i y all.1 is

map_at : {A B : Type 0} (f : A → B) (xs : List A) (i : ℕ) (y : B) → slice_get (map f xs) i ≡ Some y → (x : A) × (slice_get xs i ≡ Some x) × (f x ≡ y)
map_at f [] i y is = absurd (none_some y is)
map_at f (x ∷ xs) zero y is = (x, refl, some_same (f x) y is)
map_at f (x ∷ xs) (suc i) y is = map_at f xs i y is

map_length : {A B : Type 0} (f : A → B) (xs : List A) → length (map f xs) ≡ length xs
map_length f [] = refl
map_length f (x ∷ xs) = ap suc (map_length f xs)

-- the number of the place of a guardian
abbrev place : {G : Type 0} → InHeld G → ℕ
place held = suc held.number

module _ {G : Type 0} where
  places_are : (j : ℕ) (xs : List (InHeld G)) (ps : List (Piece Event)) → AllZip IsPartOf xs ps → count j ps ≡ times place j xs
  places_are j [] [] all = refl
  places_are j [] (p ∷ ps) all = absurd all
  places_are j (x ∷ xs) [] all = absurd all
  places_are j (x ∷ xs) (p ∷ ps) all =
      let rest = places_are j xs ps all.1 in
      let here : cond {A = ℕ} (is_place p.place j) 1 0 ≡ cond {A = ℕ} (place x == j) 1 0 = ap (λ q. cond {A = ℕ} (is_place q.place j) 1 0) all.0 in
      omega arith

  -- a guardian's place is there
  has_place : (xs : List (InHeld G)) (ps : List (Piece Event)) (i : ℕ) (x : InHeld G) → AllZip IsPartOf xs ps → slice_get xs i ≡ Some x
      → 0 < count (place x) ps
  has_place xs ps i x all is = let same = places_are (place x) xs ps all in let some = stands_there xs i is in omega arith
    where
      stands_there : (ys : List (InHeld G)) (k : ℕ) → slice_get ys k ≡ Some x → 0 < times place (place x) ys
      stands_there [] k at = absurd (none_some x at)
      stands_there (y ∷ ys) zero at =
          let here : place y ≡ place x = ap place (some_same y x at) in
          let one : cond {A = ℕ} (place y == place x) 1 0 ≡ 1 = grind (arith, Rattle.std.proofs.lemmas.Bool.Decides.nat_tests) in
          omega arith
      stands_there (y ∷ ys) (suc k) at = let rest = stands_there ys k at in omega arith

  -- nothing touched a guardian since it was seen last
  still_there : (past : List Event) (xs : List (InHeld G)) (ps : List (Piece Event)) (i : ℕ) (x : InHeld G) → AllZip IsPartOf xs ps → AllFit touches past ps
      → slice_get xs i ≡ Some x → GoesOn touches (Some (place x)) x.seen past
  still_there past [] ps i x all f is = absurd (none_some x is)
  still_there past (y ∷ ys) [] i x all f is = absurd all
  still_there past (y ∷ ys) (p ∷ ps) zero x all f is =
      let same = some_same y x is in
      subst (λ z. GoesOn touches (Some (place z)) z.seen past) same
      (subst (λ (q : Piece Event). GoesOn touches q.place q.seen past) all.0 f.0)
  still_there past (y ∷ ys) (p ∷ ps) (suc i) x all f is = still_there past ys ps i x all.1 f.1 is

module _ {R G : Type 0} (stands : G → GuardianState → Type 0) (stored : G → View) (forest : R → ForestState → Type 0) {opening : Opening} {there : List Event}
    {held : List (InHeld G)} {left n : ℕ} {v w : List (Piece Event)} (ends : Ends R G) (up : IsNonDecreasingBy (λ h. h.number) held) (many : length held ≡ length opening.setup)
    (joined : HaveJoined held (registry_part left there ∷ []) v) (registry : IsSettledThere forest opening there ends.registry)
    (settled : AllZip (IsSettled stands stored opening) held ends.guardians.items) (counts : Counts (IsRun opening) touches v n w) where
  abbrev past : List Event
  past = counts.past

  fits : AllFit touches past (registry_part left there ∷ joined.parts)
  fits = subst (λ u. AllFit touches past u) joined.whole counts.fits

  in_range : (xs : List (InHeld G)) (ys : List (Ended G)) → AllZip (IsSettled stands stored opening) xs ys → From place 2 xs × Under place (2 + length opening.setup) xs
  in_range [] ys all = (tt, tt)
  in_range (x ∷ xs) [] all = absurd all
  in_range (x ∷ xs) (y ∷ ys) all =
      let rest = in_range xs ys all.1 in
      let first = all.0.first in
      let last = all.0.last in
      ((omega arith, rest.0), (omega arith, rest.1))

  once : (j : ℕ) → times place j held ≤ 1
  once j =
      let same = places_are j held joined.parts joined.each in
      let whole : count j v ≡ count j (registry_part left there ∷ joined.parts) = ap (λ u. count j u) joined.whole in
      let few = counts.once j in
      omega arith

  -- the guardians have the numbers from 1 on
  number_at : (i : ℕ) (x : InHeld G) → slice_get held i ≡ Some x → x.number ≡ i + 1
  number_at i x is =
      let range = in_range held ends.guardians.items settled in
      let top : 2 + length opening.setup ≡ 2 + length held = omega arith in
      let all = counting place 2 held range.0 (subst (λ t. Under place t held) top range.1)
      (rising place held (λ a b d le lt. let less = up a b d le lt in omega arith)) once in
      let at = counted_at place 2 held i x all is in
      omega arith

  -- what is so where the run led a guardian that it has seen is so where the run leads it now
  led : (i : ℕ) (x : InHeld G) (P : GuardianState → Type 0) → slice_get held i ≡ Some x → P (standing opening x.seen x.number) → P (standing opening past (i + 1))
  led i x P is h =
      let still = still_there past held joined.parts i x joined.each fits.1 is in
      let same = history_stays opening x.number x.seen still in
      subst (λ g. P (standing opening past g)) (number_at i x is)
      (subst (λ l. P (record { opening = opening; number = x.number; past = l })) (sym same) h)

  pub ends_are : AreEnds stands stored forest opening past ends
  ends_are =
      let same = registry_stays opening there fits.0 in
      record {
        world = record {
          is_run = counts.run;
          forest = subst (λ l. forest ends.registry.value (record { opening = opening; registry = l })) (sym same) registry.there;
          count = map_length (λ x. x.value) ends.guardians.items ∙ zip_length (IsSettled stands stored opening) held ends.guardians.items settled ∙ many;
          each = λ i x is.
              let m = map_at (λ (y : Ended G). y.value) ends.guardians.items i x is in
              let z = zip_at (IsSettled stands stored opening) held ends.guardians.items i m.0 settled m.1 in
              subst (λ y. stands y (standing opening past (i + 1))) m.2 (led i z.0 (λ s. stands m.0.value s) z.1 z.2.here);
          stores = λ i x is.
              let m = map_at (λ (y : Ended G). y.value) ends.guardians.items i x is in
              let z = zip_at (IsSettled stands stored opening) held ends.guardians.items i m.0 settled m.1 in
              subst (λ y. IsStoreOf (standing opening past (i + 1)) (stored y)) m.2 (led i z.0 (λ s. IsStoreOf s (stored m.0.value)) z.1 z.2.store);
        };
        registry = registry.kept ∙ ap (λ l. map (λ e. (e.stamp, e.event)) l) (sym same);
        each = λ i x is.
            let z = zip_at (IsSettled stands stored opening) held ends.guardians.items i x settled is in
            led i z.0 (λ s. x.history ≡ map (λ e. (e.stamp, e.event)) s.past) z.1 z.2.kept;
      }

  registry_place : 0 < count 0 v
  registry_place =
      let whole : count 0 v ≡ count 0 (registry_part left there ∷ joined.parts) = ap (λ u. count 0 u) joined.whole in
      omega arith

  guardian_place : (g : ℕ) → 1 ≤ g → g ≤ length opening.setup → 0 < count (suc g) v
  guardian_place g low high =
      let lt : g - 1 < length held = omega arith in
      let whole : count (suc g) v ≡ count (suc g) (registry_part left there ∷ joined.parts) = ap (λ u. count (suc g) u) joined.whole in
      let mine : 0 < count (suc g) joined.parts = of (slice_get held (g - 1)) refl lt in
      omega arith
    where
      of : (o : Option (InHeld G)) → slice_get held (g - 1) ≡ o → g - 1 < length held → 0 < count (suc g) joined.parts
      of None is lt = absurd (past_end held (g - 1) is lt)
        where
          past_end : (xs : List (InHeld G)) (k : ℕ) → slice_get xs k ≡ None → k < length xs → ⊥
          past_end [] k nothing less = omega arith
          past_end (x ∷ xs) zero nothing less = none_some x (sym nothing)
          past_end (x ∷ xs) (suc k) nothing less = past_end xs k nothing (omega arith)
      of (Some x) is lt =
          let number = number_at (g - 1) x is in
          let same : place x ≡ suc g = omega arith in
          subst (λ p. 0 < count p joined.parts) same (has_place held joined.parts (g - 1) x joined.each is)

  -- whoever has all parts has seen the whole run
  pub all_seen : (now : List Event) → IsRun opening now → AllFit touches now w → now ≡ past
  all_seen now r f =
      let g = subst (λ u. AllFit touches now u) counts.seen f in
      let at : (p : ℕ) → 0 < count p v → GoesOn touches (Some p) past now = λ p some.
      let same = seen_count {E = Event} p past v in
      fits_at p past now v g (omega arith) in
      whole_seen opening past now r (at 0 registry_place) (λ k low high. at (suc k) (guardian_place k low high))

  -- as many receipts as the run has events are those of all events
  pub is_closed : (runs : List (List Event)) → length runs ≡ n → AreCounted opening w runs → IsClosed stands stored forest opening runs ends
  is_closed runs many counted =
      let same = all_seen counted.past counted.run counted.fits in
      record {
        past = past;
        served = runs_are_served opening past counts.run;
        ends = ends_are;
        receipts = stand_for_all past runs (subst (λ l. StandIn l runs) same counted.stand) (many ∙ counts.number);
      }

  -- and others are not
  pub are_missing : (runs : List (List Event)) → length runs ≢ n → AreMissing stands stored forest opening runs runs ends
  are_missing runs others = record {
    past = past;
    served = runs_are_served opening past counts.run;
    ends = ends_are;
    back = refl;
    missing = λ whole. others (sym (length_permutation runs (beginnings past) whole) ∙ count_beginnings past ∙ sym counts.number);
  }
