-- What a stop leaves of the stores of a world.
use Rattle.std.proofs.Common.{Bool, List, None, Ok, Err, OnOk, Option, Result, Some, [], ap, ap₂, arith, cond, false, inl, inr, length, option_map, refl, slice_get, subst, suc, sym, true, zero, ℕ, IsTrue, ◌&&◌, ◌+◌, ◌<◌, ◌∙◌, ◌∷◌, ◌≡◌, ◌⊎◌}
use Rattle.std.specs.List.{AllByRecursion, AllZip}
use Rattle.std.proofs.lemmas.Bool.{and_left, false≢true}
use Rattle.std.proofs.lemmas.List.{length-map}
use Rattle.std.proofs.lemmas.Option.{same_Some, slice_get-map, slice_get_within}
use Rattle.run_model.specs.declared.history.Event.{Event}
use Rattle.run_model.specs.declared.step.Step.{Step}
use Rattle.run_model.specs.LocalHistories.{local_history, names_guardian, numbered}
use Rattle.run_model.specs.Openings.{Opening}
use Rattle.run_model.specs.Runs.{IsRun, is_accepted}
use Rattle.stable_store.specs.Calls.{IsTrusted, View}
use Rattle.stable_store.specs.Stored.{Stored}
use Rattle.guardian_laws.specs.Stored.{AreStored, asks_store}
use Rattle.layer_contracts.specs.Forests.{ForestState}
use Rattle.layer_contracts.specs.Guardians.{GuardianState}
use Rattle.layer_contracts.specs.Stores.{IsStoreOf, Leaves, fault_in}
use Rattle.layer_contracts.specs.declared.guardian.Fault.{Fault}
use Rattle.world_steps.specs.Standings.{IsWorld, StoresLeft, asks_of, brought, content_then, event_next, standing}
use Rattle.recovery_laws.specs.Following.{content_after, contents_from, stores_after}
use Rattle.recovery_laws.specs.OpenedStores.{AreBetween, AreLeftAfter}
use Rattle.recovery_laws.specs.Runs.{AreOfRun}
use Rattle.recovery_laws.proofs.OpenedStores.{stores_hold_what_is_seen}
use Rattle.recovery_laws.proofs.Places.{at_place, same_places}
use Rattle.recovery_laws.proofs.Settled.{are_settled}
use Rattle.recovery_laws.proofs.StoreStops.{stop_within_any_step}
use Rattle.world.specs.Stops.{AreLeftWithin, AreTrusted, AreUp, IsKeptBetweenSteps, IsKeptThroughStops, LeavesContents, MayLeave, StayUp, contents_of}

-- ---- lists place by place

pub both_of : (a b : Bool) → (a && b) ≡ true → (a ≡ true) × (b ≡ true)
both_of true true h = (refl, refl)
both_of true false h = absurd (false≢true h)
both_of false b h = absurd (false≢true h)

pub all_at : {X : Type 0} (P : X → Type 0) (xs : List X) (i : ℕ) (x : X) → AllByRecursion P xs → slice_get xs i ≡ Some x → P x
all_at {X = X} P [] i x h at = absurd (let q : ◌≡◌ {A = Option X} None (Some x) = at in cc)
all_at P (y ∷ xs) zero x h at = subst P (same_Some y x at) h.0
all_at P (y ∷ xs) (suc i) x h at = all_at P xs i x h.1 at

all_by_place : {X : Type 0} (P : X → Type 0) (xs : List X) → ((i : ℕ) (x : X) → slice_get xs i ≡ Some x → P x) → AllByRecursion P xs
all_by_place P [] h = tt
all_by_place P (x ∷ xs) h = (h 0 x refl, all_by_place P xs (λ i y at. h (suc i) y at))

zip_at : {X Y : Type 0} (R : X → Y → Type 0) (xs : List X) (ys : List Y) (i : ℕ) (x : X) (y : Y) → AllZip R xs ys → slice_get xs i ≡ Some x → slice_get ys i ≡ Some y → R x y
zip_at {X = X} R [] [] i x y h at there = absurd (let q : ◌≡◌ {A = Option X} None (Some x) = at in cc)
zip_at R [] (b ∷ ys) i x y h at there = elim h [ ]
zip_at R (a ∷ xs) [] i x y h at there = elim h [ ]
zip_at R (a ∷ xs) (b ∷ ys) zero x y h at there = subst (λ z. R x z) (same_Some b y there) (subst (λ z. R z b) (same_Some a x at) h.0)
zip_at R (a ∷ xs) (b ∷ ys) (suc i) x y h at there = zip_at R xs ys i x y h.1 at there

pub zip_count : {X Y : Type 0} (R : X → Y → Type 0) (xs : List X) (ys : List Y) → AllZip R xs ys → length ys ≡ length xs
zip_count R [] [] h = refl
zip_count R [] (y ∷ ys) h = elim h [ ]
zip_count R (x ∷ xs) [] h = elim h [ ]
zip_count R (x ∷ xs) (y ∷ ys) h = ap suc (zip_count R xs ys h.1)

-- where a content was found at each place, and it is that of the one list or of the other, these are the contents
between : (olds news : List Stored) (left : List (Option Stored)) → length left ≡ length olds → length news ≡ length olds
    → ((i : ℕ) (old new : Stored) (o : Option Stored) → slice_get olds i ≡ Some old → slice_get news i ≡ Some new → slice_get left i ≡ Some o
    → (o ≡ Some old) ⊎ (o ≡ Some new))
    → LeavesContents (AreBetween olds news) left
between [] [] [] count same h = record { contents = []; found = refl; are = λ i. inl refl }
between [] [] (o ∷ left) count same h = absurd (omega arith)
between [] (new ∷ news) left count same h = absurd (omega arith)
between (old ∷ olds) [] left count same h = absurd (omega arith)
between (old ∷ olds) (new ∷ news) [] count same h = absurd (omega arith)
between (old ∷ olds) (new ∷ news) (o ∷ left) count same h =
    let rest = between olds news left (omega arith) (omega arith) (λ i a b p x y z. h (suc i) a b p x y z) in elim (h 0 old new o refl refl refl) [
      | inl is ↦ record {
        contents = old ∷ rest.contents;
        found = ap₂ (λ p ps. p ∷ ps) is rest.found;
        are = λ i. case old rest.contents i (inl refl) rest.are;
      }
      | inr is ↦ record {
        contents = new ∷ rest.contents;
        found = ap₂ (λ p ps. p ∷ ps) is rest.found;
        are = λ i. case new rest.contents i (inr refl) rest.are;
      }
    ]
  where
    case : (s : Stored) (ss : List Stored) (i : ℕ) → ((slice_get (s ∷ ss) 0 ≡ slice_get (old ∷ olds) 0) ⊎ (slice_get (s ∷ ss) 0 ≡ slice_get (new ∷ news) 0))
        → AreBetween olds news ss → (slice_get (s ∷ ss) i ≡ slice_get (old ∷ olds) i) ⊎ (slice_get (s ∷ ss) i ≡ slice_get (new ∷ news) i)
    case s ss zero first rest = first
    case s ss (suc i) first rest = rest i

-- what lies between a list and itself
same_between : (olds contents : List Stored) → AreBetween olds olds contents → contents ≡ olds
same_between olds contents h = same_places contents olds (λ i. elim (h i) [ inl is ↦ is | inr is ↦ is ])

-- ---- the stores of a run

-- once settled they hold what it settles
left_after : (opening : Opening) (past : List Event) (stores : List Stored) → IsRun opening past → AreOfRun opening past stores → AreLeftAfter opening past stores
left_after opening past stores r all = record {
  stores = all;
  held = are_settled opening past r stores all;
  seen = λ older. stores_hold_what_is_seen opening past stores older r all;
}

module _ (opening : Opening) (e : Event) (past : List Event) where
  content_at : (g : ℕ) (stores : List Stored) (i : ℕ) → slice_get (contents_from opening e past g stores) i ≡ option_map (λ s. content_after opening e past (g + i) s) (slice_get stores i)
  content_at g [] i = refl
  content_at g (s ∷ stores) zero = let k : g ≡ g + 0 = omega arith in ap (λ h. Some (content_after opening e past h s)) k
  content_at g (s ∷ stores) (suc i) =
      let k : (g + 1) + i ≡ g + suc i = omega arith in
      content_at (g + 1) stores i ∙ ap (λ h. option_map (λ s. content_after opening e past h s) (slice_get stores i)) k

  -- what the step makes of the store at a place
  made_at : (stores : List Stored) (i : ℕ) (s : Stored) → slice_get stores i ≡ Some s → slice_get (stores_after opening e past stores) i ≡ Some (content_after opening e past (i + 1) s)
  made_at stores i s at =
      let k : 1 + i ≡ i + 1 = omega arith in
      content_at 1 stores i ∙ ap (λ o. option_map (λ s. content_after opening e past (1 + i) s) o) at ∙ ap (λ h. Some (content_after opening e past h s)) k

  as_many : (g : ℕ) (stores : List Stored) → length (contents_from opening e past g stores) ≡ length stores
  as_many g [] = refl
  as_many g (s ∷ stores) = ap suc (as_many (g + 1) stores)

-- ---- a world

module _ {X : Type 0} (stands : X → GuardianState → Type 0) (stored : X → View) (opening : Opening) (past : List Event) (forest : ForestState → Type 0) (guardians : List X)
    (w : IsWorld stands stored forest opening past guardians) where
  content_of : (i : ℕ) (x : X) → slice_get guardians i ≡ Some x → slice_get (contents_of stored guardians) i ≡ Some (stored x).content
  content_of i x at = slice_get-map (λ x. (stored x).content) guardians i ∙ ap (λ o. option_map (λ x. (stored x).content) o) at

  held_at : (i : ℕ) (s : Stored) → slice_get (contents_of stored guardians) i ≡ Some s → (x : X) × (slice_get guardians i ≡ Some x) × ((stored x).content ≡ s)
  held_at i s at =
      let within : i < length guardians =
      subst (λ n. i < n) (length-map guardians (λ x. (stored x).content)) (slice_get_within (contents_of stored guardians) i s at) in
      let (x, here) = at_place guardians i within in
      (x, here, same_Some (stored x).content s (sym (content_of i x here) ∙ at))

  -- the law
  pub stores_are_of_run : AreOfRun opening past (contents_of stored guardians)
  stores_are_of_run = record {
    count = length-map guardians (λ x. (stored x).content) ∙ w.count;
    each = λ i s at.
        let (x, here, is) = held_at i s at in
        subst (λ c. AreStored opening (i + 1) (local_history opening (numbered past) (i + 1)) c) is (w.stores i x here).stored;
  }

  -- what is found is the content of each store, where a stop leaves no other
  at_rest : (left : List (Option Stored)) → length left ≡ length guardians
      → ((i : ℕ) (x : X) (o : Option Stored) → slice_get guardians i ≡ Some x → slice_get left i ≡ Some o → o ≡ Some (stored x).content)
      → LeavesContents (AreLeftAfter opening past) left
  at_rest left count h =
      let olds = contents_of stored guardians in
      let all = between olds olds left (count ∙ sym (length-map guardians (λ x. (stored x).content))) refl
      (λ i old new o at same there. let (x, here, is) = held_at i old at in inl (h i x o here there ∙ ap (λ s. Some s) is)) in
      record {
        contents = all.contents;
        found = all.found;
        are = subst (λ ss. AreLeftAfter opening past ss) (sym (same_between olds all.contents all.are)) (left_after opening past olds w.is_run stores_are_of_run);
      }

  -- the law
  pub kept_between_steps : IsKeptBetweenSteps stored opening past guardians
  kept_between_steps trusted up left may =
      at_rest left (zip_count (λ x found. (stored x).may_leave found) guardians left may)
      (λ i x o at there. (w.stores i x at).rests (all_at (λ x. IsTrusted (stored x)) guardians i x trusted at) (all_at (λ x. (stored x).is_up) guardians i x up at) o
      (zip_at (λ x found. (stored x).may_leave found) guardians left i x o may at there))

-- ---- a step of it

module _ {X : Type 0} (stands : X → GuardianState → Type 0) (stored : X → View) (opening : Opening) (past : List Event) (step : Step) (forest : ForestState → Type 0)
    (before after : List X) (w : IsWorld stands stored forest opening past before) (count : length after ≡ length before) where
  abbrev next : Event
  next = event_next opening step past

  abbrev then : ℕ → X → Stored
  then i x = content_then opening step past (i + 1) (stored x).content

  -- who stood there before
  was_at : (i : ℕ) (y : X) → slice_get after i ≡ Some y → (x : X) × (slice_get before i ≡ Some x)
  was_at i y at = at_place before i (subst (λ n. i < n) count (slice_get_within after i y at))

  -- what a stop leaves of a store of which a call is asked, or none
  left_of : (b : Bool) (i : ℕ) (x y : X) (fault : Option Fault) (o : Option Stored) → Leaves b (then i x) (stored x) (stored y) fault → IsStoreOf (standing opening past (i + 1)) (stored x)
      → IsTrusted (stored y) → (stored x).is_up → (stored y).may_leave o → (o ≡ Some (stored x).content) ⊎ ((b ≡ true) × (o ≡ Some (then i x)))
  left_of true i x y fault o makes whole trusted up may = elim (makes.stop trusted up o may) [ inl is ↦ inl is | inr is ↦ inr (refl, is) ]
  left_of false i x y fault o stays whole trusted up may =
      inl (whole.rests (record { known = subst IsTrue stays.known trusted.known; honest = stays.honest trusted.honest }) up o (stays.leaves o may))

  module _ (fault : Option Fault) (stores : StoresLeft stored opening past step before after fault) (trusted : AreTrusted stored after) (up : AreUp stored before)
      (left : List (Option Stored)) (may : MayLeave stored after left) where
    left_at : (i : ℕ) (x : X) (o : Option Stored) → slice_get before i ≡ Some x → slice_get left i ≡ Some o
        → (o ≡ Some (stored x).content) ⊎ ((asks_of opening step past (i + 1) (stored x).content ≡ true) × (o ≡ Some (then i x)))
    left_at i x o at there =
        let (y, now) = at_place after i (subst (λ n. i < n) (sym count) (slice_get_within before i x at)) in
        left_of (asks_of opening step past (i + 1) (stored x).content) i x y fault o (stores.each i x y at now) (w.stores i x at)
        (all_at (λ x. IsTrusted (stored x)) after i y trusted now) (all_at (λ x. (stored x).is_up) before i x up at)
        (zip_at (λ x found. (stored x).may_leave found) after left i y o may now there)

    as_before : length left ≡ length before
    as_before = zip_count (λ x found. (stored x).may_leave found) after left may ∙ count

    -- where the step is accepted, the stores are those before it or those after it
    left_between : LeavesContents (AreBetween (contents_of stored before) (stores_after opening next past (contents_of stored before))) left
    left_between =
        let olds = contents_of stored before in
        between olds (stores_after opening next past olds) left (as_before ∙ sym (length-map before (λ x. (stored x).content))) (as_many opening next past 1 olds)
        (λ i old new o at made there.
        let (x, here, is) = held_at stands stored opening past forest before w i old at in
        let known = same_Some (content_after opening next past (i + 1) old) new (sym (made_at opening next past olds i old at) ∙ made) in
        elim (left_at i x o here there) [
          | inl k ↦ inl (k ∙ ap (λ s. Some s) is)
          | inr k ↦ inr (k.1 ∙ ap (λ s. Some s) (called i x k.0 ∙ ap (λ s. content_after opening next past (i + 1) s) is ∙ known))
        ])
      where
        called : (i : ℕ) (x : X) → asks_of opening step past (i + 1) (stored x).content ≡ true → then i x ≡ content_after opening next past (i + 1) (stored x).content
        called i x asks =
            let s = (stored x).content in
            let named : names_guardian step past (i + 1) ≡ true = (both_of _ (asks_store (i + 1) (brought opening next past (i + 1)) s) (both_of (is_accepted next.answer) _ asks).1).0 in
            sym (ap (λ b. cond b (then i x) (stored x).content) named)

    kept : (b : Bool) → is_accepted next.answer ≡ b → LeavesContents (AreLeftWithin opening past step) left
    kept true accepted =
        let olds = contents_of stored before in
        let all = left_between in
        record {
          contents = all.contents;
          found = all.found;
          are = elim (stop_within_any_step opening next past olds all.contents (refl, accepted, w.is_run) (stores_are_of_run stands stored opening past forest before w) all.are) [
            | inl is ↦ inl is
            | inr is ↦ inr (accepted, is)
          ];
        }
    kept false refused =
        let all = at_rest stands stored opening past forest before w left as_before (λ i x o at there. elim (left_at i x o at there) [
          | inl is ↦ is
          | inr is ↦ absurd (false≢true (sym (and_left (is_accepted next.answer) _ refused) ∙ is.0))
        ]) in
        record { contents = all.contents; found = all.found; are = inl all.are }

  -- the law
  pub kept_through_stops : (fault : Option Fault) → StoresLeft stored opening past step before after fault → IsKeptThroughStops stored opening past step before after
  kept_through_stops fault stores trusted up left may = kept fault stores trusted up left may (is_accepted next.answer) refl

  -- and after an answer all stores are up that were
  pub stay_up : {T : Type 0} (result : Result T Fault) → StoresLeft stored opening past step before after (fault_in result) → OnOk result (StayUp stored before after)
  stay_up (Err fault) stores = tt
  stay_up (Ok answer) stores = λ trusted up. all_by_place (λ x. (stored x).is_up) after (λ i y at.
      let (x, was) = was_at i y at in
      of (asks_of opening step past (i + 1) (stored x).content) i x y (stores.each i x y was at) (all_at (λ x. IsTrusted (stored x)) after i y trusted at)
      (all_at (λ x. (stored x).is_up) before i x up was))
    where
      of : (b : Bool) (i : ℕ) (x y : X) → Leaves b (then i x) (stored x) (stored y) None → IsTrusted (stored y) → (stored x).is_up → (stored y).is_up
      of true i x y makes trusted up = (makes.stands trusted).1
      of false i x y stays trusted up = stays.up up
