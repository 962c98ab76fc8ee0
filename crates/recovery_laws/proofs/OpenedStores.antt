-- What settled stores hold is what a new top action would have seen, and the next run goes on from it.
use Rattle.std.proofs.Common.{List, None, Option, Some, [], ap, arith, fold, length, map as mapped, max, option_map, refl, slice_get, subst, suc, sym, zero, ℕ, ◌+◌, ◌<◌, ◌∙◌, ◌∷◌, ◌≡◌}
use Rattle.std.proofs.lemmas.List.{length-map}
use Rattle.std.proofs.lemmas.Option.{same_Some, slice_get-map, slice_get_within}
use Rattle.std.specs.FinMap as map
use Rattle.std.specs.FinSet as set
use Rattle.atomic_types.specs.Parts.{laid_where}
use Rattle.run_model.specs.declared.history.Event.{Event}
use Rattle.run_model.specs.Lists.{up_to}
use Rattle.run_model.specs.Openings.{Opening, set_up}
use Rattle.run_model.specs.Runs.{IsRun}
use Rattle.run_model.specs.StableContent.{is_stably_decided, stable_next_top}
use Rattle.recovery_laws.specs.Numbers.{IsGuardian, next_top_of_all}
use Rattle.recovery_laws.specs.Opened.{AreLives, GoesOnFrom}
use Rattle.recovery_laws.specs.Settled.{settled_base}
use Rattle.recovery_laws.proofs.Stops.{serial_through_stops}
use Rattle.recovery_laws.proofs.Seen.{settled_is_seen_by_place}
use Rattle.recovery_laws.specs.StoreLaws.{NextOpeningGoesOn, OpenedStoresGoOn, SerialThroughStores, SettledAreFound, StoresHoldWhatIsSeen}
use Rattle.recovery_laws.specs.OpenedStores.{AreSettledFrom, AreStoredLives, OpensWith, SaysOf, StoredLife, lives_of}
use Rattle.recovery_laws.specs.Runs.{AreOfRun, HoldsSettled}
use Rattle.recovery_laws.proofs.Places.{at_place, greatest_by_number}
use Rattle.recovery_laws.proofs.Settled.{are_settled, holds_at, store_there}
use Rattle.recovery_laws.proofs.Settling.{same_decided, same_next_top}
use Rattle.stable_store.specs.Stored.{Stored}
use Rattle.store_recovery.specs.Settling.{settled, settled_store, store_of}

-- what holds of each store by its place holds by the number of its guardian
by_number : (P : ℕ → Stored → Type 0) (stores : List Stored) → ((i : ℕ) (s : Stored) → slice_get stores i ≡ Some s → P (i + 1) s)
    → (g : ℕ) (s : Stored) → store_of stores g ≡ Some s → P g s
by_number P stores h zero s at = absurd (let q : ◌≡◌ {A = Option Stored} None (Some s) = at in cc)
by_number P stores h (suc i) s at = let e : i + 1 ≡ suc i = omega arith in subst (λ k. P k s) e (h i s at)

-- the law
pub stores_hold_what_is_seen : StoresHoldWhatIsSeen
stores_hold_what_is_seen opening past stores older r all x s t at top new =
    let held = by_number (λ g u. HoldsSettled opening g past u) (settled stores) (are_settled opening past r stores all).each x.guardian s at in
    ap (λ part. laid_where part (set_up opening.setup x)) (held.base x.number) ∙ settled_is_seen_by_place opening past x t older r top new

-- ---- the next opening

-- the store of g says of bases, decisions and the next top action what is settled
record SaysSettled (opening : Opening) (g : ℕ) (past : List Event) (s : Stored) : Type 0 where
  base : (n : ℕ) → map.get s.base n ≡ settled_base opening g n past
  decided : (n : ℕ) → set.contains s.decided n ≡ is_stably_decided opening g (n ∷ []) past
  next_top : s.next_top ≡ stable_next_top opening g past

module _ (opening next : Opening) (past : List Event) (now : List Stored) (count : length now ≡ length opening.setup)
    (each : (i : ℕ) (s : Stored) → slice_get now i ≡ Some s → SaysSettled opening (i + 1) past s) (opens : OpensWith opening now next) where
  -- what the opening says of a guardian's store, which says what is settled
  record IsOpened (g : ℕ) : Type 0 where
    store : Stored
    held : SaysSettled opening g past store
    says : SaysOf next g store

  opened : (g : ℕ) → IsGuardian opening g → IsOpened g
  opened g there =
      let (i, s, is, at) = store_there (length opening.setup) g now count there.0 there.1 in
      subst IsOpened (sym is) (record { store = s; held = each i s at; says = opens.each i s at })

  first_top_known : next.first_top ≡ next_top_of_all opening past
  first_top_known =
      opens.first_top ∙ greatest_by_number (λ g. stable_next_top opening g past) 1 now (λ i s at. (each i s at).next_top)
      ∙ ap (λ n. fold (λ m g. max m (stable_next_top opening g past)) 1 (up_to n)) count

  goes_on : GoesOnFrom opening past next
  goes_on = record {
    setup = opens.setup;
    contents = λ x there.
        let o = opened x.guardian there in
        ap (λ part. laid_where part (set_up opening.setup x)) (sym (o.says.base x.number) ∙ o.held.base x.number);
    decided = λ g n there h. let o = opened g there in sym (o.held.decided n) ∙ o.says.decided n ∙ h;
    next_top = λ g there. let o = opened g there in sym o.says.next_top ∙ o.held.next_top;
    first_top = first_top_known;
  }

-- the law
pub next_opening_goes_on : NextOpeningGoesOn
next_opening_goes_on opening next past stores r all opens =
    let held = are_settled opening past r stores all in
    goes_on opening next past (settled stores) held.count
    (λ i s at. let h = held.each i s at in record { base = h.base; decided = h.decided; next_top = h.next_top }) opens

module _ (opening : Opening) (past : List Event) (r : IsRun opening past) (stores now : List Stored) (all : AreOfRun opening past stores)
    (from : AreSettledFrom stores now) where
  as_many : length now ≡ length stores
  as_many =
      sym (length-map now (λ s. s.decided)) ∙ ap (λ ds. length ds) from.decided ∙ length-map stores (λ s. s.decided)

  -- what stands in two lists at one place, where they show the same
  shown_alike : {A : Type 0} (f : Stored → A) (xs ys : List Stored) → mapped f xs ≡ mapped f ys → (i : ℕ) (x y : Stored)
      → slice_get xs i ≡ Some x → slice_get ys i ≡ Some y → f x ≡ f y
  shown_alike f xs ys same i x y here there =
      same_Some (f x) (f y)
      (sym (slice_get-map f xs i ∙ ap (λ o. option_map f o) here) ∙ ap (λ zs. slice_get zs i) same ∙ slice_get-map f ys i ∙ ap (λ o. option_map f o) there)

  says_settled : (i : ℕ) (s : Stored) → slice_get now i ≡ Some s → SaysSettled opening (i + 1) past s
  says_settled i s at =
      let within : i < length stores = subst (λ n. i < n) as_many (slice_get_within now i s at) in
      let (u, here) = at_place stores i within in
      let there = slice_get-map (λ t. settled_store stores t) stores i ∙ ap (λ o. option_map (λ t. settled_store stores t) o) here in
      let held = (are_settled opening past r stores all).each i (settled_store stores u) there in
      let stored = holds_at opening past r stores all i u here in record {
        base = λ n. ap (λ b. map.get b n) (shown_alike (λ t. t.base) now (settled stores) from.bases i s (settled_store stores u) at there) ∙ held.base n;
        decided = λ n. ap (λ d. set.contains d n) (shown_alike (λ t. t.decided) now stores from.decided i s u at here) ∙ stored.decided n;
        next_top = shown_alike (λ t. t.next_top) now stores from.next_tops i s u at here ∙ stored.next_top;
      }

-- the law
pub opened_stores_go_on : OpenedStoresGoOn
opened_stores_go_on opening next past stores now r all from opens =
    goes_on opening next past now (as_many opening past r stores now all from ∙ all.count) (says_settled opening past r stores now all from) opens

shown_still : {A : Type 0} (f : Stored → A) (g : Stored → Stored) (stores : List Stored) → ((s : Stored) → f (g s) ≡ f s)
    → mapped f (mapped g stores) ≡ mapped f stores
shown_still f g [] same = refl
shown_still f g (s ∷ stores) same = λ i. same s i ∷ shown_still f g stores same i

-- the law
pub settled_are_found : SettledAreFound
settled_are_found stores = record {
  bases = refl;
  decided = shown_still (λ s. s.decided) (λ s. settled_store stores s) stores (λ s. same_decided stores (map.entries s.prepared) s);
  next_tops = shown_still (λ s. s.next_top) (λ s. settled_store stores s) stores (λ s. same_next_top stores (map.entries s.prepared) s);
}

-- ---- runs that stopped

are_lives : (lives : List StoredLife) (next : Opening) → AreStoredLives lives next → AreLives (lives_of lives) next
are_lives [] next h = h
are_lives (l ∷ older) next h =
    (opened_stores_go_on l.life.opening next l.life.past l.left l.found h.3 h.2 h.1 h.0, h.3, h.4, h.5, are_lives older l.life.opening h.6)

-- the law
pub serial_through_stores : SerialThroughStores
serial_through_stores lives next later a h r free = serial_through_stops (lives_of lives) next later a (are_lives lives next h) r free
