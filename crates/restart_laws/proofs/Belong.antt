-- The stores that a run leaves belong to its setup, and the next opening opens in type.
use Rattle.std.proofs.Common.{List, None, Option, Some, [], ap, arith, inl, inr, length, map as each, nat_cmp, option_map, refl, slice_get, subst, suc, sym, true, zero, ℕ, ◌+◌, ◌∙◌, ◌∷◌, ◌≡◌}
use Rattle.std.specs.FinMap as map
use Rattle.std.specs.List.{AllZip}
use Rattle.std.proofs.lemmas.Bool.{and_from, and_parts}
use Rattle.std.proofs.lemmas.List.{length-map}
use Rattle.std.proofs.lemmas.Option.{none-some, same_Some, slice_get_within}
use Rattle.atomic_types.specs.declared.part.Part.{Part}
use Rattle.run_model.specs.declared.history.Event.{Event}
use Rattle.run_model.specs.Openings.{Opening, Setup, objects_at}
use Rattle.run_model.specs.Runs.{IsRun}
use Rattle.run_model.specs.StableContent.{Prepared, stable_prepared}
use Rattle.stable_store.specs.Stored.{Record, Stored}
use Rattle.guardian_laws.specs.Stored.{record_of}
use Rattle.recovery_laws.specs.Numbers.{IsGuardian}
use Rattle.recovery_laws.proofs.Held.{Holds}
use Rattle.recovery_laws.proofs.Settled.{holds_at, store_there}
use Rattle.recovery_laws.proofs.StoreStops.{stop_within_any_step}
use Rattle.store_recovery.specs.Belonging.{all_belong, belong_from, belongs, object_at, record_belongs}
use Rattle.store_recovery.specs.Settling.{IsSettledInPart, settled, settled_store}
use Rattle.restart_laws.specs.Laws.{BelongThroughStops, NextOpensInType, OpensInTypeThroughStops, RunsBelong, SettledBelong, SettledInPartBelong, StopsBelong}
use Rattle.restart_laws.specs.Openings.{OpensInType}
use Rattle.restart_laws.proofs.Contents.{BaseSuits, Fits, belongs_from, fits_from, in_part_belongs, settled_belongs}
use Rattle.restart_laws.proofs.Parts.{SuitsWhere}
use Rattle.restart_laws.proofs.Prepared.{base_suits, record_inside}

-- ---- stores of a run

module _ (opening : Opening) (past : List Event) (t : OpensInType opening) (r : IsRun opening past) where
  -- a store that holds what the history says
  held_fits : (g : ℕ) (s : Stored) → IsGuardian opening g → Holds opening g past s → Fits opening.setup g s
  held_fits g s there holds = record {
    base = λ n.
        subst (λ o. SuitsWhere (object_at (objects_at opening.setup g) n) o) (sym (holds.base n)) (base_suits opening t g there past n r);
    prepared = λ top stored at. of top stored (stable_prepared opening g (top ∷ []) past) refl (sym (holds.prepared top) ∙ at);
  }
    where
      of : (top : ℕ) (stored : Record) (o : Option Prepared) → stable_prepared opening g (top ∷ []) past ≡ o
          → option_map record_of (stable_prepared opening g (top ∷ []) past) ≡ Some stored
          → record_belongs opening.setup (objects_at opening.setup g) stored ≡ true
      of top stored None e k = absurd (none-some stored (sym (ap (λ o. option_map record_of o) e) ∙ k))
      of top stored (Some p) e k =
          subst (λ (c : Record). record_belongs opening.setup (objects_at opening.setup g) c ≡ true)
          (same_Some (record_of p) stored (sym (ap (λ o. option_map record_of o) e) ∙ k))
          (record_inside opening t g there past (top ∷ []) p r e)

-- each store belongs from guardian g on
belong_each : (setup : Setup) (g : ℕ) (stores : List Stored)
    → ((i : ℕ) (s : Stored) → slice_get stores i ≡ Some s → belongs setup (i + g) s ≡ true)
    → belong_from setup g stores ≡ true
belong_each setup g [] h = refl
belong_each setup g (s ∷ stores) h = and_from _ _ here (belong_each setup (g + 1) stores behind)
  where
    here : belongs setup g s ≡ true
    here = let e : 0 + g ≡ g = omega arith in subst (λ k. belongs setup k s ≡ true) e (h 0 s refl)

    behind : (i : ℕ) (u : Stored) → slice_get stores i ≡ Some u → belongs setup (i + (g + 1)) u ≡ true
    behind i u at = let e : suc i + g ≡ i + (g + 1) = omega arith in subst (λ k. belongs setup k u ≡ true) e (h (suc i) u at)

guardian_at : (opening : Opening) (stores : List Stored) (i : ℕ) (s : Stored) → length stores ≡ length opening.setup
    → slice_get stores i ≡ Some s → IsGuardian opening (i + 1)
guardian_at opening stores i s count at =
    let within = slice_get_within stores i s at in
    (omega arith, omega (arith, count, within))

-- the law
pub runs_belong : RunsBelong
runs_belong opening past stores t r all =
    belong_each opening.setup 1 stores
    (λ i s at. belongs_from opening.setup (i + 1) s
    (held_fits opening past t r (i + 1) s (guardian_at opening stores i s all.count at) (holds_at opening past r stores all i s at)))

-- the law
pub stops_belong : StopsBelong
stops_belong opening e past stores left t r all between = elim (stop_within_any_step opening e past stores left r all between) [
  | inl before ↦ runs_belong opening past left t r.2 before.stores
  | inr after ↦ runs_belong opening (e ∷ past) left t r after.stores
]

-- ---- settled stores

each_settled : (setup : Setup) (g : ℕ) (all stores : List Stored) → belong_from setup g stores ≡ true
    → belong_from setup g (each (λ s. settled_store all s) stores) ≡ true
each_settled setup g all [] h = refl
each_settled setup g all (s ∷ stores) h =
    let both = and_parts _ _ h in
    and_from _ _ (settled_belongs setup g all s both.0) (each_settled setup (g + 1) all stores both.1)

-- the law
pub settled_belong : SettledBelong
settled_belong setup stores h = each_settled setup 1 stores stores h

-- some of their records
each_in_part : (setup : Setup) (g : ℕ) (all stores left : List Stored) → belong_from setup g stores ≡ true
    → AllZip (IsSettledInPart all) stores left → belong_from setup g left ≡ true
each_in_part setup g all [] [] h z = refl
each_in_part setup g all [] (t ∷ left) h z = absurd z
each_in_part setup g all (s ∷ stores) [] h z = absurd z
each_in_part setup g all (s ∷ stores) (t ∷ left) h z =
    let both = and_parts _ _ h in
    and_from _ _ (in_part_belongs setup g all s t z.0 both.0) (each_in_part setup (g + 1) all stores left both.1 z.1)

-- the law
pub settled_in_part_belong : SettledInPartBelong
settled_in_part_belong setup stores left h z = each_in_part setup 1 stores stores left h z

-- ---- the next opening

-- what is installed in each store suits its guardian's objects
abbrev pub BasesSuit : Setup → ℕ → List (map.FinMap nat_cmp Part) → Type 0
BasesSuit setup g [] = Unit {0}
BasesSuit setup g (base ∷ bases) = BaseSuits (objects_at setup g) base × BasesSuit setup (g + 1) bases

pub bases_suit : (setup : Setup) (g : ℕ) (stores : List Stored) → belong_from setup g stores ≡ true
    → BasesSuit setup g (each (λ s. s.base) stores)
bases_suit setup g [] h = tt
bases_suit setup g (s ∷ stores) h =
    let both = and_parts _ _ h in
    ((fits_from setup g s both.0).base, bases_suit setup (g + 1) stores both.1)

base_there : (setup : Setup) (g : ℕ) (stores : List Stored) → BasesSuit setup g (each (λ s. s.base) stores)
    → (i : ℕ) (s : Stored) → slice_get stores i ≡ Some s → BaseSuits (objects_at setup (i + g)) s.base
base_there setup g [] h i s at = absurd (none-some s at)
base_there setup g (u ∷ stores) h zero s at =
    let e : g ≡ 0 + g = omega arith in
    subst (λ k. BaseSuits (objects_at setup k) s.base) e
    (subst (λ (v : Stored). BaseSuits (objects_at setup g) v.base) (same_Some u s at) h.0)
base_there setup g (u ∷ stores) h (suc i) s at =
    let e : i + (g + 1) ≡ suc i + g = omega arith in
    subst (λ k. BaseSuits (objects_at setup k) s.base) e (base_there setup (g + 1) stores h.1 i s at)

-- an opening that says of bases what these stores hold
pub opens_with_bases : (opening : Opening) (stores : List Stored) → length stores ≡ length opening.setup
    → BasesSuit opening.setup 1 (each (λ s. s.base) stores)
    → ((i : ℕ) (s : Stored) → slice_get stores i ≡ Some s → (n : ℕ) → map.get s.base n ≡ (opening.stores (i + 1)).base n)
    → OpensInType opening
opens_with_bases opening stores count suit says g n part there at = of (store_there (length opening.setup) g stores count there.0 there.1)
  where
    Goal : ℕ → Option Part → Type 0
    Goal k o = SuitsWhere (object_at (objects_at opening.setup k) n) o

    of : (i : ℕ) × (s : Stored) × (g ≡ i + 1) × (slice_get stores i ≡ Some s) → Goal g (Some part)
    of (i, s, is, here) =
        let held = says i s here n ∙ ap (λ k. (opening.stores k).base n) (sym is) ∙ at in
        subst (λ k. Goal k (Some part)) (sym is) (subst (Goal (i + 1)) held (base_there opening.setup 1 stores suit i s here n))

-- the law
pub next_opens_in_type : NextOpensInType
next_opens_in_type opening next past stores now t r all from opens =
    let belong = settled_belong opening.setup stores (runs_belong opening past stores t r all) in
    let suit = subst (BasesSuit opening.setup 1) (sym from.bases) (bases_suit opening.setup 1 (settled stores) belong) in
    let as_many = sym (length-map now (λ s. s.decided)) ∙ ap (λ ds. length ds) from.decided ∙ length-map stores (λ s. s.decided) in (
      opens.setup,
      opens_with_bases next now (as_many ∙ all.count ∙ ap (λ setup. length setup) (sym opens.setup))
          (subst (λ setup. BasesSuit setup 1 (each (λ s. s.base) now)) (sym opens.setup) suit) (λ i s at. (opens.each i s at).base),
    )

-- the law
pub opens_in_type_through_stops : OpensInTypeThroughStops
opens_in_type_through_stops [] next t h = (refl, t)
opens_in_type_through_stops (l ∷ older) next t h =
    let before = opens_in_type_through_stops older l.life.opening t h.6 in
    let now = next_opens_in_type l.life.opening next l.life.past l.left l.found before.1 h.3 h.2 h.1 h.0 in
    (now.0 ∙ before.0, now.1)

-- the law
pub belong_through_stops : BelongThroughStops
belong_through_stops lives next later stores t h r all =
    let opens = opens_in_type_through_stops lives next t h in
    subst (λ setup. all_belong setup stores ≡ true) opens.0 (runs_belong next later stores opens.1 r all)
