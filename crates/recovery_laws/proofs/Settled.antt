-- The stores of a run, settled, hold what its history settles.
use Rattle.std.proofs.Common.{List, None, Option, Some, [], ap, arith, cond, fold, is_some, length, option_map, refl, slice_get, subst, suc, sym, true, zero, ℕ, ◌+◌, ◌<◌, ◌∙◌, ◌∷◌, ◌≡◌, ◌≤◌, T}
use Rattle.std.proofs.lemmas.Bool.{false≢true}
use Rattle.std.proofs.lemmas.List.{length-map}
use Rattle.std.proofs.lemmas.Option.{same_Some, slice_get-map}
use Rattle.std.specs.FinMap as map
use Rattle.std.specs.FinSet as set
use Rattle.std.specs.Ordering.{nat_cmp}
use Rattle.action_names.specs.Names.{Name, has_name, is_top}
use Rattle.atomic_types.specs.declared.part.Part.{Part}
use Rattle.run_model.specs.declared.history.Event.{Event}
use Rattle.run_model.specs.declared.step.ObjectId.{ObjectId}
use Rattle.run_model.specs.Keeping.{standing_of}
use Rattle.run_model.specs.Openings.{Opening, first_content, objects_at, part_at}
use Rattle.run_model.specs.Runs.{IsRun}
use Rattle.run_model.specs.StableContent.{Prepared, installed_over, is_stably_decided, stable_prepared}
use Rattle.run_model.specs.Versions.{part_held}
use Rattle.run_laws.proofs.Each.{Each, each_map}
use Rattle.run_laws.proofs.Ended.{closed_begun}
use Rattle.run_laws.proofs.Kept.{prepared_closed}
use Rattle.local_laws.specs.Reopened.{AreRising}
use Rattle.local_laws.proofs.Laid.{records_are_held}
use Rattle.recovery_laws.specs.Numbers.{IsGuardian}
use Rattle.recovery_laws.specs.Settled.{is_recorded, settled_base, settled_by, settled_with}
use Rattle.recovery_laws.proofs.Guardians.{home_there}
use Rattle.recovery_laws.proofs.Ordered.{settled_in_any_order}
use Rattle.recovery_laws.proofs.Records.{recorded_prepared, recorded_top}
use Rattle.stable_store.specs.Stored.{Record, Stored}
use Rattle.guardian_laws.specs.Stored.{record_of}
use Rattle.guardian_laws.proofs.Laid.{read_rises}
use Rattle.store_recovery.specs.Settling.{has_decided, is_decided, settled, settled_store, store_of}
use Rattle.recovery_laws.specs.StoreLaws.{SettledStores}
use Rattle.recovery_laws.specs.Runs.{AreOfRun, AreSettled, HoldsSettled}
use Rattle.recovery_laws.proofs.Entries.{all_found, present, tops_distinct, tops_in}
use Rattle.recovery_laws.proofs.Held.{Holds, holds}
use Rattle.recovery_laws.proofs.Places.{at_place}
use Rattle.recovery_laws.proofs.Settling.{HasRecords, all_bases, none_left, rests, same_count, same_decided, same_next_top}

-- a guardian's store, where the list has one for each
pub store_there : (count g : ℕ) (stores : List Stored) → length stores ≡ count → 0 < g → g ≤ count → (i : ℕ) × (s : Stored) × (g ≡ i + 1) × (slice_get stores i ≡ Some s)
store_there count zero stores all low high = absurd (omega arith)
store_there count (suc i) stores all low high =
    let at = at_place stores i (omega arith) in
    (i, at.0, (let e : suc i ≡ i + 1 = omega arith in e), at.1)

-- so it is by its number
pub store_at : (g i : ℕ) (stores : List Stored) (s : Stored) → g ≡ i + 1 → slice_get stores i ≡ Some s → store_of stores g ≡ Some s
store_at g i stores s is at = let e : g ≡ suc i = omega arith in ap (λ k. store_of stores k) e ∙ at

module _ (opening : Opening) (past : List Event) (r : IsRun opening past) (stores : List Stored) (all : AreOfRun opening past stores) where
  pub holds_at : (i : ℕ) (s : Stored) → slice_get stores i ≡ Some s → Holds opening (i + 1) past s
  holds_at i s at = holds opening past (i + 1) s r (all.each i s at)

  -- what the stores say of a decision at a guardian
  decided_there : (h m : ℕ) → IsGuardian opening h → is_decided stores h m ≡ is_stably_decided opening h (m ∷ []) past
  decided_there h m there =
      let (i, s, is, at) = store_there (length opening.setup) h stores all.count there.0 there.1 in
      ap (λ o. has_decided o m) (store_at h i stores s is at) ∙ (holds_at i s at).decided m
      ∙ ap (λ k. is_stably_decided opening k (m ∷ []) past) (sym is)

  module _ (g : ℕ) (s : Stored) (has : Holds opening g past s) where
    -- the history's record is the store's
    record IsRecord (m : ℕ) (stored : Record) : Type 0 where
      made : Prepared
      here : stable_prepared opening g (m ∷ []) past ≡ Some made
      same : record_of made ≡ stored

    record_there : (m : ℕ) (stored : Record) → map.get s.prepared m ≡ Some stored → IsRecord m stored
    record_there m stored at = of (stable_prepared opening g (m ∷ []) past) refl
      where
        of : (o : Option Prepared) → stable_prepared opening g (m ∷ []) past ≡ o → IsRecord m stored
        of None e = absurd (let q : ◌≡◌ {A = Option Record} None (Some stored) = sym (has.prepared m ∙ ap (λ o. option_map record_of o) e) ∙ at in cc)
        of (Some p) e =
            record { made = p; here = e; same = same_Some (record_of p) stored (sym (has.prepared m ∙ ap (λ o. option_map record_of o) e) ∙ at) }

    -- its parts rise, and its home is a guardian
    parts_rise : (t : Name) (p : Prepared) → stable_prepared opening g t past ≡ Some p → AreRising 0 p.parts
    parts_rise t p e =
        subst (λ (q : Prepared). AreRising 0 q.parts) (sym (records_are_held opening past g t p r e))
        (read_rises (λ n. part_held (first_content opening (at n)) (standing_of (at n) past) t) (length (objects_at opening.setup g)))
      where
        at : ℕ → ObjectId
        at n = record { guardian = g; number = n }

    home_is_there : (t : Name) (p : Prepared) → stable_prepared opening g t past ≡ Some p → IsGuardian opening p.home
    home_is_there t p e =
        let prepared = recorded_prepared opening past g t (ap (λ o. is_some o) e) in
        subst (λ (q : Prepared). IsGuardian opening q.home) (sym (records_are_held opening past g t p r e))
        (home_there opening past t r (closed_begun opening past t r (prepared_closed opening past g t r prepared)))

    -- So the store's record comes to rest as the history's.
    record ComesToRest (n : ℕ) (e : ℕ × Record) : Type 0 where
      rising : AreRising 0 e.1.parts
      rest : (part : Option Part) → rests stores n e part ≡ settled_by opening g n past (e.0 ∷ []) part

    comes_to_rest : (n : ℕ) (e : ℕ × Record) → map.get s.prepared e.0 ≡ Some e.1 → ComesToRest n e
    comes_to_rest n e at =
        let q = record_there e.0 e.1 at in
        let p = q.made in
        let t = e.0 ∷ [] in
        record {
          rising = subst (λ (c : Record). AreRising 0 c.parts) q.same (parts_rise t p q.here);
          rest = λ part.
              ap (λ (c : Record). cond (is_decided stores c.home e.0) (installed_over (part_at c.parts n) part) part) (sym q.same)
              ∙ ap (λ b. cond b (installed_over (part_at p.parts n) part) part) (decided_there p.home e.0 (home_is_there t p q.here))
              ∙ sym (ap (λ o. settled_with o (λ h. is_stably_decided opening h t past) n part) q.here);
        }

    -- ---- all records

    abbrev es : List (ℕ × Record)
    es = map.entries s.prepared

    sorted : T (map.is_sorted nat_cmp es)
    sorted = map.entries_sorted s.prepared

    has_records : HasRecords stores es s
    has_records q = map.get-entries s.prepared q

    all_rest : (n : ℕ) → Each (ComesToRest n) es
    all_rest n = each_map _ _ es (λ e found. comes_to_rest n e (map.get-entries s.prepared e.0 ∙ found)) (all_found es sorted)

    fold_same : (n : ℕ) (fs : List (ℕ × Record)) (part : Option Part) → Each (ComesToRest n) fs
        → fold (λ p e. rests stores n e p) part fs ≡ fold (λ p t. settled_by opening g n past t p) part (tops_in fs)
    fold_same n [] part rest = refl
    fold_same n (e ∷ fs) part rest =
        ap (λ p. fold (λ q f. rests stores n f q) p fs) (rest.0.rest part) ∙ fold_same n fs (settled_by opening g n past (e.0 ∷ []) part) rest.1

    -- each top action that has a record by the history stands among the store's
    recorded_there : (t : Name) → is_recorded opening g past t ≡ true → has_name (tops_in es) t ≡ true
    recorded_there t h = of t h (recorded_top opening past g t r h)
      where
        some_there : {X Y : Type 0} (f : X → Y) (o : Option X) → is_some o ≡ true → is_some (option_map f o) ≡ true
        some_there f None k = k
        some_there f (Some x) k = refl

        of : (t : Name) → is_recorded opening g past t ≡ true → is_top t ≡ true → has_name (tops_in es) t ≡ true
        of [] k top = absurd (false≢true top)
        of (m ∷ []) k top =
            present m es
            (ap (λ o. is_some o) (sym (map.get-entries s.prepared m) ∙ has.prepared m) ∙ some_there record_of (stable_prepared opening g (m ∷ []) past) k)
        of (m ∷ l ∷ t) k top = absurd (false≢true top)

    settled_there : (n : ℕ) → map.get (settled_store stores s).base n ≡ settled_base opening g n past
    settled_there n =
        all_bases stores n es s sorted has_records (each_map _ _ es (λ e c. c.rising) (all_rest n))
        ∙ ap (λ part. fold (λ p e. rests stores n e p) part es) (has.base n)
        ∙ fold_same n es _ (all_rest n)
        ∙ settled_in_any_order opening past g n (tops_in es) r (tops_distinct es sorted) recorded_there

    pub holds_settled : HoldsSettled opening g past (settled_store stores s)
    holds_settled = record {
      base = settled_there;
      prepared = none_left stores es s sorted has_records;
      decided = λ m. ap (λ d. set.contains d m) (same_decided stores es s) ∙ has.decided m;
      count = same_count stores es s ∙ has.count;
      next_top = same_next_top stores es s ∙ has.next_top;
    }

  -- where one stands in a list of what each of another gives
  pub are_settled : AreSettled opening past (settled stores)
  are_settled = record {
    count = length-map stores (λ s. settled_store stores s) ∙ all.count;
    each = λ i u at. of i u (slice_get stores i) refl (sym (slice_get-map (λ s. settled_store stores s) stores i) ∙ at);
  }
    where
      of : (i : ℕ) (u : Stored) (o : Option Stored) → slice_get stores i ≡ o → option_map (λ s. settled_store stores s) o ≡ Some u
          → HoldsSettled opening (i + 1) past u
      of i u None e q = absurd (let p : ◌≡◌ {A = Option Stored} None (Some u) = q in cc)
      of i u (Some s) e q =
          subst (λ t. HoldsSettled opening (i + 1) past t) (same_Some (settled_store stores s) u q) (holds_settled (i + 1) s (holds_at i s e))

-- the law
pub settled_stores : SettledStores
settled_stores opening past stores r all = are_settled opening past r stores all
