-- Records come to rest in any order: a value stands alone, and deltas are added in any order.
use Rattle.std.proofs.Common.{Bool, List, None, Option, Some, [], ap, cond, false, filter, fold, is_some, not, refl, sym, true, ℕ, ℤ, ◌&&◌, ◌++◌, ◌∙◌, ◌∷◌, ◌≡◌, ◌||◌}
use Rattle.std.specs.Prelude.{pos}
use Rattle.std.proofs.Math.IntN.{+ℤ_comm}
use Rattle.std.proofs.lemmas.Bool.{and_from, and_parts, and_right, false_from_ne_true, false≢true, or_left, or_parts, or_right}
use Rattle.std.specs.Int.{int_wrap, w64}
use Rattle.std.specs.List.{list_any}
use Rattle.action_names.specs.Comparison.{same_name-equivalence}
use Rattle.action_names.specs.Names.{Name, has_name, is_ancestor, is_top, same_name, top_of}
use Rattle.values.specs.declared.content.Content.{Content}
use Rattle.values.specs.declared.value.Value.TheVariants.{Int}
use Rattle.atomic_types.specs.declared.operation.Operation.TheVariants.{Add}
use Rattle.atomic_types.specs.declared.part.Part.{Part}
use Rattle.atomic_types.specs.declared.part.Part.TheVariants.{Delta, Value}
use Rattle.atomic_types.specs.Counters.{sum_of}
use Rattle.atomic_types.specs.Operations.{is_add, is_write}
use Rattle.atomic_types.specs.TypeLaws.{objects_order_is_free, sums_commute}
use Rattle.run_model.specs.declared.history.Event.{Event}
use Rattle.run_model.specs.declared.step.ObjectId.{ObjectId}
use Rattle.run_model.specs.Keeping.{Performed, kept_on, standing_of}
use Rattle.run_model.specs.Openings.{Opening, first_content, part_at}
use Rattle.run_model.specs.Runs.{IsRun}
use Rattle.run_model.specs.StableContent.{Prepared, installed_over, is_stably_decided, stable_base, stable_prepared}
use Rattle.run_model.specs.Telling.{told_committed}
use Rattle.run_model.specs.Versions.{part_held, sum_on, version_by}
use Rattle.run_laws.proofs.Each.{each_map}
use Rattle.run_laws.proofs.Names.{clash, same_name_self, same_name_true, top_is_own, top_of_ancestor}
use Rattle.local_laws.proofs.Based.{none_pass}
use Rattle.local_laws.proofs.Beside.{IsBeside, alone_beside, held_facts}
use Rattle.local_laws.proofs.Outcomes.{has_filter}
use Rattle.local_laws.proofs.Rising.{Distinct}
use Rattle.local_laws.proofs.Waiting.{runs_are_orderly}
use Rattle.local_laws.proofs.Written.{held_by, held_of, is_held, part_is_held}
use Rattle.recovery_laws.specs.Laws.{AreDistinct, SettledInAnyOrder, SettledInParts, SettledSame}
use Rattle.recovery_laws.specs.Settled.{is_recorded, settled_by, settled_with, tops_of}
use Rattle.recovery_laws.proofs.Laying.{both}
use Rattle.recovery_laws.proofs.Records.{part_recorded, recorded_top}
use Rattle.recovery_laws.proofs.Resting.{filter_distinct, records_alone, tops_distinct, tops_recorded}
use Rattle.local_laws.proofs.Stable.{bases_same, decided_same, prepared_same}

-- ---- two parts

sum_turned : (y z : ℤ) → sum_of y z ≡ sum_of z y
sum_turned y z = ap (λ n. int_wrap w64 n) (+ℤ_comm y z)

-- deltas are installed in either order
deltas_turned : (y z : ℤ) (part : Option Part)
    → installed_over (Some (Delta z)) (installed_over (Some (Delta y)) part) ≡ installed_over (Some (Delta y)) (installed_over (Some (Delta z)) part)
deltas_turned y z None = ap (λ n. Some (Delta n)) (sum_turned y z)
deltas_turned y z (Some (Value v)) = ap (λ c. Some (Value c)) (objects_order_is_free v (Add (Int y)) (Add (Int z)) refl).0
deltas_turned y z (Some (Delta n)) = ap (λ m. Some (Delta m)) (sums_commute n y z)

-- beside a value there is nothing
abbrev IsAlone : Option Part → Option Part → Type 0
IsAlone p q = (v : Content) → p ≡ Some (Value v) → q ≡ None

parts_turned : (p q part : Option Part) → IsAlone p q → IsAlone q p → installed_over p (installed_over q part) ≡ installed_over q (installed_over p part)
parts_turned None q part h k = refl
parts_turned (Some p) None part h k = refl
parts_turned (Some (Value v)) (Some q) part h k = absurd (let e : Some q ≡ None = h v refl in cc)
parts_turned (Some (Delta z)) (Some (Value w)) part h k = absurd (let e : Some (Delta z) ≡ None = k w refl in cc)
parts_turned (Some (Delta z)) (Some (Delta y)) part h k = deltas_turned y z part

-- ---- lists of the same names

module _ (f : Option Part → Name → Option Part) (turns : Name → Name → Type 0)
    (turned : (u v : Name) (part : Option Part) → turns u v → f (f part u) v ≡ f (f part v) u) where
  abbrev without : Name → List Name → List Name
  without u names = filter (λ a. not (same_name a u)) names

  none_out : (u : Name) (names : List Name) → has_name names u ≡ false → without u names ≡ names
  none_out u [] h = refl
  none_out u (a ∷ names) h =
      let p = or_parts (same_name a u) (has_name names u) h in
      ap (λ s. cond (not s) (a ∷ without u names) (without u names)) p.0 ∙ ap (λ ns. a ∷ ns) (none_out u names p.1)

  -- one of them may come first
  first : (u : Name) (names : List Name) → Distinct names → has_name names u ≡ true → ((a : Name) → has_name names a ≡ true → same_name a u ≡ false → turns a u)
      → (part : Option Part) → fold f part names ≡ fold f (f part u) (without u names)
  first u [] d h free part = absurd (false≢true h)
  first u (a ∷ names) d h free part = of (same_name a u) refl (λ k. first u names d.1 k (λ b l. free b (or_right (same_name a b) _ l)) (f part a))
    where
      of : (s : Bool) → same_name a u ≡ s → (has_name names u ≡ true → fold f (f part a) names ≡ fold f (f (f part a) u) (without u names))
          → fold f (f part a) names ≡ fold f (f part u) (cond (not s) (a ∷ without u names) (without u names))
      of true e ih =
          let is : a ≡ u = same_name_true a u e in
          ap (λ b. fold f (f part b) names) is ∙ ap (λ ns. fold f (f part u) ns) (sym (none_out u names (ap (has_name names) (sym is) ∙ d.0)))
      of false e ih =
          ih (ap (λ s. s || has_name names u) (sym e) ∙ h)
          ∙ ap (λ p. fold f p (without u names)) (turned a u part (free a (or_left (same_name a a) _ (same_name_self a)) e))

  same_members : (us ws : List Name) → Distinct us → Distinct ws → ((a : Name) → has_name us a ≡ has_name ws a)
      → ((a b : Name) → has_name us a ≡ true → has_name us b ≡ true → same_name a b ≡ false → turns a b)
      → (part : Option Part) → fold f part us ≡ fold f part ws
  same_members [] [] d e m free part = refl
  same_members [] (w ∷ ws) d e m free part = absurd (false≢true (m w ∙ or_left (same_name w w) (has_name ws w) (same_name_self w)))
  same_members (u ∷ us) ws d e m free part =
      same_members us (without u ws) d.1 (filter_distinct (λ a. not (same_name a u)) ws e) members
      (λ a b h k l. free a b (or_right (same_name u a) _ h) (or_right (same_name u b) _ k) l) (f part u)
      ∙ sym (first u ws e (sym (m u) ∙ own) (λ a h k. free a u (m a ∙ h) own k) part)
    where
      own : has_name (u ∷ us) u ≡ true
      own = or_left (same_name u u) (has_name us u) (same_name_self u)

      members : (a : Name) → has_name us a ≡ has_name (without u ws) a
      members a = of (same_name a u) refl ∙ sym (has_filter (λ b. not (same_name b u)) ws a)
        where
          whole : (b : Bool) → (b && true) ≡ b
          whole true = refl
          whole false = refl

          of : (s : Bool) → same_name a u ≡ s → has_name us a ≡ (has_name ws a && not (same_name a u))
          of true q = ap (has_name us) (same_name_true a u q) ∙ d.0 ∙ sym (and_right (has_name ws a) _ (ap not q))
          of false q =
              sym (ap (λ s. s || has_name us a) (same_name-equivalence.symm u a ∙ q)) ∙ m a
              ∙ sym (ap (λ s. has_name ws a && not s) q ∙ whole (has_name ws a))

-- ---- two records

module _ (opening : Opening) (past : List Event) (r : IsRun opening past) (x : ObjectId) where
  abbrev c : Content
  c = first_content opening x

  abbrev told : Name → Bool
  told d = told_committed x.guardian d past

  -- beside a top action's value no other top action holds anything
  value_alone : (u v : Name) → is_top u ≡ true → is_top v ≡ true → same_name u v ≡ false
      → IsAlone (part_held (first_content opening x) (standing_of x past) u) (part_held (first_content opening x) (standing_of x past) v)
  value_alone u v top also differ w h =
      part_is_held c told (kept_on x past) v
      ∙ ap (λ ps. held_of (version_by c (standing_of x past) v) ps)
      (none_pass (is_held told v) (kept_on x past) (each_map (IsBeside told u) _ (kept_on x past) not_held
      (alone_beside told u top (kept_on x past) (runs_are_orderly opening past x r)
      (of (list_any (λ o. is_write o.operation) mine) refl (list_any (λ o. is_add o.operation) mine) (sym (part_is_held c told (kept_on x past) u) ∙ h)))))
    where
      mine : List Performed
      mine = held_by told u (kept_on x past)

      of : (b : Bool) → list_any (λ o. is_write o.operation) mine ≡ b → (a : Bool)
          → cond b (Some (Value (version_by c (standing_of x past) u))) (cond a (Some (Delta (sum_on (pos 0) (λ d. true) mine))) None) ≡ Some (Value w)
          → list_any (λ o. is_write o.operation) mine ≡ true
      of true e a k = e
      of false e true k = absurd (let q : Some (Delta (sum_on (pos 0) (λ d. true) mine)) ≡ Some (Value w) = k in cc)
      of false e false k = absurd (let q : None ≡ Some (Value w) = k in cc)

      not_held : (o : Performed) → IsBeside told u o → is_held told v o ≡ false
      not_held o beside = false_from_ne_true _ (λ k.
          let f = held_facts told v o.action also k in
          let is : top_of o.action ≡ v = sym (top_of_ancestor v o.action f.above) ∙ top_is_own v also in
          let one = beside (ap told is ∙ f.untold) (ap (λ d. is_ancestor d o.action) is ∙ f.above) in
          clash (ap (λ d. same_name d v) (sym one ∙ is) ∙ same_name_self v) differ)

  abbrev AreTwo : Name → Name → Type 0
  AreTwo u v = (is_recorded opening x.guardian past u ≡ true) × (is_recorded opening x.guardian past v ≡ true) × (same_name u v ≡ false)

  -- So two records come to rest in either order.
  two_turned : (u v : Name) (part : Option Part) → AreTwo u v
      → settled_by opening x.guardian x.number past v (settled_by opening x.guardian x.number past u part)
      ≡ settled_by opening x.guardian x.number past u (settled_by opening x.guardian x.number past v part)
  two_turned u v part two = of (stable_prepared opening x.guardian u past) refl (stable_prepared opening x.guardian v past) refl two.0 two.1
    where
      decided : Name → ℕ → Bool
      decided t h = is_stably_decided opening h t past

      alone : (a b : Name) (q p : Prepared) → is_top a ≡ true → is_top b ≡ true → same_name a b ≡ false
          → stable_prepared opening x.guardian a past ≡ Some q → stable_prepared opening x.guardian b past ≡ Some p
          → IsAlone (part_at q.parts x.number) (part_at p.parts x.number)
      alone a b q p top also differ e k w h =
          part_recorded opening past r x b p k ∙ value_alone a b top also differ w (sym (part_recorded opening past r x a q e) ∙ h)

      of : (o : Option Prepared) → stable_prepared opening x.guardian u past ≡ o → (p : Option Prepared) → stable_prepared opening x.guardian v past ≡ p
          → is_some (stable_prepared opening x.guardian u past) ≡ true → is_some (stable_prepared opening x.guardian v past) ≡ true
          → settled_with p (decided v) x.number (settled_with o (decided u) x.number part)
          ≡ settled_with o (decided u) x.number (settled_with p (decided v) x.number part)
      of None e p k h l = refl
      of (Some q) e None k h l = refl
      of (Some q) e (Some p) k h l = by (decided u q.home) (decided v p.home)
        where
          top : is_top u ≡ true
          top = recorded_top opening past x.guardian u r h

          also : is_top v ≡ true
          also = recorded_top opening past x.guardian v r l

          install : Bool → Prepared → Option Part → Option Part
          install d s old = cond d (installed_over (part_at s.parts x.number) old) old

          by : (d b : Bool) → install b p (install d q part) ≡ install d q (install b p part)
          by true true =
              parts_turned (part_at p.parts x.number) (part_at q.parts x.number) part
              (alone v u p q also top (same_name-equivalence.symm v u ∙ two.2) k e) (alone u v q p top also two.2 e k)
          by true false = refl
          by false b = refl

-- ---- the laws

are_distinct : (names : List Name) → AreDistinct names → Distinct names
are_distinct [] h = tt
are_distinct (a ∷ names) h = (h.0, are_distinct names h.1)

pub settled_in_any_order : SettledInAnyOrder
settled_in_any_order opening past g n names r distinct all =
    records_alone opening past g n names
    ∙ same_members (λ part t. settled_by opening g n past t part) (λ u v. AreTwo opening past r x u v) (two_turned opening past r x)
    (filter p names) (filter p (tops_of past)) (filter_distinct p names (are_distinct names distinct)) (filter_distinct p (tops_of past) (tops_distinct past))
    members (λ a b h k differ. (recorded a h, recorded b k, differ)) (stable_base opening g n past)
    ∙ sym (records_alone opening past g n (tops_of past))
  where
    x : ObjectId
    x = record { guardian = g; number = n }

    p : Name → Bool
    p t = is_recorded opening g past t

    recorded : (a : Name) → has_name (filter p names) a ≡ true → p a ≡ true
    recorded a h = (and_parts (has_name names a) (p a) (sym (has_filter p names a) ∙ h)).1

    members : (a : Name) → has_name (filter p names) a ≡ has_name (filter p (tops_of past)) a
    members a =
        has_filter p names a
        ∙ both (has_name names a && p a) (has_name (tops_of past) a && p a)
        (λ h. let q = and_parts (has_name names a) (p a) h in and_from _ _ (tops_recorded opening past g a r q.1) q.1)
        (λ h. let q = and_parts (has_name (tops_of past) a) (p a) h in and_from _ _ (all a q.1) q.1)
        ∙ sym (has_filter p (tops_of past) a)

pub settled_in_parts : SettledInParts
settled_in_parts opening past g n names others = of names (stable_base opening g n past)
  where
    f : Option Part → Name → Option Part
    f part t = settled_by opening g n past t part

    of : (names : List Name) (part : Option Part) → fold f part (names ++ others) ≡ fold f (fold f part names) others
    of [] part = refl
    of (a ∷ names) part = of names (f part a)

pub settled_same : SettledSame
settled_same opening run g n names r =
    λ i. fold (λ part t. settled_with (prepared_same opening run g t r i) (λ h. decided_same opening run h t r i) n part)
    (bases_same opening run g n r i) names
