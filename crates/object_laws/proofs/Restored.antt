-- What an object shows that a store gave back: a value alone, or deltas.
use Rattle.std.proofs.Common.{Bool, List, None, Some, [], ap, ap₂, arith, cond, false, filter, inl, inr, is_none, map, not, refl, sym, true, ℤ, ◌&&◌, ◌∙◌, ◌∷◌, ◌≡◌, ◌||◌}
use Rattle.std.specs.Prelude.{is_some, pos}
use Rattle.std.proofs.lemmas.Bool.{and_right, false≢true}
use Rattle.std.specs.List.{AllByRecursion}
use Rattle.action_names.specs.Names.{Name, has_name, is_ancestor, same_name}
use Rattle.values.specs.declared.content.Content.{Content}
use Rattle.atomic_types.specs.declared.part.Part.{Part}
use Rattle.atomic_types.specs.declared.part.Part.TheVariants.{Delta, Value}
use Rattle.atomic_types.specs.Counters.{sum_of}
use Rattle.atomic_types.specs.Operations.{is_add_class, is_read_class, is_write_class}
use Rattle.run_model.specs.Actions.{is_exactly}
use Rattle.run_model.specs.Telling.{holder_by}
use Rattle.run_model.specs.Versions.{is_held_above, with_part}
use Rattle.run_laws.proofs.Names.{same_name_true}
use Rattle.local_laws.specs.Orderly.{AreOrderly, IsUnder}
use Rattle.local_laws.specs.Reopened.{IsDelta, MayStand}
use Rattle.local_laws.proofs.Acts.{acts_of, after_acts}
use Rattle.local_laws.proofs.Orderly.{holder_is}
use Rattle.local_laws.proofs.Ruled.{of_restored}
use Rattle.object_model.specs.Objects.{delta_in, value_in}
use Rattle.object_laws.specs.Changes.{given}
use Rattle.object_laws.specs.Laws.{AreApart, AreTheirs, RestoredShows}
use Rattle.object_laws.specs.Shown.{only_if}
use Rattle.object_laws.proofs.Held.{from_acts, held, holds, known_acts, sum_acts}

module _ (c : Content) (told : Name → Bool) where
  base_is : (parts : List (Name × Part)) → AreTheirs told parts → after_acts c (filter (λ x. is_none (held told x)) (acts_of [] parts)) ≡ c
  base_is [] h = refl
  base_is (r ∷ parts) h =
      ap (λ o. after_acts c (cond (is_none o) (inr r ∷ filter (λ x. is_none (held told x)) (acts_of [] parts)) (filter (λ x. is_none (held told x)) (acts_of [] parts)))) h.0
      ∙ base_is parts h.1

  none_read : (parts : List (Name × Part)) (a : Name) → holds (λ x. held told x) is_read_class a (acts_of [] parts) ≡ false
  none_read [] a = refl
  none_read ((b, Value v) ∷ parts) a =
      ap (λ t. t || holds (λ x. held told x) is_read_class a (acts_of [] parts)) (and_right (is_exactly (holder_by told b) a) false refl) ∙ none_read parts a
  none_read ((b, Delta z) ∷ parts) a =
      ap (λ t. t || holds (λ x. held told x) is_read_class a (acts_of [] parts)) (and_right (is_exactly (holder_by told b) a) false refl) ∙ none_read parts a

  writes_are : (parts : List (Name × Part)) (a : Name) → AreTheirs told parts → holds (λ x. held told x) is_write_class a (acts_of [] parts) ≡ is_some (value_in parts a)
  writes_are [] a h = refl
  writes_are ((b, Value v) ∷ parts) a h =
      ap₂ (λ o t. (is_exactly o a && true) || t) h.0 (writes_are parts a h.1) ∙ of (same_name b a)
    where
      of : (t : Bool) → ((t && true) || is_some (value_in parts a)) ≡ is_some (cond t (Some v) (value_in parts a))
      of true = refl
      of false = refl
  writes_are ((b, Delta z) ∷ parts) a h =
      ap₂ (λ t u. t || u) (and_right (is_exactly (holder_by told b) a) false refl) (writes_are parts a h.1)

  adds_are : (parts : List (Name × Part)) (a : Name) → AreTheirs told parts → holds (λ x. held told x) is_add_class a (acts_of [] parts) ≡ is_some (delta_in parts a)
  adds_are [] a h = refl
  adds_are ((b, Value v) ∷ parts) a h =
      ap₂ (λ t u. t || u) (and_right (is_exactly (holder_by told b) a) false refl) (adds_are parts a h.1)
  adds_are ((b, Delta z) ∷ parts) a h =
      ap₂ (λ o t. (is_exactly o a && true) || t) h.0 (adds_are parts a h.1) ∙ of (same_name b a)
    where
      of : (t : Bool) → ((t && true) || is_some (delta_in parts a)) ≡ is_some (cond t (Some (sum_of (pos 0) z)) (delta_in parts a))
      of true = refl
      of false = refl

  -- ---- deltas alone

  no_value : (parts : List (Name × Part)) (a : Name) → AllByRecursion (λ r. IsDelta r.1) parts → value_in parts a ≡ None
  no_value [] a h = refl
  no_value ((b, Value v) ∷ parts) a h = absurd h.0
  no_value ((b, Delta z) ∷ parts) a h = no_value parts a h.1

  others_sum : (b a : Name) → same_name b a ≡ true → (parts : List (Name × Part)) → AreTheirs told parts
      → AllByRecursion (λ q. same_name q.0 b ≡ false) parts → sum_acts (λ x. is_exactly (held told x) a) (acts_of [] parts) ≡ pos 0
  others_sum b a e [] h k = refl
  others_sum b a e (r ∷ parts) h k =
      ap (λ (t : Bool). cond t (with_part (sum_acts (λ x. is_exactly (held told x) a) (acts_of [] parts)) r.1) (sum_acts (λ x. is_exactly (held told x) a) (acts_of [] parts)))
      (ap (λ o. is_exactly o a) h.0 ∙ ap (λ y. same_name r.0 y) (sym (same_name_true b a e)) ∙ k.0)
      ∙ others_sum b a e parts h.1 k.1

  delta_sums : (parts : List (Name × Part)) (a : Name) → AreTheirs told parts → AreApart parts → AllByRecursion (λ r. IsDelta r.1) parts
      → delta_in parts a ≡ only_if (is_some (delta_in parts a)) (sum_acts (λ x. is_exactly (held told x) a) (acts_of [] parts))
  delta_sums [] a h k d = refl
  delta_sums ((b, Value v) ∷ parts) a h k d = absurd d.0
  delta_sums ((b, Delta z) ∷ parts) a h k d =
      of (same_name b a) refl (delta_sums parts a h.1 k.1 d.1)
      ∙ ap (λ o. only_if (is_some (cond (same_name b a) (Some (sum_of (pos 0) z)) (delta_in parts a)))
      (cond (is_exactly o a) (sum_of (sum_acts (λ x. is_exactly (held told x) a) (acts_of [] parts)) z) (sum_acts (λ x. is_exactly (held told x) a) (acts_of [] parts)))) (sym h.0)
    where
      rest : ℤ
      rest = sum_acts (λ x. is_exactly (held told x) a) (acts_of [] parts)

      of : (t : Bool) → same_name b a ≡ t → delta_in parts a ≡ only_if (is_some (delta_in parts a)) rest
          → cond t (Some (sum_of (pos 0) z)) (delta_in parts a)
          ≡ only_if (is_some (cond t (Some (sum_of (pos 0) z)) (delta_in parts a))) (cond t (sum_of rest z) rest)
      of true e ih = ap (λ n. Some (sum_of n z)) (sym (others_sum b a e parts h.1 k.0))
      of false e ih = ih

  -- ---- what stands on the object

  version_is : (parts : List (Name × Part)) → AreTheirs told parts → MayStand parts → (a : Name)
      → value_in parts a
      ≡ only_if (is_some (value_in parts a)) (after_acts c (filter (λ x. is_held_above (held told x) a) (acts_of [] parts)))
  version_is parts h (inr all) a =
      no_value parts a all
      ∙ sym (ap (λ v. only_if (is_some v) (after_acts c (filter (λ x. is_held_above (held told x) a) (acts_of [] parts)))) (no_value parts a all))
  version_is [] h (inl few) a = refl
  version_is ((b, Delta z) ∷ []) h (inl few) a = refl
  version_is ((b, Value v) ∷ []) h (inl few) a = of (same_name b a) refl
    where
      of : (t : Bool) → same_name b a ≡ t
          → cond t (Some v) None
          ≡ only_if (is_some (cond t (Some v) None)) (after_acts c (cond (is_held_above (holder_by told b) a) (inr (b, Value v) ∷ []) []))
      of true e =
          let above : is_ancestor b a ≡ true = ap (λ y. is_ancestor b y) (sym (same_name_true b a e)) ∙ (holder_is told b b h.0).0 in
          sym (ap (λ o. Some (after_acts c (cond (is_held_above o a) (inr (b, Value v) ∷ []) []))) h.0
          ∙ ap (λ (t : Bool). Some (after_acts c (cond t (inr (b, Value v) ∷ []) []))) above)
      of false e = refl
  version_is (q ∷ r ∷ parts) h (inl few) a = absurd (omega arith)

  delta_is : (parts : List (Name × Part)) → AreTheirs told parts → AreApart parts → MayStand parts → (a : Name)
      → delta_in parts a
      ≡ only_if (is_some (delta_in parts a) && not (is_some (value_in parts a))) (sum_acts (λ x. is_exactly (held told x) a) (acts_of [] parts))
  delta_is parts h k (inr all) a =
      delta_sums parts a h k all
      ∙ ap (λ t. only_if t (sum_acts (λ x. is_exactly (held told x) a) (acts_of [] parts)))
      (whole (is_some (delta_in parts a)) ∙ ap (λ v. is_some (delta_in parts a) && not (is_some v)) (sym (no_value parts a all)))
    where
      whole : (t : Bool) → t ≡ (t && true)
      whole true = refl
      whole false = refl
  delta_is [] h k (inl few) a = refl
  delta_is ((b, Value v) ∷ []) h k (inl few) a = refl
  delta_is ((b, Delta z) ∷ []) h k (inl few) a =
      delta_sums ((b, Delta z) ∷ []) a h k (tt, tt)
      ∙ ap (λ t. only_if t (sum_acts (λ x. is_exactly (held told x) a) (acts_of [] ((b, Delta z) ∷ [])))) (whole (is_some (delta_in ((b, Delta z) ∷ []) a)))
    where
      whole : (t : Bool) → t ≡ (t && true)
      whole true = refl
      whole false = refl
  delta_is (q ∷ r ∷ parts) h k (inl few) a = absurd (omega arith)

  restored_orderly : (parts : List (Name × Part)) → MayStand parts → AreOrderly told (map of_restored parts)
  restored_orderly [] stand = tt
  restored_orderly (r ∷ []) stand = (tt, tt)
  restored_orderly (q ∷ r ∷ parts) (inl few) = absurd (omega arith)
  restored_orderly (q ∷ r ∷ parts) (inr all) = of (q ∷ r ∷ parts) all
    where
      each : (b : Name) (z : ℤ) (ps : List (Name × Part)) → AllByRecursion (λ p. IsDelta p.1) ps
          → AllByRecursion (λ e. IsUnder told (of_restored (b, Delta z)) e) (map of_restored ps)
      each b z [] h = tt
      each b z ((d, Value v) ∷ ps) h = absurd h.0
      each b z ((d, Delta y) ∷ ps) h = (λ t. absurd (false≢true t), each b z ps h.1)

      of : (ps : List (Name × Part)) → AllByRecursion (λ p. IsDelta p.1) ps → AreOrderly told (map of_restored ps)
      of [] h = tt
      of ((b, Value v) ∷ ps) h = absurd h.0
      of ((b, Delta z) ∷ ps) h = (each b z ps h.1, of ps h.1)

pub restored_shows : RestoredShows
restored_shows c told parts object theirs apart stand fits back =
    from_acts c (given told parts) object (record {
      base = back.base ∙ sym (base_is c told parts theirs);
      versions = λ a. back.versions a ∙ version_is c told parts theirs stand a
          ∙ ap (λ t. only_if t (after_acts c (filter (λ x. is_held_above (held told x) a) (acts_of [] parts)))) (sym (writes_are c told parts a theirs));
      rising = back.chain;
      deltas = λ a. back.deltas a ∙ delta_is c told parts theirs apart stand a
          ∙ ap₂ (λ t u. only_if (t && not u) (sum_acts (λ x. is_exactly (held told x) a) (acts_of [] parts)))
          (sym (adds_are c told parts a theirs)) (sym (writes_are c told parts a theirs));
      names_rise = back.rising;
      readers = λ a. ap (λ ns. has_name ns a) back.readers ∙ sym (none_read c told parts a);
      writers = λ a. back.writers a ∙ sym (writes_are c told parts a theirs);
      adders = λ a. ap₂ (λ t u. t && not u) (back.adders a ∙ sym (adds_are c told parts a theirs)) (back.writers a ∙ sym (writes_are c told parts a theirs));
      known = known_acts c [] parts tt fits;
    }) (restored_orderly c told parts stand)
