-- Objects after a crash of their guardian.
use Rattle.std.proofs.Common.{Bool, List, None, Option, Some, [], ap, ap₂, append-nil, arith, cond, drop, false, filter, inl, inr, length, not, refl, subst, sym, take, true, ℕ, ◌&&◌, ◌++◌, ◌∙◌, ◌∷◌, ◌≡◌, ◌||◌}
use Rattle.std.specs.Prelude.{is_some, ◌↔◌}
use Rattle.std.specs.List.{AllByRecursion}
use Rattle.std.specs.declared.vec.Vec.{Vec}
use Rattle.std.proofs.lemmas.Bool.{false_from_ne_true, false≢true, or_parts, true≢false}
use Rattle.std.proofs.lemmas.List.{drop_all, take_all}
use Rattle.std.proofs.lemmas.Option.{same_Some}
use Rattle.action_names.specs.Names.{Name, is_top}
use Rattle.atomic_types.specs.declared.part.Part.{Part}
use Rattle.atomic_types.specs.Operations.{is_read}
use Rattle.run_model.specs.declared.step.ObjectId.{ObjectId}
use Rattle.run_model.specs.declared.step.Step.TheVariants as steps
use Rattle.run_model.specs.Keeping.{Performed, outlives_crash}
use Rattle.run_model.specs.LocalReadings.{LocalEvent, events_here, prepared_here, standing_here}
use Rattle.run_model.specs.Openings.{Opening, first_content}
use Rattle.run_model.specs.Telling.{holder_by}
use Rattle.run_model.specs.Versions.{holder_at}
use Rattle.run_laws.proofs.Names.{clash}
use Rattle.guardian_laws.specs.Crashes.{LeavesSafe, is_safe}
use Rattle.object_laws.specs.Changes.{crashed}
use Rattle.object_laws.specs.Laws.{is_concerned, is_left}
use Rattle.object_laws.specs.Shown.{Shows}
use Rattle.object_laws.proofs.Events.{crash_leaves_is}
use Rattle.atomic_object.specs.Kept.{Kept, seen}
use Rattle.atomic_object.specs.Ways.{AreLeft}
use Rattle.guardian_index.specs.Held.{IsHeld, Rows, has_number, has_object, is_in_row}
use Rattle.guardian_objects.specs.Crashes.{HasCrashed, HaveCrashed}
use Rattle.guardian_objects.specs.Objects.{AreObjects, Indexed, holds_at, holds_of, object_at, object_of}
use Rattle.guardian_objects.specs.Turns.{AreChanged}
use Rattle.guardian_objects.proofs.Holding.{crashed_held, somebody}
use Rattle.guardian_objects.proofs.Numbers.{has_append}
use Rattle.guardian_objects.proofs.Places.{index_at, object_before, same_guardian, stand_after}
use Rattle.guardian_objects.proofs.Room.{each_weaker}
use Rattle.guardian_objects.proofs.Untouched.{crash_leaves}

-- in whatever history the objects stand, they stand in the one with the crash in front
abbrev pub Crashes : (Name → Bool) → Indexed → Indexed → Type 0
Crashes stays old new = (opening : Opening) (here : List LocalEvent) (c : LocalEvent) → AreObjects opening here old
    → ((x : ObjectId) → x.guardian ≡ old.guardian → LeavesSafe opening here x)
    → ((a : Name) → stays a ≡ is_some (prepared_here opening old.guardian a here))
    → c.event.step ≡ steps.Crash old.guardian → c.carried.outcomes ≡ [] → c.carried.restored ≡ [] → AreObjects opening (c ∷ here) new

module _ (stays : Name → Bool) (tops : (a : Name) → stays a ≡ true → is_top a ≡ true) (old new : Indexed) (guardian : new.guardian ≡ old.guardian)
    (crash : HaveCrashed stays old.held old.objects new.objects)
    (held : (b : Name) (n : ℕ) → has_object new.held b n ≡ (has_object old.held b n && holds_at new.objects b n)) where
  pub crashed_stands : Crashes stays old new
  crashed_stands opening here c are safe prepared step outcomes restored =
      same_guardian opening (λ x. standing_here (c ∷ here) x) old.guardian new guardian
      (stand_after opening (λ x. standing_here here x) (λ x. standing_here (c ∷ here) x) old new.objects new.held are crash.count
      (λ n k l before after shows.
      subst (λ s. Shows (first_content opening (object_of old n)) s (seen l)) (sym (leaves n)) (now_shows n k l before after shows))
      (λ b n k l before after shows last index.
      held b n ∙ ap₂ (λ t u. t && u) (index b) (ap (λ o. holds_of true o b) after)
      ∙ both (is_concerned true (seen k).locks b) (is_concerned true (seen l).locks b)
      (crashed_held (first_content opening (object_of old n)) (standing_here here (object_of old n)) (seen k) (seen l) (λ o. outlives_crash o (events_here here)) shows
      (now_shows n k l before after shows) b))
      (λ b n none index. held b n ∙ ap (λ t. t && holds_at new.objects b n) (index b)))
    where
      both : (t u : Bool) → (u ≡ true → t ≡ true) → (t && u) ≡ u
      both true u h = refl
      both false true h = absurd (true≢false (sym (h refl)))
      both false false h = refl

      leaves : (n : ℕ) → standing_here (c ∷ here) (object_of old n) ≡ crashed (λ o. outlives_crash o (events_here here)) (standing_here here (object_of old n))
      leaves n = crash_leaves_is c here (object_of old n) step outcomes restored

      same : (o : Option Name) → is_safe opening old.guardian here o ≡ is_left stays o
      same None = refl
      same (Some a) = sym (prepared a)

      left : (n : ℕ) → AreLeft (λ o. outlives_crash o (events_here here)) stays (standing_here here (object_of old n))
      left n =
          let is = safe (object_of old n) refl in (
            each_weaker
                (λ (o : Performed). outlives_crash o (events_here here)
                ≡ (not (is_read o.operation) && is_safe opening old.guardian here (holder_at (standing_here here (object_of old n)) o)))
                (λ o. outlives_crash o (events_here here) ≡ (not (is_read o.operation) && is_left stays (holder_at (standing_here here (object_of old n)) o)))
                (standing_here here (object_of old n)).kept
                (λ o h. h ∙ ap (λ t. not (is_read o.operation) && t) (same (holder_at (standing_here here (object_of old n)) o))) is.kept,
            each_weaker (λ (r : Name × Part). is_safe opening old.guardian here (holder_by (standing_here here (object_of old n)).told r.0) ≡ true)
                (λ r. is_left stays (holder_by (standing_here here (object_of old n)).told r.0) ≡ true) (standing_here here (object_of old n)).restored
                (λ r h. sym (same (holder_by (standing_here here (object_of old n)).told r.0)) ∙ h) is.restored,
          )

      now_shows : (n : ℕ) (k l : Kept) → object_at old.objects n ≡ Some k → object_at new.objects n ≡ Some l
          → Shows (first_content opening (object_of old n)) (standing_here here (object_of old n)) (seen k)
          → Shows (first_content opening (object_of old n)) (crashed (λ o. outlives_crash o (events_here here)) (standing_here here (object_of old n))) (seen l)
      now_shows n k l before after shows = elim (somebody (seen k).locks) [
        | inl b ↦
            crash.crashed n k l (b.0, held_by b.0 ∙ b.1) before after (first_content opening (object_of old n)) (standing_here here (object_of old n))
            (λ o. outlives_crash o (events_here here)) shows (left n)
        | inr none ↦
            let same : k ≡ l = same_Some k l (sym before ∙ sym (crash.others n (λ h. clash h.1 (held_by h.0 ∙ none h.0))) ∙ after) in
            subst (λ z. Shows (first_content opening (object_of old n)) (crashed (λ o. outlives_crash o (events_here here)) (standing_here here (object_of old n))) (seen z)) same
            (crash_leaves (first_content opening (object_of old n)) (standing_here here (object_of old n)) (seen k) shows none (λ o. outlives_crash o (events_here here)) stays tops (left n))
      ]
        where
          held_by : (b : Name) → has_object old.held b n ≡ is_concerned true (seen k).locks b
          held_by b = index_at opening (λ x. standing_here here x) old are b n k before

-- ---- one crash after another

-- what a crash left, it leaves again
left_again : (outlives : Performed → Bool) (os : List Performed) → filter outlives (filter outlives os) ≡ filter outlives os
left_again outlives [] = refl
left_again outlives (o ∷ os) = of (outlives o) refl (left_again outlives os)
  where
    of : (t : Bool) → outlives o ≡ t → filter outlives (filter outlives os) ≡ filter outlives os
        → filter outlives (cond t (o ∷ filter outlives os) (filter outlives os)) ≡ cond t (o ∷ filter outlives os) (filter outlives os)
    of true e later = ap (λ t. cond t (o ∷ filter outlives (filter outlives os)) (filter outlives (filter outlives os))) e ∙ ap (λ l. o ∷ l) later
    of false e later = later

-- what holds of all holds of those that are left
each_left : {X : Type 0} (P : X → Type 0) (p : X → Bool) (xs : List X) → AllByRecursion P xs → AllByRecursion P (filter p xs)
each_left P p [] all = tt
each_left {X} P p (x ∷ xs) all = of (p x) (each_left P p xs all.1)
  where
    of : (t : Bool) → AllByRecursion P (filter p xs) → AllByRecursion P (cond t (x ∷ filter p xs) (filter p xs))
    of true later = (all.0, later)
    of false later = later

-- so one that crashes again is as after one crash
crashed_twice : (stays : Name → Bool) (j k l : Kept) → HasCrashed stays j k → HasCrashed stays k l → HasCrashed stays j l
crashed_twice stays j k l first again = λ c s outlives shows left.
    subst (λ os. Shows c (record { told = s.told; kept = os; restored = s.restored }) (seen l)) (left_again outlives s.kept)
    (again c (crashed outlives s) outlives (first c s outlives shows left)
    (each_left (λ o. outlives o ≡ (not (is_read o.operation) && is_left stays (holder_at s o))) outlives s.kept left.0, left.1))

-- objects of these numbers crashed, and then objects of those
pub crashed_both : (stays : Name → Bool) (ns ms : List ℕ) (a b c : List Kept) → AreChanged (HasCrashed stays) ns a b → AreChanged (HasCrashed stays) ms b c
    → AreChanged (HasCrashed stays) (ns ++ ms) a c
crashed_both stays ns ms a b c first later = record {
  count = later.count ∙ first.count;
  changed = λ n k m h before after.
      let there = object_before b c n m later.count after in
      of n (has_number ns n) refl (has_number ms n) refl (sym (has_append ns ms n) ∙ h) k there.0 m before there.1 after;
  others = λ n h. let p = or_parts (has_number ns n) (has_number ms n) (sym (has_append ns ms n) ∙ h) in later.others n p.1 ∙ first.others n p.0;
}
  where
    of : (n : ℕ) (t : Bool) → has_number ns n ≡ t → (u : Bool) → has_number ms n ≡ u → (has_number ns n || has_number ms n) ≡ true → (k l m : Kept)
        → object_at a n ≡ Some k → object_at b n ≡ Some l → object_at c n ≡ Some m → HasCrashed stays k m
    of n true e true d h k l m before between after =
        crashed_twice stays k l m (first.changed n k l e before between) (later.changed n l m d between after)
    of n true e false d h k l m before between after = first.changed n k m e before (sym (later.others n d) ∙ after)
    of n false e true d h k l m before between after = later.changed n k m d (first.others n e ∙ before) after
    of n false e false d h k l m before between after = absurd (false≢true (sym (λ i. e i || d i) ∙ h))

-- ---- one row after another

module _ {Z : Type 0} where
  -- the numbers of all rows
  abbrev pub numbers_in : List (Vec ℕ Z) → List ℕ
  numbers_in [] = []
  numbers_in (row ∷ rows) = row.items ++ numbers_in rows

  in_row_is : (rows : List (Vec ℕ Z)) (n : ℕ) → has_number (numbers_in rows) n ≡ is_in_row rows n
  in_row_is [] n = refl
  in_row_is (row ∷ rows) n = has_append row.items (numbers_in rows) n ∙ ap (λ t. has_number row.items n || t) (in_row_is rows n)

  -- with the rows that are left, each at which somebody holds something will have crashed
  abbrev pub WillCrash : (Name → Bool) → Rows → List Kept → List (Vec ℕ Z) → List Kept → Type 0
  WillCrash stays held first rows objects = (new : List Kept) → AreChanged (HasCrashed stays) (numbers_in rows) objects new → HaveCrashed stays held first new

  pub rows_crash : (stays : Name → Bool) (held : Rows) (first : List Kept) (rows : List (Vec ℕ Z)) → ((n : ℕ) → (is_in_row rows n ≡ true) ↔ IsHeld held n)
      → WillCrash stays held first rows first
  rows_crash stays held first rows is new crash = record {
    count = crash.count;
    crashed = λ n k l h before after. crash.changed n k l (in_row_is rows n ∙ (is n).1 h) before after;
    others = λ n none. crash.others n (false_from_ne_true (has_number (numbers_in rows) n) (λ h. none ((is n).0 (sym (in_row_is rows n) ∙ h))));
  }

  pub row_crashed : (stays : Name → Bool) (held : Rows) (first : List Kept) (row : Vec ℕ Z) (rows left : List (Vec ℕ Z)) (old mid : List Kept) → rows ≡ row ∷ left
      → WillCrash stays held first rows old → AreChanged (HasCrashed stays) row.items old mid → WillCrash stays held first left mid
  row_crashed stays held first row rows left old mid split will crash new later =
      will new (subst (λ l. AreChanged (HasCrashed stays) (numbers_in l) old new) (sym split) (crashed_both stays row.items (numbers_in left) old mid new crash later))

  -- no row is left
  pub all_crashed : (stays : Name → Bool) (held : Rows) (first : List Kept) (rows : List (Vec ℕ Z)) (objects : List Kept) → rows ≡ []
      → WillCrash stays held first rows objects → HaveCrashed stays held first objects
  all_crashed stays held first rows objects none will =
      will objects (subst (λ (l : List (Vec ℕ Z)). AreChanged (HasCrashed stays) (numbers_in l) objects objects) (sym none) (record {
        count = refl;
        changed = λ n k l h before after. absurd (false≢true h);
        others = λ n h. refl;
      }))

-- where all of a vector was lent and as much came back, that is all it has
pub all_written : (len : ℕ) (old items : List Kept) → len ≡ length old → length items ≡ length old → take len (items ++ drop (length items) old) ≡ items
all_written len old items whole count =
    ap (λ l. take len (items ++ l)) (drop_all (length items) old (omega (arith, count)))
    ∙ ap (λ l. take len l) (append-nil items)
    ∙ take_all len items (omega (arith, whole, count))
