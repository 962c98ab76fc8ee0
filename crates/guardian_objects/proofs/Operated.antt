-- An operation on one object, and what is noted of it.
use Rattle.std.proofs.Common.{Bool, List, None, Some, [], ap, ap₂, eqb-true, false, length, refl, subst, suc, sym, true, ℕ, ◌&&◌, ◌==◌, ◌∙◌, ◌∷◌, ◌≡◌, ◌≤◌, ◌||◌}
use Rattle.std.specs.Prelude.{Err, Ok, OnErr, Result}
use Rattle.std.proofs.lemmas.Bool.{and_right, eq-eqb, or_from, or_left}
use Rattle.std.proofs.lemmas.Option.{none-some, same_Some}
use Rattle.action_names.specs.Names.{Name, is_ancestor, same_name}
use Rattle.atomic_types.specs.Operations.{Op}
use Rattle.atomic_types.specs.declared.op.Reply.{Reply}
use Rattle.run_model.specs.LocalReadings.{standing_here}
use Rattle.run_model.specs.Openings.{first_content}
use Rattle.object_laws.specs.Changes.{with_operation}
use Rattle.object_laws.specs.Laws.{is_concerned}
use Rattle.object_laws.specs.Shown.{Shows}
use Rattle.object_laws.proofs.Standing.{knows_shown_law}
use Rattle.object_laws.specs.EventLaws.{is_crash, is_granted_on}
use Rattle.object_laws.proofs.Events.{operation_is_kept_is, outcomes_are_heard_is}
use Rattle.object_laws.proofs.Turns.{heard_in_turn_is}
use Rattle.object_laws.specs.Heard.{heard}
use Rattle.atomic_object.specs.Kept.{Kept, seen}
use Rattle.atomic_object.proofs.Granting.{let_through}
use Rattle.guardian_index.specs.Held.{has_number, has_object, objects_at}
use Rattle.guardian_objects.specs.Objects.{Indexed, IsAsked, IsGranted, Keeps, Operates, object_at, object_of}
use Rattle.guardian_objects.specs.Operations.{IsFreeAt, IsGrantedBy, IsShownAt, StaysHeld}
use Rattle.guardian_objects.specs.Turns.{AreChanged}
use Rattle.guardian_objects.proofs.Holding.{granted_holds}
use Rattle.guardian_objects.proofs.Places.{object_there, same_guardian, stand_after}
use Rattle.guardian_objects.proofs.Room.{same_stands}

-- what is asked of the objects is asked of one
pub asked_at : (o : Indexed) (n : ℕ) (wanted : Op) → IsAsked o n wanted → IsShownAt o.objects n wanted
asked_at o n wanted asked =
    let f = object_there o.objects n asked.3 asked.4 in
    let shows = asked.2.shown n f.0 f.1 in (
      f.0,
      f.1,
      (first_content asked.0 (object_of o n), standing_here asked.1 (object_of o n), shows),
      (knows_shown_law (first_content asked.0 (object_of o n)) (standing_here asked.1 (object_of o n)) (seen f.0) wanted shows).0 ∙ asked.5,
    )

-- where it is granted, the locks let it through
pub free_at : (o : Indexed) (n : ℕ) (a : Name) (wanted : Op) → IsGranted o n a wanted → IsFreeAt o.objects n a wanted
free_at o n a wanted granted =
    let f = object_there o.objects n granted.4 granted.5 in
    let c = first_content granted.0 (object_of o n) in
    let s = standing_here granted.1 (object_of o n) in
    let shows = granted.3.shown n f.0 f.1 in
    (f.0, f.1, (c, s, shows), (knows_shown_law c s (seen f.0) wanted shows).0 ∙ granted.6, let_through c s (seen f.0) a wanted granted.2 shows granted.7)

-- what is said on an error
pub on_err : {X Y P : Type 0} (r : Result X Y) → P → OnErr r P
on_err (Ok x) h = tt
on_err (Err y) h = h

-- ---- what stays

-- the objects beside are the same, and the one is held as it was
all_stay : (ns : List ℕ) (old new : List Kept) → AreChanged StaysHeld ns old new → (n : ℕ) (k l : Kept) → object_at old n ≡ Some k → object_at new n ≡ Some l → seen l ≡ seen k
all_stay ns old new changed n k l before after = of (has_number ns n) refl
  where
    of : (t : Bool) → has_number ns n ≡ t → seen l ≡ seen k
    of true e = changed.changed n k l e before after
    of false e = ap (λ x. seen x) (sym (same_Some k l (sym before ∙ sym (changed.others n e) ∙ after)))

pub stays_keeps : (ns : List ℕ) (old new : Indexed) → new.guardian ≡ old.guardian → AreChanged StaysHeld ns old.objects new.objects
    → ((b : Name) → objects_at new.held b ≡ objects_at old.held b) → Keeps old new
stays_keeps ns old new guardian changed held opening here are =
    same_stands old new guardian changed.count (all_stay ns old.objects new.objects changed) held opening (λ x. standing_here here x) are

-- nothing but the room was changed
pub same_keeps : (old new : Indexed) → new.guardian ≡ old.guardian → new.objects ≡ old.objects → ((b : Name) → objects_at new.held b ≡ objects_at old.held b) → Keeps old new
same_keeps old new guardian objects held opening here are =
    same_stands old new guardian (ap (λ l. length l) objects)
    (λ n k l before after. ap (λ x. seen x) (sym (same_Some k l (sym before ∙ sym (ap (λ os. object_at os n) objects) ∙ after)))) held opening (λ x. standing_here here x) are

-- ---- what is granted

module _ (a : Name) (n : ℕ) (wanted : Op) (r : Reply) (old new : Indexed) (own : is_ancestor a a ≡ true) (low : 1 ≤ n) (high : n ≤ length old.objects)
    (guardian : new.guardian ≡ old.guardian) (changed : AreChanged (IsGrantedBy a wanted r) (n ∷ []) old.objects new.objects)
    (held : (b : Name) (m : ℕ) → has_object new.held b m ≡ ((same_name a b && (n == m)) || has_object old.held b m)) where
  pub granted_stands : Operates a n wanted r old new
  granted_stands opening here c are step answer outcomes restored untold =
      same_guardian opening (λ x. standing_here (c ∷ here) x) old.guardian new guardian
      (stand_after opening (λ x. standing_here here x) (λ x. standing_here (c ∷ here) x) old new.objects new.held are changed.count
      (λ m k l before after shows. shown m k l before after shows (n == m) refl)
      (λ b m k l before after shows now_shows index. noted b m k l before after shows now_shows index (n == m) refl)
      (λ b m none index. held b m ∙ or_from (same_name a b && (n == m)) (has_object old.held b m) (and_right (same_name a b) (n == m) (outside m none)) (index b)))
    where
      -- how the object stands
      kept : standing_here (c ∷ here) (object_of old n) ≡ with_operation (record { number = suc (length here); action = a; object = object_of old n; operation = wanted; reply = r })
          (standing_here here (object_of old n))
      kept = operation_is_kept_is c here (object_of old n) a wanted r step answer outcomes restored

      -- and how the others do
      beside : (m : ℕ) → (n == m) ≡ false → standing_here (c ∷ here) (object_of old m) ≡ standing_here here (object_of old m)
      beside m e =
          outcomes_are_heard_is c here (object_of old m) (ap (λ s. is_crash s) step)
          (ap₂ (λ s w. is_granted_on (object_of old m) s w) step answer ∙ and_right (old.guardian == old.guardian) (n == m) e) restored
          ∙ ap (λ l. heard l (standing_here here (object_of old m))) outcomes
          ∙ heard_in_turn_is [] (standing_here here (object_of old m)) tt

      same : (m : ℕ) (k l : Kept) → object_at old.objects m ≡ Some k → object_at new.objects m ≡ Some l → (n == m) ≡ false → k ≡ l
      same m k l before after e = same_Some k l (sym before ∙ sym (changed.others m (or_from (n == m) false e refl)) ∙ after)

      granted : (m : ℕ) (k l : Kept) → object_at old.objects m ≡ Some k → object_at new.objects m ≡ Some l → n ≡ m
          → Shows (first_content opening (object_of old m)) (standing_here here (object_of old m)) (seen k)
          → Shows (first_content opening (object_of old m))
          (with_operation (record { number = suc (length here); action = a; object = object_of old n; operation = wanted; reply = r }) (standing_here here (object_of old m))) (seen l)
      granted m k l before after e shows =
          (changed.changed m k l (or_left (n == m) false (eq-eqb n m e)) before after) (first_content opening (object_of old m)) (standing_here here (object_of old m))
          (record { number = suc (length here); action = a; object = object_of old n; operation = wanted; reply = r }) shows refl refl untold

      shown : (m : ℕ) (k l : Kept) → object_at old.objects m ≡ Some k → object_at new.objects m ≡ Some l
          → Shows (first_content opening (object_of old m)) (standing_here here (object_of old m)) (seen k) → (t : Bool) → (n == m) ≡ t
          → Shows (first_content opening (object_of old m)) (standing_here (c ∷ here) (object_of old m)) (seen l)
      shown m k l before after shows false e =
          subst (λ s. Shows (first_content opening (object_of old m)) s (seen l)) (sym (beside m e))
          (subst (λ x. Shows (first_content opening (object_of old m)) (standing_here here (object_of old m)) (seen x)) (same m k l before after e) shows)
      shown m k l before after shows true e =
          let is : n ≡ m = eqb-true n m e in
          subst (λ s. Shows (first_content opening (object_of old m)) s (seen l))
          (ap (λ i. with_operation (record { number = suc (length here); action = a; object = object_of old n; operation = wanted; reply = r }) (standing_here here (object_of old i))) (sym is)
          ∙ sym kept ∙ ap (λ i. standing_here (c ∷ here) (object_of old i)) is)
          (granted m k l before after is shows)

      noted : (b : Name) (m : ℕ) (k l : Kept) → object_at old.objects m ≡ Some k → object_at new.objects m ≡ Some l
          → Shows (first_content opening (object_of old m)) (standing_here here (object_of old m)) (seen k)
          → Shows (first_content opening (object_of old m)) (standing_here (c ∷ here) (object_of old m)) (seen l)
          → ((d : Name) → has_object old.held d m ≡ is_concerned true (seen k).locks d) → (t : Bool) → (n == m) ≡ t
          → has_object new.held b m ≡ is_concerned true (seen l).locks b
      noted b m k l before after shows now_shows index false e =
          held b m
          ∙ ap (λ t. t || has_object old.held b m) (and_right (same_name a b) (n == m) e)
          ∙ index b ∙ ap (λ x. is_concerned true (seen x).locks b) (same m k l before after e)
      noted b m k l before after shows now_shows index true e =
          held b m
          ∙ ap₂ (λ t u. (same_name a b && t) || u) e (index b)
          ∙ ap (λ t. t || is_concerned true (seen k).locks b) (whole (same_name a b))
          ∙ sym (granted_holds (first_content opening (object_of old m)) (standing_here here (object_of old m)) (seen k) (seen l)
          (record { number = suc (length here); action = a; object = object_of old n; operation = wanted; reply = r }) shows
          (granted m k l before after (eqb-true n m e) shows) own untold b)
        where
          whole : (t : Bool) → (t && true) ≡ t
          whole true = refl
          whole false = refl

      -- a number past the end is another one
      outside : (m : ℕ) → object_at old.objects m ≡ None → (n == m) ≡ false
      outside m none = split (n == m) refl
        where
          split : (t : Bool) → (n == m) ≡ t → (n == m) ≡ false
          split false e = e
          split true e = let f = object_there old.objects n low high in absurd (none-some f.0 (sym none ∙ ap (λ i. object_at old.objects i) (sym (eqb-true n m e)) ∙ f.1))
