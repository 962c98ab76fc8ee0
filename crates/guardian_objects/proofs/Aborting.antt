-- An abort is told: the objects at which the action or a descendant holds something are told, and the index drops that.
use Rattle.std.proofs.Common.{Bool, List, None, Option, Some, [], ap, ap₂, false, not, refl, subst, sym, true, ℕ, ◌&&◌, ◌++◌, ◌∙◌, ◌∷◌, ◌≡◌}
use Rattle.std.specs.Prelude.{is_some}
use Rattle.std.specs.List.{AllByRecursion}
use Rattle.std.specs.Option.{IfSome}
use Rattle.std.proofs.lemmas.Bool.{and_from, and_parts, and_right, false_from_ne_true, false≢true}
use Rattle.std.proofs.lemmas.List.{map-append}
use Rattle.std.proofs.lemmas.Option.{same_Some}
use Rattle.action_names.specs.Names.{Name, is_ancestor, same_name}
use Rattle.run_model.specs.declared.step.ObjectId.{ObjectId}
use Rattle.run_model.specs.Keeping.{Standing}
use Rattle.run_model.specs.Openings.{Opening, first_content}
use Rattle.run_laws.proofs.Names.{clash}
use Rattle.object_laws.specs.Changes.{undone}
use Rattle.object_laws.specs.Laws.{is_concerned}
use Rattle.object_laws.specs.Shown.{Shows}
use Rattle.atomic_object.specs.Kept.{Kept, has_room, seen}
use Rattle.guardian_index.specs.Held.{HasRoomBelow, IsRising, has_number, has_object}
use Rattle.guardian_objects.specs.Objects.{Indexed, Stand, holds_below_at, holds_of, object_at, object_of}
use Rattle.guardian_objects.specs.Outcomes.{IsReadyAt}
use Rattle.guardian_objects.specs.Turns.{Aborts, AreChanged, IsHeard, IsReady, KeepsReady}
use Rattle.guardian_objects.specs.declared.outcomes.Telling.{Telling}
use Rattle.guardian_objects.proofs.Committing.{kept_beside, numbers_of}
use Rattle.guardian_objects.proofs.Holding.{below_from, below_to, undone_drops}
use Rattle.guardian_objects.proofs.Numbers.{last_above}
use Rattle.guardian_objects.proofs.Places.{changed_more, changed_none, object_before, same_guardian, stand_after}
use Rattle.guardian_objects.proofs.Room.{each_parts, each_weaker, still_there}
use Rattle.guardian_objects.proofs.Untouched.{abort_leaves}

-- ---- one object after another

-- there is an object of each number
abbrev pub AreThere : List Kept → List (ℕ × Option Name) → Type 0
AreThere objects at = AllByRecursion (λ x. is_some (object_at objects x.0) ≡ true) at

-- with what is left to be told, all will be told
abbrev pub WillAbort : List Kept → Name → List (ℕ × Option Name) → List Kept → List (ℕ × Option Name) → Type 0
WillAbort first a all objects at =
    (new : List Kept) → AreChanged (Aborts a) (numbers_of at) objects new → AreChanged (Aborts a) (numbers_of all) first new

pub abort_step : (a : Name) (all rest items : List (ℕ × Option Name)) (n : ℕ) (next : Option Name) → items ≡ rest ++ (n, next) ∷ [] → (first old mid : List Kept)
    → IsRising (numbers_of items) → AreThere old items → WillAbort first a all old items → AreChanged (Aborts a) (n ∷ []) old mid
    → IsRising (numbers_of rest) × AreThere mid rest × WillAbort first a all mid rest
abort_step a all rest items n next split first old mid rise there will told =
    let numbers : numbers_of items ≡ numbers_of rest ++ n ∷ [] = ap (λ l. numbers_of l) split ∙ map-append (λ (x : ℕ × Option Name). x.0) rest ((n, next) ∷ []) in
    let above = last_above (numbers_of rest) n (subst (λ l. IsRising l) numbers rise) in
    let parts = each_parts (λ (x : ℕ × Option Name). is_some (object_at old x.0) ≡ true) rest (n, next) (subst (λ l. AreThere old l) split there) in (
      above.0,
      kept_beside (λ o h. is_some o ≡ true) rest n old mid above.1 told.others parts.0,
      λ new later. will new (subst (λ l. AreChanged (Aborts a) l old new) (sym numbers) (changed_more (Aborts a) (numbers_of rest) n old mid new above.1 told later)),
    )

-- there is the next object to be told
pub abort_next : (rest items : List (ℕ × Option Name)) (n : ℕ) (next : Option Name) → items ≡ rest ++ (n, next) ∷ [] → (old : List Kept) → AreThere old items
    → is_some (object_at old n) ≡ true
abort_next rest items n next split old there = (each_parts (λ (x : ℕ × Option Name). is_some (object_at old x.0) ≡ true) rest (n, next) (subst (λ l. AreThere old l) split there)).1

-- ---- all of them

module _ (t : Telling) (old new : Indexed) (own : is_ancestor t.action t.action ≡ true) {alone : Bool} (ready : IsReady alone old t) (aborted : t.committed ≡ false)
    (objects : AreChanged (Aborts t.action) (numbers_of t.at.items) old.objects new.objects) where
  -- an abort concerns what descendants hold too, also where it is told alone
  with_others : (u : Bool) → (u && t.committed) ≡ false
  with_others u = ap (λ v. u && v) aborted ∙ never u
    where
      never : (v : Bool) → (v && false) ≡ false
      never true = refl
      never false = refl

  -- at whatever was not told nothing is held at or below the action
  pub abort_shows : (opening : Opening) (stands : ObjectId → Standing) → ((x : ObjectId) → (stands x).told t.action ≡ false) → (n : ℕ) (k l : Kept)
      → object_at old.objects n ≡ Some k → object_at new.objects n ≡ Some l → Shows (first_content opening (object_of old n)) (stands (object_of old n)) (seen k)
      → Shows (first_content opening (object_of old n)) (undone (λ b. same_name b t.action) (stands (object_of old n))) (seen l)
  abort_shows opening stands untold n k l before after shows = of (has_number (numbers_of t.at.items) n) refl
    where
      of : (u : Bool) → has_number (numbers_of t.at.items) n ≡ u
          → Shows (first_content opening (object_of old n)) (undone (λ b. same_name b t.action) (stands (object_of old n))) (seen l)
      of true e = (objects.changed n k l e before after).0 (first_content opening (object_of old n)) (stands (object_of old n)) shows (untold (object_of old n))
      of false e =
          let same : k ≡ l = same_Some k l (sym before ∙ sym (objects.others n e) ∙ after) in
          let none : is_concerned false (seen k).locks t.action ≡ false =
          false_from_ne_true _ (λ h. clash (ready.below n (ap₂ (λ u o. holds_of u o t.action) (with_others alone) before ∙ h)) e) in
          subst (λ z. Shows (first_content opening (object_of old n)) (undone (λ b. same_name b t.action) (stands (object_of old n))) (seen z)) same
          (abort_leaves (first_content opening (object_of old n)) (stands (object_of old n)) (seen k) shows t.action none own (untold (object_of old n)))

  pub abort_stands : new.guardian ≡ old.guardian
      → ((b : Name) (n : ℕ) → has_object new.held b n ≡ (not (is_ancestor t.action b) && has_object old.held b n))
      → (opening : Opening) (stands : ObjectId → Standing) → Stand opening stands old → ((x : ObjectId) → (stands x).told t.action ≡ false)
      → Stand opening (λ x. undone (λ b. same_name b t.action) (stands x)) new
  abort_stands guardian held opening stands stand untold =
      same_guardian opening (λ x. undone (λ b. same_name b t.action) (stands x)) old.guardian new guardian
      (stand_after opening stands (λ x. undone (λ b. same_name b t.action) (stands x)) old new.objects new.held stand objects.count
      (abort_shows opening stands untold)
      (λ b n k l before after shows now_shows index.
      held b n
      ∙ ap (λ u. not (is_ancestor t.action b) && u) (index b)
      ∙ sym (undone_drops (first_content opening (object_of old n)) (stands (object_of old n)) (seen k) (seen l) t.action shows now_shows (untold (object_of old n)) b))
      (λ b n none index. held b n ∙ and_right (not (is_ancestor t.action b)) (has_object old.held b n) (index b)))

  -- what is held below an action was held below it before
  abort_below : IsHeard old t → (a : Name) (n : ℕ) → holds_below_at new.objects a n ≡ true → holds_below_at old.objects a n ≡ true
  abort_below heard a n h = of (object_at new.objects n) refl h
    where
      of : (o : Option Kept) → object_at new.objects n ≡ o → holds_of false (object_at new.objects n) a ≡ true → holds_of false (object_at old.objects n) a ≡ true
      of None e q = absurd (false≢true (sym (ap (λ x. holds_of false x a) e) ∙ q))
      of (Some l) e q =
          let f = object_before old.objects new.objects n l objects.count e in
          let b = below_to (seen l).locks a (sym (ap (λ x. holds_of false x a) e) ∙ q) in
          let shows = heard.2.shown n f.0 f.1 in
          let now_shows = abort_shows heard.0 heard.1 (heard.3.untold aborted) n f.0 l f.1 e shows in
          let dropped = undone_drops (first_content heard.0 (object_of old n)) (heard.1 (object_of old n)) (seen f.0) (seen l) t.action shows now_shows
          (heard.3.untold aborted (object_of old n)) b.0 in
          ap (λ x. holds_of false x a) f.1 ∙ below_from (seen f.0).locks a b.0 b.1 (and_parts _ _ (sym dropped ∙ b.2)).1

  pub abort_ready : IsHeard old t → ((b : Name) → HasRoomBelow old.held b → HasRoomBelow new.held b) → KeepsReady t old new
  abort_ready heard room u apart was = record {
    rising = was.rising;
    below = λ n h. was.below n (abort_below heard u.action n h);
    there = each_weaker (λ (x : ℕ × Option Name). is_some (object_at old.objects x.0) ≡ true) (λ x. is_some (object_at new.objects x.0) ≡ true) u.at.items
        (λ x h. still_there old.objects new.objects x.0 objects.count h) was.there;
    index = λ q. in_index u.to (was.index q);
    room = λ q. each_weaker (IsReadyAt old u) (IsReadyAt new u) u.at.items (λ x h. (h.0, at_object x.0 (apart q) h.1)) (was.room q);
  }
    where
      in_index : (to : Option Name) → IfSome to (λ h. HasRoomBelow old.held h) → IfSome to (λ h. HasRoomBelow new.held h)
      in_index None k = tt
      in_index (Some h) k = room h k

      at_object : (n : ℕ) → IfSome u.to (λ h. is_ancestor t.action h ≡ false) → ((k : Kept) → object_at old.objects n ≡ Some k → IfSome u.to (λ h. has_room k h ≡ true))
          → (l : Kept) → object_at new.objects n ≡ Some l → IfSome u.to (λ h. has_room l h ≡ true)
      at_object n e had l after = let f = object_before old.objects new.objects n l objects.count after in of f.0 f.1 (has_number (numbers_of t.at.items) n) refl
        where
          others : (k : Kept) (to : Option Name) → IfSome to (λ h. is_ancestor t.action h ≡ false)
              → ((b : Name) → (not (is_ancestor t.action b) && has_room k b) ≡ true → has_room l b ≡ true)
              → IfSome to (λ h. has_room k h ≡ true) → IfSome to (λ h. has_room l h ≡ true)
          others k None q keeps r = tt
          others k (Some h) q keeps r = keeps h (and_from _ _ (ap (λ v. not v) q) r)

          of : (k : Kept) → object_at old.objects n ≡ Some k → (v : Bool) → has_number (numbers_of t.at.items) n ≡ v → IfSome u.to (λ h. has_room l h ≡ true)
          of k before true q = others k u.to e (objects.changed n k l q before after).1 (had k before)
          of k before false q =
              let same : k ≡ l = same_Some k l (sym before ∙ sym (objects.others n q) ∙ after) in
              subst (λ z. IfSome u.to (λ h. has_room z h ≡ true)) same (had k before)

-- nothing is left to be told
pub abort_all : (first : List Kept) (a : Name) (all at : List (ℕ × Option Name)) (objects : List Kept) → at ≡ [] → WillAbort first a all objects at
    → AreChanged (Aborts a) (numbers_of all) first objects
abort_all first a all at objects none will = will objects (subst (λ l. AreChanged (Aborts a) (numbers_of l) objects objects) (sym none) (changed_none (Aborts a) objects))
