-- A commit is told: the objects at which the action holds something are told, and the index hands on.
use Rattle.std.proofs.Common.{Bool, List, None, Option, Some, [], ap, ap₂, false, inl, inr, map, not, refl, subst, sym, true, ℕ, ◌&&◌, ◌++◌, ◌==◌, ◌∙◌, ◌∷◌, ◌≡◌, ◌||◌}
use Rattle.std.specs.Prelude.{is_some}
use Rattle.std.specs.List.{AllByRecursion}
use Rattle.std.specs.Option.{IfSome}
use Rattle.std.proofs.lemmas.Bool.{and_from, and_parts, eq-eqb, eqb-true, false_from_ne_true, false≢true, or_cases, or_from, or_parts}
use Rattle.std.proofs.lemmas.List.{map-append}
use Rattle.std.proofs.lemmas.Option.{same_Some}
use Rattle.action_names.specs.Names.{Name, is_ancestor, is_proper_ancestor, parent_of, same_name}
use Rattle.run_model.specs.declared.step.ObjectId.{ObjectId}
use Rattle.run_model.specs.Keeping.{Standing}
use Rattle.run_model.specs.Openings.{Opening, first_content}
use Rattle.run_model.specs.Telling.{holder_by}
use Rattle.run_laws.proofs.Names.{ancestor_trans, clash, same_name_true}
use Rattle.object_laws.specs.Changes.{told_too}
use Rattle.object_laws.specs.Laws.{is_concerned}
use Rattle.object_laws.specs.Shown.{Shows}
use Rattle.object_laws.proofs.Standing.{next_holder}
use Rattle.action_names.proofs.Ancestry.{proper}
use Rattle.atomic_object.specs.Kept.{HasRoomFor, Kept, has_room, seen}
use Rattle.atomic_object.specs.Ways.{HandsTo}
use Rattle.guardian_index.specs.Held.{HasRoomBelow, IsRising, has_number, has_object, is_name_of}
use Rattle.guardian_objects.specs.Objects.{Indexed, Stand, holds_below_at, holds_of, object_at, object_of}
use Rattle.guardian_objects.specs.Outcomes.{IsReadyAt}
use Rattle.guardian_objects.specs.Turns.{AreChanged, Commits, IsHeard, IsReady, KeepsReady, MayCommitAt}
use Rattle.guardian_objects.specs.declared.outcomes.Telling.{Telling}
use Rattle.guardian_objects.proofs.Holding.{below_from, below_to, committed_moves, concerned}
use Rattle.guardian_objects.proofs.Numbers.{last_above}
use Rattle.guardian_objects.proofs.Places.{changed_more, changed_none, object_before, object_is, same_guardian, stand_after}
use Rattle.guardian_objects.proofs.Room.{each_parts, each_weaker, still_there}
use Rattle.guardian_objects.proofs.Untouched.{commit_leaves}

-- the numbers of the objects that are told
abbrev pub numbers_of : List (ℕ × Option Name) → List ℕ
numbers_of at = map (λ x. x.0) at

-- ---- one object after another

-- what is said of objects of other numbers is said of them still
pub kept_beside : (says : Option Kept → Option Name → Type 0) (rest : List (ℕ × Option Name)) (n : ℕ) (old mid : List Kept) → has_number (numbers_of rest) n ≡ false
    → ((m : ℕ) → has_number (n ∷ []) m ≡ false → object_at mid m ≡ object_at old m) → AllByRecursion (λ x. says (object_at old x.0) x.1) rest
    → AllByRecursion (λ x. says (object_at mid x.0) x.1) rest
kept_beside says [] n old mid apart others all = tt
kept_beside says (x ∷ rest) n old mid apart others all =
    let p = or_parts (x.0 == n) (has_number (numbers_of rest) n) apart in
    (subst (λ o. says o x.1) (sym (others x.0 (or_from (n == x.0) false (turned p.0) refl))) all.0, kept_beside says rest n old mid p.1 others all.1)
  where
    turned : (x.0 == n) ≡ false → (n == x.0) ≡ false
    turned e = false_from_ne_true (n == x.0) (λ h. clash (eq-eqb x.0 n (sym (eqb-true n x.0 h))) e)

-- what may be told to an object, or to none
abbrev may_say : Name → Option Name → Option Kept → Option Name → Type 0
may_say a to o next = (next ≡ to) × ((k : Kept) × (o ≡ Some k) × HandsTo (seen k) a to × HasRoomFor k to)

abbrev pub MayCommit : List Kept → Name → Option Name → List (ℕ × Option Name) → Type 0
MayCommit objects a to at = AllByRecursion (λ x. (x.1 ≡ to) × MayCommitAt objects a to x.0) at

-- with what is left to be told, all will be told
abbrev pub WillCommit : List Kept → Name → Option Name → List (ℕ × Option Name) → List Kept → List (ℕ × Option Name) → Type 0
WillCommit first a to all objects at =
    (new : List Kept) → AreChanged (Commits a to) (numbers_of at) objects new → AreChanged (Commits a to) (numbers_of all) first new

pub commit_step : (a : Name) (to : Option Name) (all rest items : List (ℕ × Option Name)) (n : ℕ) (next : Option Name) → items ≡ rest ++ (n, next) ∷ [] → (first old mid : List Kept)
    → IsRising (numbers_of items) → MayCommit old a to items → WillCommit first a to all old items → AreChanged (Commits a next) (n ∷ []) old mid
    → IsRising (numbers_of rest) × MayCommit mid a to rest × WillCommit first a to all mid rest
commit_step a to all rest items n next split first old mid rise may will changed =
    let numbers : numbers_of items ≡ numbers_of rest ++ n ∷ [] = ap (λ l. numbers_of l) split ∙ map-append (λ (x : ℕ × Option Name). x.0) rest ((n, next) ∷ []) in
    let above = last_above (numbers_of rest) n (subst (λ l. IsRising l) numbers rise) in
    let parts = each_parts (λ (x : ℕ × Option Name). (x.1 ≡ to) × MayCommitAt old a to x.0) rest (n, next) (subst (λ l. MayCommit old a to l) split may) in
    let told : AreChanged (Commits a to) (n ∷ []) old mid = subst (λ h. AreChanged (Commits a h) (n ∷ []) old mid) parts.1.0 changed in (
      above.0,
      kept_beside (may_say a to) rest n old mid above.1 told.others parts.0,
      λ new later. will new (subst (λ l. AreChanged (Commits a to) l old new) (sym numbers) (changed_more (Commits a to) (numbers_of rest) n old mid new above.1 told later)),
    )

-- what is to be told to the next object
pub commit_next : (a : Name) (to : Option Name) (rest items : List (ℕ × Option Name)) (n : ℕ) (next : Option Name) → items ≡ rest ++ (n, next) ∷ [] → (old : List Kept)
    → MayCommit old a to items → MayCommitAt old a next n
commit_next a to rest items n next split old may =
    let parts = each_parts (λ (x : ℕ × Option Name). (x.1 ≡ to) × MayCommitAt old a to x.0) rest (n, next) (subst (λ l. MayCommit old a to l) split may) in
    subst (λ h. MayCommitAt old a h n) (sym parts.1.0) parts.1.1

-- what is ready may be told
pub commit_first : (t : Telling) (o : Indexed) → t.committed ≡ true → {alone : Bool} → IsReady alone o t → IsHeard o t → MayCommit o.objects t.action t.to t.at.items
commit_first t o committed ready heard = all t.at.items (ready.room committed) ready.there
  where
    all : (at : List (ℕ × Option Name)) → AllByRecursion (IsReadyAt o t) at → AllByRecursion (λ x. is_some (object_at o.objects x.0) ≡ true) at → MayCommit o.objects t.action t.to at
    all [] room there = tt
    all (x ∷ at) room there =
        let f = object_is o.objects x.0 there.0 in (
          (room.0.0, (f.0, f.1, (first_content heard.0 (object_of o x.0), heard.1 (object_of o x.0), heard.2.shown x.0 f.0 f.1, heard.3.next committed (object_of o x.0)), room.0.1 f.0 f.1)),
          all at room.1 there.1,
        )

-- ---- all of them

module _ (t : Telling) (old new : Indexed) (own : is_ancestor t.action t.action ≡ true) {alone : Bool} (ready : IsReady alone old t)
    (objects : AreChanged (Commits t.action t.to) (numbers_of t.at.items) old.objects new.objects) where
  -- whoever was not told holds nothing that is handed on
  pub commit_shows : (opening : Opening) (stands : ObjectId → Standing) → ((x : ObjectId) → t.to ≡ holder_by (stands x).told (parent_of t.action)) → (n : ℕ) (k l : Kept)
      → object_at old.objects n ≡ Some k → object_at new.objects n ≡ Some l → Shows (first_content opening (object_of old n)) (stands (object_of old n)) (seen k)
      → Shows (first_content opening (object_of old n)) (told_too (λ b. same_name b t.action) (stands (object_of old n))) (seen l)
  commit_shows opening stands next n k l before after shows = of (has_number (numbers_of t.at.items) n) refl
    where
      of : (u : Bool) → has_number (numbers_of t.at.items) n ≡ u
          → Shows (first_content opening (object_of old n)) (told_too (λ b. same_name b t.action) (stands (object_of old n))) (seen l)
      of true e = (objects.changed n k l e before after).0 (first_content opening (object_of old n)) (stands (object_of old n)) shows (next (object_of old n))
      of false e =
          let same : k ≡ l = same_Some k l (sym before ∙ sym (objects.others n e) ∙ after) in
          let none : is_concerned true (seen k).locks t.action ≡ false =
          false_from_ne_true _ (λ h. clash (ready.below n (ap (λ o. holds_of (alone && t.committed) o t.action) before ∙ concerned (alone && t.committed) (seen k).locks t.action own h)) e) in
          subst (λ z. Shows (first_content opening (object_of old n)) (told_too (λ b. same_name b t.action) (stands (object_of old n))) (seen z)) same
          (commit_leaves (first_content opening (object_of old n)) (stands (object_of old n)) (seen k) shows t.action none own)

  pub commit_stands : new.guardian ≡ old.guardian
      → ((b : Name) (n : ℕ) → has_object new.held b n
      ≡ (not (same_name t.action b) && (has_object old.held b n || (is_name_of t.to b && has_object old.held t.action n))))
      → (opening : Opening) (stands : ObjectId → Standing) → Stand opening stands old → ((x : ObjectId) → t.to ≡ holder_by (stands x).told (parent_of t.action))
      → Stand opening (λ x. told_too (λ b. same_name b t.action) (stands x)) new
  commit_stands guardian held opening stands stand next =
      same_guardian opening (λ x. told_too (λ b. same_name b t.action) (stands x)) old.guardian new guardian
      (stand_after opening stands (λ x. told_too (λ b. same_name b t.action) (stands x)) old new.objects new.held stand objects.count
      (commit_shows opening stands next)
      (λ b n k l before after shows now_shows index.
      held b n
      ∙ ap₂ (λ u v. not (same_name t.action b) && (u || (is_name_of t.to b && v))) (index b) (index t.action)
      ∙ sym (committed_moves (first_content opening (object_of old n)) (stands (object_of old n)) (seen k) (seen l) t.action t.to shows now_shows own (next (object_of old n)) b))
      (λ b n none index.
      held b n
      ∙ ap₂ (λ u v. not (same_name t.action b) && (u || (is_name_of t.to b && v))) (index b) (index t.action)
      ∙ never (not (same_name t.action b)) (is_name_of t.to b)))
    where
      never : (u v : Bool) → (u && (false || (v && false))) ≡ false
      never false v = refl
      never true true = refl
      never true false = refl

  -- what is held below an action was held below it before
  commit_below : IsHeard old t → t.committed ≡ true → (a : Name) (n : ℕ) → holds_below_at new.objects a n ≡ true → holds_below_at old.objects a n ≡ true
  commit_below heard committed a n h = of (object_at new.objects n) refl h
    where
      handed : (k : Kept) (b : Name) → is_ancestor a b ≡ true → (is_name_of t.to b && is_concerned true (seen k).locks t.action) ≡ true → is_concerned false (seen k).locks a ≡ true
      handed k b above q = at t.to refl (and_parts _ _ q)
        where
          at : (to : Option Name) → t.to ≡ to → (is_name_of t.to b ≡ true) × (is_concerned true (seen k).locks t.action ≡ true) → is_concerned false (seen k).locks a ≡ true
          at None e p = absurd (false≢true (sym (ap (λ o. is_name_of o b) e) ∙ p.0))
          at (Some d) e p =
              let same : d ≡ b = same_name_true d b (sym (ap (λ o. is_name_of o b) e) ∙ p.0) in
              let next = heard.3.next committed (object_of old n) in
              let up = (proper d t.action (next_holder (heard.1 (object_of old n)).told t.action d own (sym next ∙ e))).0 in
              below_from (seen k).locks a t.action (ancestor_trans a b t.action above (subst (λ y. is_ancestor y t.action ≡ true) same up)) p.1

      of : (o : Option Kept) → object_at new.objects n ≡ o → holds_of false (object_at new.objects n) a ≡ true → holds_of false (object_at old.objects n) a ≡ true
      of None e q = absurd (false≢true (sym (ap (λ x. holds_of false x a) e) ∙ q))
      of (Some l) e q =
          let f = object_before old.objects new.objects n l objects.count e in
          let b = below_to (seen l).locks a (sym (ap (λ x. holds_of false x a) e) ∙ q) in
          let shows = heard.2.shown n f.0 f.1 in
          let now_shows = commit_shows heard.0 heard.1 (heard.3.next committed) n f.0 l f.1 e shows in
          let moved = committed_moves (first_content heard.0 (object_of old n)) (heard.1 (object_of old n)) (seen f.0) (seen l) t.action t.to shows now_shows own
          (heard.3.next committed (object_of old n)) b.0 in
          ap (λ x. holds_of false x a) f.1
          ∙ (elim (or_cases (is_concerned true (seen f.0).locks b.0) _ (and_parts _ _ (sym moved ∙ b.2)).1) [
            | inl r ↦ below_from (seen f.0).locks a b.0 b.1 r
            | inr r ↦ handed f.0 b.0 b.1 r
          ])

  pub commit_ready : IsHeard old t → t.committed ≡ true → ((b : Name) → same_name t.action b ≡ false → HasRoomBelow old.held b → HasRoomBelow new.held b) → KeepsReady t old new
  commit_ready heard committed room u apart was = record {
    rising = was.rising;
    below = λ n h. was.below n (commit_below heard committed u.action n h);
    there = each_weaker (λ (x : ℕ × Option Name). is_some (object_at old.objects x.0) ≡ true) (λ x. is_some (object_at new.objects x.0) ≡ true) u.at.items
        (λ x h. still_there old.objects new.objects x.0 objects.count h) was.there;
    index = λ q. in_index u.to (apart q) (was.index q);
    room = λ q. each_weaker (IsReadyAt old u) (IsReadyAt new u) u.at.items (λ x h. (h.0, at_object x.0 (apart q) h.1)) (was.room q);
  }
    where
      other : (h : Name) → is_ancestor t.action h ≡ false → same_name t.action h ≡ false
      other h e = false_from_ne_true (same_name t.action h) (λ q. clash (subst (λ y. is_ancestor t.action y ≡ true) (same_name_true t.action h q) own) e)

      in_index : (to : Option Name) → IfSome to (λ h. is_ancestor t.action h ≡ false) → IfSome to (λ h. HasRoomBelow old.held h) → IfSome to (λ h. HasRoomBelow new.held h)
      in_index None e k = tt
      in_index (Some h) e k = room h (other h e) k

      at_object : (n : ℕ) → IfSome u.to (λ h. is_ancestor t.action h ≡ false) → ((k : Kept) → object_at old.objects n ≡ Some k → IfSome u.to (λ h. has_room k h ≡ true))
          → (l : Kept) → object_at new.objects n ≡ Some l → IfSome u.to (λ h. has_room l h ≡ true)
      at_object n e had l after = let f = object_before old.objects new.objects n l objects.count after in of f.0 f.1 (has_number (numbers_of t.at.items) n) refl
        where
          others : (k : Kept) (to : Option Name) → IfSome to (λ h. is_ancestor t.action h ≡ false)
              → ((b : Name) → (not (same_name t.action b) && has_room k b) ≡ true → has_room l b ≡ true)
              → IfSome to (λ h. has_room k h ≡ true) → IfSome to (λ h. has_room l h ≡ true)
          others k None q keeps r = tt
          others k (Some h) q keeps r = keeps h (and_from _ _ (ap (λ v. not v) (other h q)) r)

          of : (k : Kept) → object_at old.objects n ≡ Some k → (v : Bool) → has_number (numbers_of t.at.items) n ≡ v → IfSome u.to (λ h. has_room l h ≡ true)
          of k before true q = others k u.to e (objects.changed n k l q before after).1 (had k before)
          of k before false q =
              let same : k ≡ l = same_Some k l (sym before ∙ sym (objects.others n q) ∙ after) in
              subst (λ z. IfSome u.to (λ h. has_room z h ≡ true)) same (had k before)

-- the next holder is above
pub commit_above : (t : Telling) (o : Indexed) → is_ancestor t.action t.action ≡ true → t.committed ≡ true → IsHeard o t → IfSome t.to (λ h. is_proper_ancestor h t.action ≡ true)
commit_above t o own committed heard = of t.to refl
  where
    of : (to : Option Name) → t.to ≡ to → IfSome to (λ h. is_proper_ancestor h t.action ≡ true)
    of None e = tt
    of (Some h) e = next_holder (heard.1 (object_of o 0)).told t.action h own (sym (heard.3.next committed (object_of o 0)) ∙ e)

-- nothing is left to be told
pub commit_all : (first : List Kept) (a : Name) (to : Option Name) (all at : List (ℕ × Option Name)) (objects : List Kept) → at ≡ [] → WillCommit first a to all objects at
    → AreChanged (Commits a to) (numbers_of all) first objects
commit_all first a to all at objects none will = will objects (subst (λ l. AreChanged (Commits a to) (numbers_of l) objects objects) (sym none) (changed_none (Commits a to) objects))
