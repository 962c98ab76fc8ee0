-- Room that is made: the same is held then, and what had room has it still.
use Rattle.std.proofs.Common.{Bool, List, None, Option, Some, [], ap, arith, false, length, refl, subst, suc, sym, true, zero, ℕ, ◌+◌, ◌++◌, ◌∙◌, ◌∷◌, ◌≡◌, ◌≤◌}
use Rattle.std.specs.Prelude.{IsTrue, is_some, slice_get}
use Rattle.std.specs.List.{AllByRecursion}
use Rattle.std.specs.Option.{IfSome}
use Rattle.std.proofs.lemmas.Bool.{false≢true}
use Rattle.std.proofs.lemmas.Option.{same_Some}
use Rattle.action_names.specs.Names.{Name, is_proper_ancestor}
use Rattle.run_model.specs.declared.step.ObjectId.{ObjectId}
use Rattle.run_model.specs.Keeping.{Standing}
use Rattle.run_model.specs.Openings.{Opening, first_content}
use Rattle.object_laws.specs.Laws.{is_concerned}
use Rattle.object_laws.specs.Shown.{Shows}
use Rattle.atomic_object.specs.Kept.{KeepsRoom, Kept, has_room, seen}
use Rattle.guardian_index.specs.Held.{HasRoomBelow, MayBeHanded, has_number, objects_at, room_at}
use Rattle.guardian_index.proofs.Changes.{room_from}
use Rattle.guardian_objects.specs.Objects.{AreSome, Indexed, Keeps, Stand, concerns_at, holds_of, index_of, object_at, object_of}
use Rattle.guardian_objects.specs.Outcomes.{HasIndexRoom, HasRoomFor, IsReadyAt}
use Rattle.guardian_objects.specs.Turns.{AreChanged, HasRoomAt, HasRoomOf, IsRoomier}
use Rattle.guardian_objects.specs.declared.outcomes.Telling.{Telling}
use Rattle.guardian_objects.proofs.Places.{object_before, object_is, same_guardian, stand_after}

-- what follows from what holds of each
pub each_weaker : {X : Type 0} (P Q : X → Type 0) (xs : List X) → ((x : X) → P x → Q x) → AllByRecursion P xs → AllByRecursion Q xs
each_weaker P Q [] from all = tt
each_weaker P Q (x ∷ xs) from all = (from x all.0, each_weaker P Q xs from all.1)

-- one more behind the others
pub each_last : {X : Type 0} (P : X → Type 0) (xs : List X) (x : X) → AllByRecursion P xs → P x → AllByRecursion P (xs ++ x ∷ [])
each_last P [] x all last = (last, tt)
each_last P (y ∷ xs) x all last = (all.0, each_last P xs x all.1 last)

-- the last and those before it
pub each_parts : {X : Type 0} (P : X → Type 0) (xs : List X) (x : X) → AllByRecursion P (xs ++ x ∷ []) → AllByRecursion P xs × P x
each_parts P [] x all = (tt, all.0)
each_parts P (y ∷ xs) x all = let rest = each_parts P xs x all.1 in ((all.0, rest.0), rest.1)

-- what holds of each holds of one that was got from them
pub each_got : {X : Type 0} (P : X → Type 0) (xs : List X) (i : ℕ) (o : Option X) → AllByRecursion P xs → o ≡ slice_get xs i → IfSome o P
each_got P [] i o all got = subst (λ y. IfSome y P) (sym got) tt
each_got P (x ∷ xs) zero o all got = subst (λ y. IfSome y P) (sym got) all.0
each_got P (x ∷ xs) (suc i) o all got = each_got P xs i o all.1 got

-- ---- the same is held

pub roomier_same : (o : Indexed) → IsRoomier o o
roomier_same o = record {
  guardian = refl;
  count = refl;
  objects = λ n k l before after. same k l (same_Some k l (sym before ∙ after));
  held = λ b. refl;
  room = λ b. omega arith;
  below = λ b h. h;
}
  where
    same : (k l : Kept) → k ≡ l → (seen l ≡ seen k) × ((b : Name) → IsTrue (has_room k b) → IsTrue (has_room l b))
    same k l e = (ap (λ x. seen x) (sym e), λ b h. subst (λ x. has_room x b ≡ true) e h)

pub roomier_more : (a b c : Indexed) → IsRoomier a b → IsRoomier b c → IsRoomier a c
roomier_more a b c first later = record {
  guardian = later.guardian ∙ first.guardian;
  count = later.count ∙ first.count;
  objects = λ n k l before after.
      let m = object_before b.objects c.objects n l later.count after in
      let p = first.objects n k m.0 before m.1 in
      let q = later.objects n m.0 l m.1 after in
      (q.0 ∙ p.0, λ d h. q.1 d (p.1 d h));
  held = λ d. later.held d ∙ first.held d;
  room = λ d. let p = first.room d in let q = later.room d in omega (arith, p, q);
  below = λ d h. later.below d (first.below d h);
}

-- room is made in the index alone
pub roomier_held : (old new : Indexed) → new.guardian ≡ old.guardian → new.objects ≡ old.objects → ((b : Name) → objects_at new.held b ≡ objects_at old.held b)
    → ((b : Name) → room_at old.held b ≤ room_at new.held b) → ((b : Name) → HasRoomBelow old.held b → HasRoomBelow new.held b) → IsRoomier old new
roomier_held old new guardian objects held room below = record {
  guardian = guardian;
  count = ap (λ l. length l) objects;
  objects = λ n k l before after. same k l (same_Some k l (sym before ∙ sym (ap (λ os. object_at os n) objects) ∙ after));
  held = held;
  room = room;
  below = below;
}
  where
    same : (k l : Kept) → k ≡ l → (seen l ≡ seen k) × ((b : Name) → IsTrue (has_room k b) → IsTrue (has_room l b))
    same k l e = (ap (λ x. seen x) (sym e), λ b h. subst (λ x. has_room x b ≡ true) e h)

-- room is made at one object alone
pub roomier_objects : (old new : Indexed) (ns : List ℕ) → new.guardian ≡ old.guardian → AreChanged (λ k l. (seen l ≡ seen k) × KeepsRoom k l) ns old.objects new.objects
    → new.held ≡ old.held → IsRoomier old new
roomier_objects old new ns guardian changed held = record {
  guardian = guardian;
  count = changed.count;
  objects = λ n k l before after. at n k l before after (has_number ns n) refl;
  held = λ b. ap (λ r. objects_at r b) held;
  room = λ b. subst (λ n. room_at old.held b ≤ n) (sym (ap (λ r. room_at r b) held)) (omega arith);
  below = λ b h. subst (λ r. HasRoomBelow r b) (sym held) h;
}
  where
    same : (k l : Kept) → k ≡ l → (seen l ≡ seen k) × KeepsRoom k l
    same k l e = (ap (λ x. seen x) (sym e), λ b h. subst (λ x. has_room x b ≡ true) e h)

    at : (n : ℕ) (k l : Kept) → object_at old.objects n ≡ Some k → object_at new.objects n ≡ Some l → (t : Bool) → has_number ns n ≡ t → (seen l ≡ seen k) × KeepsRoom k l
    at n k l before after true e = changed.changed n k l e before after
    at n k l before after false e = same k l (same_Some k l (sym before ∙ sym (changed.others n e) ∙ after))

-- so all stand as they stood
pub same_stands : (old new : Indexed) → new.guardian ≡ old.guardian → length new.objects ≡ length old.objects
    → ((n : ℕ) (k l : Kept) → object_at old.objects n ≡ Some k → object_at new.objects n ≡ Some l → seen l ≡ seen k) → ((b : Name) → objects_at new.held b ≡ objects_at old.held b)
    → (opening : Opening) (stands : ObjectId → Standing) → Stand opening stands old → Stand opening stands new
same_stands old new guardian count same held opening stands stand =
    same_guardian opening stands old.guardian new guardian
    (stand_after opening stands stands old new.objects new.held stand count
    (λ n k l before after shows. subst (λ x. Shows (first_content opening (object_of old n)) (stands (object_of old n)) x) (sym (same n k l before after)) shows)
    (λ b n k l before after shows now_shows index.
    ap (λ ns. has_number ns n) (held b) ∙ index b ∙ ap (λ x. is_concerned true x.locks b) (sym (same n k l before after)))
    (λ b n none index. ap (λ ns. has_number ns n) (held b) ∙ index b))

pub roomier_stands : (old new : Indexed) → IsRoomier old new → (opening : Opening) (stands : ObjectId → Standing) → Stand opening stands old → Stand opening stands new
roomier_stands old new roomier =
    same_stands old new roomier.guardian roomier.count (λ n k l before after. (roomier.objects n k l before after).0) roomier.held

pub roomier_keeps : (old new : Indexed) → IsRoomier old new → Keeps old new
roomier_keeps old new roomier opening here are = roomier_stands old new roomier opening _ are

pub roomier_some : (old new : Indexed) → IsRoomier old new → AreSome old → AreSome new
roomier_some old new roomier some = (some.0, some.1, roomier_keeps old new roomier some.0 some.1 some.2)

-- ---- what had room

-- at an object
pub roomier_of : (old new : Indexed) (to : Option Name) (n : ℕ) → IsRoomier old new → HasRoomOf old to n → HasRoomOf new to n
roomier_of old new to n roomier room l after =
    let f = object_before old.objects new.objects n l roomier.count after in of f.0 l to (roomier.objects n f.0 l f.1 after).1 (room f.0 f.1)
  where
    of : (k m : Kept) (h : Option Name) → ((b : Name) → IsTrue (has_room k b) → IsTrue (has_room m b)) → IfSome h (λ b. IsTrue (has_room k b)) → IfSome h (λ b. IsTrue (has_room m b))
    of k m None more had = tt
    of k m (Some b) more had = more b had

-- in the index, for what is told with others
pub roomier_below : (old new : Indexed) (a : Name) (to : Option Name) → IsRoomier old new → IfSome to (λ h. HasIndexRoom false old a h)
    → IfSome to (λ h. HasIndexRoom false new a h)
roomier_below old new a None roomier had = tt
roomier_below old new a (Some h) roomier had = roomier.below h had

-- and for what is told alone, where the index stays
pub roomier_index : (alone : Bool) (old new : Indexed) (a : Name) (to : Option Name) → IsRoomier old new → index_of new ≡ index_of old
    → IfSome to (λ h. HasIndexRoom alone old a h) → IfSome to (λ h. HasIndexRoom alone new a h)
roomier_index false old new a to roomier same had = roomier_below old new a to roomier had
roomier_index true old new a to roomier same had = subst (λ i. IfSome to (λ h. MayBeHanded i h a)) (sym same) had

-- whatever room there is, it is enough for one that hands on to a proper ancestor
pub room_alone : (alone : Bool) (o : Indexed) (a : Name) (to : Option Name) → IfSome to (λ h. is_proper_ancestor h a ≡ true)
    → IfSome to (λ h. HasIndexRoom alone o a h) → IfSome to (λ h. MayBeHanded (index_of o) h a)
room_alone alone o a None above room = tt
room_alone true o a (Some h) above room = room
room_alone false o a (Some h) above room = λ needs. room_from o.held h a above room

-- what an outcome concerns
pub roomier_concerns : (own : Bool) (old new : Indexed) (a : Name) (n : ℕ) → IsRoomier old new → concerns_at own new.objects a n ≡ true → concerns_at own old.objects a n ≡ true
roomier_concerns own old new a n roomier h = of (object_at new.objects n) refl h
  where
    of : (o : Option Kept) → object_at new.objects n ≡ o → holds_of own (object_at new.objects n) a ≡ true → holds_of own (object_at old.objects n) a ≡ true
    of None e k = absurd (false≢true (sym (ap (λ x. holds_of own x a) e) ∙ k))
    of (Some l) e k =
        let f = object_before old.objects new.objects n l roomier.count e in
        ap (λ x. holds_of own x a) f.1
        ∙ ap (λ x. is_concerned own x.locks a) (sym (roomier.objects n f.0 l f.1 e).0)
        ∙ sym (ap (λ x. holds_of own x a) e)
        ∙ k

-- there still is such an object
pub still_there : (old new : List Kept) (n : ℕ) → length new ≡ length old → is_some (object_at old n) ≡ true → is_some (object_at new n) ≡ true
still_there old new n count h =
    let f = object_is old n h in
    let g = object_before new old n f.0 (sym count) f.1 in
    ap (λ o. is_some o) g.1

-- for all of a telling with others
roomier_fits : (old new : Indexed) → IsRoomier old new → (t : Telling) → HasRoomFor false old t → HasRoomFor false new t
roomier_fits old new roomier t had = record {
  index = roomier_below old new t.action t.to roomier had.index;
  rising = had.rising;
  ready = each_weaker (IsReadyAt old t) (IsReadyAt new t) t.at.items (λ x h. (h.0, roomier_of old new t.to x.0 roomier h.1)) had.ready;
  below = λ n h. had.below n (roomier_concerns false old new t.action n roomier h);
  there = each_weaker (λ (x : ℕ × Option Name). is_some (object_at old.objects x.0) ≡ true) (λ x. is_some (object_at new.objects x.0) ≡ true) t.at.items
      (λ x h. still_there old.objects new.objects x.0 roomier.count h) had.there;
}

-- for all tellings, of which there is none yet where one is told alone
pub all_fit : (alone : Bool) (old new : Indexed) → IsRoomier old new → (ts : List Telling) → (alone ≡ true → ts ≡ []) → AllByRecursion (HasRoomFor alone old) ts
    → AllByRecursion (HasRoomFor alone new) ts
all_fit true old new roomier ts none had = subst (λ l. AllByRecursion (HasRoomFor true new) l) (sym (none refl)) tt
all_fit false old new roomier ts none had = each_weaker (HasRoomFor false old) (HasRoomFor false new) ts (λ t h. roomier_fits old new roomier t h) had

-- ---- what is planned

-- what there is room for, in a telling
pub fits_from : (alone : Bool) (o : Indexed) (t : Telling) (a : Name) (to : Option Name) → t.action ≡ a → to ≡ t.to → HasRoomAt alone t.committed o a to t.at.items
    → HasRoomFor alone o t
fits_from alone o t a to action next room =
    let had : HasRoomAt alone t.committed o t.action t.to t.at.items =
    subst (λ b. HasRoomAt alone t.committed o b t.to t.at.items) (sym action) (subst (λ h. HasRoomAt alone t.committed o a h t.at.items) next room) in
    record { index = had.index; rising = had.rising; ready = had.ready; below = had.below; there = had.there }
