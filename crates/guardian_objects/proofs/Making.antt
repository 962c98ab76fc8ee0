-- Room is made at the objects that an outcome concerns.
use Rattle.std.proofs.Common.{Bool, List, None, Option, Some, [], ap, arith, false, get_or, length, refl, subst, suc, sym, true, zero, ℕ, ◌<◌, ◌==◌, ◌&&◌, ◌∙◌, ◌∷◌, ◌≡◌, ◌≤◌, ◌||◌, ◌↔◌}
use Rattle.std.specs.Prelude.{is_some}
use Rattle.std.specs.List.{AllByRecursion}
use Rattle.std.specs.Option.{IfSome}
use Rattle.std.proofs.lemmas.Bool.{eq-eqb, false≢true, or_left, or_right}
use Rattle.std.proofs.lemmas.Option.{same_Some}
use Rattle.action_names.specs.Names.{Name, same_name}
use Rattle.run_laws.proofs.Names.{same_name_self}
use Rattle.run_model.specs.LocalReadings.{standing_here}
use Rattle.atomic_object.specs.Kept.{KeepsRoom, Kept, has_room, seen}
use Rattle.guardian_index.specs.Held.{IsRising, Rows, has_number, has_object}
use Rattle.guardian_objects.specs.Objects.{AreSome, Indexed, concerns_at, holds_of, object_at}
use Rattle.guardian_objects.specs.Outcomes.{HasIndexRoom}
use Rattle.guardian_objects.specs.Turns.{Has, HasRoomAt, HasRoomOf, IsRoomier}
use Rattle.guardian_objects.proofs.Committing.{numbers_of}
use Rattle.guardian_objects.proofs.Holding.{below_to}
use Rattle.guardian_objects.proofs.Places.{index_at, index_there, object_is, object_within}
use Rattle.guardian_objects.proofs.Room.{roomier_concerns, still_there}

has_at : (ns : List ℕ) (i d : ℕ) → i < length ns → has_number ns (get_or ns i d) ≡ true
has_at [] i d lt = absurd (omega (arith, lt))
has_at (n ∷ ns) zero d lt = or_left (n == n) (has_number ns n) (eq-eqb n n refl)
has_at (n ∷ ns) (suc i) d lt = or_right (n == get_or ns i d) _ (has_at ns i d (omega (arith, lt)))

each_listed : (P : ℕ → Type 0) (at : List (ℕ × Option Name)) → ((n : ℕ) → has_number (numbers_of at) n ≡ true → P n) → AllByRecursion (λ x. P x.0) at
each_listed P [] listed = tt
each_listed P (x ∷ at) listed =
    (listed x.0 (or_left (x.0 == x.0) _ (eq-eqb x.0 x.0 refl)), each_listed P at (λ n h. listed n (or_right (x.0 == n) (has_number (numbers_of at) n) h)))

-- somebody has what the action or a descendant has
some_has : (own : Bool) (held : Rows) (a : Name) (n : ℕ) → Has own held a n → (b : Name) × (has_object held b n ≡ true)
some_has true held a n has = (a, has)
some_has false held a n has = (has.0, has.2)

module _ (own : Bool) (old new : Indexed) (a : Name) (numbers : List ℕ) (some : AreSome old) (roomier : IsRoomier old new)
    (has : (n : ℕ) → (has_number numbers n ≡ true) ↔ Has own old.held a n) where
  -- at each of these numbers there is an object
  listed_there : (n : ℕ) → has_number numbers n ≡ true → is_some (object_at new.objects n) ≡ true
  listed_there n h =
      let b = some_has own old.held a n ((has n).0 h) in
      let k = index_there some.0 (λ x. standing_here some.1 x) old some.2 b.0 n b.1 in
      still_there old.objects new.objects n roomier.count (ap (λ o. is_some o) k.1)

  -- so each is among the first
  pub number_within : (i x : ℕ) → i < length numbers → x ≡ get_or numbers i 0 → (1 ≤ x) × (x ≤ length new.objects)
  number_within i x lt is =
      let there = listed_there x (ap (λ n. has_number numbers n) is ∙ has_at numbers i 0 lt) in
      let k = object_is new.objects x there in
      object_within new.objects x k.0 k.1

  -- where room was made at each of them, there is room for all
  pub room_made : (alone committed : Bool) (to : Option Name) (at : List (ℕ × Option Name)) → own ≡ (alone && committed) → IsRising numbers → numbers_of at ≡ numbers
      → IfSome to (λ h. HasIndexRoom alone new a h) → AllByRecursion (λ x. (x.1 ≡ to) × HasRoomOf new to x.0) at → HasRoomAt alone committed new a to at
  room_made alone committed to at is rise same index ready = record {
    index = index;
    rising = subst (λ l. IsRising l) (sym same) rise;
    ready = ready;
    below = λ n h. ap (λ l. has_number l n) same ∙ held n own refl (roomier_concerns own old new a n roomier (ap (λ u. concerns_at u new.objects a n) is ∙ h));
    there = each_listed (λ n. is_some (object_at new.objects n) ≡ true) at (λ n h. listed_there n (sym (ap (λ l. has_number l n) same) ∙ h));
  }
    where
      held : (n : ℕ) (u : Bool) → own ≡ u → concerns_at own old.objects a n ≡ true → has_number numbers n ≡ true
      held n u e h = (has n).1 (subst (λ v. Has v old.held a n) (sym e) (of u (object_at old.objects n) refl (ap (λ v. concerns_at v old.objects a n) (sym e) ∙ h)))
        where
          of : (v : Bool) (o : Option Kept) → object_at old.objects n ≡ o → concerns_at v old.objects a n ≡ true → Has v old.held a n
          of v None at c = absurd (false≢true (sym (ap (λ x. holds_of v x a) at) ∙ c))
          of true (Some k) at c = index_at some.0 (λ x. standing_here some.1 x) old some.2 a n k at ∙ sym (ap (λ x. holds_of true x a) at) ∙ c
          of false (Some k) at c =
              let b = below_to (seen k).locks a (sym (ap (λ x. holds_of false x a) at) ∙ c) in
              (b.0, b.1, index_at some.0 (λ x. standing_here some.1 x) old some.2 b.0 n k at ∙ b.2)

-- ---- at one object

-- room that was made for one keeps that of the others
pub keeps_room : (k l : Kept) (h : Name) → ((b : Name) → has_room l b ≡ (same_name h b || has_room k b)) → KeepsRoom k l
keeps_room k l h made b had = made b ∙ or_right (same_name h b) (has_room k b) had

-- and is there for that one
pub room_there : (os : List Kept) (n : ℕ) (l : Kept) (h : Name) (k : Kept) → object_at os n ≡ Some l → ((b : Name) → has_room l b ≡ (same_name h b || has_room k b))
    → (x : Kept) → object_at os n ≡ Some x → has_room x h ≡ true
room_there os n l h k there made x also =
    subst (λ z. has_room z h ≡ true) (same_Some l x (sym there ∙ also)) (made h ∙ or_left (same_name h h) (has_room k h) (same_name_self h))
