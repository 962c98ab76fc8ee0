-- Objects by their numbers, and when all of them stand as they should after some were changed.
use Rattle.std.proofs.Common.{Bool, List, None, Option, Some, [], ap, arith, eqb-true, false, get_or, inl, inr, length, refl, set, subst, suc, sym, true, zero, ℕ, ◌++◌, ◌<◌, ◌==◌, ◌∙◌, ◌∷◌, ◌≡◌, ◌≤◌, ◌||◌, ◌⊎◌}
use Rattle.std.specs.Prelude.{is_some, nat_le, slice_get, ◌&&◌}
use Rattle.std.proofs.lemmas.Bool.{and_right, cases_lt, eq-eqb, false≢true, le-leb, lt-leb, or_left, or_parts}
use Rattle.std.proofs.lemmas.Option.{none-some, same_Some, slice_get-get_or, slice_get_within}
use Rattle.action_names.specs.Names.{Name}
use Rattle.run_model.specs.declared.step.ObjectId.{ObjectId}
use Rattle.run_model.specs.Answers.{is_concerned_by}
use Rattle.run_model.specs.Keeping.{Standing}
use Rattle.run_model.specs.Openings.{Opening, first_content}
use Rattle.run_laws.proofs.Names.{clash}
use Rattle.object_laws.specs.Laws.{is_concerned}
use Rattle.object_laws.specs.Shown.{Shows}
use Rattle.atomic_object.specs.Kept.{Kept, seen}
use Rattle.guardian_index.specs.Held.{Rows, has_number, has_object}
use Rattle.guardian_objects.specs.Objects.{Indexed, Stand, holds_at, holds_of, object_at, object_of}
use Rattle.guardian_objects.specs.Turns.{AreChanged}
use Rattle.guardian_objects.proofs.Holding.{held_shown}
use Rattle.guardian_objects.proofs.Numbers.{has_append}

-- what is said of a value by its fields is said of the value
pub by_view : {X : Type 0} (says : Indexed → X → Type 0) (x : X) (v o : Indexed) → v ≡ o → says v x → says o x
by_view says x v o e h = subst (λ u. says u x) e h

-- ---- the object of a number

-- where there is one, its number is among the first
pub object_within : (os : List Kept) (n : ℕ) (k : Kept) → object_at os n ≡ Some k → (1 ≤ n) × (n ≤ length os)
object_within os zero k e = absurd (none-some k e)
object_within os (suc n) k e = (omega arith, omega (arith, slice_get_within os n k e))

-- and there is one of each such number
pub object_there : (os : List Kept) (n : ℕ) → 1 ≤ n → n ≤ length os → (k : Kept) × (object_at os n ≡ Some k)
object_there os zero low high = absurd (omega (arith, low))
object_there [] (suc n) low high = absurd (omega (arith, high))
object_there (k ∷ os) (suc n) low high = (get_or (k ∷ os) n k, slice_get-get_or (k ∷ os) n k (omega (arith, high)))

-- so lists of one length have the same numbers
pub object_before : (old new : List Kept) (n : ℕ) (l : Kept) → length new ≡ length old → object_at new n ≡ Some l → (k : Kept) × (object_at old n ≡ Some k)
object_before old new n l count e = let w = object_within new n l e in object_there old n w.0 (omega (arith, count, w.1))

no_object_before : (old new : List Kept) (n : ℕ) → length new ≡ length old → object_at new n ≡ None → object_at old n ≡ None
no_object_before old new n count e = of (object_at old n) refl
  where
    of : (o : Option Kept) → object_at old n ≡ o → object_at old n ≡ None
    of None q = q
    of (Some k) q = let f = object_before new old n k (sym count) q in absurd (none-some f.0 (sym e ∙ f.1))

-- the object at a place that was read
pub object_read : (os : List Kept) (n p : ℕ) (k : Kept) → n ≡ suc p → p < length os → k ≡ get_or os p k → object_at os n ≡ Some k
object_read os n p k e lt is = ap (λ m. object_at os m) e ∙ slice_get-get_or os p k lt ∙ ap (λ x. Some x) (sym is)

-- what is read at the place of a number is its object
pub element_is : (os : List Kept) (n p : ℕ) (k x : Kept) → object_at os n ≡ Some k → n ≡ suc p → x ≡ get_or os p x → x ≡ k
element_is os n p k x there number read =
    let w = object_within os n k there in
    same_Some x k (sym (object_read os n p x number (omega (arith, number, w.1)) read) ∙ there)

some_object : (o : Option Kept) → is_some o ≡ true → (k : Kept) × (o ≡ Some k)
some_object None h = absurd (false≢true h)
some_object (Some k) h = (k, refl)

pub object_is : (os : List Kept) (n : ℕ) → is_some (object_at os n) ≡ true → (k : Kept) × (object_at os n ≡ Some k)
object_is os n h = some_object (object_at os n) h

-- ---- one of them is changed

pub get_written : (xs : List Kept) (i : ℕ) (y : Kept) → i < length xs → slice_get (set xs i y) i ≡ Some y
get_written [] i y lt = absurd (omega (arith, lt))
get_written (x ∷ xs) zero y lt = refl
get_written (x ∷ xs) (suc i) y lt = get_written xs i y (omega (arith, lt))

pub get_beside : (xs : List Kept) (i j : ℕ) (y : Kept) → (j ≡ i → ⊥) → slice_get (set xs i y) j ≡ slice_get xs j
get_beside [] i j y other = refl
get_beside (x ∷ xs) zero zero y other = absurd (other refl)
get_beside (x ∷ xs) zero (suc j) y other = refl
get_beside (x ∷ xs) (suc i) zero y other = refl
get_beside (x ∷ xs) (suc i) (suc j) y other = get_beside xs i j y (λ e. other (ap suc e))

pub length_written : (xs : List Kept) (i : ℕ) (y : Kept) → length (set xs i y) ≡ length xs
length_written [] i y = refl
length_written (x ∷ xs) zero y = refl
length_written (x ∷ xs) (suc i) y = ap suc (length_written xs i y)

pub changed_one : (changes : Kept → Kept → Type 0) (os : List Kept) (n p : ℕ) (k l : Kept) → n ≡ suc p → p < length os → object_at os n ≡ Some k → changes k l
    → AreChanged changes (n ∷ []) os (set os p l)
changed_one changes os n p k l e lt there change = record {
  count = length_written os p l;
  changed = λ m x y h before after. at m x y (eqb-true n m (one (n == m) h)) before after;
  others = λ m h. beside m (or_parts (n == m) false h).0;
}
  where
    one : (t : Bool) → (t || false) ≡ true → t ≡ true
    one true q = refl
    one false q = absurd (false≢true q)

    at : (m : ℕ) (x y : Kept) → n ≡ m → object_at os m ≡ Some x → object_at (set os p l) m ≡ Some y → changes x y
    at m x y same before after =
        let first : k ≡ x = same_Some k x (sym there ∙ ap (λ i. object_at os i) same ∙ before) in
        let place : m ≡ suc p = sym same ∙ e in
        let second : l ≡ y = same_Some l y (sym (get_written os p l lt) ∙ ap (λ i. object_at (set os p l) i) (sym place) ∙ after) in
        subst (λ z. changes x z) second (subst (λ z. changes z l) first change)

    beside : (m : ℕ) → (n == m) ≡ false → object_at (set os p l) m ≡ object_at os m
    beside zero q = refl
    beside (suc m) q = get_beside os p m l (λ same. clash (of (e ∙ ap suc (sym same))) q)
      where
        of : n ≡ suc m → (n == suc m) ≡ true
        of r = eq-eqb n (suc m) r

-- where there is no object of the number, nothing is changed
pub changed_nowhere : (changes : Kept → Kept → Type 0) (os : List Kept) (n : ℕ) → ((k : Kept) → object_at os n ≡ Some k → ⊥) → AreChanged changes (n ∷ []) os os
changed_nowhere changes os n none = record {
  count = refl;
  changed = λ m x y h before after. absurd (none x (ap (λ i. object_at os i) (eqb-true n m (one (n == m) h)) ∙ before));
  others = λ m h. refl;
}
  where
    one : (t : Bool) → (t || false) ≡ true → t ≡ true
    one true q = refl
    one false q = absurd (false≢true q)

-- the object of the number that was written
pub written_there : (os : List Kept) (n p : ℕ) (l : Kept) → n ≡ suc p → p < length os → object_at (set os p l) n ≡ Some l
written_there os n p l e lt = ap (λ m. object_at (set os p l) m) e ∙ get_written os p l lt

-- one more besides others
pub changed_more : (changes : Kept → Kept → Type 0) (rest : List ℕ) (n : ℕ) (a b c : List Kept) → has_number rest n ≡ false
    → AreChanged changes (n ∷ []) a b → AreChanged changes rest b c → AreChanged changes (rest ++ n ∷ []) a c
changed_more changes rest n a b c apart first later = record {
  count = later.count ∙ first.count;
  changed = λ m x z h before after. of m (n == m) refl (has_number rest m) refl h x z before after;
  others = λ m h.
      let p = or_parts (has_number rest m) ((n == m) || false) (sym (has_append rest (n ∷ []) m) ∙ h) in
      later.others m p.0 ∙ first.others m p.1;
}
  where
    of : (m : ℕ) (t : Bool) → (n == m) ≡ t → (u : Bool) → has_number rest m ≡ u → has_number (rest ++ n ∷ []) m ≡ true
        → (x z : Kept) → object_at a m ≡ Some x → object_at c m ≡ Some z → changes x z
    of m true e u q h x z before after =
        let absent : has_number rest m ≡ false = ap (λ i. has_number rest i) (sym (eqb-true n m e)) ∙ apart in
        first.changed m x z (or_left (n == m) false e) before (sym (later.others m absent) ∙ after)
    of m false e true q h x z before after = later.changed m x z q (first.others m (ap (λ t. t || false) e) ∙ before) after
    of m false e false q h x z before after =
        absurd (false≢true (sym (has_append rest (n ∷ []) m ∙ (λ i. q i || (e i || false))) ∙ h))

-- nothing is changed
pub changed_none : (changes : Kept → Kept → Type 0) (os : List Kept) → AreChanged changes [] os os
changed_none changes os = record {
  count = refl;
  changed = λ m x y h before after. absurd (false≢true h);
  others = λ m h. refl;
}

-- ---- how all stand

-- with the same number of the guardian
pub same_guardian : (opening : Opening) (stands : ObjectId → Standing) (g : ℕ) (new : Indexed) → new.guardian ≡ g
    → Stand opening stands (record { guardian = g; objects = new.objects; held = new.held; renames = new.renames }) → Stand opening stands new
same_guardian opening stands g new e stand =
    subst (λ h. Stand opening stands (record { guardian = h; objects = new.objects; held = new.held; renames = new.renames })) (sym e) stand

-- Where each shows how it is to stand, and the index has what it says of it, all stand so.
pub stand_after : {renames : Bool} → (opening : Opening) (stands then_stands : ObjectId → Standing) (old : Indexed) (os : List Kept) (held : Rows) → Stand opening stands old → length os ≡ length old.objects
    → ((n : ℕ) (k l : Kept) → object_at old.objects n ≡ Some k → object_at os n ≡ Some l → Shows (first_content opening (object_of old n)) (stands (object_of old n)) (seen k)
    → Shows (first_content opening (object_of old n)) (then_stands (object_of old n)) (seen l))
    → ((b : Name) (n : ℕ) (k l : Kept) → object_at old.objects n ≡ Some k → object_at os n ≡ Some l
    → Shows (first_content opening (object_of old n)) (stands (object_of old n)) (seen k)
    → Shows (first_content opening (object_of old n)) (then_stands (object_of old n)) (seen l)
    → ((a : Name) → has_object old.held a n ≡ is_concerned true (seen k).locks a) → has_object held b n ≡ is_concerned true (seen l).locks b)
    → ((b : Name) (n : ℕ) → object_at old.objects n ≡ None → ((a : Name) → has_object old.held a n ≡ false) → has_object held b n ≡ false)
    → Stand opening then_stands (record { guardian = old.guardian; objects = os; held = held; renames = renames })
stand_after opening stands then_stands old os held stand count shows index none = record {
  guardian = stand.guardian;
  count = count ∙ stand.count;
  shown = λ n l after. let f = object_before old.objects os n l count after in shows n f.0 l f.1 after (stand.shown n f.0 f.1);
  index = λ b n. of b n (object_at os n) refl;
}
  where
    of : (b : Name) (n : ℕ) (o : Option Kept) → object_at os n ≡ o → has_object held b n ≡ holds_at os b n
    of b n None e =
        let before = no_object_before old.objects os n count e in
        none b n before (λ a. stand.index a n ∙ ap (λ o. holds_of true o a) before) ∙ sym (ap (λ o. holds_of true o b) e)
    of b n (Some l) e =
        let f = object_before old.objects os n l count e in
        index b n f.0 l f.1 e (stand.shown n f.0 f.1) (shows n f.0 l f.1 e (stand.shown n f.0 f.1)) (λ a. stand.index a n ∙ ap (λ o. holds_of true o a) f.1)
        ∙ sym (ap (λ o. holds_of true o b) e)

-- who holds something at an object, by the index
pub index_at : (opening : Opening) (stands : ObjectId → Standing) (o : Indexed) → Stand opening stands o → (a : Name) (n : ℕ) (k : Kept) → object_at o.objects n ≡ Some k
    → has_object o.held a n ≡ is_concerned true (seen k).locks a
index_at opening stands o stand a n k e = stand.index a n ∙ ap (λ x. holds_of true x a) e

-- whoever holds something holds it at an object
pub index_there : (opening : Opening) (stands : ObjectId → Standing) (o : Indexed) → Stand opening stands o → (a : Name) (n : ℕ) → has_object o.held a n ≡ true
    → (k : Kept) × (object_at o.objects n ≡ Some k) × (is_concerned true (seen k).locks a ≡ true)
index_there opening stands o stand a n h = of (object_at o.objects n) refl
  where
    of : (x : Option Kept) → object_at o.objects n ≡ x → (k : Kept) × (object_at o.objects n ≡ Some k) × (is_concerned true (seen k).locks a ≡ true)
    of None e = absurd (false≢true (sym (stand.index a n ∙ ap (λ y. holds_of true y a) e) ∙ h))
    of (Some k) e = (k, e, sym (index_at opening stands o stand a n k e) ∙ h)

-- by the definition: at which of the first numbers
pub held_here : (opening : Opening) (stands : ObjectId → Standing) (o : Indexed) → Stand opening stands o → (a : Name) (n : ℕ)
    → has_object o.held a n ≡ (nat_le 1 n && (nat_le n (length o.objects) && is_concerned_by true (stands (object_of o n)) a))
held_here opening stands o stand a n = of (object_at o.objects n) refl
  where
    both : (s t u : Bool) → s ≡ true → t ≡ true → u ≡ (s && (t && u))
    both true true u e f = refl
    both true false u e f = absurd (false≢true f)
    both false t u e f = absurd (false≢true e)

    outside : (m : ℕ) → object_at o.objects m ≡ None → (u : Bool) → false ≡ (nat_le 1 m && (nat_le m (length o.objects) && u))
    outside m e u = split (cases_lt m 1)
      where
        split : (m < 1) ⊎ (1 ≤ m) → false ≡ (nat_le 1 m && (nat_le m (length o.objects) && u))
        split (inl low) = sym (ap (λ t. t && (nat_le m (length o.objects) && u)) (lt-leb 1 m low))
        split (inr high) = over (cases_lt (length o.objects) m)
          where
            over : (length o.objects < m) ⊎ (m ≤ length o.objects) → false ≡ (nat_le 1 m && (nat_le m (length o.objects) && u))
            over (inl past) = sym (and_right (nat_le 1 m) (nat_le m (length o.objects) && u) (ap (λ t. t && u) (lt-leb m (length o.objects) past)))
            over (inr within) = let f = object_there o.objects m high within in absurd (none-some f.0 (sym e ∙ f.1))

    of : (x : Option Kept) → object_at o.objects n ≡ x → has_object o.held a n ≡ (nat_le 1 n && (nat_le n (length o.objects) && is_concerned_by true (stands (object_of o n)) a))
    of None e = stand.index a n ∙ ap (λ y. holds_of true y a) e ∙ outside n e (is_concerned_by true (stands (object_of o n)) a)
    of (Some k) e =
        let w = object_within o.objects n k e in
        index_at opening stands o stand a n k e
        ∙ held_shown (first_content opening (object_of o n)) (stands (object_of o n)) (seen k) a (stand.shown n k e)
        ∙ both (nat_le 1 n) (nat_le n (length o.objects)) (is_concerned_by true (stands (object_of o n)) a) (le-leb 1 n w.0) (le-leb n (length o.objects) w.1)
