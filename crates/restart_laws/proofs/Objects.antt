-- What a run leaves of an object has the object's type, and what an action holds of it suits it.
use Rattle.std.proofs.Common.{Bool, List, None, Option, Some, [], ap, arith, cond, false, filter, filter_map, length, not, refl, slice_get, subst, suc, sym, true, zero, ℕ, ◌-◌, ◌<◌, ◌∙◌, ◌∷◌, ◌≡◌, ◌≤◌}
use Rattle.std.specs.Prelude.{unwrap_or}
use Rattle.std.specs.List.{cons_option}
use Rattle.std.proofs.lemmas.Bool.{false≢true, true≢false}
use Rattle.std.proofs.lemmas.Option.{none-some, same_Some}
use Rattle.action_names.specs.Names.{Name, has_name, rising_names}
use Rattle.values.specs.declared.content.Content.{Content}
use Rattle.values.specs.declared.content.Content.TheVariants.{Array, Counter, Record, Variant}
use Rattle.atomic_types.specs.declared.operation.Operation.TheVariants.{Add}
use Rattle.atomic_types.specs.declared.part.Part.{Part}
use Rattle.atomic_types.specs.declared.part.Part.TheVariants.{Delta, Value}
use Rattle.atomic_types.specs.Objects.{content_after, knows}
use Rattle.atomic_types.specs.Operations.{Op, is_add}
use Rattle.atomic_types.specs.Parts.{laid_where}
use Rattle.atomic_types.specs.TypeLaws.{known_stay}
use Rattle.run_model.specs.declared.history.Event.{Event}
use Rattle.run_model.specs.declared.step.ObjectId.{ObjectId}
use Rattle.run_model.specs.Keeping.{Performed, Standing, kept_on, standing_of}
use Rattle.run_model.specs.Openings.{Opening, first_content, objects_at}
use Rattle.run_model.specs.Replay.{left_of}
use Rattle.run_model.specs.Runs.{IsRun}
use Rattle.run_model.specs.Versions.{adders_by, delta_by, holder_at, owners_by, part_held, version_by, written_by}
use Rattle.run_laws.proofs.Each.{Each, each_filter, each_map}
use Rattle.run_laws.proofs.Growth.{run_before}
use Rattle.local_laws.proofs.Based.{all_granted}
use Rattle.local_laws.proofs.Prepared.{granted_known}
use Rattle.local_laws.proofs.Written.{standing}
use Rattle.recovery_laws.specs.Numbers.{IsGuardian}
use Rattle.recovery_laws.proofs.Places.{at_place}
use Rattle.store_recovery.specs.Belonging.{is_counter, object_at, same_type, suits}
use Rattle.restart_laws.specs.Openings.{FreshOpensInType, IsSetUpWith, ObjectsKeepTypes, ObjectsOpenInType, OpensInType}
use Rattle.restart_laws.proofs.Parts.{SuitsWhere, laid_type, suits_through}
use Rattle.restart_laws.proofs.Types.{operations_keep_type, type_itself, type_through}

-- ---- operations that the content knows

abbrev AreKnown : Content → List Performed → Type 0
AreKnown c os = Each (λ o. knows c o.operation ≡ true) os

-- d is of the type of c, and knows the same operations
record IsLike (c d : Content) : Type 0 where
  same : same_type c d ≡ true
  known : (op : Op) → knows d op ≡ knows c op

left_like : (c : Content) (os : List Performed) → AreKnown c os → IsLike c (left_of c os)
left_like c [] h = record { same = type_itself c; known = λ op. refl }
left_like c (o ∷ os) h =
    let d = left_of c os in
    let before = left_like c os h.1 in
    let knows_it = before.known o.operation ∙ h.0 in
    record {
      same = type_through c d (content_after d o.operation) before.same (operations_keep_type d o.operation knows_it);
      known = λ op. known_stay d o.operation op knows_it ∙ before.known op;
    }

written_type : (c : Content) (told : Name → Bool) (os : List Performed) (passes : Name → Bool) → AreKnown c os
    → same_type c (written_by c (standing told os) passes) ≡ true
written_type c told os passes known =
    (left_like c (filter (λ o. passes o.action) os) (each_filter _ (λ o. passes o.action) os (each_map _ _ os (λ o h k. h) known))).same

-- only a counter knows an add
not_add : (c : Content) (op : Op) → is_counter c ≡ false → knows c op ≡ true → is_add op ≡ false
not_add (Counter n) op h k = absurd (true≢false h)
not_add (Record fields) (Add v) h k = absurd (false≢true k)
not_add (Record fields) _ h k = refl
not_add (Array a) (Add v) h k = absurd (false≢true k)
not_add (Array a) _ h k = refl
not_add (Variant v) (Add w) h k = absurd (false≢true k)
not_add (Variant v) _ h k = refl

none_adds : (s : Standing) (os : List Performed) → Each (λ o. is_add o.operation ≡ false) os
    → filter_map (λ o. cond (is_add o.operation) (holder_at s o) None) os ≡ []
none_adds s [] h = refl
none_adds s (o ∷ os) h =
    ap (λ b. cons_option (cond b (holder_at s o) None) (filter_map (λ p. cond (is_add p.operation) (holder_at s p) None) os)) h.0
    ∙ none_adds s os h.1

-- so where somebody holds an add, the object is a counter
adders_count : (c : Content) (told : Name → Bool) (os : List Performed) (a : Name) → AreKnown c os
    → has_name (adders_by (standing told os)) a ≡ true → is_counter c ≡ true
adders_count c told os a known adds = of (is_counter c) refl
  where
    s : Standing
    s = standing told os

    of : (b : Bool) → is_counter c ≡ b → b ≡ true
    of true e = refl
    of false e =
        absurd (false≢true
        (sym (ap (λ names. has_name (rising_names (filter (λ b. not (has_name (owners_by s) b)) names)) a)
        (none_adds s os (each_map _ _ os (λ o k. not_add c o.operation e k) known)))
        ∙ adds))

-- what an action holds suits the content
held_suits : (c : Content) (told : Name → Bool) (os : List Performed) (a : Name) (part : Part) → AreKnown c os
    → part_held c (standing told os) a ≡ Some part → suits (Some c) part ≡ true
held_suits c told os a part known at = of (has_name (owners_by s) a) (has_name (adders_by s) a) refl at
  where
    s : Standing
    s = standing told os

    Suits : Part → Type 0
    Suits p = suits (Some c) p ≡ true

    of : (owns adds : Bool) → has_name (adders_by s) a ≡ adds
        → cond owns (Some (Value (version_by c s a))) (cond adds (Some (Delta (delta_by s a))) None) ≡ Some part → Suits part
    of true adds e k = subst Suits (same_Some (Value (version_by c s a)) part k) (written_type c told os _ known)
    of false true e k = subst Suits (same_Some (Delta (delta_by s a)) part k) (adders_count c told os a known e)
    of false false e k = absurd (none-some part k)

-- ---- the operations of a run

all_known : (opening : Opening) (past : List Event) (x : ObjectId) → IsRun opening past
    → AreKnown (first_content opening x) (kept_on x past)
all_known opening past x r =
    each_map _ _ (kept_on x past)
    (λ o w. ap (λ y. knows (first_content opening y) o.operation) (sym w.on)
    ∙ granted_known opening o w.event w.before (run_before opening w.came r) w.grants)
    (all_granted x past)

-- ---- objects of the setup

-- the number of an object is from 1
pub object_there : (objects : List Content) (n : ℕ) → 0 < n → n ≤ length objects → (c : Content) × (object_at objects n ≡ Some c)
object_there objects zero low high = absurd (omega arith)
object_there objects (suc i) low high = at_place objects i (omega arith)

set_up_with : (objects : List Content) (n : ℕ) (c : Content) → object_at objects n ≡ Some c
    → unwrap_or (slice_get objects (n - 1)) (Record []) ≡ c
set_up_with objects zero c at = absurd (none-some c at)
set_up_with objects (suc i) c at =
    let e : suc i - 1 ≡ i = omega arith in
    ap (λ j. unwrap_or (slice_get objects j) (Record [])) e ∙ ap (λ o. unwrap_or o (Record [])) at

module _ (opening : Opening) (t : OpensInType opening) where
  -- what a store held of an object
  pub opens_suiting : (g n : ℕ) → IsGuardian opening g → SuitsWhere (object_at (objects_at opening.setup g) n) ((opening.stores g).base n)
  opens_suiting g n there = of ((opening.stores g).base n) refl
    where
      of : (o : Option Part) → (opening.stores g).base n ≡ o → SuitsWhere (object_at (objects_at opening.setup g) n) o
      of None e = tt
      of (Some part) e = t g n part there e

  module _ (x : ObjectId) (c : Content) (is : IsSetUpWith opening x c) where
    abbrev held : Option Part
    held = (opening.stores x.guardian).base x.number

    first_type : same_type c (first_content opening x) ≡ true
    first_type =
        subst (λ d. same_type c (laid_where held d) ≡ true) (sym (set_up_with (objects_at opening.setup x.guardian) x.number c is.1))
        (laid_type c held (subst (λ o. SuitsWhere o held) is.1 (opens_suiting x.guardian x.number is.0)))

    module _ (past : List Event) (r : IsRun opening past) where
      written_keeps : (passes : Name → Bool) → same_type c (written_by (first_content opening x) (standing_of x past) passes) ≡ true
      written_keeps passes =
          type_through c (first_content opening x) _ first_type
          (written_type (first_content opening x) (standing_of x past).told (kept_on x past) passes (all_known opening past x r))

      part_suits : (a : Name) (part : Part) → part_held (first_content opening x) (standing_of x past) a ≡ Some part
          → suits (Some c) part ≡ true
      part_suits a part at =
          suits_through c (first_content opening x) part first_type
          (held_suits (first_content opening x) (standing_of x past).told (kept_on x past) a part (all_known opening past x r) at)

  -- what an action holds of an object of the setup in a run
  pub run_suits : (past : List Event) → IsRun opening past → (x : ObjectId) (a : Name) → IsGuardian opening x.guardian → 0 < x.number
      → x.number ≤ length (objects_at opening.setup x.guardian)
      → SuitsWhere (object_at (objects_at opening.setup x.guardian) x.number) (part_held (first_content opening x) (standing_of x past) a)
  run_suits past r x a there low high = of (part_held (first_content opening x) (standing_of x past) a) refl
    where
      of : (o : Option Part) → part_held (first_content opening x) (standing_of x past) a ≡ o
          → SuitsWhere (object_at (objects_at opening.setup x.guardian) x.number) o
      of None e = tt
      of (Some part) e =
          let o = object_there (objects_at opening.setup x.guardian) x.number low high in
          subst (λ object. suits object part ≡ true) (sym o.1) (part_suits x o.0 (there, o.1) past r a part e)

-- ---- the laws

pub fresh_opens_in_type : FreshOpensInType
fresh_opens_in_type setup g n part there at = absurd (none-some part at)

pub objects_open_in_type : ObjectsOpenInType
objects_open_in_type opening x c t is = first_type opening t x c is

pub objects_keep_types : ObjectsKeepTypes
objects_keep_types opening past x c a t r is = (written_keeps opening t x c is past r _, written_keeps opening t x c is past r _)
