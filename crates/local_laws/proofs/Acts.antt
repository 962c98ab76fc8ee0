-- What was done to an object as one list: the kept operations, and before them the parts that were given back; the newest first.
use Rattle.std.proofs.Common.{Bool, List, None, Option, Some, [], ap, cond, false, filter, inl, inr, map, not, refl, subst, sym, true, ◌++◌, ◌∙◌, ◌∷◌, ◌≡◌, ◌⊎◌}
use Rattle.std.proofs.lemmas.Bool.{false_from_ne_true, not-false, not-true, true≢false}
use Rattle.std.specs.List.{AllByRecursion}
use Rattle.std.specs.Prelude.{is_none}
use Rattle.action_names.specs.Names.{Name, is_ancestor}
use Rattle.values.specs.declared.content.Content.{Content}
use Rattle.values.specs.declared.value.Value.TheVariants.{Int}
use Rattle.atomic_types.specs.TypeLaws.{objects_order_is_free}
use Rattle.atomic_types.specs.declared.op.Class.{Class}
use Rattle.atomic_types.specs.declared.op.Class.TheVariants.{Read, Write}
use Rattle.atomic_types.specs.declared.op.Class.TheVariants as class
use Rattle.atomic_types.specs.Operations as op
use Rattle.atomic_types.specs.declared.operation.Operation.TheVariants.{Add}
use Rattle.atomic_types.specs.declared.part.Part.{Part}
use Rattle.atomic_types.specs.declared.part.Part.TheVariants.{Delta, Value}
use Rattle.atomic_types.specs.Objects.{content_after, reply_of}
use Rattle.atomic_types.specs.Operations.{class_of, classes_conflict}
use Rattle.atomic_types.specs.Parts.{laid}
use Rattle.run_model.specs.Keeping.{Performed, Standing}
use Rattle.run_model.specs.Replay.{left_of}
use Rattle.run_model.specs.Telling.{holder_by}
use Rattle.run_model.specs.Versions.{is_held_above, under}
use Rattle.run_laws.proofs.Each.{Each, each_filter}
use Rattle.run_laws.proofs.Names.{ancestor_trans, clash}
use Rattle.run_laws.proofs.Seen.{last_facts}
use Rattle.local_laws.specs.Orderly.{AreOrderly, Deed, IsAbove, IsOrderly, IsUnder, deeds_by}
use Rattle.local_laws.specs.Tops.{adds_text}
use Rattle.local_laws.proofs.Orderly.{holder_is}
use Rattle.local_laws.proofs.Ruled.{of_kept, of_restored}

-- a kept operation, or a part that was given back
abbrev pub Act : Type 0
Act = Performed ⊎ (Name × Part)

abbrev pub deed_of : Act → Deed
deed_of (inl o) = of_kept o
deed_of (inr r) = of_restored r

-- what it leaves of a content
abbrev pub after_act : Content → Act → Content
after_act c (inl o) = content_after c o.operation
after_act c (inr r) = laid r.1 c

abbrev pub after_acts : Content → List Act → Content
after_acts c [] = c
after_acts c (x ∷ xs) = after_act (after_acts c xs) x

abbrev pub act_adds_text : Act → Bool
act_adds_text (inl o) = adds_text o.operation
act_adds_text (inr r) = false

abbrev pub acts_of : List Performed → List (Name × Part) → List Act
acts_of os rs = map (λ o. inl o) os ++ map (λ r. inr r) rs

abbrev pub acts_by : Standing → List Act
acts_by s = acts_of s.kept s.restored

-- their deeds are those that stand by Moss's rule
pub deeds_of_acts : (s : Standing) → map (λ x. deed_of x) (acts_by s) ≡ deeds_by s
deeds_of_acts s = of s.kept
  where
    back : (rs : List (Name × Part)) → map (λ x. deed_of x) (acts_of [] rs) ≡ map of_restored rs
    back [] = refl
    back (r ∷ rs) = ap (λ ds. of_restored r ∷ ds) (back rs)

    of : (os : List Performed) → map (λ x. deed_of x) (acts_of os s.restored) ≡ map of_kept os ++ map of_restored s.restored
    of [] = back s.restored
    of (o ∷ os) = ap (λ ds. of_kept o ∷ ds) (of os)

pub orderly_acts : (s : Standing) → IsOrderly s → AreOrderly s.told (map (λ x. deed_of x) (acts_by s))
orderly_acts s h = subst (λ ds. AreOrderly s.told ds) (sym (deeds_of_acts s)) h

-- those of them whose action passes a test
pub passing_acts : (c : Content) (passes : Name → Bool) (os : List Performed) (rs : List (Name × Part))
    → after_acts c (filter (λ x. passes (deed_of x).0) (acts_of os rs)) ≡ left_of (under c passes rs) (filter (λ o. passes o.action) os)
passing_acts c passes [] [] = refl
passing_acts c passes [] (r ∷ rs) = of (passes r.0) (passing_acts c passes [] rs)
  where
    rest : List Act
    rest = filter (λ x. passes (deed_of x).0) (acts_of [] rs)

    of : (t : Bool) → after_acts c rest ≡ under c passes rs
        → after_acts c (cond t (inr r ∷ rest) rest) ≡ cond t (laid r.1 (under c passes rs)) (under c passes rs)
    of true e = ap (λ d. laid r.1 d) e
    of false e = e
passing_acts c passes (o ∷ os) rs = of (passes o.action) (passing_acts c passes os rs)
  where
    rest : List Act
    rest = filter (λ x. passes (deed_of x).0) (acts_of os rs)

    kept : List Performed
    kept = filter (λ p. passes p.action) os

    of : (t : Bool) → after_acts c rest ≡ left_of (under c passes rs) kept
        → after_acts c (cond t (inl o ∷ rest) rest) ≡ left_of (under c passes rs) (cond t (o ∷ kept) kept)
    of true e = ap (λ d. content_after d o.operation) e
    of false e = e

-- all of them
pub all_acts : (c : Content) (os : List Performed) (rs : List (Name × Part))
    → after_acts c (acts_of os rs) ≡ left_of (under c (λ b. true) rs) os
all_acts c [] [] = refl
all_acts c [] (r ∷ rs) = ap (λ d. laid r.1 d) (all_acts c [] rs)
all_acts c (o ∷ os) rs = ap (λ d. content_after d o.operation) (all_acts c os rs)

-- ---- acts that do not conflict

write_conflicts : (k : Class) → classes_conflict k Write ≡ true
write_conflicts Read = refl
write_conflicts class.Add = refl
write_conflicts Write = refl

-- they leave the same in either order
in_either_order : (c : Content) (x y : Act) → classes_conflict (deed_of x).1 (deed_of y).1 ≡ false
    → after_act (after_act c x) y ≡ after_act (after_act c y) x
in_either_order c (inl o) (inl p) h = (objects_order_is_free c o.operation p.operation h).0
in_either_order c (inl o) (inr (b, Delta z)) h = (objects_order_is_free c o.operation (Add (Int z)) h).0
in_either_order c (inl o) (inr (b, Value v)) h = absurd (clash (write_conflicts (class_of o.operation)) h)
in_either_order c (inr (b, Delta z)) (inl p) h = (objects_order_is_free c (Add (Int z)) p.operation h).0
in_either_order c (inr (b, Delta z)) (inr (d, Delta y)) h = (objects_order_is_free c (Add (Int z)) (Add (Int y)) h).0
in_either_order c (inr (b, Delta z)) (inr (d, Value v)) h = absurd (true≢false h)
in_either_order c (inr (b, Value v)) y h = absurd (true≢false h)

-- and one leaves the reply of an operation that it does not conflict with
leaves_reply : (c : Content) (wanted : op.Op) (x : Act) → classes_conflict (deed_of x).1 (class_of wanted) ≡ false
    → reply_of (after_act c x) wanted ≡ reply_of c wanted
leaves_reply c wanted (inl o) h = (objects_order_is_free c o.operation wanted h).2
leaves_reply c wanted (inr (b, Delta z)) h = (objects_order_is_free c (Add (Int z)) wanted h).2
leaves_reply c wanted (inr (b, Value v)) h = absurd (true≢false h)

pub same_reply : (c : Content) (wanted : op.Op) (xs : List Act) → Each (λ x. classes_conflict (deed_of x).1 (class_of wanted) ≡ false) xs
    → reply_of (after_acts c xs) wanted ≡ reply_of c wanted
same_reply c wanted [] h = refl
same_reply c wanted (x ∷ xs) h = leaves_reply (after_acts c xs) wanted x h.0 ∙ same_reply c wanted xs h.1

-- an act after others that it does not conflict with leaves what it leaves before them
past_others : (c : Content) (x : Act) (xs : List Act) → Each (λ y. classes_conflict (deed_of y).1 (deed_of x).1 ≡ false) xs
    → after_act (after_acts c xs) x ≡ after_acts (after_act c x) xs
past_others c x [] h = refl
past_others c x (y ∷ ys) h = in_either_order (after_acts c ys) y x h.0 ∙ ap (λ d. after_act d y) (past_others c x ys h.1)

-- ---- others may come last

-- what stands under it passes the test where it does
abbrev pub GoesUp : (Name → Bool) → (Name → Bool) → Type 0
GoesUp told seen = (a b : Name) → seen a ≡ true → IsAbove told b a → seen b ≡ true

-- Where the acts stand by Moss's rule, and whatever is above an action that passes passes too, those that do not pass may come last.
pub others_last : (c : Content) (told seen : Name → Bool) → GoesUp told seen → (xs : List Act) → AreOrderly told (map (λ x. deed_of x) xs)
    → after_acts c xs ≡ after_acts (after_acts c (filter (λ x. seen (deed_of x).0) xs)) (filter (λ x. not (seen (deed_of x).0)) xs)
others_last c told seen up [] h = refl
others_last c told seen up (x ∷ xs) h = step (seen (deed_of x).0) refl (others_last c told seen up xs h.1)
  where
    passing : List Act
    passing = filter (λ y. seen (deed_of y).0) xs

    others : List Act
    others = filter (λ y. not (seen (deed_of y).0)) xs

    apart : seen (deed_of x).0 ≡ true → (ys : List Act) → AllByRecursion (λ e. IsUnder told (deed_of x) e) (map (λ y. deed_of y) ys)
        → Each (λ y. not (seen (deed_of y).0) ≡ true → classes_conflict (deed_of y).1 (deed_of x).1 ≡ false) ys
    apart e [] k = tt
    apart e (y ∷ ys) k =
        (λ q. false_from_ne_true _ (λ t. clash (up (deed_of x).0 (deed_of y).0 e (k.0 t)) (not-true _ q)), apart e ys k.1)

    step : (t : Bool) → seen (deed_of x).0 ≡ t → after_acts c xs ≡ after_acts (after_acts c passing) others
        → after_act (after_acts c xs) x ≡ after_acts (after_acts c (cond t (x ∷ passing) passing)) (cond (not t) (x ∷ others) others)
    step false q e = ap (λ d. after_act d x) e
    step true q e =
        ap (λ d. after_act d x) e
        ∙ past_others (after_acts c passing) x others (each_filter _ (λ y. not (seen (deed_of y).0)) xs (apart q xs h.0))

-- ---- the version of an owner, and the base

-- what a holder has belongs to the version of this owner, or with none to the base
abbrev pub belongs_to : Option Name → Option Name → Bool
belongs_to None held = is_none held
belongs_to (Some a) held = is_held_above held a

-- what belongs to it is above what belongs to it
pub belonging_goes_up : (told : Name → Bool) (owner : Option Name) → GoesUp told (λ b. belongs_to owner (holder_by told b))
belonging_goes_up told owner a b seen above = of owner (holder_by told b) refl seen
  where
    of : (owner : Option Name) (o : Option Name) → holder_by told b ≡ o → belongs_to owner (holder_by told a) ≡ true → belongs_to owner o ≡ true
    of None None e k = refl
    of (Some d) None e k = refl
    of owner (Some h) e k =
        let held = holder_is told b h e in
        elim (last_facts (λ c. not (told c)) a h (above h held.0 held.1)) [
          | inl m ↦ absurd (clash (not-false _ m) held.1)
          | inr m ↦ higher owner m.0 (sym (ap (λ o. belongs_to owner o) m.1) ∙ k) m.2
        ]
      where
        higher : (owner : Option Name) (d : Name) → belongs_to owner (Some d) ≡ true → is_ancestor h d ≡ true → belongs_to owner (Some h) ≡ true
        higher None d q l = q
        higher (Some a) d q l = ancestor_trans h d a l q
