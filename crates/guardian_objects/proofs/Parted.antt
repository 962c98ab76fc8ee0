-- What a top action will hold, once the outcomes of its descendants are told.
use Rattle.std.proofs.Common.{Bool, List, None, Option, Some, [], ap, ap₂, cond, false, filter, filter_map, inl, inr, length, map, not, option_map, refl, subst, sym, true, ℕ, ◌&&◌, ◌++◌, ◌==◌, ◌∙◌, ◌∷◌, ◌≡◌, ◌||◌, ◌↔◌}
use Rattle.std.specs.Prelude.{is_some, nat_le}
use Rattle.std.specs.BTreeMap.{insert_entry}
use Rattle.std.specs.List.{AllByRecursion, cons_option, list_any}
use Rattle.std.specs.Map.{keys_of}
use Rattle.std.specs.Ordering.{match_ordering, nat_cmp}
use Rattle.std.proofs.lemmas.Bool.{and_from, and_left, and_parts, eq-eqb, false_from_ne_true, false≢true, le-leb, leb-true, or_cases, or_from, or_left, or_parts, or_right}
use Rattle.std.proofs.lemmas.List.{append-nil, append_assoc}
use Rattle.action_names.specs.Names.{Name, ancestors, has_name, is_ancestor, is_proper_ancestor, is_top}
use Rattle.values.specs.declared.content.Content.{Content}
use Rattle.atomic_types.specs.declared.op.Class.{Class}
use Rattle.atomic_types.specs.declared.part.Part.{Part}
use Rattle.atomic_types.specs.declared.part.Part.TheVariants.{Delta, Value}
use Rattle.atomic_types.specs.Operations.{is_add_class, is_write_class}
use Rattle.run_model.specs.declared.step.ObjectId.{ObjectId}
use Rattle.run_model.specs.Actions.{is_exactly}
use Rattle.run_model.specs.Answers.{is_concerned_by}
use Rattle.run_model.specs.Keeping.{Performed, Standing}
use Rattle.run_model.specs.Lists.{up_to}
use Rattle.run_model.specs.LocalReadings.{LocalEvent, standing_here, told_committed_here}
use Rattle.run_model.specs.Openings.{Opening, first_content}
use Rattle.run_model.specs.StableContent.{parts_by}
use Rattle.run_model.specs.Versions.{adders_by, delta_by, part_held, version_by}
use Rattle.run_laws.proofs.Names.{clash}
use Rattle.local_laws.proofs.Acts.{Act, acts_by, deed_of}
use Rattle.local_laws.proofs.Orderly.{holder_is}
use Rattle.object_laws.specs.Laws.{is_concerned}
use Rattle.object_laws.specs.OnceTold.{AreOutcomesBelow, HoldsItsTree, aborts_in, told_of}
use Rattle.object_laws.specs.Shown.{Shows}
use Rattle.object_laws.proofs.Choosing.{exactly}
use Rattle.object_laws.proofs.Concerned.{concerned_shown}
use Rattle.object_laws.proofs.Held.{adders_are, any_append, held, holds, owners_are}
use Rattle.object_laws.proofs.Events.{outcomes_are_heard_is}
use Rattle.atomic_object.specs.Kept.{Kept, seen}
use Rattle.guardian_index.specs.Held.{HoldsBelow, IsRising, has_number}
use Rattle.guardian_objects.specs.Objects.{AreObjects, Indexed, Stand, object_at, object_of}
use Rattle.guardian_objects.specs.Outcomes.{OnlyTells}
use Rattle.guardian_objects.specs.Parts.{with_part}
use Rattle.guardian_objects.proofs.Holding.{any_of_all, below_from, below_to}
use Rattle.guardian_objects.proofs.Numbers.{StandAbove, between, chosen, has_append, made_of}
use Rattle.guardian_objects.proofs.Places.{index_at, index_there, object_there, object_within}
use Rattle.guardian_objects.proofs.Turning.{none_granted, sound_pairs}

-- ---- at which objects something is held at or below an action

alike : (t u : Bool) → (t ≡ true → u ≡ true) → (u ≡ true → t ≡ true) → t ≡ u
alike true u to from = sym (to refl)
alike false true to from = from refl
alike false false to from = refl

-- by the definition: at which of the first numbers
pub below_here : (opening : Opening) (stands : ObjectId → Standing) (o : Indexed) → Stand opening stands o → (a : Name) → ((x : ObjectId) → (stands x).told a ≡ false)
    → (ns : List ℕ) → ((n : ℕ) → (has_number ns n ≡ true) ↔ HoldsBelow o.held a n) → (n : ℕ)
    → has_number ns n ≡ (nat_le 1 n && (nat_le n (length o.objects) && is_concerned_by false (stands (object_of o n)) a))
below_here opening stands o stand a untold ns below n = alike _ _ to from
  where
    shown : (k : Kept) → object_at o.objects n ≡ Some k → is_concerned_by false (stands (object_of o n)) a ≡ is_concerned false (seen k).locks a
    shown k e = concerned_shown (first_content opening (object_of o n)) (stands (object_of o n)) (seen k) a false (stand.shown n k e) (untold (object_of o n))

    to : has_number ns n ≡ true → (nat_le 1 n && (nat_le n (length o.objects) && is_concerned_by false (stands (object_of o n)) a)) ≡ true
    to h =
        let b = (below n).0 h in
        let k = index_there opening stands o stand b.0 n b.2 in
        let w = object_within o.objects n k.0 k.1 in
        and_from (nat_le 1 n) _ (le-leb 1 n w.0) (and_from (nat_le n (length o.objects)) _ (le-leb n (length o.objects) w.1)
        (shown k.0 k.1 ∙ below_from (seen k.0).locks a b.0 b.1 k.2))

    from : (nat_le 1 n && (nat_le n (length o.objects) && is_concerned_by false (stands (object_of o n)) a)) ≡ true → has_number ns n ≡ true
    from h =
        let p = and_parts (nat_le 1 n) _ h in
        let q = and_parts (nat_le n (length o.objects)) _ p.1 in
        let k = object_there o.objects n (leb-true 1 n p.0) (leb-true n (length o.objects) q.0) in
        let b = below_to (seen k.0).locks a (sym (shown k.0 k.1) ∙ q.1) in
        (below n).1 (b.0, b.1, index_at opening stands o stand b.0 n k.0 k.1 ∙ b.2)

-- ---- one object

any_map : {X Y : Type 0} (p : Y → Bool) (f : X → Y) (xs : List X) → list_any p (map f xs) ≡ list_any (λ x. p (f x)) xs
any_map p f [] = refl
any_map p f (x ∷ xs) = ap (λ t. p (f x) || t) (any_map p f xs)

-- whoever holds an act is above who did it
holds_above : (told : Name → Bool) (k : Class → Bool) (a : Name) (xs : List Act) → holds (λ x. held told x) k a xs ≡ true
    → list_any (λ (x : Act). is_ancestor a (deed_of x).0) xs ≡ true
holds_above told k a [] h = absurd (false≢true h)
holds_above told k a (x ∷ xs) h = elim (or_cases (is_exactly (held told x) a && k (deed_of x).1) (holds (λ y. held told y) k a xs) h) [
  | inl q ↦ or_left (is_ancestor a (deed_of x).0) _ (holder_is told (deed_of x).0 a (exactly (held told x) a (and_parts _ _ q).0)).0
  | inr q ↦ or_right (is_ancestor a (deed_of x).0) _ (holds_above told k a xs q)
]

module _ (outcomes : List (Name × Bool)) (s : Standing) (a : Name) (none : is_concerned_by false s a ≡ false) where
  -- where neither a nor a descendant did anything that is kept, none did once outcomes are told
  none_done : list_any (λ (x : Act). is_ancestor a (deed_of x).0) (acts_by (told_of outcomes s)) ≡ false
  none_done =
      any_append (λ (x : Act). is_ancestor a (deed_of x).0) (map (λ (o : Performed). inl o) (told_of outcomes s).kept) (map (λ (r : Name × Part). inr r) (told_of outcomes s).restored)
      ∙ or_from _ _ (any_map (λ (x : Act). is_ancestor a (deed_of x).0) (λ (o : Performed). inl o) (told_of outcomes s).kept ∙ kept)
      (any_map (λ (x : Act). is_ancestor a (deed_of x).0) (λ (r : Name × Part). inr r) (told_of outcomes s).restored ∙ restored)
    where
      p : (list_any (λ (r : Name × Part). is_ancestor a r.0) s.restored ≡ false) × (list_any (λ (o : Performed). is_ancestor a o.action) s.kept ≡ false)
      p = or_parts (list_any (λ (r : Name × Part). is_ancestor a r.0) s.restored) (list_any (λ (o : Performed). is_ancestor a o.action) s.kept) none

      kept : list_any (λ (o : Performed). is_ancestor a o.action) (told_of outcomes s).kept ≡ false
      kept =
          false_from_ne_true _ (λ h.
          clash (any_of_all (λ (o : Performed). is_ancestor a o.action) (λ o. not (list_any (aborts_in outcomes) (ancestors o.action))) s.kept h) p.1)

      restored : list_any (λ (r : Name × Part). is_ancestor a r.0) (told_of outcomes s).restored ≡ false
      restored =
          false_from_ne_true _ (λ h.
          clash (any_of_all (λ (r : Name × Part). is_ancestor a r.0) (λ r. not (list_any (aborts_in outcomes) (ancestors r.0))) s.restored h) p.0)

  holds_none : (k : Class → Bool) → holds (λ x. held (told_of outcomes s).told x) k a (acts_by (told_of outcomes s)) ≡ false
  holds_none k = false_from_ne_true _ (λ h. clash (holds_above (told_of outcomes s).told k a (acts_by (told_of outcomes s)) h) none_done)

  -- so a will hold nothing
  pub no_part : (c : Content) → part_held c (told_of outcomes s) a ≡ None
  no_part c =
      ap (λ t. cond t (Some (Value (version_by c (told_of outcomes s) a)))
      (cond (has_name (adders_by (told_of outcomes s)) a) (Some (Delta (delta_by (told_of outcomes s) a))) None)) (owners_are (told_of outcomes s) a ∙ holds_none is_write_class)
      ∙ ap (λ t. cond t (Some (Delta (delta_by (told_of outcomes s) a))) None) (adders_are (told_of outcomes s) a ∙ and_left (holds (λ x. held (told_of outcomes s).told x) is_add_class a (acts_by (told_of outcomes s))) _ (holds_none is_add_class))

-- ---- what an event tells

-- it makes of each object what its outcomes make of it
pub told_here : (c : LocalEvent) (here : List LocalEvent) (x : ObjectId) (outcomes : List (Name × Bool)) → c.carried.outcomes ≡ outcomes → OnlyTells c here
    → told_of outcomes (standing_here here x) ≡ standing_here (c ∷ here) x
told_here c here x outcomes same tells =
    ap (λ l. told_of l (standing_here here x)) (sym same)
    ∙ sym (outcomes_are_heard_is c here x tells.crash (none_granted x c.event.step c.event.answer tells.granted) tells.restored)

pub outcomes_below : (c : LocalEvent) (here : List LocalEvent) (x : ObjectId) (top : Name) (outcomes : List (Name × Bool)) → c.carried.outcomes ≡ outcomes → OnlyTells c here
    → AllByRecursion (λ y. is_proper_ancestor top y.0 ≡ true) outcomes → AreOutcomesBelow (standing_here here x) top outcomes
outcomes_below c here x top outcomes same tells below = record {
  below = below;
  aborted = subst (λ l. AllByRecursion (λ y. y.1 ≡ false → told_committed_here y.0 here ≡ false) l) same (sound_pairs here c.carried.outcomes tells.agrees.once tells.agrees.aborts);
}

-- ---- all objects

-- what is known of the event after which the parts are asked
pub record IsTold (o : Indexed) (top : Name) (outcomes : List (Name × Bool)) (opening : Opening) (here : List LocalEvent) (c : LocalEvent) : Type 0 where
  pub are : AreObjects opening here o
  pub highest : is_top top ≡ true
  pub untold : told_committed_here top here ≡ false
  pub same : c.carried.outcomes ≡ outcomes
  pub tells : OnlyTells c here
  pub below : AllByRecursion (λ x. is_proper_ancestor top x.0 ≡ true) outcomes
  pub tree : (x : ObjectId) → x.guardian ≡ o.guardian → HoldsItsTree (standing_here (c ∷ here) x) top

-- what the top action will hold of the object of a number
abbrev pub part_at : Indexed → Name → Opening → List LocalEvent → LocalEvent → ℕ → Option (ℕ × Part)
part_at o top opening here c n =
    option_map (λ (p : Part). (n, p)) (part_held (first_content opening (object_of o n)) (standing_here (c ∷ here) (object_of o n)) top)

-- these parts are those of the numbers that are done, and the rest of all is left
abbrev pub ArePartly : Indexed → Name → List (Name × Bool) → List ℕ → List ℕ → List (ℕ × Part) → Type 0
ArePartly o top outcomes all rest parts =
    (done : List ℕ) × (all ≡ rest ++ done)
    × ((opening : Opening) (here : List LocalEvent) (c : LocalEvent) → IsTold o top outcomes opening here c → parts ≡ filter_map (part_at o top opening here c) done)

pub no_parts : (o : Indexed) (top : Name) (outcomes : List (Name × Bool)) (all : List ℕ) (parts : List (ℕ × Part)) → parts ≡ [] → ArePartly o top outcomes all all parts
no_parts o top outcomes all parts none = ([], sym (append-nil all), λ opening here c told. none)

insert_first : (parts : List (ℕ × Part)) (n : ℕ) (p : Part) → StandAbove n (keys_of parts) → insert_entry nat_cmp parts n p ≡ (n, p) ∷ parts
insert_first [] n p above = refl
insert_first (e ∷ parts) n p above =
    ap (λ o. match_ordering o ((n, p) ∷ e ∷ parts) ((e.0, p) ∷ parts) (e ∷ insert_entry nat_cmp parts n p)) above.0

with_first : (parts : List (ℕ × Part)) (n : ℕ) (part : Option Part) → StandAbove n (keys_of parts) → with_part n part parts ≡ cons_option (option_map (λ (p : Part). (n, p)) part) parts
with_first parts n None above = refl
with_first parts n (Some p) above = insert_first parts n p above

-- the numbers that are left rise, and so do those of the parts behind them
pub parts_rise : (rest numbers : List ℕ) (n : ℕ) (part : Option Part) (parts new : List (ℕ × Part)) → numbers ≡ rest ++ n ∷ [] → IsRising (numbers ++ keys_of parts)
    → new ≡ with_part n part parts → IsRising (rest ++ keys_of new)
parts_rise rest numbers n part parts new split rise put =
    let three = between rest n (keys_of parts) (subst (λ l. IsRising (l ++ keys_of parts)) split rise) in
    subst (λ es. IsRising (rest ++ keys_of es)) (sym (put ∙ with_first parts n part three.0)) (of part three.1 three.2)
  where
    of : (part : Option Part) → IsRising (rest ++ n ∷ keys_of parts) → IsRising (rest ++ keys_of parts) → IsRising (rest ++ keys_of (cons_option (option_map (λ (p : Part). (n, p)) part) parts))
    of None besides without = without
    of (Some p) besides without = besides

-- one number more is done
pub parts_more : (o : Indexed) (top : Name) (outcomes : List (Name × Bool)) (all rest numbers : List ℕ) (n : ℕ) (part : Option Part) (parts new : List (ℕ × Part))
    → numbers ≡ rest ++ n ∷ [] → IsRising (numbers ++ keys_of parts) → new ≡ with_part n part parts
    → ((m : ℕ) → (has_number all m ≡ true) ↔ HoldsBelow o.held top m)
    → ((opening : Opening) (here : List LocalEvent) (c : LocalEvent) → IsTold o top outcomes opening here c → is_some (object_at o.objects n) ≡ true
    → part ≡ part_held (first_content opening (object_of o n)) (standing_here (c ∷ here) (object_of o n)) top)
    → ArePartly o top outcomes all numbers parts → ArePartly o top outcomes all rest new
parts_more o top outcomes all rest numbers n part parts new split rise put below is partly = (
  n ∷ partly.0,
  whole,
  λ opening here c told.
      put ∙ with_first parts n part (between rest n (keys_of parts) (subst (λ l. IsRising (l ++ keys_of parts)) split rise)).0
      ∙ ap₂ (λ q es. cons_option (option_map (λ (p : Part). (n, p)) q) es) (is opening here c told (there opening here c told)) (partly.2 opening here c told),
)
  where
    whole : all ≡ rest ++ n ∷ partly.0
    whole = partly.1 ∙ ap (λ l. l ++ partly.0) split ∙ append_assoc rest (n ∷ []) partly.0

    listed : has_number all n ≡ true
    listed =
        ap (λ l. has_number l n) whole ∙ has_append rest (n ∷ partly.0) n
        ∙ or_right (has_number rest n) _ (or_left (n == n) _ (eq-eqb n n refl))

    there : (opening : Opening) (here : List LocalEvent) (c : LocalEvent) → IsTold o top outcomes opening here c → is_some (object_at o.objects n) ≡ true
    there opening here c told =
        let b = (below n).0 listed in
        let k = index_there opening (λ x. standing_here here x) o told.are b.0 n b.2 in
        ap (λ x. is_some x) k.1

-- all are done
pub parts_all : (o : Indexed) (top : Name) (outcomes : List (Name × Bool)) (all rest : List ℕ) (parts : List (ℕ × Part)) → rest ≡ [] → IsRising all
    → ((m : ℕ) → (has_number all m ≡ true) ↔ HoldsBelow o.held top m) → ArePartly o top outcomes all rest parts
    → (opening : Opening) (here : List LocalEvent) (c : LocalEvent) → IsTold o top outcomes opening here c
    → parts ≡ parts_by opening o.guardian (λ x. standing_here (c ∷ here) x) top
parts_all o top outcomes all rest parts none rise below partly opening here c told =
    partly.2 opening here c told
    ∙ ap (λ l. filter_map (part_at o top opening here c) l) (every ∙ those)
    ∙ made_of (part_at o top opening here c) (λ n. is_concerned_by false (standing_here here (object_of o n)) top) (up_to (length o.objects)) (λ n within h. nothing n h)
    ∙ ap (λ m. filter_map (part_at o top opening here c) (up_to m)) told.are.count
  where
    every : partly.0 ≡ all
    every = sym (partly.1 ∙ ap (λ l. l ++ partly.0) none)

    those : all ≡ filter (λ n. is_concerned_by false (standing_here here (object_of o n)) top) (up_to (length o.objects))
    those =
        chosen (λ n. is_concerned_by false (standing_here here (object_of o n)) top) (length o.objects) all rise
        (below_here opening (λ x. standing_here here x) o told.are top (λ x. told.untold) all below)

    nothing : (n : ℕ) → is_concerned_by false (standing_here here (object_of o n)) top ≡ false → part_at o top opening here c n ≡ None
    nothing n h =
        ap (λ q. option_map (λ (p : Part). (n, p)) q)
        (ap (λ s. part_held (first_content opening (object_of o n)) s top) (sym (told_here c here (object_of o n) outcomes told.same told.tells))
        ∙ no_part outcomes (standing_here here (object_of o n)) top h (first_content opening (object_of o n)))

-- ---- by what an object answers

pub part_is : (o : Indexed) (n : ℕ) (top : Name) (outcomes : List (Name × Bool)) (k : Kept) (part : Option Part) → object_at o.objects n ≡ Some k
    → ((c : Content) (s : Standing) → Shows c s (seen k) → is_top top ≡ true → s.told top ≡ false → AreOutcomesBelow s top outcomes → HoldsItsTree (told_of outcomes s) top
    → part ≡ part_held c (told_of outcomes s) top)
    → (opening : Opening) (here : List LocalEvent) (c : LocalEvent) → AreObjects opening here o → is_top top ≡ true → told_committed_here top here ≡ false
    → c.carried.outcomes ≡ outcomes → OnlyTells c here → AllByRecursion (λ x. is_proper_ancestor top x.0 ≡ true) outcomes
    → HoldsItsTree (standing_here (c ∷ here) (object_of o n)) top
    → part ≡ part_held (first_content opening (object_of o n)) (standing_here (c ∷ here) (object_of o n)) top
part_is o n top outcomes k part there says opening here c are is untold same tells below tree =
    let told = told_here c here (object_of o n) outcomes same tells in
    says (first_content opening (object_of o n)) (standing_here here (object_of o n)) (are.shown n k there) is untold
    (outcomes_below c here (object_of o n) top outcomes same tells below) (subst (λ s. HoldsItsTree s top) (sym told) tree)
    ∙ ap (λ s. part_held (first_content opening (object_of o n)) s top) told
