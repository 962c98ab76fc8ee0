-- What was told committed holds nothing, and after a yes vote a top action holds all that is left of its tree.
use Rattle.std.proofs.Common.{Bool, List, None, Option, Some, [], ap, ap₂, arith, cond, count_by, false, filter, filter_map, length, nat_lt, not, option_map, refl, subst, suc, sym, true, ℕ, ◌&&◌, ◌++◌, ◌==◌, ◌∙◌, ◌∷◌, ◌≡◌, ◌≤◌, eqb-true}
use Rattle.std.proofs.lemmas.Bool.{and_from, and_left, and_parts, false_from_ne_true, false≢true, lt-ltb, not_from_false, or_from, or_right}
use Rattle.std.specs.List.{AllByRecursion, cons_option, list_all, list_any}
use Rattle.std.specs.Prelude.{is_some}
use Rattle.action_names.specs.Names.{Name, has_name, is_ancestor, is_proper_ancestor, is_top, same_name, top_of}
use Rattle.values.specs.declared.content.Content.{Content}
use Rattle.atomic_types.specs.declared.op.Class.{Class}
use Rattle.atomic_types.specs.declared.part.Part.{Part}
use Rattle.atomic_types.specs.declared.part.Part.TheVariants.{Delta, Value}
use Rattle.atomic_types.specs.Operations.{is_add_class, is_read, is_write_class}
use Rattle.run_model.specs.declared.answer.Answer.{Answer}
use Rattle.run_model.specs.declared.answer.Answer.TheVariants.{Granted, VoteYes}
use Rattle.run_model.specs.declared.step.ObjectId.{ObjectId}
use Rattle.run_model.specs.declared.step.Step.{Step}
use Rattle.run_model.specs.declared.step.Step.TheVariants.{Op, Prepare}
use Rattle.run_model.specs.Actions.{is_exactly}
use Rattle.run_model.specs.Answers.{is_concerned_by}
use Rattle.run_model.specs.Keeping.{Performed, Standing, outlives_crash, performed_by, prepared_after, same_object, undoes_by}
use Rattle.run_model.specs.Lists.{up_to}
use Rattle.run_model.specs.LocalReadings.{LocalEvent, brings, count_here, events_here, kept_here, prepared_here, says_aborted, says_committed, standing_here, told_committed_here}
use Rattle.run_model.specs.Openings.{Opening, first_content, objects_at}
use Rattle.run_model.specs.StableContent.{parts_by}
use Rattle.run_model.specs.Telling.{holder_by}
use Rattle.run_model.specs.Versions.{adders_by, delta_by, holder_at, part_held, version_by}
use Rattle.run_model.specs.Visibility.{votes_yes}
use Rattle.run_laws.proofs.Names.{clash, same_name_self, same_name_true, top_facts}
use Rattle.local_laws.proofs.Acts.{Act, acts_by, deed_of}
use Rattle.local_laws.proofs.Orderly.{holder_is}
use Rattle.local_laws.proofs.Prepared.{one_top}
use Rattle.guardian_laws.specs.Crashes.{LeavesSafe, is_safe}
use Rattle.guardian_laws.specs.Outcomes.{are_brought}
use Rattle.layer_contracts.specs.Guardians.{GuardianState, count_told}
use Rattle.object_laws.specs.Laws.{is_left}
use Rattle.object_laws.specs.OnceTold.{HoldsItsTree}
use Rattle.object_laws.proofs.Choosing.{exactly}
use Rattle.object_laws.proofs.Held.{adders_are, held, holds, owners_are}

-- ---- what was told committed

not_holder : (told : Name → Bool) (a b : Name) → told a ≡ true → is_exactly (holder_by told b) a ≡ false
not_holder told a b t = false_from_ne_true _ (λ h. clash t (holder_is told b a (exactly (holder_by told b) a h)).1)

holds_nothing : (told : Name → Bool) (k : Class → Bool) (a : Name) (xs : List Act) → told a ≡ true → holds (λ x. held told x) k a xs ≡ false
holds_nothing told k a [] t = refl
holds_nothing told k a (x ∷ xs) t =
    or_from (is_exactly (held told x) a && k (deed_of x).1) (holds (λ y. held told y) k a xs)
    (and_left (is_exactly (held told x) a) (k (deed_of x).1) (not_holder told a (deed_of x).0 t)) (holds_nothing told k a xs t)

no_part : (c : Content) (s : Standing) (a : Name) → s.told a ≡ true → part_held c s a ≡ None
no_part c s a t =
    ap (λ u. cond u (Some (Value (version_by c s a))) (cond (has_name (adders_by s) a) (Some (Delta (delta_by s a))) None))
    (owners_are s a ∙ holds_nothing s.told is_write_class a (acts_by s) t)
    ∙ ap (λ u. cond u (Some (Delta (delta_by s a))) None)
    (adders_are s a ∙ and_left (holds (λ x. held s.told x) is_add_class a (acts_by s)) _ (holds_nothing s.told is_add_class a (acts_by s) t))

none_of : {X Y : Type 0} (f : X → Option Y) (xs : List X) → ((x : X) → f x ≡ None) → filter_map f xs ≡ []
none_of f [] h = refl
none_of f (x ∷ xs) h = ap (λ o. cons_option o (filter_map f xs)) (h x) ∙ none_of f xs h

-- so a top action has no parts
pub no_parts : (opening : Opening) (g : ℕ) (c : LocalEvent) (here : List LocalEvent) (top : Name) → told_committed_here top here ≡ true
    → parts_by opening g (λ x. standing_here (c ∷ here) x) top ≡ []
no_parts opening g c here top t =
    none_of (λ n. option_map (λ (p : Part). (n, p)) (part_held (first_content opening (numbered n)) (standing_here (c ∷ here) (numbered n)) top))
    (up_to (length (objects_at opening.setup g)))
    (λ n. ap (λ o. option_map (λ (p : Part). (n, p)) o) (no_part (first_content opening (numbered n)) (standing_here (c ∷ here) (numbered n)) top
    (or_right (says_committed (brings c top)) (told_committed_here top here) t)))
  where
    numbered : ℕ → ObjectId
    numbered n = record { guardian = g; number = n }

none_any : {X : Type 0} (p : X → Bool) (xs : List X) → ((x : X) → p x ≡ false) → list_any p xs ≡ false
none_any p [] h = refl
none_any p (x ∷ xs) h = or_from (p x) (list_any p xs) (h x) (none_any p xs h)

not_concerned : (s : Standing) (a : Name) → s.told a ≡ true → is_concerned_by true s a ≡ false
not_concerned s a t =
    or_from (list_any (λ (r : Name × Part). is_exactly (holder_by s.told r.0) a) s.restored) (list_any (λ (o : Performed). is_exactly (holder_by s.told o.action) a) s.kept)
    (none_any (λ (r : Name × Part). is_exactly (holder_by s.told r.0) a) s.restored (λ r. not_holder s.told a r.0 t))
    (none_any (λ (o : Performed). is_exactly (holder_by s.told o.action) a) s.kept (λ o. not_holder s.told a o.action t))

none_counted : (ns : List ℕ) → count_by (λ n. false) ns ≡ 0
none_counted [] = refl
none_counted (n ∷ ns) = none_counted ns

no_count : (opening : Opening) (g : ℕ) (a : Name) (here : List LocalEvent) → told_committed_here a here ≡ true → count_here opening g a true here ≡ 0
no_count opening g a here t =
    ap (λ (p : ℕ → Bool). count_by p (up_to (length (objects_at opening.setup g))))
    (λ i n. not_concerned (standing_here here (record { guardian = g; number = n })) a t i)
    ∙ none_counted (up_to (length (objects_at opening.setup g)))

-- and a telling of it changes nothing
pub told_counts : (g : GuardianState) (a : Name) (committed : Bool) → told_committed_here a g.past ≡ true → 0 ≡ count_told g a committed
told_counts g a true t = sym (ap (λ u. cond (u && false) 0 (count_here g.opening g.number a true g.past)) t ∙ no_count g.opening g.number a g.past t)
told_counts g a false t = sym (ap (λ u. cond (u && true) 0 (count_here g.opening g.number a false g.past)) t)

pub untold_counts : (g : GuardianState) (a : Name) (committed : Bool) → told_committed_here a g.past ≡ false
    → count_here g.opening g.number a committed g.past ≡ count_told g a committed
untold_counts g a committed t = sym (ap (λ u. cond (u && not committed) 0 (count_here g.opening g.number a committed g.past)) t)

-- ---- what is kept has lower numbers than what comes next

abbrev IsLow : ObjectId → ℕ → Performed → Type 0
IsLow x n o = (o.number ≤ n) × (o.object.guardian ≡ x.guardian)

all_weaker : {X : Type 0} (P Q : X → Type 0) (xs : List X) → ((x : X) → P x → Q x) → AllByRecursion P xs → AllByRecursion Q xs
all_weaker P Q [] f h = tt
all_weaker P Q (x ∷ xs) f h = (f x h.0, all_weaker P Q xs f h.1)

all_left : {X : Type 0} (P : X → Type 0) (p : X → Bool) (xs : List X) → AllByRecursion P xs → AllByRecursion P (filter p xs)
all_left P p [] h = tt
all_left {X} P p (x ∷ xs) h = of (p x) (all_left P p xs h.1)
  where
    of : (t : Bool) → AllByRecursion P (filter p xs) → AllByRecursion P (cond t (x ∷ filter p xs) (filter p xs))
    of true rest = (h.0, rest)
    of false rest = rest

all_append : {X : Type 0} (P : X → Type 0) (xs ys : List X) → AllByRecursion P xs → AllByRecursion P ys → AllByRecursion P (xs ++ ys)
all_append P [] ys h k = k
all_append P (x ∷ xs) ys h k = (h.0, all_append P xs ys h.1 k)

low_more : (x : ObjectId) (n : ℕ) (o : Performed) → IsLow x n o → IsLow x (suc n) o
low_more x n o h = (omega (arith, h.0), h.1)

fresh_low : (x : ObjectId) (n : ℕ) (step : Step) (answer : Answer) → AllByRecursion (IsLow x n) (filter (λ o. same_object o.object x) (performed_by n step answer))
fresh_low x n (Op a y wanted) (Granted r) = of (same_object y x) refl
  where
    of : (t : Bool) → same_object y x ≡ t
        → AllByRecursion (IsLow x n) (cond t (record { number = n; action = a; object = y; operation = wanted; reply = r } ∷ []) [])
    of true e = ((omega arith, eqb-true y.guardian x.guardian (and_parts (y.guardian == x.guardian) (y.number == x.number) e).0), tt)
    of false e = tt
fresh_low x n _ _ = tt

here_low : (x : ObjectId) (here : List LocalEvent) → AllByRecursion (IsLow x (length here)) (kept_here x here)
here_low x [] = tt
here_low x (c ∷ here) =
    all_append (IsLow x (suc (length here))) (filter (λ o. same_object o.object x) (performed_by (suc (length here)) c.event.step c.event.answer))
    (filter (λ o. not (undoes_by (λ b. says_aborted (brings c b)) c.event.step (events_here here) o)) (kept_here x here))
    (fresh_low x (suc (length here)) c.event.step c.event.answer)
    (all_left (IsLow x (suc (length here))) (λ o. not (undoes_by (λ b. says_aborted (brings c b)) c.event.step (events_here here) o)) (kept_here x here)
    (all_weaker (IsLow x (length here)) (IsLow x (suc (length here))) (kept_here x here) (low_more x (length here)) (here_low x here)))

none_performed : (n g : ℕ) (top : Name) (step : Step) (answer : Answer) → votes_yes step answer g top ≡ true → performed_by n step answer ≡ []
none_performed n g top (Prepare h t) VoteYes vote = refl
none_performed n g top _ _ vote = absurd (false≢true vote)

-- a vote performs nothing
vote_low : (x : ObjectId) (c : LocalEvent) (here : List LocalEvent) (g : ℕ) (top : Name) → votes_yes c.event.step c.event.answer g top ≡ true
    → AllByRecursion (IsLow x (length here)) (kept_here x (c ∷ here))
vote_low x c here g top vote =
    let left : Performed → Bool = λ o. not (undoes_by (λ b. says_aborted (brings c b)) c.event.step (events_here here) o) in
    subst (λ os. AllByRecursion (IsLow x (length here)) (filter (λ o. same_object o.object x) os ++ filter left (kept_here x here)))
    (sym (none_performed (suc (length here)) g top c.event.step c.event.answer vote))
    (all_left (IsLow x (length here)) left (kept_here x here) (here_low x here))

-- ---- after a yes vote

same_length : (here : List LocalEvent) → length (events_here here) ≡ length here
same_length [] = refl
same_length (c ∷ here) = ap suc (same_length here)

below_suc : (m n k : ℕ) → m ≤ n → k ≡ n → nat_lt m (suc k) ≡ true
below_suc m n k low same = lt-ltb m (suc k) (omega (arith, low, same))

each_listed : {X : Type 0} (p : X → Bool) (xs : List X) → list_all p xs ≡ true → AllByRecursion (λ x. p x ≡ true) xs
each_listed p [] h = tt
each_listed p (x ∷ xs) h = let q = and_parts (p x) (list_all p xs) h in (q.0, each_listed p xs q.1)

-- the outcomes that come with the vote are those of descendants
pub vote_brings : (g : ℕ) (top : Name) (step : Step) (answer : Answer) (outcomes : List (Name × Bool)) → votes_yes step answer g top ≡ true
    → are_brought step outcomes ≡ true → AllByRecursion (λ x. is_proper_ancestor top x.0 ≡ true) outcomes
vote_brings g top (Prepare h t) VoteYes outcomes vote brought =
    let is = same_name_true t top (and_parts (h == g) (same_name t top) vote).1 in
    each_listed (λ (x : Name × Bool). is_proper_ancestor top x.0) outcomes
    (ap (λ b. list_all (λ (x : Name × Bool). is_proper_ancestor b x.0) outcomes) (sym is) ∙ brought)
vote_brings g top _ _ outcomes vote brought = absurd (false≢true vote)

module _ (opening : Opening) (x : ObjectId) (c : LocalEvent) (here : List LocalEvent) (top : Name) (vote : votes_yes c.event.step c.event.answer x.guardian top ≡ true)
    (highest : is_top top ≡ true) (safe : LeavesSafe opening (c ∷ here) x)
    (tops : (t : Name) → is_some (prepared_here opening x.guardian t (c ∷ here)) ≡ true → is_top t ≡ true) where
  abbrev after : Standing
  after = standing_here (c ∷ here) x

  -- what is safe in the tree is held by the top action, or belongs to the base
  left_to : (a : Name) (h : Option Name) → holder_by after.told a ≡ h → is_safe opening x.guardian (c ∷ here) h ≡ true → same_name (top_of a) top ≡ true
      → is_left (λ b. same_name b top) h ≡ true
  left_to a None e q below = refl
  left_to a (Some b) e q below =
      let is : top_of a ≡ top = same_name_true (top_of a) top below in
      let there : a ≡ [] → ⊥ = λ none. clash (ap is_top is ∙ highest) (ap (λ d. is_top (top_of d)) none) in
      let above : is_ancestor top a ≡ true = subst (λ d. is_ancestor d a ≡ true) is (top_facts a there).1 in
      let same : b ≡ top = one_top b top a (tops b q) highest (holder_is after.told a b e).0 above in
      ap (λ d. same_name d top) same ∙ same_name_self top

  outlives : (o : Performed) → IsLow x (length here) o → is_read o.operation ≡ false → same_name (top_of o.action) top ≡ true
      → outlives_crash o (events_here (c ∷ here)) ≡ true
  outlives o low writes below =
      and_from (not (is_read o.operation)) _ (not_from_false (is_read o.operation) writes)
      (or_right (prepared_after o.number o.object.guardian (top_of o.action) (events_here here)) _
      (and_from (nat_lt o.number (suc (length (events_here here)))) _ (below_suc o.number (length here) (length (events_here here)) low.0 (same_length here))
      (ap₂ (λ g t. votes_yes c.event.step c.event.answer g t) low.1 (same_name_true (top_of o.action) top below) ∙ vote)))

  held_kept : (os : List Performed)
      → AllByRecursion (λ o. outlives_crash o (events_here (c ∷ here)) ≡ (not (is_read o.operation) && is_safe opening x.guardian (c ∷ here) (holder_at after o))) os
      → AllByRecursion (IsLow x (length here)) os
      → AllByRecursion (λ o. is_read o.operation ≡ false → same_name (top_of o.action) top ≡ true → is_left (λ b. same_name b top) (holder_at after o) ≡ true) os
  held_kept [] s low = tt
  held_kept (o ∷ os) s low = (
    λ writes below.
        left_to o.action (holder_at after o) refl
        (and_parts (not (is_read o.operation)) (is_safe opening x.guardian (c ∷ here) (holder_at after o)) (sym s.0 ∙ outlives o low.0 writes below)).1 below,
    held_kept os s.1 low.1,
  )

  held_back : (rs : List (Name × Part)) → AllByRecursion (λ r. is_safe opening x.guardian (c ∷ here) (holder_by after.told r.0) ≡ true) rs
      → AllByRecursion (λ r. same_name (top_of r.0) top ≡ true → is_left (λ b. same_name b top) (holder_by after.told r.0) ≡ true) rs
  held_back [] s = tt
  held_back (r ∷ rs) s = (λ below. left_to r.0 (holder_by after.told r.0) refl s.0 below, held_back rs s.1)

  pub holds_tree : HoldsItsTree after top
  holds_tree = record { kept = held_kept after.kept safe.kept (vote_low x c here x.guardian top vote); restored = held_back after.restored safe.restored }
