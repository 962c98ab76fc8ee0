-- Outcomes are told from the last to the first: how all stand then, and what it makes of the history.
use Rattle.std.proofs.Common.{Bool, List, None, Option, Some, [], ap, ap₂, arith, cond, false, length, length-append, map, not, refl, subst, suc, sym, true, ◌++◌, ◌==◌, ◌∙◌, ◌∷◌, ◌≡◌, ◌||◌}
use Rattle.std.proofs.lemmas.Bool.{and_parts, eqb-true, false_from_ne_true, false≢true, true≢false}
use Rattle.std.proofs.lemmas.Cmp.{nat_cmp_total, tied_itself}
use Rattle.std.proofs.lemmas.List.{append-nil, append_assoc}
use Rattle.std.specs.Cmp.Lexicographic.{slice_cmp}
use Rattle.std.specs.List.{AllByRecursion}
use Rattle.std.specs.List.Sorted.{IsStrictlySortedBy}
use Rattle.std.specs.Option.{IfSome}
use Rattle.std.specs.Ordering.{is_eq, nat_cmp, ordering_then}
use Rattle.std.specs.declared.cmp.Ordering.TheVariants.{Equal, Greater, Less}
use Rattle.action_names.specs.Comparison.{same_name-ties}
use Rattle.action_names.specs.Names.{Name, ancestors, is_ancestor, is_prefix, name_cmp, parent_of, same_name}
use Rattle.run_model.specs.declared.answer.Answer.{Answer}
use Rattle.run_model.specs.declared.answer.Answer.TheVariants.{Began, Done, Granted, Refused, VoteNo, VoteYes, Waits}
use Rattle.run_model.specs.declared.step.ObjectId.{ObjectId}
use Rattle.run_model.specs.declared.step.Step.{Step}
use Rattle.run_model.specs.declared.step.Step.TheVariants.{Abort, Arms, Call, Close, Commit, Crash, Decide, NestedTop, Op, Prepare, Recover, Tell, Top}
use Rattle.run_model.specs.Keeping.{Standing}
use Rattle.run_model.specs.LocalReadings.{LocalEvent, outcome_in, says_aborted, standing_here, told_committed_here}
use Rattle.run_model.specs.Openings.{Opening}
use Rattle.run_model.specs.Telling.{holder_by, last_passing, or_else}
use Rattle.run_laws.proofs.Names.{ancestor_trans, clash, front, front_alone, parent_ancestor, same_name_self, same_name_true}
use Rattle.local_laws.proofs.Orderly.{holder_is}
use Rattle.object_laws.specs.Heard.{AreOfTheirOwn, heard_in_turn, heard_one}
use Rattle.object_laws.specs.EventLaws.{is_granted_on}
use Rattle.object_laws.proofs.Events.{outcomes_are_heard_is}
use Rattle.object_laws.proofs.Turns.{heard_in_turn_is}
use Rattle.guardian_objects.specs.Objects.{AreObjects, Indexed, Stand}
use Rattle.guardian_objects.specs.Outcomes.{ArePlanned, AreSound, HasRoomFor, IsHearing, OnlyTells, is_alone, is_granted, outcomes_of}
use Rattle.guardian_objects.specs.Turns.{Hears, IsHeard, IsReady, KeepsReady, MayHear}
use Rattle.guardian_objects.specs.declared.outcomes.Telling.{Telling}
use Rattle.guardian_objects.proofs.Room.{each_parts, each_weaker}

-- ---- names that rise

-- whoever stands before another is not below it
prefix_not_after : (x a : Name) → is_prefix x a ≡ true → name_cmp a x ≡ Less → ⊥
prefix_not_after [] [] h e = let f : Equal ≡ Less = e in cc
prefix_not_after [] (y ∷ a) h e = let f : Greater ≡ Less = e in cc
prefix_not_after (n ∷ x) [] h e = false≢true h
prefix_not_after (n ∷ x) (m ∷ a) h e =
    let p = and_parts (n == m) (is_prefix x a) h in
    let tie : nat_cmp m n ≡ Equal = subst (λ z. nat_cmp m z ≡ Equal) (sym (eqb-true n m p.0)) (tied_itself nat_cmp_total m) in
    prefix_not_after x a p.1 (sym (ap (λ o. ordering_then o (slice_cmp nat_cmp a x)) tie) ∙ e)

not_after : (x a : Name) → is_ancestor x a ≡ true → name_cmp a x ≡ Less → ⊥
not_after [] a h e = false≢true h
not_after (n ∷ x) a h e = prefix_not_after (n ∷ x) a h e

-- what is above the parent is above the action
above_parent : (d a : Name) → is_ancestor d (parent_of a) ≡ true → is_ancestor d a ≡ true
above_parent d [] h = h
above_parent [] (n ∷ []) h = absurd (false≢true h)
above_parent (m ∷ d) (n ∷ []) h = absurd (false≢true h)
above_parent d (n ∷ m ∷ a) h = ancestor_trans d (parent_of (n ∷ m ∷ a)) (n ∷ m ∷ a) h (parent_ancestor (n ∷ m ∷ a) refl (λ q. cc))

-- the names of tellings
abbrev pub names_of : List Telling → List Name
names_of ts = map (λ t. t.action) ts

abbrev pub AreAfter : Name → List Telling → Type 0
AreAfter a ts = AllByRecursion (λ y. name_cmp a y ≡ Less) (names_of ts)

-- in the middle of a rising list
after_middle : (ts : List Telling) (t : Telling) (us : List Telling) → IsStrictlySortedBy name_cmp (names_of (ts ++ t ∷ us)) → AreAfter t.action us
unfolding IsStrictlySortedBy
after_middle [] t us rise = rise.0
after_middle (u ∷ ts) t us rise = after_middle ts t us rise.1

before_middle : (ts : List Telling) (t : Telling) (us : List Telling) → IsStrictlySortedBy name_cmp (names_of (ts ++ t ∷ us))
    → AllByRecursion (λ u. name_cmp u.action t.action ≡ Less) ts
unfolding IsStrictlySortedBy
before_middle [] t us rise = tt
before_middle (u ∷ ts) t us rise = (first ts rise.0, before_middle ts t us rise.1)
  where
    first : (vs : List Telling) → AreAfter u.action (vs ++ t ∷ us) → name_cmp u.action t.action ≡ Less
    first [] h = h.0
    first (v ∷ vs) h = first vs h.1

each_middle : {X : Type 0} (P : X → Type 0) (xs : List X) (y : X) (zs : List X) → AllByRecursion P (xs ++ y ∷ zs) → AllByRecursion P xs × P y
each_middle P [] y zs all = (tt, all.0)
each_middle P (x ∷ xs) y zs all = let rest = each_middle P xs y zs all.1 in ((all.0, rest.0), rest.1)

-- ---- who was told, in turn

told_one : (a : Name) (u : Bool) (s : Standing) (b : Name) → same_name b a ≡ false → (heard_one a u s).told b ≡ s.told b
told_one a true s b other = ap (λ t. t || s.told b) other
told_one a false s b other = refl

-- whoever stands before all that was heard was told committed where it was before
told_before : (ts : List Telling) (s : Standing) (b : Name) → AllByRecursion (λ u. same_name b u.action ≡ false) ts → (heard_in_turn (outcomes_of ts) s).told b ≡ s.told b
told_before [] s b others = refl
told_before (t ∷ ts) s b others = told_one t.action t.committed (heard_in_turn (outcomes_of ts) s) b others.0 ∙ told_before ts s b others.1

-- an action, and whoever is above it, stands before what comes after it
differs : (a b : Name) (ts : List Telling) → is_ancestor b a ≡ true → AreAfter a ts → AllByRecursion (λ u. same_name b u.action ≡ false) ts
differs a b [] above after = tt
differs a b (t ∷ ts) above after = (
  false_from_ne_true (same_name b t.action)
      (λ h. not_after t.action a (subst (λ d. is_ancestor d a ≡ true) (same_name_true b t.action h) above) after.0),
  differs a b ts above after.1,
)

other_names : (a : Name) (ts : List Telling) → AreAfter a ts → AllByRecursion (λ u. same_name a u.action ≡ false) ts
other_names a [] after = tt
other_names a (t ∷ ts) after = (same_name-ties a t.action ∙ ap is_eq after.0, other_names a ts after.1)

each_ancestor : (P : Name → Type 0) (b : Name) → ((c : Name) → is_ancestor c b ≡ true → P c) → AllByRecursion P (ancestors b)
each_ancestor P [] each = tt
each_ancestor P (n ∷ b) each = (each (n ∷ []) (front_alone n b), longer (ancestors b) (each_ancestor (λ c. P (n ∷ c)) b (λ c above. each (n ∷ c) (front n c b above))))
  where
    longer : (cs : List Name) → AllByRecursion (λ c. P (n ∷ c)) cs → AllByRecursion P (map (λ c. n ∷ c) cs)
    longer [] all = tt
    longer (c ∷ cs) all = (all.0, longer cs all.1)

same_last : (p q : Name → Bool) (cs : List Name) → AllByRecursion (λ c. p c ≡ q c) cs → last_passing p cs ≡ last_passing q cs
same_last p q [] same = refl
same_last p q (c ∷ cs) same = ap₂ (λ o t. or_else o (cond t (Some c) None)) (same_last p q cs same.1) same.0

-- who holds goes by the ancestors alone
holder_same : (told more : Name → Bool) (b : Name) → ((c : Name) → is_ancestor c b ≡ true → more c ≡ told c) → holder_by more b ≡ holder_by told b
holder_same told more b same =
    same_last (λ c. not (more c)) (λ c. not (told c)) (ancestors b)
    (each_ancestor (λ c. not (more c) ≡ not (told c)) b (λ c above. ap (λ t. not t) (same c above)))

-- so what is planned by the history may be told in turn
pub may_hear : (t : Telling) (done : List Telling) (here : List LocalEvent) → AreAfter t.action done
    → (t.committed ≡ true → t.to ≡ holder_by (λ b. told_committed_here b here) (parent_of t.action)) → (t.committed ≡ false → told_committed_here t.action here ≡ false)
    → MayHear (λ x. heard_in_turn (outcomes_of done) (standing_here here x)) t
may_hear t done here after planned sound = record {
  next = λ committed x.
      planned committed
      ∙ sym (holder_same (λ b. told_committed_here b here) (heard_in_turn (outcomes_of done) (standing_here here x)).told (parent_of t.action)
      (λ c above. told_before done (standing_here here x) c (differs t.action c done (above_parent c t.action above) after)));
  untold = λ aborted x. told_before done (standing_here here x) t.action (other_names t.action done after) ∙ sound aborted;
}

-- once it is known whether an action committed
pub heard_as : (opening : Opening) (stands : ObjectId → Standing) (t : Telling) (u : Bool) (new : Indexed) → t.committed ≡ u
    → Stand opening (λ x. heard_one t.action u (stands x)) new → Stand opening (λ x. heard_one t.action t.committed (stands x)) new
heard_as opening stands t u new is stand = subst (λ v. Stand opening (λ x. heard_one t.action v (stands x)) new) (sym is) stand

-- ---- what is left to be told

-- these are told already, and the rest is left
abbrev pub StandsTold : List Telling → Indexed → List Telling → Indexed → Type 0
StandsTold all old rest new =
    (done : List Telling) × (all ≡ rest ++ done)
    × ((opening : Opening) (here : List LocalEvent) → AreObjects opening here old → ArePlanned here all → AreSound here all
    → Stand opening (λ x. heard_in_turn (outcomes_of done) (standing_here here x)) new)

pub told_nothing : (all : List Telling) (old : Indexed) → StandsTold all old all old
told_nothing all old = ([], sym (append-nil all), λ opening here are planned sound. are)

module _ (all rest items : List Telling) (t : Telling) (old mid : Indexed) (split : items ≡ rest ++ t ∷ []) (rise : IsStrictlySortedBy name_cmp (names_of all))
    (stands : StandsTold all old items mid) where
  whole : all ≡ rest ++ t ∷ stands.0
  whole = stands.1 ∙ ap (λ l. l ++ stands.0) split ∙ append_assoc rest (t ∷ []) stands.0

  rises : IsStrictlySortedBy name_cmp (names_of (rest ++ t ∷ stands.0))
  rises = subst (λ l. IsStrictlySortedBy name_cmp (names_of l)) whole rise

  heard_here : (here : List LocalEvent) → ArePlanned here all → AreSound here all → MayHear (λ x. heard_in_turn (outcomes_of stands.0) (standing_here here x)) t
  heard_here here planned sound =
      let plans : ArePlanned here (rest ++ t ∷ stands.0) = subst (λ l. ArePlanned here l) whole planned in
      let sounds : AreSound here (rest ++ t ∷ stands.0) = subst (λ l. AreSound here l) whole sound in
      may_hear t stands.0 here (after_middle rest t stands.0 rises)
      (each_middle (λ (u : Telling). u.committed ≡ true → u.to ≡ holder_by (λ b. told_committed_here b here) (parent_of u.action)) rest t stands.0 plans).1
      (each_middle (λ (u : Telling). u.committed ≡ false → told_committed_here u.action here ≡ false) rest t stands.0 sounds).1

  -- the last of what is left may be told
  pub last_heard : IsHearing old all → IsHeard mid t
  last_heard hearing =
      let are = hearing.2 in
      let planned = hearing.3 in
      let sound = hearing.4 in
      (hearing.0, λ x. heard_in_turn (outcomes_of stands.0) (standing_here hearing.1 x), stands.2 hearing.0 hearing.1 are planned sound, heard_here hearing.1 planned sound)

  -- once it was told, the rest is left
  pub told_one_more : (new : Indexed) → Hears t mid new → StandsTold all old rest new
  told_one_more new hears = (
    t ∷ stands.0,
    whole,
    λ opening here are planned sound.
        hears opening (λ x. heard_in_turn (outcomes_of stands.0) (standing_here here x)) (stands.2 opening here are planned sound) (heard_here here planned sound),
  )

  -- where there is one outcome alone, nothing is left after it
  nothing_left : is_alone all ≡ true → (ts : List Telling) → all ≡ ts ++ t ∷ stands.0 → ts ≡ []
  nothing_left one [] e = refl
  nothing_left one (u ∷ us) e =
      let many = ap (length {A = Telling}) e in
      let front = length-append us (t ∷ stands.0) in
      let single : length all ≡ 1 = eqb-true (length all) 1 one in
      absurd (omega (arith, many, front, single))

  -- what is told with others leaves room for the rest
  others_ready : (new : Indexed) → IsHearing old all → AllByRecursion (IsReady false mid) items → KeepsReady t mid new → AllByRecursion (IsReady false new) rest
  others_ready new hearing ready keeps =
      of rest (each_parts (IsReady false mid) rest t (subst (λ l. AllByRecursion (IsReady false mid) l) split ready)).0 (before_middle rest t stands.0 rises)
      (each_middle (λ (u : Telling). u.committed ≡ true → u.to ≡ holder_by (λ b. told_committed_here b hearing.1) (parent_of u.action)) rest t stands.0
      (subst (λ l. ArePlanned hearing.1 l) whole hearing.3)).0
    where
      apart : (u : Telling) → name_cmp u.action t.action ≡ Less → (to : Option Name) → to ≡ holder_by (λ b. told_committed_here b hearing.1) (parent_of u.action)
          → IfSome to (λ h. is_ancestor t.action h ≡ false)
      apart u before None e = tt
      apart u before (Some h) e =
          false_from_ne_true (is_ancestor t.action h) (λ above.
          not_after t.action u.action
          (above_parent t.action u.action
          (ancestor_trans t.action h (parent_of u.action) above (holder_is (λ b. told_committed_here b hearing.1) (parent_of u.action) h (sym e)).0)) before)

      of : (us : List Telling) → AllByRecursion (IsReady false mid) us → AllByRecursion (λ u. name_cmp u.action t.action ≡ Less) us
          → AllByRecursion (λ u. u.committed ≡ true → u.to ≡ holder_by (λ b. told_committed_here b hearing.1) (parent_of u.action)) us
          → AllByRecursion (IsReady false new) us
      of [] r b p = tt
      of (u ∷ us) r b p = (keeps u (λ committed. apart u b.0 u.to (p.0 committed)) r.0, of us r.1 b.1 p.1)

  -- for the rest there is room still
  pub rest_ready : (new : Indexed) → IsHearing old all → AllByRecursion (IsReady (is_alone all) mid) items → KeepsReady t mid new
      → AllByRecursion (IsReady (is_alone all) new) rest
  rest_ready new hearing ready keeps = by_case (is_alone all) refl ready where
    by_case : (b : Bool) → is_alone all ≡ b → AllByRecursion (IsReady b mid) items → AllByRecursion (IsReady b new) rest
    by_case true one had = subst (λ l. AllByRecursion (IsReady true new) l) (sym (nothing_left one rest whole)) tt
    by_case false one had = others_ready new hearing had keeps

-- ---- all were told

-- outcomes have the names of their tellings
pub same_names : (ts : List Telling) → map (λ x. x.0) (outcomes_of ts) ≡ names_of ts
same_names [] = refl
same_names (t ∷ ts) = ap (λ l. t.action ∷ l) (same_names ts)

-- and there are as many of them
same_count : (ts : List Telling) → length (outcomes_of ts) ≡ length ts
same_count [] = refl
same_count (t ∷ ts) = ap suc (same_count ts)

pub same_alone : (ts : List Telling) → is_alone (outcomes_of ts) ≡ is_alone ts
same_alone ts = ap (λ n. n == 1) (same_count ts)

-- what fits is ready
pub fit_ready : (alone : Bool) (o : Indexed) (ts : List Telling) → AllByRecursion (HasRoomFor alone o) ts → AllByRecursion (IsReady alone o) ts
fit_ready alone o ts fits =
    each_weaker (HasRoomFor alone o) (IsReady alone o) ts
    (λ t had. record { rising = had.rising; below = had.below; there = had.there; index = λ q. had.index; room = λ q. had.ready }) fits

-- an outcome of a name before the others is not among them
absent_after : (a : Name) (xs : List (Name × Bool)) → AllByRecursion (λ y. name_cmp a y ≡ Less) (map (λ x. x.0) xs) → outcome_in xs a ≡ None
absent_after a [] after = refl
absent_after a (x ∷ xs) after =
    ap (λ t. cond t (Some x.1) (outcome_in xs a)) (turned (same_name x.0 a) refl) ∙ absent_after a xs after.1
  where
    turned : (t : Bool) → same_name x.0 a ≡ t → same_name x.0 a ≡ false
    turned false e = e
    turned true e =
        absurd (clash (same_name_self a) (ap (λ b. same_name a b) (sym (same_name_true x.0 a e)) ∙ same_name-ties a x.0 ∙ ap is_eq after.0))

-- outcomes that rise are each of an action of its own
own_outcomes : (xs : List (Name × Bool)) → IsStrictlySortedBy name_cmp (map (λ x. x.0) xs) → AreOfTheirOwn xs
unfolding IsStrictlySortedBy
own_outcomes [] rise = tt
own_outcomes (x ∷ xs) rise = (absent_after x.0 xs rise.0, own_outcomes xs rise.1)

-- so of each that aborted they say so
pub sound_pairs : (here : List LocalEvent) (xs : List (Name × Bool)) → IsStrictlySortedBy name_cmp (map (λ x. x.0) xs)
    → ((b : Name) → says_aborted (outcome_in xs b) ≡ true → told_committed_here b here ≡ false) → AllByRecursion (λ x. x.1 ≡ false → told_committed_here x.0 here ≡ false) xs
unfolding IsStrictlySortedBy
sound_pairs here [] rise says = tt
sound_pairs here (x ∷ xs) rise says = (
  λ aborted. says x.0 (ap (λ u. says_aborted (cond u (Some x.1) (outcome_in xs x.0))) (same_name_self x.0) ∙ ap (λ u. not u) aborted),
  sound_pairs here xs rise.1 (λ b h. says b (behind b h (same_name x.0 b) refl)),
)
  where
    behind : (b : Name) → says_aborted (outcome_in xs b) ≡ true → (u : Bool) → same_name x.0 b ≡ u
        → says_aborted (cond (same_name x.0 b) (Some x.1) (outcome_in xs b)) ≡ true
    behind b h false e = ap (λ u. says_aborted (cond u (Some x.1) (outcome_in xs b))) e ∙ h
    behind b h true e =
        absurd (false≢true (sym (ap (λ n. says_aborted (outcome_in xs n)) (sym (same_name_true x.0 b e)) ∙ ap (λ o. says_aborted o) (absent_after x.0 xs rise.0)) ∙ h))

-- the same of tellings
sound_tellings : (here : List LocalEvent) (ts : List Telling) → AllByRecursion (λ x. x.1 ≡ false → told_committed_here x.0 here ≡ false) (outcomes_of ts) → AreSound here ts
sound_tellings here [] all = tt
sound_tellings here (t ∷ ts) all = (all.0, sound_tellings here ts all.1)

-- where no operation is granted, none is granted on an object
pub none_granted : (x : ObjectId) (step : Step) (answer : Answer) → is_granted step answer ≡ false → is_granted_on x step answer ≡ false
none_granted x (Op a y wanted) (Granted r) h = absurd (true≢false h)
none_granted x (Op a y wanted) (Began names) h = refl
none_granted x (Op a y wanted) (Waits names) h = refl
none_granted x (Op a y wanted) VoteYes h = refl
none_granted x (Op a y wanted) VoteNo h = refl
none_granted x (Op a y wanted) (Done k) h = refl
none_granted x (Op a y wanted) (Refused why) h = refl
none_granted x (Top g) answer h = refl
none_granted x (NestedTop a) answer h = refl
none_granted x (Call a g) answer h = refl
none_granted x (Arms a kinds) answer h = refl
none_granted x (Commit a) answer h = refl
none_granted x (Close t) answer h = refl
none_granted x (Prepare g t) answer h = refl
none_granted x (Decide t) answer h = refl
none_granted x (Abort a) answer h = refl
none_granted x (Tell g a) answer h = refl
none_granted x (Crash g) answer h = refl
none_granted x (Recover g) answer h = refl

-- an event that only tells makes of each object what its outcomes make of it in turn
pub only_tells : (c : LocalEvent) (here : List LocalEvent) (x : ObjectId) → OnlyTells c here
    → standing_here (c ∷ here) x ≡ heard_in_turn c.carried.outcomes (standing_here here x)
only_tells c here x tells =
    outcomes_are_heard_is c here x tells.crash (none_granted x c.event.step c.event.answer tells.granted) tells.restored
    ∙ heard_in_turn_is c.carried.outcomes (standing_here here x) (own_outcomes c.carried.outcomes tells.agrees.once)

-- once nothing is left, the objects are those of the history with the event in front
pub told_all : (all rest : List Telling) (old new : Indexed) → rest ≡ [] → StandsTold all old rest new → (opening : Opening) (here : List LocalEvent) (c : LocalEvent)
    → AreObjects opening here old → ArePlanned here all → outcomes_of all ≡ c.carried.outcomes → OnlyTells c here → AreObjects opening (c ∷ here) new
told_all all rest old new none stands opening here c are planned same tells =
    subst (λ s. Stand opening s new) together (stands.2 opening here are planned sound)
  where
    every : stands.0 ≡ all
    every = sym (stands.1 ∙ ap (λ l. l ++ stands.0) none)

    sound : AreSound here all
    sound =
        sound_tellings here all (subst (λ l. AllByRecursion (λ x. x.1 ≡ false → told_committed_here x.0 here ≡ false) l) (sym same)
        (sound_pairs here c.carried.outcomes tells.agrees.once tells.agrees.aborts))

    told : (x : ObjectId) → heard_in_turn (outcomes_of stands.0) (standing_here here x) ≡ standing_here (c ∷ here) x
    told x = ap (λ l. heard_in_turn l (standing_here here x)) (ap (λ ts. outcomes_of ts) every ∙ same) ∙ sym (only_tells c here x tells)

    together : ◌≡◌ {A = ObjectId → Standing} (λ x. heard_in_turn (outcomes_of stands.0) (standing_here here x)) (λ x. standing_here (c ∷ here) x)
    together = λ i x. told x i
