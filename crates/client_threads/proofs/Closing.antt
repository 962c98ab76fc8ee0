-- What clients did by their own events is so of the run whose events are those of all receipts.
use Rattle.std.proofs.Common.{Bool, IsTrue, List, None, Option, Some, [], ap, append_assoc, arith, cond, false, inl, inr, refl, subst, sym, true, ℕ, ◌||◌, ◌++◌, ◌+◌, ◌≤◌, ◌∙◌, ◌∷◌, ◌≡◌}
use Rattle.std.specs.Prelude.{IsPermutation}
use Rattle.std.specs.List.{AllByRecursion, list_any, sum_by}
use Rattle.std.proofs.lemmas.Bool.{false_from_ne_true, false≢true, or_cases, or_left, or_right}
use Rattle.std.proofs.lemmas.List.Folds.{list_any-append}
use Rattle.std.proofs.lemmas.List.Sorted.{list_any-IsPermutation, sum_by-IsPermutation}
use Rattle.std.proofs.lemmas.List.Sums.{sum_by-append}
use Rattle.action_names.specs.Names.{Name, has_name, same_name}
use Rattle.run_laws.proofs.Begun.{begun_once}
use Rattle.run_laws.proofs.Names.{has_name_append, same_name_self}
use Rattle.run_model.specs.declared.history.Event.{Event}
use Rattle.run_model.specs.Actions.{begun, is_begun, is_committed, names_begun, step_commits}
use Rattle.run_model.specs.Openings.{Opening}
use Rattle.run_model.specs.Runs.{IsRun}
use Rattle.script_model.specs.declared.checked.Client.{Client}
use Rattle.locked_run.specs.Closing.{beginnings}
use Rattle.activities.specs.declared.client.ClientEnd.{ClientEnd}
use Rattle.activities.specs.declared.client.ClientEnd.TheVariants.{Aborted, Committed}
use Rattle.activities.specs.Ends.{IsEnd, top_of}
use Rattle.activities.proofs.Going.{alone}
use Rattle.activities.proofs.Making.{committed_older, committed_parts}
use Rattle.client_threads.specs.Clients.{AllDid, BeganTop, CameBy, ClientDid, top_event}
use Rattle.runtime.specs.Receipts.{event_of, events_of}

-- ---- what receipts began and committed

-- how often events began an action
abbrev once_if : Bool → ℕ
once_if b = cond b 1 0

abbrev begun_by : Name → List Event → ℕ
begun_by a [] = 0
begun_by a (e ∷ events) = once_if (has_name (names_begun e.answer) a) + begun_by a events

begun_by-append : (a : Name) (l k : List Event) → begun_by a (l ++ k) ≡ begun_by a l + begun_by a k
begun_by-append a [] k = omega arith
begun_by-append a (e ∷ l) k = omega (arith, begun_by-append a l k)

-- how often the events of receipts did
abbrev begun_in : Name → List (List Event) → ℕ
begun_in a receipts = sum_by (λ r. begun_by a (event_of r)) receipts

abbrev commits_in : Name → List Event → Bool
commits_in a receipt = is_committed a (event_of receipt)

begun_in-is : (a : Name) (receipts : List (List Event)) → begun_in a receipts ≡ begun_by a (events_of receipts)
begun_in-is a [] = refl
begun_in-is a (r ∷ receipts) =
    let one : begun_in a (r ∷ []) ≡ begun_by a (event_of r) = omega arith in
    let parts = sum_by-append (λ (s : List Event). begun_by a (event_of s)) (r ∷ []) receipts in
    let rest = begun_in-is a receipts in
    let both = begun_by-append a (events_of receipts) (event_of r) in
    omega (arith, parts, rest, both, one)

-- what was begun was begun once at least
some_begun : (a : Name) (events : List Event) → IsTrue (is_begun a events) → 1 ≤ begun_by a events
some_begun a [] h = absurd (false≢true h)
some_begun a (e ∷ events) h = elim (or_cases (has_name (names_begun e.answer) a) (has_name (begun events) a) (sym (has_name_append (names_begun e.answer) (begun events) a) ∙ h)) [
  | inl n ↦ (let one : once_if (has_name (names_begun e.answer) a) ≡ 1 = ap once_if n in omega (arith, one))
  | inr k ↦ (let i = some_begun a events k in omega (arith, i))
]

neither : (b c : Bool) → (b || c) ≡ false → (b ≡ false) × (c ≡ false)
neither true c h = absurd (false≢true (sym h))
neither false c h = (refl, h)

none_begun : (a : Name) (events : List Event) → is_begun a events ≡ false → begun_by a events ≡ 0
none_begun a [] h = refl
none_begun a (e ∷ events) h =
    let whole : (has_name (names_begun e.answer) a || has_name (begun events) a) ≡ false = sym (has_name_append (names_begun e.answer) (begun events) a) ∙ h in
    let parts = neither _ _ whole in
    let one : once_if (has_name (names_begun e.answer) a) ≡ 0 = ap once_if parts.0 in
    let rest = none_begun a events parts.1 in omega (arith, one, rest)

-- a run begins an action once at most
begun_once_at_most : (opening : Opening) (past : List Event) (a : Name) → IsRun opening past → begun_by a past ≤ 1
begun_once_at_most opening [] a run = omega arith
begun_once_at_most opening (e ∷ past) a run = one_more (has_name (names_begun e.answer) a) (is_begun a past) (begun_by a past) (begun_once_at_most opening past a run.2)
    (λ b. begun_once opening e past a run b) (none_begun a past)
  where
    one_more : (b c : Bool) (n : ℕ) → n ≤ 1 → (c ≡ true → b ≡ false) → (c ≡ false → n ≡ 0) → once_if b + n ≤ 1
    one_more true true n h new none = absurd (false≢true (sym (new refl)))
    one_more true false n h new none = let z = none refl in omega (arith, z)
    one_more false c n h new none = omega (arith, h)

-- the receipts of a run
begun_in-run : (a : Name) (past : List Event) → begun_in a (beginnings past) ≡ begun_by a past
begun_in-run a [] = refl
begun_in-run a (e ∷ past) =
    let one : begun_in a ((e ∷ past) ∷ []) ≡ once_if (has_name (names_begun e.answer) a) = omega arith in
    let parts = sum_by-append (λ (s : List Event). begun_by a (event_of s)) ((e ∷ past) ∷ []) (beginnings past) in
    let rest = begun_in-run a past in omega (arith, parts, rest, one)

committed_in-run : (a : Name) (past : List Event) → list_any (commits_in a) (beginnings past) ≡ is_committed a past
committed_in-run a [] = refl
committed_in-run a (e ∷ past) = either (step_commits e.step a) (list_any (commits_in a) (beginnings past)) (is_committed a past) (committed_in-run a past)
  where
    either : (b c d : Bool) → c ≡ d → ((b || false) || c) ≡ (b || d)
    either true c d h = refl
    either false c d h = h

-- receipts by their events
some_commits : (a : Name) (receipts : List (List Event)) → IsTrue (is_committed a (events_of receipts)) → IsTrue (list_any (commits_in a) receipts)
some_commits a [] h = absurd (false≢true h)
some_commits a (r ∷ receipts) h = elim (committed_parts a (events_of receipts) (event_of r) h) [
  | inl k ↦ or_right (commits_in a r) _ (some_commits a receipts k)
  | inr k ↦ or_left (commits_in a r) _ k
]

committed_newer : (a : Name) (l k : List Event) → IsTrue (is_committed a l) → IsTrue (is_committed a (l ++ k))
committed_newer a [] k h = absurd (false≢true h)
committed_newer a (e ∷ l) k h = elim (or_cases (step_commits e.step a) (is_committed a l) h) [
  | inl c ↦ or_left (step_commits e.step a) (is_committed a (l ++ k)) c
  | inr c ↦ or_right (step_commits e.step a) (is_committed a (l ++ k)) (committed_newer a l k c)
]

commits_some : (a : Name) (receipts : List (List Event)) → IsTrue (list_any (commits_in a) receipts) → IsTrue (is_committed a (events_of receipts))
commits_some a [] h = absurd (false≢true h)
commits_some a (r ∷ receipts) h = elim (or_cases (commits_in a r) (list_any (commits_in a) receipts) h) [
  | inl k ↦ committed_older a (events_of receipts) (event_of r) k
  | inr k ↦ committed_newer a (events_of receipts) (event_of r) (commits_some a receipts k)
]

-- ---- clients

-- who commits an action has begun it
abbrev Knows : List (List Event) → Type 0
Knows receipts = (a : Name) → IsTrue (list_any (commits_in a) receipts) → 1 ≤ begun_in a receipts

top_begins : (home : ℕ) (a : Name) → begun_by a (top_event home a ∷ []) ≡ 1
top_begins home a = ap (λ b. once_if b + 0) (or_left (same_name a a) false (same_name_self a))

began_top : (home : ℕ) (a : Name) (end : ClientEnd) (events : List Event) → BeganTop home a end events → 1 ≤ begun_by a events
began_top home a end events b =
    let parts : begun_by a events ≡ begun_by a b.later + begun_by a (top_event home a ∷ []) = ap (begun_by a) b.events_are ∙ begun_by-append a b.later (top_event home a ∷ []) in
    omega (arith, parts, top_begins home a)

came_knows : (home : ℕ) (top : Option Name) (end : ClientEnd) (events : List Event) → CameBy home top end events → (a : Name) → IsTrue (is_committed a events) → 1 ≤ begun_by a events
came_knows home None end events came a h = absurd (false≢true (ap (is_committed a) (sym came) ∙ h))
came_knows home (Some t) end events came a h = elim (committed_parts a came.later (top_event home t ∷ []) (subst (λ l. IsTrue (is_committed a l)) came.events_are h)) [
  | inl c ↦ elim (came.commits a c) [
    | inl k ↦ subst (λ n. 1 ≤ begun_by n events) (alone t a k) (began_top home t end events came)
    | inr k ↦ (let s = some_begun a came.later k in let parts : begun_by a events ≡ begun_by a came.later + begun_by a (top_event home t ∷ []) = ap (begun_by a) came.events_are ∙ begun_by-append a came.later (top_event home t ∷ []) in
        omega (arith, s, parts))
  ]
  | inr c ↦ absurd (false≢true c)
]

did_knows : (home : ℕ) (end : ClientEnd) (own : List (List Event)) → ClientDid home end (events_of own) → Knows own
did_knows home end own did a h =
    let k = came_knows home (top_of end) end (events_of own) did a (commits_some a own h) in omega (arith, k, begun_in-is a own)

both_know : (xs ys : List (List Event)) → Knows xs → Knows ys → Knows (xs ++ ys)
both_know xs ys f g a h =
    let parts = sum_by-append (λ (s : List Event). begun_by a (event_of s)) xs ys in
    elim (or_cases (list_any (commits_in a) xs) (list_any (commits_in a) ys) (sym (list_any-append (commits_in a) xs ys) ∙ h)) [
      | inl k ↦ (let i = f a k in omega (arith, i, parts))
      | inr k ↦ (let i = g a k in omega (arith, i, parts))
    ]

all_know : (clients : List Client) (ends : List ClientEnd) (receipts : List (List Event)) → AllDid clients ends receipts → Knows receipts
all_know [] ends receipts did a h = absurd (false≢true (ap (list_any (commits_in a)) (sym did.1) ∙ h))
all_know (c ∷ clients) [] receipts did a h = absurd did
all_know (c ∷ clients) (end ∷ ends) receipts did a h =
    subst Knows (sym did.2) (both_know did.0 did.1 (did_knows c.home end did.0 did.3) (all_know clients ends did.1 did.4)) a h

-- an action that has committed by its own events alone began twice, if its client says that it has aborted
twice : (home : ℕ) (a : Name) (own : List (List Event)) → ClientDid home (Aborted (Some a)) (events_of own) → IsTrue (list_any (commits_in a) own) → 2 ≤ begun_in a own
twice home a own did h = elim (committed_parts a did.later (top_event home a ∷ []) (subst (λ l. IsTrue (is_committed a l)) did.events_are (commits_some a own h))) [
  | inl c ↦ elim (did.told a c) [
    | inl k ↦ absurd (false≢true k)
    | inr k ↦ (let s = some_begun a did.later k in
        let parts : begun_by a (events_of own) ≡ begun_by a did.later + begun_by a (top_event home a ∷ []) = ap (begun_by a) did.events_are ∙ begun_by-append a did.later (top_event home a ∷ []) in
        omega (arith, s, parts, top_begins home a, begun_in-is a own))
  ]
  | inr c ↦ absurd (false≢true c)
]

module _ (opening : Opening) (past : List Event) (run : IsRun opening past) where
  -- what all receipts committed is so of the run
  in_run : (a : Name) (receipts : List (List Event)) → IsPermutation receipts (beginnings past) → is_committed a past ≡ list_any (commits_in a) receipts
  in_run a receipts all = sym (committed_in-run a past) ∙ sym (list_any-IsPermutation (commits_in a) receipts (beginnings past) all)

  once_in : (a : Name) (receipts : List (List Event)) → IsPermutation receipts (beginnings past) → begun_in a receipts ≤ 1
  once_in a receipts all =
      let same : begun_in a (beginnings past) ≡ begun_in a receipts = sum_by-IsPermutation (λ (s : List Event). begun_by a (event_of s)) receipts (beginnings past) all in
      let most = begun_once_at_most opening past a run in
      omega (arith, same, begun_in-run a past, most)

  -- the end of a client whose receipts stand among those of the others
  one_end : (home : ℕ) (end : ClientEnd) (front own others : List (List Event)) → Knows front → Knows others → ClientDid home end (events_of own)
      → IsPermutation (front ++ (own ++ others)) (beginnings past) → IsEnd past end
  one_end home (Committed a value) front own others f g did all =
      let mine : IsTrue (list_any (commits_in a) own) = some_commits a own
      (subst (λ l. IsTrue (is_committed a l)) (sym did.events_are) (committed_newer a did.later (top_event home a ∷ []) did.told)) in
      in_run a (front ++ (own ++ others)) all ∙ list_any-append (commits_in a) front (own ++ others)
      ∙ or_right (list_any (commits_in a) front) _ (list_any-append (commits_in a) own others ∙ or_left _ (list_any (commits_in a) others) mine)
  one_end home (Aborted None) front own others f g did all = tt
  one_end home (Aborted (Some a)) front own others f g did all = false_from_ne_true _ (λ h. none (sym (in_run a (front ++ (own ++ others)) all) ∙ h))
    where
      sums : begun_in a (front ++ (own ++ others)) ≡ begun_in a front + (begun_in a own + begun_in a others)
      sums =
          let s = sum_by-append (λ (r : List Event). begun_by a (event_of r)) front (own ++ others) in
          let t = sum_by-append (λ (r : List Event). begun_by a (event_of r)) own others in
          omega (arith, s, t)

      top : 1 ≤ begun_in a own
      top = let t = began_top home a (Aborted (Some a)) (events_of own) did in omega (arith, t, begun_in-is a own)

      most : begun_in a (front ++ (own ++ others)) ≤ 1
      most = once_in a (front ++ (own ++ others)) all

      none : IsTrue (list_any (commits_in a) (front ++ (own ++ others))) → ⊥
      none h = elim (or_cases (list_any (commits_in a) front) (list_any (commits_in a) (own ++ others)) (sym (list_any-append (commits_in a) front (own ++ others)) ∙ h)) [
        | inl k ↦ (let i = f a k in omega (arith, i, top, most, sums))
        | inr k ↦ elim (or_cases (list_any (commits_in a) own) (list_any (commits_in a) others) (sym (list_any-append (commits_in a) own others) ∙ k)) [
          | inl m ↦ (let i = twice home a own did m in omega (arith, i, most, sums))
          | inr m ↦ (let i = g a m in omega (arith, i, top, most, sums))
        ]
      ]

  all_ends : (front : List (List Event)) (clients : List Client) (ends : List ClientEnd) (receipts : List (List Event)) → Knows front → AllDid clients ends receipts
      → IsPermutation (front ++ receipts) (beginnings past) → AllByRecursion (IsEnd past) ends
  all_ends front [] ends receipts f did all = subst (AllByRecursion (IsEnd past)) (sym did.0) tt
  all_ends front (c ∷ clients) [] receipts f did all = absurd did
  all_ends front (c ∷ clients) (end ∷ ends) receipts f did all =
      let own = did.0 in
      let others = did.1 in
      let these : IsPermutation (front ++ (own ++ others)) (beginnings past) = subst (λ l. IsPermutation (front ++ l) (beginnings past)) did.2 all in
      let next : IsPermutation ((front ++ own) ++ others) (beginnings past) = subst (λ l. IsPermutation l (beginnings past)) (sym (append_assoc front own others)) these in (
        one_end c.home end front own others f (all_know clients ends others did.4) did.3 these,
        all_ends (front ++ own) clients ends others (both_know front own f (did_knows c.home end own did.3)) did.4 next,
      )

pub ends_so : (opening : Opening) (past : List Event) (clients : List Client) (ends : List ClientEnd) (receipts : List (List Event))
    → IsRun opening past → AllDid clients ends receipts → IsPermutation receipts (beginnings past) → AllByRecursion (IsEnd past) ends
ends_so opening past clients ends receipts run did all = all_ends opening past run [] clients ends receipts (λ a h. absurd (false≢true h)) did all
