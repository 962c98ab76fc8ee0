-- The steps of one activity, and how they compose.
use Rattle.std.proofs.Common.{inl, inr, Bool, Bor, Err, IfOk, IsTrue, List, Ok, OnErr, Result, [], ap, append_assoc, false, map, refl, reverse, subst, sym, true, ◌++◌, ◌∙◌, ◌∷◌, ◌≡◌, ◌⊎◌}
use Rattle.std.proofs.lemmas.Bool.{false≢true, or_cases, or_left, or_right}
use Rattle.std.proofs.lemmas.List.{map-append}
use Rattle.action_names.specs.Names.{Name, has_name, same_name}
use Rattle.run_model.specs.declared.answer.Answer.{Answer}
use Rattle.run_model.specs.declared.answer.Answer.TheVariants.{Began, Done, Granted, Refused, VoteNo, VoteYes, Waits}
use Rattle.run_model.specs.declared.history.Event.{Event}
use Rattle.run_model.specs.declared.step.Step.{Step}
use Rattle.run_model.specs.declared.step.Step.TheVariants.{Commit, Decide}
use Rattle.run_model.specs.Actions.{begun, is_begun, is_committed, names_begun, step_commits}
use Rattle.run_model.specs.Answers.{answer_of}
use Rattle.run_model.specs.Openings.{Opening, opening_in}
use Rattle.run_model.specs.Runs.{World, is_accepted, world_after}
use Rattle.run_laws.proofs.Names.{has_name_append, same_name_self}
use Rattle.activities.specs.Making.{AreOwn, Begins, IsAnswered, IsKnown, Makes, Tells, commits_of}
use Rattle.activities.specs.OwnSteps.{IsOfAction, about}
use Rattle.activities.specs.Reaching.{is_made}
use Rattle.activities.proofs.ArmNames.{has_reverse}
use Rattle.activities.proofs.Going.{alone}
use Rattle.activities.proofs.Steps.{commit_answers}

-- ---- what events began and committed

-- the newer of two lists of events, and the older
begun_newer : (a : Name) (l k : List Event) → IsTrue (is_begun a l) → IsTrue (is_begun a (l ++ k))
begun_newer a [] k h = absurd (false≢true h)
begun_newer a (e ∷ l) k h = elim (or_cases (has_name (names_begun e.answer) a) (has_name (begun l) a) (sym (has_name_append (names_begun e.answer) (begun l) a) ∙ h)) [
  | inl n ↦ has_name_append (names_begun e.answer) (begun (l ++ k)) a ∙ or_left (has_name (names_begun e.answer) a) (has_name (begun (l ++ k)) a) n
  | inr b ↦ has_name_append (names_begun e.answer) (begun (l ++ k)) a ∙ or_right (has_name (names_begun e.answer) a) (has_name (begun (l ++ k)) a) (begun_newer a l k b)
]

pub begun_older : (a : Name) (l k : List Event) → IsTrue (is_begun a k) → IsTrue (is_begun a (l ++ k))
begun_older a [] k h = h
begun_older a (e ∷ l) k h =
    has_name_append (names_begun e.answer) (begun (l ++ k)) a ∙ or_right (has_name (names_begun e.answer) a) (has_name (begun (l ++ k)) a) (begun_older a l k h)

pub begun_parts : (a : Name) (l k : List Event) → IsTrue (is_begun a (l ++ k)) → IsTrue (is_begun a l) ⊎ IsTrue (is_begun a k)
begun_parts a [] k h = inr h
begun_parts a (e ∷ l) k h = elim (or_cases (has_name (names_begun e.answer) a) (has_name (begun (l ++ k)) a) (sym (has_name_append (names_begun e.answer) (begun (l ++ k)) a) ∙ h)) [
  | inl n ↦ inl (has_name_append (names_begun e.answer) (begun l) a ∙ or_left (has_name (names_begun e.answer) a) (has_name (begun l) a) n)
  | inr b ↦ elim (begun_parts a l k b) [
    | inl d ↦ inl (has_name_append (names_begun e.answer) (begun l) a ∙ or_right (has_name (names_begun e.answer) a) (has_name (begun l) a) d)
    | inr d ↦ inr d
  ]
]

pub committed_parts : (a : Name) (l k : List Event) → IsTrue (is_committed a (l ++ k)) → IsTrue (is_committed a l) ⊎ IsTrue (is_committed a k)
committed_parts a [] k h = inr h
committed_parts a (e ∷ l) k h = elim (or_cases (step_commits e.step a) (is_committed a (l ++ k)) h) [
  | inl c ↦ inl (or_left (step_commits e.step a) (is_committed a l) c)
  | inr c ↦ elim (committed_parts a l k c) [ inl d ↦ inl (or_right (step_commits e.step a) (is_committed a l) d) | inr d ↦ inr d ]
]

pub committed_older : (a : Name) (l k : List Event) → IsTrue (is_committed a k) → IsTrue (is_committed a (l ++ k))
committed_older a [] k h = h
committed_older a (e ∷ l) k h = or_right (step_commits e.step a) (is_committed a (l ++ k)) (committed_older a l k h)

-- ---- known actions

module _ (names more : List Name) (known : (a : Name) → IsTrue (has_name names a) → IsTrue (has_name more a)) where
  known_more : (events : List Event) (a : Name) → IsKnown names events a → IsKnown more events a
  known_more events a h = elim h [ inl n ↦ inl (known a n) | inr b ↦ inr b ]

  own_more : (events : List Event) → AreOwn names events → AreOwn more events
  own_more [] h = tt
  own_more (e ∷ before) h = ((h.0.0, λ a t. known_more before a (h.0.1 a t)), own_more before h.1)

-- what is known after older events that knew this much
module _ (names more : List Name) (k : List Event) (known : (a : Name) → IsTrue (has_name more a) → IsKnown names k a) where
  pub known_on : (l : List Event) (a : Name) → IsKnown more l a → IsKnown names (l ++ k) a
  known_on l a h = elim h [
    | inl n ↦ elim (known a n) [ inl m ↦ inl m | inr b ↦ inr (begun_older a l k b) ]
    | inr b ↦ inr (begun_newer a l k b)
  ]

  own_on : (l : List Event) → AreOwn more l → AreOwn names k → AreOwn names (l ++ k)
  own_on [] h o = o
  own_on (e ∷ l) h o = ((h.0.0, λ a t. known_on l a (h.0.1 a t)), own_on l h.1 o)

-- ---- worlds

pub makes_nowhere : (actors committing : List Name) (w : World) → Makes actors committing w w
makes_nowhere actors committing w = record {
  same_opening = refl;
  later = [];
  past = refl;
  own = tt;
  commits = λ a h. absurd (false≢true h);
}

pub same_makes : (actors committing : List Name) (x y : World) → y ≡ x → Makes actors committing x y
same_makes actors committing x y e = subst (λ w. Makes actors committing x w) (sym e) (makes_nowhere actors committing x)

-- first by these actors, and then by others that are theirs or began meanwhile; so with what is committed
pub makes_on : (actors others committing more all : List Name) (x y z : World) (m : Makes actors committing x y)
    → ((a : Name) → IsTrue (has_name others a) → IsKnown actors m.later a)
    → ((a : Name) → IsTrue (has_name committing a) → IsTrue (has_name all a))
    → ((a : Name) → IsTrue (has_name more a) → IsKnown all m.later a)
    → Makes others more y z → Makes actors all x z
makes_on actors others committing more all x y z m f g h n = record {
  same_opening = n.same_opening ∙ m.same_opening;
  later = n.later ++ m.later;
  past = n.past ∙ ap (λ l. n.later ++ l) m.past ∙ sym (append_assoc n.later m.later x.past);
  own = own_on actors others m.later f n.later n.own m.own;
  commits = λ a c. elim (committed_parts a n.later m.later c) [
    | inl d ↦ known_on all more m.later h n.later a (n.commits a d)
    | inr d ↦ elim (known_more committing all g m.later a (m.commits a d)) [ inl t ↦ inl t | inr b ↦ inr (begun_older a n.later m.later b) ]
  ];
}

pub makes_through : (actors committing : List Name) (x y z : World) → Makes actors committing x y → Makes actors committing y z
    → Makes actors committing x z
makes_through actors committing x y z m n =
    makes_on actors actors committing committing committing x y z m (λ a h. inl h) (λ a h. h) (λ a h. inl h) n

-- among some is among more
pub makes_more : (actors actors' committing more : List Name) (x y : World)
    → ((a : Name) → IsTrue (has_name actors a) → IsTrue (has_name actors' a))
    → ((a : Name) → IsTrue (has_name committing a) → IsTrue (has_name more a)) → Makes actors committing x y → Makes actors' more x y
makes_more actors actors' committing more x y f g m = record {
  same_opening = m.same_opening;
  later = m.later;
  past = m.past;
  own = own_more actors actors' f m.later m.own;
  commits = λ a c. known_more committing more g m.later a (m.commits a c);
}

none_of : (names : List Name) (a : Name) → IsTrue (has_name [] a) → IsTrue (has_name names a)
none_of names a h = absurd (false≢true h)

-- what commits nothing is no less than what may commit some
pub makes_quietly : (actors committing : List Name) (x y : World) → Makes actors [] x y → Makes actors committing x y
makes_quietly actors committing x y = makes_more actors actors [] committing x y (λ a h. h) (none_of committing)

-- ---- one action

-- an action by another name for it
pub makes_named : (a b : Name) (committing : List Name) (x y : World) → b ≡ a → Makes (b ∷ []) committing x y → Makes (a ∷ []) committing x y
makes_named a b committing x y e m = subst (λ n. Makes (n ∷ []) committing x y) e m

-- quietly, and quietly on
pub then_makes : (a b : Name) (x y z : World) → b ≡ a → Makes (a ∷ []) [] x y → Makes (b ∷ []) [] y z → Makes (a ∷ []) [] x z
then_makes a b x y z e m n = makes_through (a ∷ []) [] x y z m (makes_named a b [] y z e n)

-- quietly, and then so that it may commit
pub then_ends : (a b : Name) (x y z : World) → b ≡ a → Makes (a ∷ []) [] x y → Makes (b ∷ []) (b ∷ []) y z → Makes (a ∷ []) (a ∷ []) x z
then_ends a b x y z e m n =
    makes_through (a ∷ []) (a ∷ []) x y z (makes_quietly (a ∷ []) (a ∷ []) x y m)
    (subst (λ n. Makes (n ∷ []) (n ∷ []) y z) e n)

-- so that it may have committed, and then quietly
pub ends_then : (a : Name) (x y z : World) → Makes (a ∷ []) (a ∷ []) x y → Makes (a ∷ []) [] y z → Makes (a ∷ []) (a ∷ []) x z
ends_then a x y z m n = makes_through (a ∷ []) (a ∷ []) x y z m (makes_quietly (a ∷ []) (a ∷ []) y z n)

-- ---- actions that were begun

-- actions that were begun together and ran
pub fresh_makes : (names actors : List Name) (x y z : World) → Begins actors [] names x y → Makes names names y z → Makes actors [] x z
fresh_makes names actors x y z b n =
    makes_on actors names [] names [] x y z b.makes (λ a h. inr (b.begun a h)) (λ a h. h) (λ a h. inr (b.begun a h)) n

-- an action that was begun alone and ran
pub child_makes : (n : Name) (actors : List Name) (x y z : World) → Begins actors [] (n ∷ []) x y → Makes (n ∷ []) (n ∷ []) y z
    → Makes actors [] x z
child_makes n = fresh_makes (n ∷ [])

-- ---- one step

commits_it : (step : Step) (a : Name) → step_commits step a ≡ true → IsTrue (has_name (commits_of step) a)
commits_it (Commit b) a h = or_left (same_name b a) false h
commits_it (Decide b) a h = or_left (same_name b a) false h
commits_it _ a h = absurd (false≢true h)

-- a step that is about an action
pub step_begins : (old : World) (step : Step) (answer : Answer) → IsOfAction step
    → Begins (about step) (commits_of step) (names_begun answer) old (world_after old step answer)
unfolding makes_nowhere
step_begins old step answer of = go answer
  where
    e : Answer → Event
    e answer = record { step = step; answer = answer }

    made : (answer : Answer) → Makes (about step) (commits_of step) old (record { lists = old.lists; past = e answer ∷ old.past })
    made answer = record {
      same_opening = refl;
      later = e answer ∷ [];
      past = refl;
      own = ((of, λ a h. inl h), tt);
      commits = λ a c. elim (or_cases (step_commits step a) false c) [ inl k ↦ inl (commits_it step a k) | inr k ↦ absurd (false≢true k) ];
    }

    one : (answer : Answer) → Begins (about step) (commits_of step) (names_begun answer) old (record { lists = old.lists; past = e answer ∷ old.past })
    one answer = record {
      makes = made answer;
      begun = λ a h. has_name_append (names_begun answer) [] a ∙ or_left (has_name (names_begun answer) a) false h;
      only = λ a h. elim (or_cases (has_name (names_begun answer) a) false (sym (has_name_append (names_begun answer) [] a) ∙ h)) [
        | inl n ↦ n
        | inr f ↦ absurd (false≢true f)
      ];
    }

    nothing : Begins (about step) (commits_of step) [] old old
    nothing = record {
      makes = makes_nowhere (about step) (commits_of step) old;
      begun = λ a h. absurd (false≢true h);
      only = λ a h. absurd (false≢true h);
    }

    go : (answer : Answer) → Begins (about step) (commits_of step) (names_begun answer) old (world_after old step answer)
    go (Waits names) = nothing
    go (Refused why) = nothing
    go (Began names) = one (Began names)
    go (Granted reply) = one (Granted reply)
    go VoteYes = one VoteYes
    go VoteNo = one VoteNo
    go (Done n) = one (Done n)

-- so it makes
pub step_makes : (old : World) (step : Step) (answer : Answer) → IsOfAction step
    → Makes (about step) (commits_of step) old (world_after old step answer)
step_makes old step answer of = (step_begins old step answer of).makes

-- the same where the step may have failed
pub result_makes : {E : Type 0} (old new : World) (step : Step) (result : Result Answer E) → IsOfAction step
    → IfOk result (λ answer. new ≡ world_after old step answer) → OnErr result (new ≡ old) → Makes (about step) (commits_of step) old new
result_makes old new step (Ok answer) of after err =
    subst (λ w. Makes (about step) (commits_of step) old w) (sym after) (step_makes old step answer of)
result_makes old new step (Err fault) of after err = same_makes (about step) (commits_of step) old new err

pub result_begins : {E : Type 0} (old new : World) (step : Step) (result : Result Answer E) → IsOfAction step
    → IfOk result (λ answer. new ≡ world_after old step answer)
    → IfOk result (λ answer. Begins (about step) (commits_of step) (names_begun answer) old new)
result_begins old new step (Ok answer) of after =
    subst (λ w. Begins (about step) (commits_of step) (names_begun answer) old w) (sym after) (step_begins old step answer of)
result_begins old new step (Err fault) of after = tt

-- ---- what is told of an action's end

-- what was told stays so after steps that commit nothing
pub tells_then : (told : Bool) (a : Name) (x y z : World) → Tells told a x y → Makes (a ∷ []) [] y z → Tells told a x z
tells_then true a x y z t m = subst (λ l. IsTrue (is_committed a l)) (sym m.past) (committed_older a m.later y.past t)
tells_then false a x y z t m = makes_through (a ∷ []) [] x y z t m

-- what is told after steps that commit nothing
pub then_tells : (told : Bool) (a b : Name) (x y z : World) → b ≡ a → Makes (a ∷ []) [] x y → Tells told b y z → Tells told a x z
then_tells true a b x y z e m t = subst (λ n. IsTrue (is_committed n z.past)) e t
then_tells false a b x y z e m t = then_makes a b x y z e m t

-- of an action by another name for it
pub tells_named : (told : Bool) (a b : Name) (x y : World) → b ≡ a → Tells told b x y → Tells told a x y
tells_named told a b x y e t = subst (λ n. Tells told n x y) e t

-- nothing but what began has committed
pub told_nothing : (a : Name) (x y : World) → Makes (a ∷ []) [] x y → Tells false a x y
told_nothing a x y m = m

commits_step : (step : Step) (a : Name) → commits_of step ≡ a ∷ [] → step_commits step a ≡ true
commits_step (Commit b) a c = let e : b ≡ a = cc in subst (λ n. same_name b n ≡ true) e (same_name_self b)
commits_step (Decide b) a c = let e : b ≡ a = cc in subst (λ n. same_name b n ≡ true) e (same_name_self b)
commits_step _ a c = cc

-- a step that commits the action was done, or nothing has happened
pub step_tells : (a : Name) (old : World) (step : Step) (answer : Answer) (opening : Opening) (past : List Event) → commits_of step ≡ a ∷ []
    → answer ≡ answer_of opening step past → Tells (is_made answer) a old (world_after old step answer)
step_tells a old step answer opening past c h = go answer (subst Answered (sym h) (commit_answers opening step past a (commits_step step a c)))
  where
    Answered : Answer → Type 0
    Answered answer = (answer ≡ Done 0) ⊎ (is_accepted answer ≡ false)

    go : (answer : Answer) → Answered answer → Tells (is_made answer) a old (world_after old step answer)
    go (Done n) r = or_left (step_commits step a) (is_committed a old.past) (commits_step step a c)
    go (Refused n) r = makes_nowhere (a ∷ []) [] old
    go (Waits names) r = makes_nowhere (a ∷ []) [] old
    go (Began names) r = elim r [ inl e ↦ cc | inr e ↦ cc ]
    go (Granted reply) r = elim r [ inl e ↦ cc | inr e ↦ cc ]
    go VoteYes r = elim r [ inl e ↦ cc | inr e ↦ cc ]
    go VoteNo r = elim r [ inl e ↦ cc | inr e ↦ cc ]

pub result_tells : (a : Name) (old new : World) (step : Step) (done : Bool) (answer : Answer)
    → commits_of step ≡ a ∷ [] → IsAnswered old.lists step answer → new ≡ world_after old step answer → done ≡ is_made answer
    → Tells done a old new
result_tells a old new step done answer c h w d =
    subst (λ b. Tells b a old new) (sym d)
    (subst (λ v. Tells (is_made answer) a old v) (sym w)
    (step_tells a old step answer (opening_in old.lists) h.past c h.answered))

-- ---- actions by other names

-- the actions that were begun, by another list of them
pub begins_named : (a b : Name) (names more : List Name) (x y : World) → b ≡ a → names ≡ more → Begins (b ∷ []) [] names x y
    → Begins (a ∷ []) [] more x y
begins_named a b names more x y e n m =
    subst (λ l. Begins (a ∷ []) [] l x y) n (subst (λ c. Begins (c ∷ []) [] names x y) e m)

pub ends_named : (a b : Name) (x y : World) → b ≡ a → Makes (b ∷ []) (b ∷ []) x y → Makes (a ∷ []) (a ∷ []) x y
ends_named a b x y e m = subst (λ n. Makes (n ∷ []) (n ∷ []) x y) e m

-- ---- arms

-- these of a list, and then the next
pub these_make : (arms : List (Bor Name)) (arm : Bor Name) (x y z : World) → Makes (map (λ b. b.now) arms) [] x y
    → Makes (arm.now ∷ []) [] y z → Makes (map (λ b. b.now) (arms ++ (arm ∷ []))) [] x z
these_make arms arm x y z m n =
    let first : List Name = map (λ b. b.now) arms in
    let last : List Name = arm.now ∷ [] in
    subst (λ names. Makes names [] x z) (sym (map-append (λ b. b.now) arms (arm ∷ [])))
    (makes_through (first ++ last) [] x y z
    (makes_more first (first ++ last) [] [] x y (λ a h. has_name_append first last a ∙ or_left (has_name first a) (has_name last a) h) (λ a h. h) m)
    (makes_more last (first ++ last) [] [] y z (λ a h. has_name_append first last a ∙ or_right (has_name first a) (has_name last a) h) (λ a h. h) n))

-- a list turned round
pub makes_reversed : (names turned : List Name) (x y : World) → turned ≡ reverse names → Makes turned [] x y → Makes names [] x y
makes_reversed names turned x y e m =
    makes_more turned names [] [] x y (λ a h. sym (has_reverse names a) ∙ ap (λ l. has_name l a) (sym e) ∙ h) (λ a h. h) m

-- one of the names that wait
pub one_makes : (a : Name) (names : List Name) (x y z : World) → IsTrue (has_name names a) → Makes names names x y → Makes (a ∷ []) (a ∷ []) y z
    → Makes names names x z
one_makes a names x y z h m n = makes_through names names x y z m (makes_more (a ∷ []) names (a ∷ []) names y z of of n)
  where
    of : (c : Name) → IsTrue (has_name (a ∷ []) c) → IsTrue (has_name names c)
    of c t = subst (λ b. IsTrue (has_name names b)) (alone a c t) h

-- the same where nothing commits
pub one_quietly : (a : Name) (names : List Name) (x y z : World) → IsTrue (has_name names a) → Makes names [] x y → Makes (a ∷ []) [] y z → Makes names [] x z
one_quietly a names x y z h m n = makes_through names [] x y z m (makes_more (a ∷ []) names [] [] y z of (λ c t. t) n)
  where
    of : (c : Name) → IsTrue (has_name (a ∷ []) c) → IsTrue (has_name names c)
    of c t = subst (λ b. IsTrue (has_name names b)) (alone a c t) h

-- arms that were begun: some ran, and the others were aborted
pub arms_make : (names rest actors : List Name) (x y z w : World) → Begins actors [] names x y → Makes names names y z
    → ((a : Name) → IsTrue (has_name rest a) → IsTrue (has_name names a)) → Makes rest [] z w → Makes actors [] x w
arms_make names rest actors x y z w b m f n =
    fresh_makes names actors x y w b
    (makes_through names names y z w m (makes_more rest names [] names z w f (none_of names) n))

has_last : (rest : List Name) (a : Name) → IsTrue (has_name (rest ++ (a ∷ [])) a)
has_last rest a = has_name_append rest (a ∷ []) a ∙ or_right (has_name rest a) _ (or_left _ _ (same_name_self a))

has_earlier : (rest : List Name) (a c : Name) → IsTrue (has_name rest c) → IsTrue (has_name (rest ++ (a ∷ [])) c)
has_earlier rest a c h = has_name_append rest (a ∷ []) c ∙ or_left _ _ h

-- the last of the names that wait
module _ (names rest : List Name) (a : Name) (is : names ≡ rest ++ (a ∷ [])) where
  pub last_waits : IsTrue (has_name names a)
  last_waits = ap (λ l. has_name l a) is ∙ has_last rest a

  pub earlier_waits : (c : Name) → IsTrue (has_name rest c) → IsTrue (has_name names c)
  earlier_waits c h = ap (λ l. has_name l c) is ∙ has_earlier rest a c h

-- ---- results

-- what is so of what came, of what else is so
pub if_ok_each : {X E : Type 0} {P Q : X → Type 0} (r : Result X E) → IfOk r P → ((x : X) → P x → Q x) → IfOk r Q
if_ok_each (Ok x) p f = f x p
if_ok_each (Err e) p f = tt

-- what is so under a premise
pub if_ok_with : {X E A : Type 0} (P : X → Type 0) (r : Result X E) → (A → IfOk r P) → IfOk r (λ x. A → P x)
if_ok_with P (Ok x) f = f
if_ok_with P (Err e) f = tt

pub if_ok_at_all : {X E A : Type 0} (P : X → Type 0) (r : Result X E) → IfOk r (λ x. A → P x) → A → IfOk r P
if_ok_at_all P (Ok x) f a = f a
if_ok_at_all P (Err e) f a = tt

-- ---- rules

pub ruleset steps = (makes_through, then_makes, then_ends, ends_then, makes_quietly)

pub ruleset turns = (makes_through, makes_nowhere, then_makes)

pub ruleset children = (makes_through, makes_nowhere, then_makes, child_makes)

pub ruleset together = (makes_through, makes_nowhere, then_makes, arms_make)
