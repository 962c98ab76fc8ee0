-- What single steps leave of a world: what they begin, what they end, and what they commit.
use Rattle.std.proofs.Common.{ℕ, ◌⊎◌, Bool, IsTrue, List, None, Option, Some, [], ap, cond, false, inl, inr, length, not, refl, subst, sym, true, ◌++◌, ◌∙◌, ◌∷◌, ◌≡◌}
use Rattle.std.proofs.lemmas.Bool.{false_from_ne_true, false≢true, or_cases, or_left, or_right}
use Rattle.action_names.specs.Names.{Name, has_name}
use Rattle.atomic_types.specs.Operations as op
use Rattle.run_model.specs.declared.answer.Answer.{Answer}
use Rattle.run_model.specs.declared.answer.Answer.TheVariants.{Began, Done, Granted, Refused, VoteNo, VoteYes, Waits}
use Rattle.run_model.specs.declared.answer.Refusal.{Refusal}
use Rattle.run_model.specs.declared.answer.Refusal.TheVariants as why
use Rattle.run_model.specs.declared.history.Event.{Event}
use Rattle.run_model.specs.declared.step.ObjectId.{ObjectId}
use Rattle.run_model.specs.declared.step.Step.{Step}
use Rattle.run_model.specs.declared.step.Step.TheVariants.{Abort, Arms, Call, Commit, Decide, NestedTop, Op, Prepare, Top}
use Rattle.run_model.specs.Actions.{begun, is_begun, is_committed, is_ended, maker_in, names_begun, step_commits}
use Rattle.run_model.specs.Answers.{answer_of, granted_or_waits, outcome, refused_or}
use Rattle.run_model.specs.Keeping.{blockers}
use Rattle.run_model.specs.Refusals.{checks, first_refusal}
use Rattle.run_model.specs.Openings.{Opening, OpeningLists, opening_in}
use Rattle.run_model.specs.Runs.{IsRun, World, history_after, is_accepted, world_after}
use Rattle.run_model.specs.Votes.{may_prepare}
use Rattle.run_laws.proofs.Begun.{begun_cases, begun_once}
use Rattle.run_laws.proofs.Ended.{commits_begun, committed_begun}
use Rattle.run_laws.proofs.Names.{clash, has_name_append, same_name_self}
use Rattle.run_laws.proofs.Runs.{run_more}
use Rattle.activities.specs.Continuing.{EndsAll}
use Rattle.activities.specs.Serial.{after, asked}
use Rattle.activities.specs.OwnSteps.{IsOfAction}
use Rattle.activities.specs.Reaching.{is_made}

-- the action may go on: it was begun and has not been committed
pub record IsOpen (a : Name) (w : World) : Type 0 where
  pub begun : IsTrue (is_begun a w.past)
  pub uncommitted : is_committed a w.past ≡ false

-- these actions have just begun, and no others
pub record HaveBegun (names : List Name) (old new : World) : Type 0 where
  pub are_open : (a : Name) → IsTrue (has_name names a) → IsOpen a new
  pub before : (a : Name) → IsTrue (has_name names a) → is_begun a old.past ≡ false
  pub only : (a : Name) → IsTrue (is_begun a new.past) → is_begun a old.past ≡ false → IsTrue (has_name names a)

-- ---- what a step begins

-- a step by which no action makes anything, and which is no `top`, begins nothing
pub nothing_made : (opening : Opening) (step : Step) (past : List Event) → IsOfAction step → maker_in step ≡ None
    → names_begun (answer_of opening step past) ≡ []
unfolding answer_of
nothing_made opening step past n m = go (first_refusal (checks opening step past))
  where
    free : (x : ObjectId) (wanted : op.Op) (bs : List Name) → names_begun (granted_or_waits opening x wanted past bs) ≡ []
    free x wanted [] = refl
    free x wanted (b ∷ bs) = refl

    vote : (t : Bool) → names_begun (cond t VoteYes VoteNo) ≡ []
    vote true = refl
    vote false = refl

    of : (step : Step) → IsOfAction step → maker_in step ≡ None → names_begun (outcome opening step past) ≡ []
    of (Top g) n m = absurd n
    of (NestedTop a) n m = cc
    of (Call a g) n m = cc
    of (Arms a kinds) n m = cc
    of (Op a x wanted) n m = free x wanted (blockers a x wanted past)
    of (Prepare g t) n m = vote (may_prepare g t past)
    of _ n m = refl

    go : (o : Option Refusal) → names_begun (refused_or o (outcome opening step past)) ≡ []
    go (Some r) = refl
    go None = of step n m

-- where nothing is begun, each action that was begun since has ended: there is none
none_begun : (old : World) (step : Step) (answer : Answer) → names_begun answer ≡ [] → EndsAll old (world_after old step answer)
none_begun old step answer n a h k = absurd (clash (go (is_accepted answer) h) k)
  where
    go : (t : Bool) → is_begun a (cond t (record { step = step; answer = answer } ∷ old.past) old.past) ≡ true → is_begun a old.past ≡ true
    go true b = subst (λ names. has_name (names ++ begun old.past) a ≡ true) n b
    go false b = b

-- the same of such a step
pub ends_nothing : (w : World) (step : Step) → IsOfAction step → maker_in step ≡ None → EndsAll w (after step w)
ends_nothing w step n m = none_begun w step (asked step w) (nothing_made (opening_in w.lists) step w.past n m)

-- what begins nothing
begun_none : (names : List Name) (old : World) → names ≡ [] → HaveBegun names old old
begun_none names old n = record {
  are_open = λ a h. absurd (false≢true (ap (λ l. has_name l a) (sym n) ∙ h));
  before = λ a h. absurd (false≢true (ap (λ l. has_name l a) (sym n) ∙ h));
  only = λ a h k. absurd (clash h k);
}

-- what an accepted step answers that it began has just begun
just_begun : (lists : OpeningLists) (e : Event) (past : List Event) → IsRun (opening_in lists) (e ∷ past)
    → HaveBegun (names_begun e.answer) (record { lists = lists; past = past }) (record { lists = lists; past = e ∷ past })
just_begun lists e past r = record {
  are_open = λ a h. record {
    begun = has_name_append (names_begun e.answer) (begun past) a ∙ or_left _ _ h;
    uncommitted = false_from_ne_true _ (λ c. elim (or_cases _ _ c) [
      | inl k ↦ clash (commits_begun (opening_in lists) e past a r k) (new a h)
      | inr k ↦ clash (committed_begun (opening_in lists) past a r.2 k) (new a h)
    ]);
  };
  before = new;
  only = λ a h k. elim (begun_cases e past a h) [ inl b ↦ b | inr b ↦ absurd (clash b k) ];
}
  where
    new : (a : Name) → has_name (names_begun e.answer) a ≡ true → is_begun a past ≡ false
    new a h = false_from_ne_true _ (λ b. clash h (begun_once (opening_in lists) e past a r b))

-- what a step answers that it began has just begun
pub begins_names : (old : World) (step : Step) (answer : Answer) → IsRun (opening_in old.lists) old.past → answer ≡ answer_of (opening_in old.lists) step old.past
    → HaveBegun (names_begun answer) old (world_after old step answer)
begins_names old step answer r a = go answer run
  where
    run : IsRun (opening_in old.lists) (history_after step answer old.past)
    run = subst (λ b. IsRun (opening_in old.lists) (history_after step b old.past)) (sym a) (run_more (opening_in old.lists) step old.past r)

    go : (answer : Answer) → IsRun (opening_in old.lists) (history_after step answer old.past) → HaveBegun (names_begun answer) old (world_after old step answer)
    go (Waits names) r = begun_none [] old refl
    go (Refused n) r = begun_none [] old refl
    go (Began names) r = just_begun old.lists (record { step = step; answer = Began names }) old.past r
    go (Granted reply) r = just_begun old.lists (record { step = step; answer = Granted reply }) old.past r
    go VoteYes r = just_begun old.lists (record { step = step; answer = VoteYes }) old.past r
    go VoteNo r = just_begun old.lists (record { step = step; answer = VoteNo }) old.past r
    go (Done n) r = just_begun old.lists (record { step = step; answer = Done n }) old.past r

-- a call and a nested `top` begin one action
one_of : (o : Option Refusal) (a : Name) (names : List Name) → Began names ≡ refused_or o (Began (a ∷ [])) → length names ≡ 1
one_of None a names h = let e : names ≡ a ∷ [] = cc in ap length e
one_of (Some r) a names h = cc

pub call_begins_one : (opening : Opening) (a : Name) (g : ℕ) (past : List Event) (names : List Name) → Began names ≡ answer_of opening (Call a g) past
    → length names ≡ 1
unfolding answer_of
call_begins_one opening a g past names h = one_of (first_refusal (checks opening (Call a g) past)) _ names h

pub nested_begins_one : (opening : Opening) (a : Name) (past : List Event) (names : List Name) → Began names ≡ answer_of opening (NestedTop a) past
    → length names ≡ 1
unfolding answer_of
nested_begins_one opening a past names h = one_of (first_refusal (checks opening (NestedTop a) past)) _ names h

-- ---- what a step ends

-- an action that was begun has ended once it was told to abort
pub abort_ends : (old : World) (a : Name) → IsTrue (is_begun a old.past)
    → IsTrue (is_ended a (world_after old (Abort a) (answer_of (opening_in old.lists) (Abort a) old.past)).past)
unfolding answer_of
abort_ends old a b = go (is_begun a old.past) (is_ended a old.past) b refl
  where
    go : (x y : Bool) → x ≡ true → is_ended a old.past ≡ y
        → is_ended a (history_after (Abort a) (refused_or (cond (not x) (Some why.NoAction) (cond y (Some why.Ended) None)) (Done 0)) old.past) ≡ true
    go true true p q = q
    go true false p q = or_right _ _ (or_left _ _ (same_name_self a))
    go false y p q = absurd (false≢true p)

-- ---- what a step commits

-- a step that commits is answered `Done` or refused
pub commit_answers : (opening : Opening) (step : Step) (past : List Event) (a : Name) → step_commits step a ≡ true
    → ((answer_of opening step past) ≡ Done 0) ⊎ (is_accepted (answer_of opening step past) ≡ false)
unfolding answer_of
commit_answers opening step past a h = go (first_refusal (checks opening step past))
  where
    of : (step : Step) → step_commits step a ≡ true → outcome opening step past ≡ Done 0
    of (Commit b) h = refl
    of (Decide b) h = refl
    of _ h = absurd (false≢true h)

    go : (o : Option Refusal) → (refused_or o (outcome opening step past) ≡ Done 0) ⊎ (is_accepted (refused_or o (outcome opening step past)) ≡ false)
    go (Some r) = inr refl
    go None = inl (of step h)

-- whether it was done is whether the action has committed then
pub commit_told : (old new : World) (step : Step) (a : Name) (done : Bool) → new ≡ world_after old step (answer_of (opening_in old.lists) step old.past)
    → done ≡ is_made (answer_of (opening_in old.lists) step old.past) → step_commits step a ≡ true → is_committed a old.past ≡ false
    → done ≡ is_committed a new.past
commit_told old new step a done w d h u =
    d ∙ go (answer_of (opening_in old.lists) step old.past) (commit_answers (opening_in old.lists) step old.past a h) ∙ ap (λ v. is_committed a v.past) (sym w)
  where
    go : (answer : Answer) → (answer ≡ Done 0) ⊎ (is_accepted answer ≡ false) → is_made answer ≡ is_committed a (world_after old step answer).past
    go (Done n) r = sym (or_left _ _ h)
    go (Refused n) r = sym u
    go (Waits names) r = sym u
    go (Began names) r = elim r [ inl e ↦ cc | inr e ↦ cc ]
    go (Granted reply) r = elim r [ inl e ↦ cc | inr e ↦ cc ]
    go VoteYes r = elim r [ inl e ↦ cc | inr e ↦ cc ]
    go VoteNo r = elim r [ inl e ↦ cc | inr e ↦ cc ]
