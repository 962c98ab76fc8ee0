-- When a step is refused: its refusals in their order, and the first that applies.
use Rattle.std.specs.Prelude.{ℕ, Bool, true, false, not, ◌||◌, ◌&&◌, ◌==◌, nat_lt, nat_le, suc, List, [], ◌∷◌, length, if◌then◌else◌, Option, Some, None, is_none}
use Rattle.std.specs.List.{list_any}
use Rattle.limits.specs.Limits.{max_arms}
use Rattle.action_names.specs.Names.{Name, is_top, child_of, last_of, max_depth}
use Rattle.atomic_types.specs.Operations as op
use Rattle.atomic_types.specs.Objects.{knows}
use Rattle.run_model.specs.declared.step.ArmKind.{ArmKind}
use Rattle.run_model.specs.declared.step.ArmKind.TheVariants as arm
use Rattle.run_model.specs.declared.step.ObjectId.{ObjectId}
use Rattle.run_model.specs.declared.step.Step.{Step}
use Rattle.run_model.specs.declared.step.Step.TheVariants.{Top, NestedTop, Call, Arms, Op, Commit, Close, Prepare, Decide, Abort, Tell, Crash, Recover}
use Rattle.run_model.specs.declared.answer.Refusal.{Refusal}
use Rattle.run_model.specs.declared.answer.Refusal.TheVariants as why
use Rattle.run_model.specs.declared.history.Event.{Event}
use Rattle.run_model.specs.Actions.{is_begun, next_number, is_ended, is_closed, is_done, is_busy, is_gone, is_down, home_of}
use Rattle.run_model.specs.Telling.{told_since_crash}
use Rattle.run_model.specs.Openings.{Opening, objects_at, first_content}
use Rattle.run_model.specs.Dependencies.{dependency}
use Rattle.run_model.specs.Lists.{is_known_orphan}
use Rattle.run_model.specs.Votes.{has_voted, all_prepared}

-- a refusal, and whether it applies
abbrev pub Check : Type 0
Check = Refusal × Bool

-- the greatest number that a name has room for
abbrev pub max_number : ℕ
max_number = 4294967295

-- no such number may be given any more
abbrev pub is_used_up : ℕ → Bool
is_used_up n = nat_lt max_number n

-- the names that arms begin: children from the number child on, top actions from the number top on
abbrev pub arm_names : Name → ℕ → ℕ → List ArmKind → List Name
arm_names a child top [] = []
arm_names a child top (arm.Sub ∷ kinds) = child_of a child ∷ arm_names a (suc child) top kinds
arm_names a child top (arm.Top ∷ kinds) = (top ∷ []) ∷ arm_names a child (suc top) kinds

abbrev pub is_sub : ArmKind → Bool
is_sub arm.Sub = true
is_sub arm.Top = false

abbrev pub has_sub : List ArmKind → Bool
has_sub kinds = list_any (λ k. is_sub k) kinds

abbrev pub no_guardian : Opening → ℕ → Check
no_guardian opening g = (why.NoGuardian, (g == 0) || nat_lt (length opening.setup) g)

-- What refusals ask of a history: of an action, whether it was begun, has ended, is ended or closed, has closed, is
-- busy, is gone, is a known orphan at its home, and whether all its participants are ready; its home; the next number
-- under it; of a guardian, whether it is down; of both, whether the guardian takes part in the action, has voted on
-- it, and was told of it since its last crash.
pub record Facts : Type 0 where
  pub begun : Name → Bool
  pub ended : Name → Bool
  pub done : Name → Bool
  pub closed : Name → Bool
  pub busy : Name → Bool
  pub gone : Name → Bool
  pub orphan : Name → Bool
  pub ready : Name → Bool
  pub home : Name → ℕ
  pub next : Name → ℕ
  pub down : ℕ → Bool
  pub takes_part : ℕ → Name → Bool
  pub voted : ℕ → Name → Bool
  pub told : ℕ → Name → Bool

-- the facts of a flat history
abbrev pub facts_of : Opening → List Event → Facts
facts_of opening past = record {
  begun = λ a. is_begun a past;
  ended = λ a. is_ended a past;
  done = λ a. is_done a past;
  closed = λ a. is_closed a past;
  busy = λ a. is_busy a past;
  gone = λ a. is_gone a past;
  orphan = λ a. is_known_orphan opening a (home_of a past) past;
  ready = λ t. all_prepared opening t past;
  home = λ a. home_of a past;
  next = λ a. next_number opening a past;
  down = λ g. is_down g past;
  takes_part = λ g t. not (is_none (dependency t g past));
  voted = λ g t. has_voted g t past;
  told = λ g a. told_since_crash g a past;
}

abbrev pub no_action : Name → Facts → Check
no_action a f = (why.NoAction, not (f.begun a))

abbrev pub no_object : Opening → ObjectId → Check
no_object opening x =
    (why.NoObject, (x.number == 0) || nat_lt (length (objects_at opening.setup x.guardian)) x.number)

abbrev pub ended : Name → Facts → Check
ended a f = (why.Ended, f.ended a)

abbrev pub ended_or_closed : Name → Facts → Check
ended_or_closed a f = (why.Ended, f.done a)

abbrev pub busy : Name → Facts → Check
busy a f = (why.Busy, f.busy a)

abbrev pub gone : Name → Facts → Check
gone a f = (why.Gone, f.gone a)

abbrev pub down : ℕ → Facts → Check
down g f = (why.Down, f.down g)

abbrev pub elsewhere : Name → ObjectId → Facts → Check
elsewhere a x f = (why.Elsewhere, not (x.guardian == f.home a))

abbrev pub no_participant : ℕ → Name → Facts → Check
no_participant g t f = (why.Elsewhere, not (f.takes_part g t))

abbrev pub known_orphan : Name → Facts → Check
known_orphan a f = (why.Orphan, f.orphan a)

abbrev pub not_so : Name → Facts → Check
not_so a f = (why.NotSo, not (f.ended a))

-- a has no room for children
abbrev pub too_deep : Bool → Name → Check
too_deep asked a = (why.TooDeep, asked && nat_le max_depth (length a))

abbrev pub not_top : Name → Check
not_top a = (why.NotTop, not (is_top a))

abbrev pub not_sub : Name → Check
not_sub a = (why.NotSub, is_top a)

abbrev pub not_closed : Name → Facts → Check
not_closed t f = (why.NotClosed, not (f.closed t))

abbrev pub voted_already : ℕ → Name → Facts → Check
voted_already g t f = (why.Already, f.voted g t)

abbrev pub told_already : ℕ → Name → Facts → Check
told_already g a f = (why.Already, f.told g a)

abbrev pub unready : Name → Facts → Check
unready t f = (why.Unready, not (f.ready t))

abbrev pub is_up : ℕ → Facts → Check
is_up g f = (why.IsUp, not (f.down g))

abbrev pub limit : Bool → Check
limit reached = (why.Limit, reached)

-- no arms, more than 64, or numbers are used up
abbrev pub is_past_arms_by : (Name → ℕ) → Name → List ArmKind → Bool
is_past_arms_by next a kinds =
    (length kinds == 0)
    || (nat_lt max_arms (length kinds)
    || list_any (λ b. is_used_up (last_of b)) (arm_names a (next a) (next []) kinds))

abbrev pub is_past_arms : Opening → Name → List ArmKind → List Event → Bool
is_past_arms opening a kinds past = is_past_arms_by (λ b. next_number opening b past) a kinds

abbrev pub bad_operation : Opening → ObjectId → op.Op → Check
bad_operation opening x wanted = (why.BadOp, not (knows (first_content opening x) wanted))

-- the refusals of a step, in order
abbrev pub checks_by : Opening → Facts → Step → List Check
checks_by opening f (Top g) = no_guardian opening g ∷ down g f ∷ limit (is_used_up (f.next [])) ∷ []
checks_by opening f (NestedTop a) =
    no_action a f ∷ ended_or_closed a f ∷ busy a f ∷ gone a f ∷ known_orphan a f
    ∷ limit (is_used_up (f.next [])) ∷ []
checks_by opening f (Call a g) =
    no_guardian opening g ∷ no_action a f ∷ ended_or_closed a f ∷ busy a f ∷ gone a f ∷ down g f
    ∷ known_orphan a f ∷ too_deep true a ∷ limit (is_used_up (f.next a)) ∷ []
checks_by opening f (Arms a kinds) =
    no_action a f ∷ ended_or_closed a f ∷ busy a f ∷ gone a f ∷ known_orphan a f
    ∷ too_deep (has_sub kinds) a ∷ limit (is_past_arms_by f.next a kinds) ∷ []
checks_by opening f (Op a x wanted) =
    no_guardian opening x.guardian ∷ no_action a f ∷ no_object opening x ∷ ended_or_closed a f
    ∷ busy a f ∷ gone a f ∷ elsewhere a x f ∷ known_orphan a f ∷ bad_operation opening x wanted ∷ []
checks_by opening f (Commit a) =
    no_action a f ∷ ended_or_closed a f ∷ busy a f ∷ gone a f ∷ known_orphan a f ∷ not_sub a ∷ []
checks_by opening f (Close t) =
    no_action t f ∷ ended_or_closed t f ∷ busy t f ∷ gone t f ∷ known_orphan t f ∷ not_top t ∷ []
checks_by opening f (Prepare g t) =
    no_guardian opening g ∷ no_action t f ∷ ended t f ∷ gone t f ∷ down g f ∷ no_participant g t f
    ∷ not_top t ∷ not_closed t f ∷ voted_already g t f ∷ []
checks_by opening f (Decide t) =
    no_action t f ∷ ended t f ∷ gone t f ∷ not_top t ∷ not_closed t f ∷ unready t f ∷ []
checks_by opening f (Abort a) = no_action a f ∷ ended a f ∷ []
checks_by opening f (Tell g a) =
    no_guardian opening g ∷ no_action a f ∷ down g f ∷ not_so a f ∷ told_already g a f ∷ []
checks_by opening f (Crash g) = no_guardian opening g ∷ down g f ∷ []
checks_by opening f (Recover g) = no_guardian opening g ∷ is_up g f ∷ []

abbrev pub checks : Opening → Step → List Event → List Check
checks opening step past = checks_by opening (facts_of opening past) step

-- the first refusal that applies
abbrev pub first_refusal : List Check → Option Refusal
first_refusal [] = None
first_refusal (c ∷ cs) = if c.1 then Some c.0 else first_refusal cs
